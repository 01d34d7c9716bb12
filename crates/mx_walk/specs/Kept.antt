-- What a kernel keeps of events (our own).
use Rattle.std.specs.Prelude.{ℕ, List}
use Rattle.mx_machine.specs.declared.events.Event.{Event}
use Rattle.mx_machine.specs.History.{BootAndHistory}
use Rattle.mx_machine.specs.Machine.{kept_along}
use Rattle.mx_machine.specs.Move.{moves}
use Rattle.mx_machine.specs.World.{World}

-- WHAT A KERNEL KEEPS after events of its world in a row: a record of each that is accepted and is no step
abbrev pub kept_of : BootAndHistory → World → List (ℕ × Event) → BootAndHistory
kept_of k w xs = kept_along k xs (moves w xs).0
