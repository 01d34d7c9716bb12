-- What is written to a console, and what it has more than is shown (our own).
use Rattle.std.specs.Prelude.{◌-◌, ◌++◌, ◌∷◌, [], ℕ, List, drop, length}
use Rattle.mx_machine.specs.declared.events.Event.{Event}
use Rattle.mx_machine.specs.declared.history.Record.{Record}
use Rattle.mx_machine.specs.History.{events_of_history}
use Rattle.mx_machine.specs.Move.{world_after_event}
use Rattle.mx_machine.specs.World.{World}
use Rattle.mx_proc.specs.Console.{ConsoleState}

-- THE BYTES after the first `shown`, as far as the console still has them: it keeps the last 4,096
abbrev pub grown : ℕ → ConsoleState → List ℕ
grown shown c = drop (length c.kept - (c.count - shown)) c.kept

-- WHAT EVENTS WRITE to the console from this world on: what each of them adds to it, one after another. An event adds a
-- byte at most, and only a return does
abbrev pub console_of : World → List (ℕ × Event) → List ℕ
console_of w [] = []
console_of w (x ∷ xs) =
    let after = world_after_event w x.0 x.1 in
    grown w.table.devices.console.count after.table.devices.console ++ console_of after xs

-- WHAT A HISTORY WRITES to the console, from this boot on
abbrev pub console_of_history : World → List Record → List ℕ
console_of_history boot history = console_of boot (events_of_history history)
