-- Whom a process receives from, and the order of notifications (our choice).
use Rattle.std.specs.Prelude.{ℕ, ◌+◌, ◌-◌, ◌==◌, ◌&&◌, Bool, true, false, List, [], ◌∷◌, Option, Some, None}
use Rattle.std.specs.Prelude.{if◌then◌else◌}
use Rattle.mx_proc.specs.declared.process.Source.{Source}
use Rattle.mx_proc.specs.declared.process.Source.TheVariants.{Hardware, Clock, Slot}
use Rattle.mx_proc.specs.declared.process.Partner.{Partner}
use Rattle.mx_proc.specs.declared.process.Partner.TheVariants.{Any, System, Only}

-- the order of notifications: HARDWARE, CLOCK, slot 0 and up
abbrev pub order_of_source : Source → ℕ
order_of_source Hardware = 0
order_of_source Clock = 1
order_of_source (Slot s) = 2 + s

-- the source that has a place
abbrev pub source_in_order : ℕ → Source
source_in_order place = if place == 0 then Hardware else if place == 1 then Clock else Slot (place - 2)

-- the lines that a notification reports: only HARDWARE's does
abbrev pub lines_in_notification : Source → ℕ → ℕ
lines_in_notification Hardware lines = lines
lines_in_notification _ lines = 0

-- whether a partner may be the source of a place
abbrev pub may_be : Partner → ℕ → Bool
may_be Any place = true
may_be System place = false
may_be (Only source) place = order_of_source source == place

-- the first place, counted from here, whose bit is set and that the partner may be
abbrev pub first_pending : Partner → ℕ → List Bool → Option ℕ
first_pending partner place [] = None
first_pending partner place (bit ∷ bits) =
    if bit && may_be partner place then Some place else first_pending partner (place + 1) bits
