-- WHICH HISTORIES HAVE A MARK: a line that no right machine has (our own). Calls that were refused have one if
-- the result is never read, and none else, since a process may read it and go on as it is meant to; nor do kills, and those that wait for a line or an alarm.
use Rattle.std.specs.Prelude.{ℕ, ◌==◌, ◌&&◌, ◌||◌, not, Bool, true, false, List, count_by, length}
use Rattle.std.specs.List.{range_with_len, list_any}
use Rattle.mx_machine.specs.declared.config.Config.{Config}
use Rattle.mx_why.specs.declared.ends.Ending.{Ending}
use Rattle.mx_why.specs.declared.ends.Ending.TheVariants.{Nothing, Rest, Full, Open}
use Rattle.mx_why.specs.declared.failed_calls.FailedCall.{FailedCall}
use Rattle.mx_why.specs.declared.notes.Deed.{Deed}
use Rattle.mx_why.specs.declared.notes.Deed.TheVariants.{Faulted}
use Rattle.mx_why.specs.declared.notes.Note.{Note}
use Rattle.mx_why.specs.declared.outside.LostLine.{LostLine}
use Rattle.mx_why.specs.declared.seats.End.{End}
use Rattle.mx_why.specs.Busy.{busy, is_busy}
use Rattle.mx_why.specs.Endings.{ending}
use Rattle.mx_why.specs.Lines.{is_idle, is_said}
use Rattle.mx_why.specs.Outside.{has_lost}
use Rattle.mx_why.specs.Readings.{is_careless}
use Rattle.mx_why.specs.Unfit.{unfit}
use Rattle.mx_why.specs.Unheard.{is_unheard, unheard}
use Rattle.mx_why.specs.Verdicts.{verdicts}

-- the history has no room, or it has nothing
abbrev pub is_marked_end : Ending → Bool
is_marked_end Nothing = true
is_marked_end Full = true
is_marked_end Rest = false
is_marked_end Open = false

-- somebody waits for ever
unfoldable pub has_never : End → Bool
has_never e = not (count_by (is_said (verdicts e) true) (range_with_len 0 32) == 0)

-- somebody isn't heard
unfoldable pub has_unheard : End → List Note → Bool
has_unheard e ns = not (count_by (is_unheard (unheard e ns)) (range_with_len 0 32) == 0)

-- somebody computes without a call
unfoldable pub has_busy : End → List Note → Bool
has_busy e ns = not (count_by (is_busy (busy e ns)) (range_with_len 0 32) == 0)

abbrev pub is_faulted : Deed → Bool
is_faulted Faulted = true
is_faulted _ = false

-- somebody died of a fault
abbrev pub has_faulted : List Note → Bool
has_faulted ns = list_any (λ (n : Note). is_faulted n.deed) ns

-- somebody had to read why a call was refused, and didn't
abbrev pub has_careless : List FailedCall → Bool
has_careless cs = list_any is_careless cs

-- at rest somebody never ran
unfoldable pub has_idle : End → List Note → Bool
has_idle e ns = e.at_rest && not (count_by (is_idle e ns) (range_with_len 0 32) == 0)

-- something can't work by the configuration alone
unfoldable pub has_unfit : Config → End → Bool
has_unfit c e = not (length (unfit c e) == 0)

-- A HISTORY of n records HAS A MARK
unfoldable pub is_marked : Config → End → List Note → List FailedCall → List LostLine → ℕ → Bool
is_marked c e ns cs os n =
    is_marked_end (ending e n c.log)
    || (has_never e || (has_unheard e ns || (has_busy e ns || (has_faulted ns || (has_careless cs
    || (has_lost os || (has_idle e ns || has_unfit c e)))))))
