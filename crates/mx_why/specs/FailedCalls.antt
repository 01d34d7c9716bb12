-- THE CALLS THAT WERE REFUSED in a history: those of one slot that are alike are counted together
-- (our own).
use Rattle.std.specs.Prelude.{ℕ, ◌+◌, ◌==◌, ◌&&◌, Bool, List, [], ◌∷◌, ◌++◌, fold, min, position, Option, Some, None, slice_index_or, slice_set}
use Rattle.std.specs.List.{range_with_len}
use Rattle.std.specs.Str.{bytes_eq}
use Rattle.mx_app_step.specs.Traces.{transition_of}
use Rattle.mx_look.specs.declared.transition.Transition.{Transition}
use Rattle.mx_machine.specs.declared.history.Record.{Record}
use Rattle.mx_machine.specs.History.{events_of, world_after_events}
use Rattle.mx_machine.specs.World.{World}
use Rattle.mx_why.specs.declared.failed_calls.FailedCall.{FailedCall}
use Rattle.mx_why.specs.declared.readings.Reading.{Reading}
use Rattle.mx_why.specs.declared.wants.Want.{Want}
use Rattle.mx_why.specs.Failing.{call_place, failed_text}
use Rattle.mx_why.specs.Readings.{followed, opened, reading_of}
use Rattle.mx_why.specs.Wants.{want_of}

-- it is of a slot, with this text: the call, its result, and why
abbrev pub is_alike : ℕ → List ℕ → FailedCall → Bool
is_alike s text c = (c.slot == s) && bytes_eq c.text text

-- the first one
abbrev pub first_call : ℕ → ℕ → List ℕ → List ℕ → Want → Reading → FailedCall
first_call n s text place want g = record {
  slot = s;
  number = n;
  times = 1;
  text = text;
  place = place;
  want = want;
  reading = g;
}

-- one more, of as many as are counted
abbrev pub once_more : Reading → FailedCall → FailedCall
once_more g c = record c { times = min (c.times + 1) 4294967295; reading = opened c.reading g.cell }

abbrev pub counted_at : List FailedCall → FailedCall → Option ℕ → List FailedCall
counted_at cs c None = cs ++ c ∷ []
counted_at cs c (Some i) = slice_set cs i (once_more c.reading (slice_index_or cs i c))

-- one is counted with those that are alike, or as the first
abbrev pub counted : List FailedCall → ℕ → ℕ → List ℕ → List ℕ → Want → Reading → List FailedCall
counted cs n s text place want g =
    counted_at cs (first_call n s text place want g) (position (is_alike s text) cs)

abbrev pub counted_if : World → Transition → ℕ → List FailedCall → List ℕ → List FailedCall
counted_if w x s cs [] = cs
counted_if w x s cs text = counted cs x.number s text (call_place w s) (want_of x s) (reading_of w x s)

-- what a slot's process is refused in a record, after which the world is so
unfoldable pub counted_of : World → Transition → List FailedCall → ℕ → List FailedCall
counted_of w x cs s = counted_if w x s cs (failed_text x s)

-- what is refused in a record
unfoldable pub counted_in : World → Transition → List FailedCall → List FailedCall
counted_in w x cs = fold (counted_of w x) cs (range_with_len 0 32)

-- those before a record and in it, the results of those before being looked at on
abbrev pub next_calls : World → ℕ → Record → List FailedCall → List FailedCall
next_calls w n x cs =
    counted_in (world_after_events w (events_of x.actor x.event)) (transition_of w n x)
    (followed w x.actor x.event cs)

-- THE CALLS THAT WERE REFUSED, those before records and in them, of which the first has this number
abbrev pub failed_from : World → ℕ → List FailedCall → List Record → List FailedCall
failed_from w n cs [] = cs
failed_from w n cs (x ∷ xs) = failed_from (world_after_events w (events_of x.actor x.event)) (n + 1) (next_calls w n x cs) xs

abbrev pub failed_calls : World → List Record → List FailedCall
failed_calls w records = failed_from w 1 [] records
