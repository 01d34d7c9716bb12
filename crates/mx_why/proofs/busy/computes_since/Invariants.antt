use Rattle.std.proofs.Common.{◌≡◌, take, filter}
use Rattle.mx_why.specs.Busy.{is_start_of}
use Rattle.mx_why.specs.Notes.{last_number}
use Rattle.mx_why.proofs.busy.computes_since.Given as goal

-- the last so far
abbrev pub invariant-loop-note : goal.invariant-loop-note
invariant-loop-note l = l.number ≡ last_number (filter (is_start_of l.slot) (take l.note-index l.notes))
