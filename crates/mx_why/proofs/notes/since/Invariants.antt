use Rattle.std.proofs.Common.{◌≡◌, take, filter}
use Rattle.mx_why.specs.Notes.{is_change_of, last_number}
use Rattle.mx_why.proofs.notes.since.Given as goal

-- the last so far
abbrev pub invariant-loop-note : goal.invariant-loop-note
invariant-loop-note l = l.number ≡ last_number (filter (is_change_of l.slot) (take l.note-index l.notes))
