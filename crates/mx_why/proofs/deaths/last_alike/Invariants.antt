use Rattle.std.proofs.Common.{◌≡◌, take, filter}
use Rattle.mx_why.specs.Deaths.{is_alike}
use Rattle.mx_why.specs.Notes.{last_number}
use Rattle.mx_why.proofs.deaths.last_alike.Given as goal

-- the last so far
abbrev pub invariant-loop-other : goal.invariant-loop-other
invariant-loop-other l = l.number ≡ last_number (filter (is_alike l.note) (take l.other-index l.notes))
