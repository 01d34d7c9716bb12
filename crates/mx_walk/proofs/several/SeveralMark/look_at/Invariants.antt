use Rattle.std.proofs.Common.{◌≡◌, All, map, take}
use Rattle.mx_walk.proofs.several.SeveralMark.look_at.Given as goal

-- those so far have looked, and each still marks what it marked
abbrev pub invariant-loop-i : goal.invariant-loop-i
invariant-loop-i g l = record {
  seen : All (λ m. g.M.Mark.HasSeenHeld m (record { slot = l.slot; out = l.out })) (take l.i l.marks);
  same : map g.M.Mark.marks l.marks ≡ map g.M.Mark.marks l.initial.marks;
  steps : map g.M.Mark.marks_step l.marks ≡ map g.M.Mark.marks_step l.initial.marks;
}
