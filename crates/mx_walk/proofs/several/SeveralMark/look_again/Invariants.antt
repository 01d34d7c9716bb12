use Rattle.std.proofs.Common.{◌≡◌, false, All, drop, map, take}
use Rattle.std.specs.List.{list_any}
use Rattle.mx_machine.specs.World.{HeldProcess}
use Rattle.mx_walk.proofs.several.SeveralMark.look_again.Given as goal

-- none so far marks the step and all these have looked again; the others are as they were
abbrev pub invariant-loop-i : goal.invariant-loop-i
invariant-loop-i g l = record {
  seen : All (λ m. g.M.Mark.HasSeenHeld m (record { slot = l.slot; out = l.out })) (take l.i l.marks);
  rest : drop l.i l.marks ≡ drop l.i l.initial.marks;
  same : map g.M.Mark.marks l.marks ≡ map g.M.Mark.marks l.initial.marks;
  steps : map g.M.Mark.marks_step l.marks ≡ map g.M.Mark.marks_step l.initial.marks;
  unmet : (p : HeldProcess) → All (λ m. g.M.Mark.HasSeenHeld m p) l.initial.marks → p.slot ≡ l.slot
      → list_any (λ marks. marks p l.out) (map g.M.Mark.marks_step (take l.i l.initial.marks)) ≡ false;
}
