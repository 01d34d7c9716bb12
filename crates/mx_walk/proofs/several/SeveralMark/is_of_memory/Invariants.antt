use Rattle.std.proofs.Common.{◌≡◌, false, All, take}
use Rattle.mx_machine.specs.declared.holding.Out.{Out}
use Rattle.mx_machine.specs.World.{HeldProcess}
use Rattle.mx_walk.specs.Running.{with_out}
use Rattle.mx_walk.proofs.several.SeveralMark.is_of_memory.Given as goal

-- those so far look at memory only
abbrev pub invariant-loop-i : goal.invariant-loop-i
invariant-loop-i g l = (p : HeldProcess) (o : Out) → p.slot ≡ l.slot → o.image.memory ≡ p.out.image.memory
    → All (λ m. (g.M.Mark.marks_step m p o ≡ false) × (g.M.Mark.HasSeenHeld m p → g.M.Mark.HasSeenHeld m (with_out p o))) (take l.i l.marks)
