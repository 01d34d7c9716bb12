use Rattle.std.proofs.Common.{◌≡◌, false, map, take}
use Rattle.std.specs.List.{list_any}
use Rattle.mx_machine.specs.declared.holding.Out.{Out}
use Rattle.mx_machine.specs.World.{HeldProcess}
use Rattle.mx_walk.proofs.several.SeveralMark.watches.Given as goal

-- none so far marks a step of the slot's process
abbrev pub invariant-loop-i : goal.invariant-loop-i
invariant-loop-i g l = (p : HeldProcess) (o : Out) → p.slot ≡ l.slot → list_any (λ marks. marks p o) (map g.M.Mark.marks_step (take l.i l.marks)) ≡ false
