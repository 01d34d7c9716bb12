use Rattle.mx_machine.specs.World.{HeldProcess}
use Rattle.mx_walk.proofs.KeptMemory.{none_ahead, unmarked_ahead}
use Rattle.mx_walk.proofs.marked_steps.unmarked_ahead.Goals as goal

pub returns-then-is_of_memory-clause-ahead : goal.returns-then-is_of_memory-clause-ahead
returns-then-is_of_memory-clause-ahead g c =
    let l : HeldProcess = record { slot = c.args.slot; out = c.args.out.now } in
    unmarked_ahead (g.M.Mark.marks_step c.args.mark.now) (g.M.Mark.HasSeenHeld c.args.mark.now) l c.quiet_ahead.result (λ p o slot same. c.is_of_memory.ensures c.if-is_of_memory.true p o slot same) c.quiet_ahead.ensures.ahead

pub returns-else-is_of_memory-clause-ahead : goal.returns-else-is_of_memory-clause-ahead
returns-else-is_of_memory-clause-ahead g c =
    let l : HeldProcess = record { slot = c.args.slot; out = c.args.out.now } in
    none_ahead (g.M.Mark.marks_step c.args.mark.now) (g.M.Mark.HasSeenHeld c.args.mark.now) l
