use Rattle.std.proofs.Common.{subst}
use Rattle.mx_machine.specs.Machine.{world_of}
use Rattle.mx_walk.specs.declared.positions.Position.{Position}
use Rattle.mx_walk.specs.Positions.{IsPosition}
use Rattle.mx_app_gdb.proofs.Behind.{step_found, step_nowhere}
use Rattle.mx_app_gdb.proofs.Grown.{grown_either}
use Rattle.mx_app_gdb.proofs.going_back.step_back.Goals as goal

pub returns-in_err-walker-clause-grown : goal.returns-in_err-walker-clause-grown
returns-in_err-walker-clause-grown g c = grown_either _ _ _ c.in_err-walker.ensures.unshown

pub returns-then-not-is_there-clause-halted : goal.returns-then-not-is_there-clause-halted
returns-then-not-is_there-clause-halted g c =
    let n = c.in_ok-walker.ensures.nowhere c.if-not-is_there.true in
    step_nowhere c.args.walker c.args.halts.now c.in_ok-walker.walker c.in_ok-walker.ensures.same c.args.slot c.new.result.slot c.new.ensures n.1 n.0

pub returns-clause-halted : goal.returns-clause-halted
returns-clause-halted g c =
    let j = c.in_ok-walker.walker in
    let i = subst (λ (p : Position). IsPosition j.records p) c.here-2.ensures.here c.here-2.ensures.position in
    step_found c.args.walker c.args.halts.now j c.in_ok-walker.ensures.same c.args.slot c.new.result.slot (world_of c.machine.result.now) c.as_slice.result.now c.in_ok-changed.changed c.changed_or-halted.result
    i c.new.ensures (c.in_ok-walker.ensures.found c.if-not-is_there.false) c.machine.ensures.world c.as_slice.ensures.value c.in_ok-changed.ensures c.changed_or-halted.ensures
