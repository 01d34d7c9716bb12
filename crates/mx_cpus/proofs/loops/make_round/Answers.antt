use Rattle.std.proofs.Common.{arith, rules}
use Rattle.mx_cpus.proofs.LoopLemmas.{none_left, ticked_full, ticked_then}
use Rattle.mx_cpus.proofs.loops.make_round.Goals as goal

pub returns-then-left-eq0 : goal.returns-then-left-eq0
returns-then-left-eq0 g c = none_left g.M.Naming.boot c.args.left c.args.seat c.sweep.result.0 c.sweep.result.1 c.if-left-eq0.true c.sweep.ensures

pub returns-then-is_err : goal.returns-then-is_err
returns-then-is_err g c =
    ticked_full g.M.Naming.boot c.args.left c.args.seat c.tick-seat.result.0 c.tick-seat.result.1 (omega arith) (search rules) c.tick-seat.ensures.err

pub returns : goal.returns
returns g c =
    ticked_then g.M.Naming.boot c.args.left c.args.seat c.tick-seat.result.0 c.sweep-2.result.0 c.tick-seat.result.1 c.sweep-2.result.1 (omega arith) (search rules) c.tick-seat.ensures.ok c.sweep-2.ensures
