use Rattle.std.proofs.lemmas.Result.{IfErr-weaker, IfOk-weaker}
use Rattle.mx_machine.specs.History.{replay}
use Rattle.mx_cpus.proofs.SeatLemmas.{answered_once}
use Rattle.mx_cpus.proofs.locked.Locked.event.Goals as goal

pub returns-clause-ok : goal.returns-clause-ok
returns-clause-ok g c =
    let boot = g.M.Naming.boot in
    let here = replay c.args.self.now in
    let next = c.event_here in
    IfOk-weaker next.result.1 _ _ (λ x h. answered_once boot here c.args.seat next.result.0 c.args.event x h) next.ensures.ok

pub returns-clause-err : goal.returns-clause-err
returns-clause-err g c = IfErr-weaker c.event_here.result.1 _ _ (λ r h. h.0) c.event_here.ensures.err
