use Rattle.std.proofs.Common.{◌∙◌, ap}
use Rattle.std.proofs.lemmas.Result.{IfErr-weaker, IfOk-weaker}
use Rattle.mx_machine.specs.History.{BootAndHistory, replay}
use Rattle.mx_cpus.specs.Calls.{endpoint_now}
use Rattle.mx_cpus.proofs.SeatLemmas.{kill_once, kill_refused_once}
use Rattle.mx_cpus.proofs.locked.Locked.kill_slot.Goals as goal

pub returns-clause-ok : goal.returns-clause-ok
returns-clause-ok g c =
    let boot = g.M.Naming.boot in
    let here = replay c.args.self.now in
    let e = c.endpoint_now-endpoint.result in
    let is = c.endpoint_now-endpoint.ensures ∙ ap (λ (k : BootAndHistory). endpoint_now (replay k).table c.args.slot) c.self.view_is in
    let next = c.event_here in
    IfOk-weaker next.result.1 _ _ (λ x h. (e, kill_once boot here c.args.slot e c.args.seat next.result.0 x is h)) next.ensures.ok

pub returns-clause-err : goal.returns-clause-err
returns-clause-err g c =
    let boot = g.M.Naming.boot in
    let here = replay c.args.self.now in
    let e = c.endpoint_now-endpoint.result in
    let is = c.endpoint_now-endpoint.ensures ∙ ap (λ (k : BootAndHistory). endpoint_now (replay k).table c.args.slot) c.self.view_is in
    let next = c.event_here in
    IfErr-weaker next.result.1 _ _ (λ r h. (e, kill_refused_once boot here c.args.slot e c.args.seat next.result.0 r is h)) next.ensures.err
