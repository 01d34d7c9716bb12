use Rattle.std.proofs.Common.{◌∙◌, ap, is_some, length, subst}
use Rattle.std.specs.Prelude.{IfOk}
use Rattle.mx_cpus.specs.Outsiders.{AreServedWith, AreWholeWith}
use Rattle.mx_app_run.specs.Shows.{shows}
use Rattle.mx_app_run.proofs.run_by_threads.drive_seats.Goals as goal

pub returns-clause-served : goal.returns-clause-served
returns-clause-served g c =
    let W = g.P.SharedProgress.was_shown in
    let now = c.args.place.now.progress.now in
    let plan = c.new-gate.result.plan in
    let cpus = length g.M.Naming.boot.cpus in
    subst (λ b. IfOk c.drive_with.result (λ v. AreServedWith g.M.Naming.boot (shows (W now) c.args.log b) cpus c.args.outside.ticks c.args.outside.calls.now c.args.seats.items v.0.items))
    (ap (λ p. is_some p.stop) c.new-gate.ensures.plan ∙ ap is_some c.new-plan.ensures.stop)
    (subst (λ n. IfOk c.drive_with.result (λ v. AreServedWith g.M.Naming.boot (shows (W now) n (is_some plan.stop)) cpus c.args.outside.ticks c.args.outside.calls.now c.args.seats.items v.0.items))
    (ap (λ p. p.log) c.new-gate.ensures.plan ∙ c.new-plan.ensures.log)
    (subst (λ p. IfOk c.drive_with.result (λ v. AreServedWith g.M.Naming.boot (shows (W p) plan.log (is_some plan.stop)) cpus c.args.outside.ticks c.args.outside.calls.now c.args.seats.items v.0.items))
    c.new-gate.ensures.progress c.drive_with.ensures.served))

pub returns-clause-whole : goal.returns-clause-whole
returns-clause-whole g c =
    let W = g.P.SharedProgress.was_shown in
    let now = c.args.place.now.progress.now in
    let plan = c.new-gate.result.plan in
    let cpus = length g.M.Naming.boot.cpus in
    subst (λ b. IfOk c.drive_with.result (λ v. AreWholeWith g.M.Naming.boot (shows (W now) c.args.log b) cpus c.args.outside.calls.now c.args.seats.items v.0.items v.1))
    (ap (λ p. is_some p.stop) c.new-gate.ensures.plan ∙ ap is_some c.new-plan.ensures.stop)
    (subst (λ n. IfOk c.drive_with.result (λ v. AreWholeWith g.M.Naming.boot (shows (W now) n (is_some plan.stop)) cpus c.args.outside.calls.now c.args.seats.items v.0.items v.1))
    (ap (λ p. p.log) c.new-gate.ensures.plan ∙ c.new-plan.ensures.log)
    (subst (λ p. IfOk c.drive_with.result (λ v. AreWholeWith g.M.Naming.boot (shows (W p) plan.log (is_some plan.stop)) cpus c.args.outside.calls.now c.args.seats.items v.0.items v.1))
    c.new-gate.ensures.progress c.drive_with.ensures.whole))
