use Rattle.std.proofs.Common.{◌∙◌, Err, ap, refl, sym}
use Rattle.std.proofs.lemmas.Result.{err_from_is_err_and}
use Rattle.mx_app.proofs.Doing.{apart, over, spared}
use Rattle.mx_app.proofs.performing.perform.Goals as goal

pub returns-then-writes_over-clause-done : goal.returns-then-writes_over-clause-done
returns-then-writes_over-clause-done g c =
    over (g.P.SharedProgress.was_shown c.args.io.now.progress) c.args.io.now.asks c.args.force _ _ _ _ c.args.request (sym c.writes_over.ensures ∙ c.if-writes_over.true) (ap Err c.of.ensures)

pub returns-in_err-spare_for_request-clause-done : goal.returns-in_err-spare_for_request-clause-done
returns-in_err-spare_for_request-clause-done g c =
    let p = err_from_is_err_and c.from_residual.result c.from_residual.ensures.1 in
    spared (g.P.SharedProgress.was_shown c.args.io.now.progress) c.args.io.now.asks c.args.force _ _ _ _ c.in_err-spare_for_request.field-0.0 c.from_residual.result c.args.request (sym c.writes_over.ensures ∙ c.if-writes_over.false) c.in_err-spare_for_request.ensures (rw (p.1, p.2) refl)

pub returns-clause-done : goal.returns-clause-done
returns-clause-done g c =
    apart (g.P.SharedProgress.was_shown c.args.io.now.progress) _ _ _ _ _ _ _ _ _ _ _ _ _ c.args.io.now.asks c.args.force _ _ c.args.request (sym c.writes_over.ensures ∙ c.if-writes_over.false) c.in_ok-spare_for_request.ensures c.perform_apart.ensures.done
