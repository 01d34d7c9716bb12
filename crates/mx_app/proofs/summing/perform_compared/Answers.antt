use Rattle.std.proofs.Common.{Err, Ok, refl}
use Rattle.std.proofs.lemmas.Result.{err_from_is_err_and}
use Rattle.mx_app.proofs.Summed.{compared, not_compared}
use Rattle.mx_app.proofs.summing.perform_compared.Goals as goal

pub returns-in_err-compare_named-clause-done : goal.returns-in_err-compare_named-clause-done
returns-in_err-compare_named-clause-done g c =
    let p = err_from_is_err_and c.from_residual.result c.from_residual.ensures.1 in
    not_compared (g.P.SharedProgress.was_shown c.args.io.now.progress) c.args.io.now.asks c.args.force c.args.request c.args.name.now _ c.first_name.ensures _ _ _ _ _ _ _ _ c.in_err-compare_named.field-0.0 c.from_residual.result c.in_err-compare_named.ensures (rw (p.1, p.2) refl)

pub returns-in_err-compared-clause-done : goal.returns-in_err-compared-clause-done
returns-in_err-compared-clause-done g c =
    let p = err_from_is_err_and c.from_residual-in_err-compared.result c.from_residual-in_err-compared.ensures.1 in
    compared (g.P.SharedProgress.was_shown c.args.io.now.progress) c.args.io.now.asks c.args.force c.args.request c.args.name.now _ c.first_name.ensures _ _ _ _ _ _ _ _ _ _ _ _ _ _ (Err c.in_err-compared.field-0.0) c.from_residual-in_err-compared.result c.in_err-compared.ensures.done c.in_ok-compare_named.ensures (rw (p.1, p.2) refl)

pub returns-clause-done : goal.returns-clause-done
returns-clause-done g c =
    compared (g.P.SharedProgress.was_shown c.args.io.now.progress) c.args.io.now.asks c.args.force c.args.request c.args.name.now _ c.first_name.ensures _ _ _ _ _ _ _ _ _ _ _ _ _ _ (Ok c.in_ok-compared.compared) _ c.in_ok-compared.ensures.done c.in_ok-compare_named.ensures refl
