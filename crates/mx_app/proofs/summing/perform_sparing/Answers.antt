use Rattle.std.proofs.Common.{refl}
use Rattle.std.proofs.lemmas.Result.{err_from_is_err_and}
use Rattle.mx_app.proofs.Summed.{sums_free, sums_spared}
use Rattle.mx_app.proofs.summing.perform_sparing.Goals as goal

pub returns-in_err-spare_for_sums-clause-done : goal.returns-in_err-spare_for_sums-clause-done
returns-in_err-spare_for_sums-clause-done g c =
    let p = err_from_is_err_and c.from_residual.result c.from_residual.ensures.1 in
    sums_spared (g.P.SharedProgress.was_shown c.args.io.now.progress) c.args.io.now.asks c.args.force c.args.request _ _ _ _ _ _ _ _ c.in_err-spare_for_sums.field-0.0 c.from_residual.result c.args.name.now c.in_err-spare_for_sums.ensures (rw (p.1, p.2) refl)

pub returns-clause-done : goal.returns-clause-done
returns-clause-done g c =
    sums_free (g.P.SharedProgress.was_shown c.args.io.now.progress) c.args.io.now.asks c.args.force c.args.request _ _ _ _ _ _ _ _ _ _ _ _ _ _ _ c.args.name.now c.in_ok-spare_for_sums.ensures c.perform_summed.ensures.done
