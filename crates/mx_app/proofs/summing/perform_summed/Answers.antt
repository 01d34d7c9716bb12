use Rattle.std.proofs.Common.{Err, Ok, inl, inr, refl}
use Rattle.std.proofs.lemmas.Result.{err_from_is_err_and}
use Rattle.mx_app.proofs.Summed.{failed_summed, not_summed, summed}
use Rattle.mx_app.proofs.summing.perform_summed.Goals as goal

pub returns-in_err-text-clause-done : goal.returns-in_err-text-clause-done
returns-in_err-text-clause-done g c =
    let p = err_from_is_err_and c.from_residual.result c.from_residual.ensures.1 in
    not_summed (g.P.SharedProgress.was_shown c.args.io.now.progress) c.args.io.now.asks c.args.force c.args.request c.args.name.now _ c.first_name.ensures _ _ _ _ _ _ _ _ c.in_err-text.field-0.0 c.from_residual.result c.in_err-text.ensures.fault (rw (p.1, p.2) refl)

pub returns-in_err-done-clause-done : goal.returns-in_err-done-clause-done
returns-in_err-done-clause-done g c =
    let p = err_from_is_err_and c.from_residual-in_err-done.result c.from_residual-in_err-done.ensures.1 in
    failed_summed (g.P.SharedProgress.was_shown c.args.io.now.progress) c.args.io.now.asks c.args.force c.args.request c.args.name.now _ c.first_name.ensures _ _ _ _ _ _ _ _ _ _ _ _ _ _ (Err c.in_err-done.field-0.0) c.from_residual-in_err-done.result c.in_err-done.ensures.done c.in_ok-text.text.items c.in_err-done.field-0.0 c.in_ok-text.ensures.summed refl (rw (p.1, p.2) refl)

pub returns-in_err-write_sums-clause-done : goal.returns-in_err-write_sums-clause-done
returns-in_err-write_sums-clause-done g c =
    let p = err_from_is_err_and c.from_residual-in_err-write_sums.result c.from_residual-in_err-write_sums.ensures.1 in
    summed (g.P.SharedProgress.was_shown c.args.io.now.progress) c.args.io.now.asks c.args.force c.args.request c.args.name.now _ c.first_name.ensures _ _ _ _ _ _ _ _ _ _ _ _ _ _ (Ok c.in_ok-done.done) c.from_residual-in_err-write_sums.result c.in_ok-done.ensures.done c.in_ok-text.text.items c.as_slice.result.now c.as_slice.ensures.value _ c.in_ok-done.done (Err c.in_err-write_sums.field-0.0) c.in_ok-text.ensures.summed refl c.in_err-write_sums.ensures (inr (c.in_err-write_sums.field-0.0, refl, rw (p.1, p.2) refl))

pub returns-clause-done : goal.returns-clause-done
returns-clause-done g c =
    summed (g.P.SharedProgress.was_shown c.args.io.now.progress) c.args.io.now.asks c.args.force c.args.request c.args.name.now _ c.first_name.ensures _ _ _ _ _ _ _ _ _ _ _ _ _ _ (Ok c.in_ok-done.done) _ c.in_ok-done.ensures.done c.in_ok-text.text.items c.as_slice.result.now c.as_slice.ensures.value _ c.in_ok-done.done (Ok tt) c.in_ok-text.ensures.summed refl c.in_ok-write_sums.ensures (inl (refl, refl))
