use Rattle.std.proofs.Common.{◌∙◌, ap, inr, refl}
use Rattle.std.proofs.lemmas.Result.{err_from_is_err_and}
use Rattle.mx_app_explain.specs.Sums.{sums_text}
use Rattle.mx_app.proofs.summing.sums_text_named.Goals as goal

pub returns-in_err-sums-clause-fault : goal.returns-in_err-sums-clause-fault
returns-in_err-sums-clause-fault g c =
    let p = err_from_is_err_and c.from_residual.result c.from_residual.ensures.1 in
    rw (p.1, p.2) c.in_err-sums.ensures.fault

pub returns-in_err-text-clause-fault : goal.returns-in_err-text-clause-fault
returns-in_err-text-clause-fault g c =
    let p = err_from_is_err_and c.from_residual-in_err-text.result c.from_residual-in_err-text.ensures.1 in
    let s = c.in_ok-sums.ensures.summed in
    rw (p.1, p.2) (s.0, s.3, inr (s.1, s.2, s.4, refl))

pub returns-clause-summed : goal.returns-clause-summed
returns-clause-summed g c =
    let s = c.in_ok-sums.ensures.summed in
    (s.0, s.1, s.2, s.3, s.4, c.in_ok-text.ensures ∙ ap sums_text (c.as_slice.ensures.value ∙ s.5))
