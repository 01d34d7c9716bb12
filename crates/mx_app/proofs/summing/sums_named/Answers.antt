use Rattle.std.proofs.Common.{◌∙◌, ap, inl, inr, refl}
use Rattle.std.proofs.lemmas.Result.{err_from_is_err_and}
use Rattle.mx_app_explain.specs.Sums.{machine_sums}
use Rattle.mx_app.proofs.summing.sums_named.Goals as goal

pub returns-in_err-config-clause-fault : goal.returns-in_err-config-clause-fault
returns-in_err-config-clause-fault g c =
    let p = err_from_is_err_and c.from_residual.result c.from_residual.ensures.1 in
    let h = c.in_err-config.ensures.fault in
    rw (p.1, p.2) (h.0, h.1, inl h.2)

pub returns-in_err-sums-clause-fault : goal.returns-in_err-sums-clause-fault
returns-in_err-sums-clause-fault g c =
    let p = err_from_is_err_and c.from_residual-in_err-sums.result c.from_residual-in_err-sums.ensures.1 in
    let s = c.in_ok-config.ensures.read in
    rw (p.1, p.2) (s.0, s.1, inr (c.in_ok-config.config, c.in_ok-config.services.items, s.2, refl))

pub returns-clause-summed : goal.returns-clause-summed
returns-clause-summed g c =
    let s = c.in_ok-config.ensures.read in
    (s.0, c.in_ok-config.config, c.in_ok-config.services.items, s.1, s.2, c.in_ok-sums.ensures ∙ ap (machine_sums c.in_ok-config.config) c.as_slice.ensures.value)
