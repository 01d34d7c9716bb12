use Rattle.std.proofs.Common.{[], ◌∷◌}
use Rattle.std.proofs.lemmas.Result.{err_from_is_err_and}
use Rattle.mx_app_start.proofs.SetupLemmas.{asked_on, setup_missed, setup_refused}
use Rattle.mx_app_start.proofs.setup.setup_of.Goals as goal

pub returns-in_err-config-clause-fault : goal.returns-in_err-config-clause-fault
returns-in_err-config-clause-fault g c =
    let p = err_from_is_err_and c.from_residual.result c.from_residual.ensures.1 in
    let h = c.in_err-config.ensures.fault in
    rw (p.1, p.2) (h.0 ∷ [], h.1, setup_missed c.args.name.now h.0 c.in_err-config.field-0.0 h.2)

pub returns-in-Err-clause-fault : goal.returns-in-Err-clause-fault
returns-in-Err-clause-fault g c =
    let t = c.in_ok-config.ensures.read in
    let h = c.in-Err.ensures.refused in
    let s = c.service_failure.ensures in (
      t.0 ∷ h.0,
      asked_on (g.R.Reader.asked c.args.reader.now) (g.R.Reader.asked c.config_of.new.reader) (g.R.Reader.asked c.services_of.new.reader) (t.0 ∷ []) h.0 t.1 h.1,
      setup_refused c.args.name.now t.0 h.0 c.in_ok-config.config c.as_slice.result.now c.in-Err.index c.in-Err.problem s.0 c.service_failure.result t.2 c.as_slice.ensures h.2 s.1 s.2,
    )
