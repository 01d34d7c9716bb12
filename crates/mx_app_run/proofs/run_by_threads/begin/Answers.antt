use Rattle.std.proofs.Common.{◌≡◌, [], ◌∷◌, ◌++◌, List, ℕ, Option, Some, Bor, ap}
use Rattle.std.specs.Prelude.{option_map}
use Rattle.std.proofs.lemmas.Result.{err_from_is_err_and}
use Rattle.mx_app_start.proofs.SetupLemmas.{asked_on}
use Rattle.mx_app_run.proofs.RunLemmas.{calls_faulty, not_set_up}
use Rattle.mx_app_run.proofs.run_by_threads.begin.Goals as goal

pub returns-in_err-config-clause-fault : goal.returns-in_err-config-clause-fault
returns-in_err-config-clause-fault g c =
    let p = err_from_is_err_and c.from_residual.result c.from_residual.ensures.1 in
    let h = c.in_err-config.ensures.fault in
    rw (p.1, p.2) (h.0, h.1, not_set_up c.args.config.now (option_map (λ s. s.now) c.args.events) h.0 c.in_err-config.field-0.0 h.2)

pub returns-in_err-calls-in-Some-clause-fault : goal.returns-in_err-calls-in-Some-clause-fault
returns-in_err-calls-in-Some-clause-fault g c =
    let p = err_from_is_err_and c.from_residual-in_err-calls-in-Some.result c.from_residual-in_err-calls-in-Some.ensures.1 in
    let s = c.in_ok-config.ensures.read in
    let h = c.in_err-calls-in-Some.ensures.fault in
    let is : option_map (λ s. s.now) c.args.events ≡ Some c.in-Some.name.now = ap (λ (o : Option (Bor (List ℕ))). option_map (λ s. s.now) o) c.in-Some.is in
    rw (p.1, p.2) (
      s.0 ++ h.0 ∷ [],
      asked_on (g.R.Reader.asked c.args.reader.now) (g.R.Reader.asked c.setup_of.new.reader) (g.R.Reader.asked c.calls_of.new.reader) s.0 (h.0 ∷ []) s.1 h.1,
      calls_faulty c.args.config.now c.in-Some.name.now (option_map (λ s. s.now) c.args.events) s.0 h.0 c.in_ok-config.config c.in_ok-config.services.items c.in_err-calls-in-Some.field-0.0 is s.2 h.2,
    )
