use Rattle.std.proofs.Common.{◌≡◌, ◌⊎◌, ℕ, List, [], ◌∷◌, ◌++◌, inl, inr, refl, subst}
use Rattle.std.proofs.lemmas.Result.{err_from_is_err_and}
use Rattle.mx_app_start.proofs.SetupLemmas.{asked_on}
use Rattle.mx_app_step.proofs.ReplayLemmas.{saved_by_actors}
use Rattle.mx_app_step.specs.Machine.{world_of}
use Rattle.mx_app_failure.specs.declared.failure.About.TheVariants.{Fault}
use Rattle.mx_app_failure.specs.declared.failure.Failure.{Failure as Kind}
use Rattle.mx_app_step.specs.Asked.{Asked}
use Rattle.mx_app_step.specs.Config.{Config}
use Rattle.mx_app_step.specs.Setup.{IsNoTextGiven, IsTextFaulty}
use Rattle.mx_text.specs.Lines.{lines}
use Rattle.mx_app_turns.specs.Commented.{AreSaid, TellsUnsaid}
use Rattle.mx_app_turns.specs.FaultLines.{fault_line}
use Rattle.mx_app_turns.proofs.ReadyLemmas.{ready}
use Rattle.mx_app_turns.proofs.sweeping.begin_sweep.Goals as goal

-- the fault's file, by the configuration that was read
abbrev IsFaulty : List ℕ → Config → Asked → Kind → Type 0
IsFaulty name c q f = IsNoTextGiven Fault name q f ⊎ IsTextFaulty (λ text e. TellsUnsaid (fault_line c.lines) (lines text) e) Fault name q f

faulty_by : (name : List ℕ) (read c : Config) (q : Asked) (f : Kind) → read ≡ c → IsFaulty name read q f → IsFaulty name c q f
faulty_by name read c q f is h = subst (λ (k : Config). IsFaulty name k q f) is h

pub returns-in_err-started-clause-fault : goal.returns-in_err-started-clause-fault
returns-in_err-started-clause-fault g c =
    let p = err_from_is_err_and c.from_residual.result c.from_residual.ensures.1 in
    let h = c.in_err-started.ensures.fault in
    rw (p.1, p.2) (h.0, h.1, inl h.2)

pub returns-in_err-fault-clause-fault : goal.returns-in_err-fault-clause-fault
returns-in_err-fault-clause-fault g c =
    let p = err_from_is_err_and c.from_residual-in_err-fault.result c.from_residual-in_err-fault.ensures.1 in
    let s = c.in_ok-started.ensures.started in
    let h = c.in_err-fault.ensures.fault in
    rw (p.1, p.2) (
      s.0 ++ h.0 ∷ [],
      asked_on (g.R.Reader.asked c.args.reader.now) (g.R.Reader.asked c.start.new.reader) (g.R.Reader.asked c.fault_of.new.reader) s.0 (h.0 ∷ []) s.3 h.1,
      inr (s.0, h.0, s.1, s.2, c.in_ok-started.started.lines.items, refl, s.4, faulty_by c.args.names.fault.now c.in_ok-started.started.config s.1 h.0 c.in_err-fault.field-0.0 s.7 h.2),
    )

pub returns-clause-begun : goal.returns-clause-begun
returns-clause-begun g c =
    let s = c.in_ok-started.ensures.started in
    let t = c.in_ok-fault.ensures.read in (
      s.0 ++ t.0 ∷ [],
      s.1,
      s.2,
      asked_on (g.R.Reader.asked c.args.reader.now) (g.R.Reader.asked c.start.new.reader) (g.R.Reader.asked c.fault_of.new.reader) s.0 (t.0 ∷ []) s.3 t.2,
      (s.0, t.0, t.1, refl, s.4, t.3, subst (λ (k : Config). AreSaid (fault_line k.lines) (lines t.1) c.in_ok-fault.fault.items) s.7 t.4),
      s.5,
      s.6,
      s.7,
    )

pub returns-clause-ready : goal.returns-clause-ready
returns-clause-ready g c =
    let s = c.in_ok-started.ensures.started in
    let m = c.in_ok-started.started.machine in
    let items = c.in_ok-started.started.lines.items in
    ready m c.in_ok-started.started.config s.1 c.in_ok-started.started.other items s.2 c.in_ok-started.ensures.kernel s.5 s.7 s.8 s.9 s.6
    (saved_by_actors c.args.names.config.now c.args.names.log.now s.0 s.1 s.2 items items (world_of m) refl s.5 s.4)
