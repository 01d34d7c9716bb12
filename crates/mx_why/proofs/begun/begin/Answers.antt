use Rattle.std.proofs.Common.{◌≡◌, List, ◌++◌, Option, inl, inr, refl, subst}
use Rattle.std.specs.Prelude.{option_map}
use Rattle.std.proofs.lemmas.Result.{err_from_is_err_and}
use Rattle.mx_app_start.proofs.SetupLemmas.{asked_on}
use Rattle.mx_app_start.specs.Config.{Config}
use Rattle.mx_why.specs.EventFiles.{AreEventsRead, AreEventsUnread}
use Rattle.mx_why.proofs.begun.begin.Goals as goal

pub returns-in_err-started-clause-fault : goal.returns-in_err-started-clause-fault
returns-in_err-started-clause-fault g c =
    let p = err_from_is_err_and c.from_residual.result c.from_residual.ensures.1 in
    let h = c.in_err-started.ensures.fault in
    rw (p.1, p.2) (h.0, h.1, inl h.2)

pub returns-in_err-said-clause-fault : goal.returns-in_err-said-clause-fault
returns-in_err-said-clause-fault g c =
    let p = err_from_is_err_and c.from_residual-in_err-said.result c.from_residual-in_err-said.ensures.1 in
    let s = c.in_ok-started.ensures.started in
    let h = c.in_err-said.ensures.fault in
    rw (p.1, p.2) (
      s.0 ++ h.0,
      asked_on (g.R.Reader.asked c.args.reader.now) (g.R.Reader.asked c.start.new.reader) (g.R.Reader.asked c.events_if_named.new.reader) s.0 h.0 s.3 h.1,
      inr (
        s.0,
        h.0,
        s.1,
        s.2,
        c.in_ok-started.started.lines.items,
        refl,
        s.4,
        subst (λ (k : Config). AreEventsUnread (option_map (λ s. s.now) c.args.names.events) h.0 k.lines c.in_err-said.field-0.0) s.7 h.2,
      ),
    )

pub returns-clause-begun : goal.returns-clause-begun
returns-clause-begun g c =
    let s = c.in_ok-started.ensures.started in
    let t = c.in_ok-said.ensures.read in (
      s.0 ++ t.0,
      s.1,
      s.2,
      asked_on (g.R.Reader.asked c.args.reader.now) (g.R.Reader.asked c.start.new.reader) (g.R.Reader.asked c.events_if_named.new.reader) s.0 t.0 s.3 t.1,
      (s.0, t.0, refl, s.4, subst (λ (k : Config). AreEventsRead (option_map (λ s. s.now) c.args.names.events) t.0 k.lines c.in_ok-said.said.items) s.7 t.2),
      s.5,
      s.7,
    )
