use Rattle.std.proofs.Common.{inl, inr, subst}
use Rattle.std.proofs.lemmas.Result.{err_from_is_err_and}
use Rattle.std.specs.Prelude.{string_bytes}
use Rattle.mx_why.specs.EventFiles.{AreEventsSaid, TellsNoEvents}
use Rattle.mx_why.proofs.event_files.events_of.Goals as goal

pub returns-in_err-text-clause-fault : goal.returns-in_err-text-clause-fault
returns-in_err-text-clause-fault g c =
    let p = err_from_is_err_and c.from_residual.result c.from_residual.ensures.1 in
    let h = c.in_err-text.ensures.fault in
    rw (p.1, p.2) (h.0, h.1, inl h.2)

pub returns-in-Err-clause-fault : goal.returns-in-Err-clause-fault
returns-in-Err-clause-fault g c =
    let t = c.in_ok-text.ensures.text in (
      t.0,
      t.1,
      inr (string_bytes c.in_ok-text.text, c.in-Err.error, t.2, subst (λ x. TellsNoEvents c.args.config.now.lines x c.in-Err.error) c.as_bytes.ensures.value c.in-Err.ensures.unread, c.misstated.ensures),
    )

pub returns-in-Ok-clause-read : goal.returns-in-Ok-clause-read
returns-in-Ok-clause-read g c =
    let t = c.in_ok-text.ensures.text in
    (t.0, t.1, (string_bytes c.in_ok-text.text, t.2, subst (λ x. AreEventsSaid c.args.config.now.lines x c.in-Ok.said.items) c.as_bytes.ensures.value c.in-Ok.ensures.read))
