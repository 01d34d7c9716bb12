use Rattle.std.proofs.Common.{inl}
use Rattle.std.proofs.lemmas.Result.{err_from_is_err_and}
use Rattle.std.specs.Prelude.{string_bytes}
use Rattle.mx_app_run.proofs.RunLemmas.{calls_given, calls_unread}
use Rattle.mx_app_run.proofs.run_by_threads.calls_of.Goals as goal

pub returns-in_err-text-clause-fault : goal.returns-in_err-text-clause-fault
returns-in_err-text-clause-fault g c =
    let p = err_from_is_err_and c.from_residual.result c.from_residual.ensures.1 in
    let h = c.in_err-text.ensures.fault in
    rw (p.1, p.2) (h.0, h.1, inl h.2)

pub returns-in-Err-clause-fault : goal.returns-in-Err-clause-fault
returns-in-Err-clause-fault g c =
    let t = c.in_ok-text.ensures.text in
    (t.0, t.1, calls_unread c.args.name.now (string_bytes c.in_ok-text.text) c.as_str.result.now t.0 c.args.config.now c.in-Err.error c.misstated.result c.as_str.ensures.value t.2 c.in-Err.ensures.unread c.misstated.ensures)

pub returns-in-Ok-clause-calls : goal.returns-in-Ok-clause-calls
returns-in-Ok-clause-calls g c =
    let t = c.in_ok-text.ensures.text in
    (t.0, t.1, calls_given c.args.name.now (string_bytes c.in_ok-text.text) c.as_str.result.now t.0 c.args.config.now c.in-Ok.calls.items c.as_str.ensures.value t.2 c.in-Ok.ensures.read)
