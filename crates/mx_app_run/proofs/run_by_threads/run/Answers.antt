use Rattle.std.proofs.Common.{◌∙◌, [], ap, inl, inr, refl, sym}
use Rattle.std.specs.Prelude.{option_map}
use Rattle.std.proofs.lemmas.List.{append-nil}
use Rattle.std.proofs.lemmas.Result.{err_from_is_err_and}
use Rattle.mx_app_start.proofs.Appended.{appends_nothing}
use Rattle.mx_app_run.proofs.RunLemmas.{some_called}
use Rattle.mx_app_run.proofs.run_by_threads.run.Goals as goal

pub returns-in_err-begun-clause-done : goal.returns-in_err-begun-clause-done
returns-in_err-begun-clause-done g c =
    let h = c.in_err-begun.ensures.fault in
    let p = err_from_is_err_and c.from_residual.result c.from_residual.ensures.1 in
    rw (p.1, p.2) (h.0, [], h.1, sym (append-nil _), inl (refl, appends_nothing _, h.2))

pub returns-in_err-spare_programs-clause-done : goal.returns-in_err-spare_programs-clause-done
returns-in_err-spare_programs-clause-done g c =
    let b = c.in_ok-begun.begun in
    let s = c.in_ok-begun.ensures.begun in
    let h = c.in_err-spare_programs.ensures.over in
    let p = err_from_is_err_and c.from_residual-in_err-spare_programs.result c.from_residual-in_err-spare_programs.ensures.1 in
    rw (p.1, p.2) (s.0, [], s.1, sym (append-nil _), inr (b.config, b.services.items, b.calls.items, s.2, inl (h.0, refl, appends_nothing _, h.1)))

pub run_begun-requires-clause-some : goal.run_begun-requires-clause-some
run_begun-requires-clause-some g c κs within =
    let b = c.in_ok-begun.begun in
    let s = c.in_ok-begun.ensures.begun in
    (some_called c.args.wanted.config.now (option_map (λ s. s.now) c.args.wanted.events) s.0 b.config b.services.items b.calls.items s.2).0

pub run_begun-requires-clause-few : goal.run_begun-requires-clause-few
run_begun-requires-clause-few g c κs within =
    let b = c.in_ok-begun.begun in
    let s = c.in_ok-begun.ensures.begun in
    (some_called c.args.wanted.config.now (option_map (λ s. s.now) c.args.wanted.events) s.0 b.config b.services.items b.calls.items s.2).1

pub returns-clause-done : goal.returns-clause-done
returns-clause-done g c =
    let b = c.in_ok-begun.begun in
    let s = c.in_ok-begun.ensures.begun in
    let h = c.run_begun.ensures.reported in
    (s.0, h.0, ap g.R.Reader.asked c.run_begun.ensures.reader ∙ s.1, h.1, inr (b.config, b.services.items, b.calls.items, s.2, inr (c.in_ok-spare_programs.ensures.spared, h.2)))
