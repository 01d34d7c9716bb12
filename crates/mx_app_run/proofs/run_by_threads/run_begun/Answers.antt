use Rattle.std.proofs.Common.{ℕ, List, [], inl, is_some, refl, sym}
use Rattle.std.specs.Io.KnownBytes.{Appends}
use Rattle.std.proofs.lemmas.List.{append-nil}
use Rattle.mx_app_start.proofs.Appended.{appends_nothing}
use Rattle.mx_app_run.proofs.RunLemmas.{run_reported}
use Rattle.mx_app_run.proofs.run_by_threads.run_begun.Goals as goal

pub returns-in_err-kernel-clause-reported : goal.returns-in_err-kernel-clause-reported
returns-in_err-kernel-clause-reported g c =
    ([], sym (append-nil _), inl (refl, appends_nothing _, c.from_residual.ensures.1))

pub returns-clause-reported : goal.returns-clause-reported
returns-clause-reported g c =
    let b = c.args.begun in
    let h = c.report_run.ensures.reported in
    (h.0, h.1, run_reported (g.P.SharedProgress.was_shown c.args.progress.now) (is_some c.args.wanted.stop) b.config b.services.items c.args.wanted.ticks b.calls.items c.in_ok-kernel._whole c.in_ok-kernel.kernel c.in_ok-kernel.ensures.run c.args.wanted.log.now h.0 (λ (text : List ℕ). Appends (g.W.Write.contents c.args.channels.now.out) (g.W.Write.contents c.report_run.new.channels.out) text) c.in_ok-kernel.ending c.report_run.result c.in_ok-kernel.ensures.ending h.2)
