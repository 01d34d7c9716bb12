use Rattle.std.proofs.Common.{[], inl, inr}
use Rattle.std.proofs.lemmas.List.{append-nil}
use Rattle.std.proofs.Common.{sym}
use Rattle.std.proofs.lemmas.Result.{IfErr-weaker, err_from_is_err_and, on_ok_weaker}
use Rattle.mx_app_start.proofs.Appended.{appends_nothing}
use Rattle.std.proofs.Common.{refl}
use Rattle.mx_app_step.proofs.saving.step_started.Goals as goal

pub returns-in_err-spare_programs-clause-unsaved : goal.returns-in_err-spare_programs-clause-unsaved
returns-in_err-spare_programs-clause-unsaved g c =
    let p = err_from_is_err_and c.from_residual.result c.from_residual.ensures.1 in
    let h = c.in_err-spare_programs.ensures.over in
    rw (p.1, p.2) ([], sym (append-nil _), inl (h.0, refl, appends_nothing _, h.1))

pub returns-clause-saved : goal.returns-clause-saved
returns-clause-saved g c = on_ok_weaker c.perform_and_save.result (λ b. (c.in_ok-spare_programs.ensures.spared, b.0, b.1)) c.perform_and_save.ensures.saved

pub returns-clause-unsaved : goal.returns-clause-unsaved
returns-clause-unsaved g c =
    IfErr-weaker c.perform_and_save.result _ _ (λ f h. (h.0, h.1, inr (c.in_ok-spare_programs.ensures.spared, h.2))) c.perform_and_save.ensures.unsaved
