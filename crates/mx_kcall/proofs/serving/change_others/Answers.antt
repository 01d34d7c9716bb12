use Rattle.mx_kcall.proofs.FrameLemmas.{kept_frame}
use Rattle.mx_kcall.proofs.serving.change_others.Goals as goal

pub returns-in-Vircopy-clause-frame : goal.returns-in-Vircopy-clause-frame
returns-in-Vircopy-clause-frame c = kept_frame _ _ c.copy.ensures.frame

pub returns-in-Grant-clause-frame : goal.returns-in-Grant-clause-frame
returns-in-Grant-clause-frame c = kept_frame _ _ c.set_window.ensures.frame
