use Rattle.mx_machine.proofs.FrameLemmas.{kept_frame}
use Rattle.mx_machine.proofs.serving.kill.Goals as goal

pub returns-in-Out-clause-frame : goal.returns-in-Out-clause-frame
returns-in-Out-clause-frame c = kept_frame _ _ c.doom.ensures.frame
