use Rattle.std.proofs.Common.{refl}
use Rattle.mx_kcall.proofs.FrameLemmas.{kept_frame}
use Rattle.mx_kcall.proofs.serving.use_device.Goals as goal

pub returns-then-action-eq0-clause-frame : goal.returns-then-action-eq0-clause-frame
returns-then-action-eq0-clause-frame c = kept_frame c.args.table.now c.args.table.now refl
