use Rattle.mx_kcall.proofs.FrameLemmas.{kept_frame}
use Rattle.mx_kcall.proofs.serving.call.Goals as goal

pub returns-in-Err-clause-frame : goal.returns-in-Err-clause-frame
returns-in-Err-clause-frame c = kept_frame c.reply.new.table c.args.table.now c.reply.ensures.frame
