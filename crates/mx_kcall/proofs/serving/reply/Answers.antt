use Rattle.std.proofs.Common.{◌∙◌, ap}
use Rattle.mx_respawn.specs.Proc.TableState.{with_message}
use Rattle.mx_respawn.specs.Calls.{goes_on}
use Rattle.mx_kcall.specs.Serving.{table_after_reply}
use Rattle.mx_kcall.proofs.FrameLemmas.{same_devices}
use Rattle.mx_kcall.proofs.serving.reply.Goals as goal

pub returns-clause-value : goal.returns-clause-value
unfolding table_after_reply
returns-clause-value c = c.go_on.ensures.value ∙ ap (λ w. goes_on w c.args.slot 0) (c.receive.ensures.value ∙ ap (with_message c.args.table.now c.args.slot) c.reply_bytes.ensures)

pub returns-clause-devices : goal.returns-clause-devices
returns-clause-devices c = same_devices c.go_on.new.table c.args.table.now (c.go_on.ensures.frame ∙ c.receive.ensures.frame)
