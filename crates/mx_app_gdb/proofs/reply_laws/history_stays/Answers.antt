use Rattle.mx_app_gdb.proofs.Remaining.{replied_stays}
use Rattle.mx_app_gdb.proofs.reply_laws.history_stays.Goals as goal

pub returns : goal.returns
returns c = λ s u r reply next said. replied_stays s u r reply next said
