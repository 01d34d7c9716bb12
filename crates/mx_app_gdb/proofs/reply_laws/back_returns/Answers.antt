use Rattle.mx_app_gdb.proofs.Returning.{moved_back}
use Rattle.mx_app_gdb.proofs.reply_laws.back_returns.Goals as goal

pub returns : goal.returns
returns c = λ s u v a b x told said position made marked on back. moved_back s u v a b x told said position made marked on back
