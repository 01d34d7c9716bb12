use Rattle.mx_boot.proofs.ReadAgain.{read_again}
use Rattle.mx_boot.proofs.history_laws.history_again.Goals as goal

pub returns : goal.returns
returns c = read_again
