use Rattle.mx_lex.proofs.OneFault.{one_fault}
use Rattle.mx_lex.proofs.token_laws.one_fault.Goals as goal

pub returns : goal.returns
returns c = one_fault
