use Rattle.mx_lex.proofs.Readings.{one_reading}
use Rattle.mx_lex.proofs.token_laws.one_reading.Goals as goal

pub returns : goal.returns
returns c = one_reading
