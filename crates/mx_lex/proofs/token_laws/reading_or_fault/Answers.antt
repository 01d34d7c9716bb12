use Rattle.mx_lex.proofs.Faulty.{never_both}
use Rattle.mx_lex.proofs.Total.{neither}
use Rattle.mx_lex.proofs.token_laws.reading_or_fault.Goals as goal

pub returns-clause-not_both : goal.returns-clause-not_both
returns-clause-not_both c = never_both

pub returns-clause-not_neither : goal.returns-clause-not_neither
returns-clause-not_neither c = neither
