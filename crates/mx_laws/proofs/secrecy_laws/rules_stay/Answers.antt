use Rattle.mx_laws.proofs.RulesLemmas.{move_keeps_rules, moves_keep_rules}
use Rattle.mx_laws.proofs.secrecy_laws.rules_stay.Goals as goal

pub returns-clause-event : goal.returns-clause-event
returns-clause-event c = move_keeps_rules

pub returns-clause-events : goal.returns-clause-events
returns-clause-events c = λ w xs. moves_keep_rules xs w
