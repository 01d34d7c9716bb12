use Rattle.mx_boot.proofs.OneHistory.{one_of_text, history_or_fault}
use Rattle.mx_boot.proofs.history_laws.one_history.Goals as goal

pub returns-clause-one : goal.returns-clause-one
returns-clause-one c = one_of_text

pub returns-clause-no_fault : goal.returns-clause-no_fault
returns-clause-no_fault c = history_or_fault
