use Rattle.mx_laws.proofs.RunLemmas.{run_law}
use Rattle.mx_laws.proofs.diary_laws.diaries_tell_runs.Goals as goal

pub returns : goal.returns
returns c = λ w xs s. run_law xs w s
