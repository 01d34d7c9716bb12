use Rattle.mx_app_explain.proofs.Passing.{passed_own}
use Rattle.mx_app_explain.proofs.comparing.passed_sums_are_own.Goals as goal

pub returns : goal.returns
returns c = passed_own
