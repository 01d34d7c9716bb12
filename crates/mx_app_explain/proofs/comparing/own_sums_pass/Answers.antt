use Rattle.mx_app_explain.proofs.Passing.{own_pass}
use Rattle.mx_app_explain.proofs.comparing.own_sums_pass.Goals as goal

pub returns : goal.returns
returns c = own_pass
