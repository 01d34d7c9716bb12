use Rattle.mx_exec.proofs.Lasting.{step_keeps}
use Rattle.mx_exec.proofs.step_laws.step_lasts.Goals as goal

pub returns : goal.returns
returns c = step_keeps
