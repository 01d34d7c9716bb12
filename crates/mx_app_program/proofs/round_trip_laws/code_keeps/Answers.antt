use Rattle.mx_app_program.proofs.Placing.{code_keeps}
use Rattle.mx_app_program.proofs.round_trip_laws.code_keeps.Goals as goal

pub returns : goal.returns
returns c = code_keeps
