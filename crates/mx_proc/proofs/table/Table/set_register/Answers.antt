use Rattle.mx_proc.proofs.ServingLemmas.{reframed}
use Rattle.mx_proc.proofs.table.Table.set_register.Goals as goal

pub returns-clause-frame : goal.returns-clause-frame
returns-clause-frame c = reframed _ _ _ c.self.view_is
