use Rattle.std.proofs.Common.{ap}
use Rattle.mx_proc.specs.Frame.{frame}
use Rattle.mx_proc.proofs.table.Table.log.Goals as goal

pub returns-clause-frame : goal.returns-clause-frame
unfolding frame
returns-clause-frame c = ap frame c.self.view_is
