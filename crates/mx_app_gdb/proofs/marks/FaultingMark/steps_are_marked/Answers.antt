use Rattle.std.proofs.Common.{ap}
use Rattle.mx_walk.specs.Running.{with_out}
use Rattle.mx_app_gdb.specs.Marks.{is_at_fault}
use Rattle.mx_app_gdb.proofs.Held.{held_now}
use Rattle.mx_app_gdb.proofs.marks.FaultingMark.steps_are_marked.Goals as goal

pub returns : goal.returns
returns c = λ mark w a l o h. ap (is_at_fault mark.counted) (held_now w.cpus a l (with_out l o) h.held)
