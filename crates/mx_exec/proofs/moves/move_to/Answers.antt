use Rattle.std.proofs.Common.{sym}
use Rattle.mx_exec.proofs.moves.move_to.Goals as goal

pub returns-in-Ok : goal.returns-in-Ok
returns-in-Ok g c next = rw (sym c.in-Ok.ensures.value) (c.store.ensures next)
