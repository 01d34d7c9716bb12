use Rattle.std.proofs.Common.{sym}
use Rattle.mx_exec.proofs.steps.move_data.Goals as goal

pub returns-in-LoadAddress : goal.returns-in-LoadAddress
returns-in-LoadAddress c next =
    rw c.in-LoadAddress.is (
    rw (sym c.spot-at.ensures) (
    rw (sym c.size.ensures) (c.load_address.ensures next)))
