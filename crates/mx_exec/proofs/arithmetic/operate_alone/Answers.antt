use Rattle.std.proofs.Common.{sym}
use Rattle.mx_exec.proofs.arithmetic.operate_alone.Goals as goal

pub returns-in-Ok : goal.returns-in-Ok
returns-in-Ok g c next =
    rw (sym c.in-Ok.ensures.value) (
    rw (sym c.unary-result.ensures.value) (
    rw (sym c.unary-result.ensures.flags) (c.store_result.ensures next)))
