use Rattle.std.proofs.Common.{sym}
use Rattle.mx_exec.proofs.arithmetic.shift_by.Goals as goal

pub returns-in-Ok : goal.returns-in-Ok
returns-in-Ok g c next =
    rw (sym c.in-Ok.ensures.value) (
    rw (sym c.count_of-places.ensures) (
    rw (sym c.shift-result.ensures.value) (
    rw (sym c.shift-result.ensures.flags) (c.store_result.ensures next))))
