use Rattle.std.proofs.Common.{sym}
use Rattle.mx_exec.proofs.bits.shift_double.Goals as goal

pub returns : goal.returns
returns g c next =
    rw (sym c.in-Ok.ensures.value) (
    rw (sym c.register-bits.ensures) (
    rw (sym c.count_of-count.ensures) (
    rw (sym c.double_shift-result.ensures.value) (
    rw (sym c.double_shift-result.ensures.flags) (c.store_result.ensures next)))))
