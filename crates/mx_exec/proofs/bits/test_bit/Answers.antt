use Rattle.std.proofs.Common.{sym}
use Rattle.mx_exec.proofs.Operated.{is_changed}
use Rattle.mx_exec.proofs.bits.test_bit.Goals as goal

pub returns-in_default : goal.returns-in_default
returns-in_default g c next =
    rw (sym c.in-Ok.ensures.value) (
    rw (is_changed c.args.operation (g.P.Place.operand c.args.operand.now) _ c.args.image.now c.in_default.not-Bt) (
    rw (sym c.bit_test-result.ensures.value) (
    rw (sym c.bit_test-result.ensures.flags) (c.store_result.ensures next))))
