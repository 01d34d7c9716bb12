use Rattle.std.proofs.Common.{refl, sym}
use Rattle.mx_exec.specs.Ending.{Leads}
use Rattle.mx_exec.proofs.Operated.{is_stored}
use Rattle.mx_exec.proofs.arithmetic.operate.Goals as goal

pub returns-in-Err : goal.returns-in-Err
unfolding Leads
returns-in-Err g c next = (c.in-Err.ensures.fault _, refl)

pub returns-in_default : goal.returns-in_default
returns-in_default g c next =
    rw c.in-Ok.ensures.this.0 (
    rw c.in-Ok.ensures.other.0 (
    rw (is_stored c.args.operation (g.P.Place.operand c.args.to.now) c.args.size _ c.args.image.now c.in_default.not-Cmp) (
    rw (sym c.alu-value.ensures.value) (
    rw (sym c.alu-value.ensures.flags) (c.store_result.ensures next)))))
