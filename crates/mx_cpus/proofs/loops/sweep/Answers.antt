use Rattle.std.proofs.Common.{◌≡◌, arith, subst}
use Rattle.mx_cpus.specs.Courses.{AreTried}
use Rattle.mx_cpus.proofs.loops.sweep.Goals as goal

pub returns : goal.returns
returns g c =
    let all : c.loop-slot.slot ≡ 32 = omega arith in
    subst (λ n. AreTried g.M.Naming.boot c.args.seat n c.loop-slot.seat) all c.loop-slot.invariant.0
