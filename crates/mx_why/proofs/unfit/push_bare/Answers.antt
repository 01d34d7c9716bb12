use Rattle.std.proofs.Common.{◌≡◌, refl, arith}
use Rattle.mx_why.specs.Unfit.{bare, bare_at}
use Rattle.mx_why.proofs.Rows.{next_row, all_rows}
use Rattle.mx_why.proofs.unfit.push_bare.Goals as goal

pub loop-slot-preserved : goal.loop-slot-preserved
loop-slot-preserved c =
    next_row (bare_at c.args.end.now) c.loop-slot.slot c.args.found.now.items c.loop-slot.found.items c.push_bare_at.new.found.items _ c.loop-slot.invariant c.in_ok-push_bare_at.ensures refl

pub returns : goal.returns
unfolding bare
returns c =
    let all : c.loop-slot.slot ≡ 32 = omega arith in
    all_rows (bare_at c.args.end.now) c.loop-slot.slot 32 c.args.found.now.items c.loop-slot.found.items all c.loop-slot.invariant
