use Rattle.std.proofs.Common.{◌≡◌, refl, arith}
use Rattle.mx_why.specs.Unfit.{towards_all, towards_at}
use Rattle.mx_why.proofs.Rows.{next_row, all_rows}
use Rattle.mx_why.proofs.unfit.push_towards_all.Goals as goal

pub loop-other-preserved : goal.loop-other-preserved
loop-other-preserved c =
    next_row (towards_at c.args.lines.now c.args.slot c.args.masks.now) c.loop-other.other c.args.found.now.items c.loop-other.found.items c.push_towards_at.new.found.items _ c.loop-other.invariant c.in_ok-push_towards_at.ensures refl

pub returns : goal.returns
unfolding towards_all
returns c =
    let all : c.loop-other.other ≡ 32 = omega arith in
    all_rows (towards_at c.args.lines.now c.args.slot c.args.masks.now) c.loop-other.other 32 c.args.found.now.items c.loop-other.found.items all c.loop-other.invariant
