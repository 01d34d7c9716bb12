use Rattle.std.proofs.Common.{◌≡◌, refl, arith}
use Rattle.mx_app_draw.specs.Strips.{axis_at, axis}
use Rattle.mx_app_draw.proofs.Rows.{next_row, all_rows}
use Rattle.mx_app_draw.proofs.strips.push_axis.Goals as goal

pub loop-index-preserved : goal.loop-index-preserved
loop-index-preserved c =
    next_row (axis_at c.args.scene.now c.args.strip) c.loop-index.index c.args.out.now.items c.loop-index.out.items c.push_axis_at.new.out.items _ c.loop-index.invariant c.in_ok-push_axis_at.ensures refl

pub returns : goal.returns
unfolding axis
returns c =
    let all : c.loop-index.index ≡ c.args.strip.count = omega arith in
    all_rows (axis_at c.args.scene.now c.args.strip) c.loop-index.index c.args.strip.count c.args.out.now.items c.loop-index.out.items all c.loop-index.invariant
