use Rattle.std.proofs.Common.{◌≡◌, ◌+◌, refl, arith}
use Rattle.mx_app_draw.specs.Bars.{bar_here, bars_of_slot}
use Rattle.mx_app_draw.proofs.Rows.{next_row, all_rows}
use Rattle.mx_app_draw.proofs.bars.push_bars_of_slot.Goals as goal

pub loop-index-preserved : goal.loop-index-preserved
loop-index-preserved c =
    next_row (bar_here c.args.scene.now c.args.strip c.args.slot) c.loop-index.index c.args.out.now.items c.loop-index.out.items c.push_bar_here.new.out.items _ c.loop-index.invariant c.in_ok-push_bar_here.ensures refl

pub returns : goal.returns
unfolding bars_of_slot
returns c =
    let all : c.loop-index.index ≡ c.args.strip.count + 1 = omega arith in
    all_rows (bar_here c.args.scene.now c.args.strip c.args.slot) c.loop-index.index (c.args.strip.count + 1) c.args.out.now.items c.loop-index.out.items all c.loop-index.invariant
