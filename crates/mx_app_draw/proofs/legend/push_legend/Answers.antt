use Rattle.std.proofs.Common.{◌≡◌, refl, arith}
use Rattle.mx_app_draw.specs.Legend.{legend_item, legend}
use Rattle.mx_app_draw.proofs.Rows.{next_row, all_rows}
use Rattle.mx_app_draw.proofs.legend.push_legend.Goals as goal

pub loop-index-preserved : goal.loop-index-preserved
loop-index-preserved c =
    next_row (legend_item c.args.services c.args.count) c.loop-index.index c.args.out.now.items c.loop-index.out.items c.push_legend_item.new.out.items _ c.loop-index.invariant c.in_ok-push_legend_item.ensures refl

pub returns : goal.returns
unfolding legend
returns c =
    let all : c.loop-index.index ≡ 16 = omega arith in
    all_rows (legend_item c.args.services c.args.count) c.loop-index.index 16 c.args.out.now.items c.loop-index.out.items all c.loop-index.invariant
