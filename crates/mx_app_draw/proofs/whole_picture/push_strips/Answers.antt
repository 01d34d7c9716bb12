use Rattle.std.proofs.Common.{◌≡◌, ap, arith}
use Rattle.mx_app_draw.specs.Picture.{strip_of, strips}
use Rattle.mx_app_draw.specs.Layout.{strip_count}
use Rattle.mx_app_draw.specs.Strips.{strip_values}
use Rattle.mx_app_draw.proofs.Rows.{next_row, all_rows}
use Rattle.mx_app_draw.proofs.whole_picture.push_strips.Goals as goal

pub loop-index-preserved : goal.loop-index-preserved
loop-index-preserved c =
    next_row (strip_of c.args.scene.now c.args.width c.args.count) c.loop-index.index c.args.out.now.items c.loop-index.out.items c.push_strip.new.out.items _ c.loop-index.invariant c.in_ok-push_strip.ensures (ap (strip_values c.args.scene.now c.args.width) c.strip_at.ensures)

pub returns : goal.returns
unfolding strips
returns c =
    let all : c.loop-index.index ≡ strip_count c.args.count = omega arith in
    all_rows (strip_of c.args.scene.now c.args.width c.args.count) c.loop-index.index (strip_count c.args.count) c.args.out.now.items c.loop-index.out.items all c.loop-index.invariant
