use Rattle.std.proofs.Common.{◌≡◌, refl, arith}
use Rattle.mx_app_draw.specs.Strips.{band, bands}
use Rattle.mx_app_draw.specs.Layout.{rows}
use Rattle.mx_app_draw.proofs.Rows.{next_row, all_rows}
use Rattle.mx_app_draw.proofs.strips.push_bands.Goals as goal

pub loop-index-preserved : goal.loop-index-preserved
loop-index-preserved c =
    next_row (band c.args.top c.args.width) c.loop-index.index c.args.out.now.items c.loop-index.out.items c.push_band.new.out.items _ c.loop-index.invariant c.in_ok-push_band.ensures refl

pub returns : goal.returns
unfolding bands
returns c =
    let all : c.loop-index.index ≡ rows c.args.services = omega arith in
    all_rows (band c.args.top c.args.width) c.loop-index.index (rows c.args.services) c.args.out.now.items c.loop-index.out.items all c.loop-index.invariant
