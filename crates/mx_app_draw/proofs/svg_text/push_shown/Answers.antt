use Rattle.std.proofs.Common.{◌≡◌, length, refl, arith}
use Rattle.mx_look.proofs.TraceRows.{next_row, all_rows}
use Rattle.mx_app_draw.specs.Shown.{shown, shown_byte}
use Rattle.mx_app_draw.proofs.svg_text.push_shown.Goals as goal

pub loop-index-preserved : goal.loop-index-preserved
loop-index-preserved c =
    next_row (shown_byte c.args.line.now) c.loop-index.index c.args.out.now.items c.loop-index.out.items c.push_shown_byte.new.out.items _ c.loop-index.invariant c.in_ok-push_shown_byte.ensures refl

pub returns : goal.returns
unfolding shown
returns c =
    let all : c.loop-index.index ≡ length c.args.line.now = omega arith in
    all_rows (shown_byte c.args.line.now) c.loop-index.index (length c.args.line.now) c.args.out.now.items c.loop-index.out.items all c.loop-index.invariant
