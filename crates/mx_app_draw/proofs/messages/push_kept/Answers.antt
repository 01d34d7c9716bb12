use Rattle.std.proofs.Common.{◌≡◌, refl, arith}
use Rattle.mx_app_draw.specs.Messages.{kept_arrow, kept_values}
use Rattle.mx_app_draw.proofs.Rows.{next_row, all_rows}
use Rattle.mx_app_draw.proofs.messages.push_kept.Goals as goal

pub loop-place-preserved : goal.loop-place-preserved
loop-place-preserved c =
    next_row (kept_arrow c.args.transition.now c.args.origin c.args.slot) c.loop-place.place c.args.out.now.items c.loop-place.out.items c.push_kept_arrow.new.out.items _ c.loop-place.invariant c.in_ok-push_kept_arrow.ensures refl

pub returns : goal.returns
unfolding kept_values
returns c =
    let all : c.loop-place.place ≡ 34 = omega arith in
    all_rows (kept_arrow c.args.transition.now c.args.origin c.args.slot) c.loop-place.place 34 c.args.out.now.items c.loop-place.out.items all c.loop-place.invariant
