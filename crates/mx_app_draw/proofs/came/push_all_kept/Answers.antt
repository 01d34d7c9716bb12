use Rattle.std.proofs.Common.{◌≡◌, refl, arith}
use Rattle.mx_app_draw.specs.Messages.{kept_values}
use Rattle.mx_app_draw.specs.Record.{all_kept}
use Rattle.mx_app_draw.proofs.Rows.{next_row, all_rows}
use Rattle.mx_app_draw.proofs.came.push_all_kept.Goals as goal

pub loop-slot-preserved : goal.loop-slot-preserved
loop-slot-preserved c =
    next_row (kept_values c.args.transition.now c.args.origin) c.loop-slot.slot c.args.out.now.items c.loop-slot.out.items c.push_kept.new.out.items _ c.loop-slot.invariant c.in_ok-push_kept.ensures refl

pub returns : goal.returns
unfolding all_kept
returns c =
    let all : c.loop-slot.slot ≡ c.args.origin.services = omega arith in
    all_rows (kept_values c.args.transition.now c.args.origin) c.loop-slot.slot c.args.origin.services c.args.out.now.items c.loop-slot.out.items all c.loop-slot.invariant
