use Rattle.std.proofs.Common.{◌≡◌, refl, arith}
use Rattle.mx_app_draw.specs.Messages.{delivery_values}
use Rattle.mx_app_draw.specs.Record.{deliveries}
use Rattle.mx_app_draw.proofs.Rows.{next_row, all_rows}
use Rattle.mx_app_draw.proofs.came.push_deliveries.Goals as goal

pub loop-slot-preserved : goal.loop-slot-preserved
loop-slot-preserved c =
    next_row (delivery_values c.args.transition.now c.args.origin) c.loop-slot.slot c.args.out.now.items c.loop-slot.out.items c.push_delivery.new.out.items _ c.loop-slot.invariant c.in_ok-push_delivery.ensures refl

pub returns : goal.returns
unfolding deliveries
returns c =
    let all : c.loop-slot.slot ≡ c.args.origin.services = omega arith in
    all_rows (delivery_values c.args.transition.now c.args.origin) c.loop-slot.slot c.args.origin.services c.args.out.now.items c.loop-slot.out.items all c.loop-slot.invariant
