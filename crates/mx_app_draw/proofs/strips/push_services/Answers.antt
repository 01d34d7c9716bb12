use Rattle.std.proofs.Common.{◌≡◌, refl, arith}
use Rattle.mx_app_draw.specs.Strips.{name_values, service_names}
use Rattle.mx_app_draw.proofs.Rows.{next_row, all_rows}
use Rattle.mx_app_draw.proofs.strips.push_services.Goals as goal

pub loop-slot-preserved : goal.loop-slot-preserved
loop-slot-preserved c =
    next_row (name_values c.args.scene.now c.args.strip) c.loop-slot.slot c.args.out.now.items c.loop-slot.out.items c.push_name.new.out.items _ c.loop-slot.invariant c.in_ok-push_name.ensures refl

pub returns : goal.returns
unfolding service_names
returns c =
    let all : c.loop-slot.slot ≡ c.args.scene.now.services = omega arith in
    all_rows (name_values c.args.scene.now c.args.strip) c.loop-slot.slot c.args.scene.now.services c.args.out.now.items c.loop-slot.out.items all c.loop-slot.invariant
