use Rattle.std.proofs.Common.{◌≡◌, refl, arith}
use Rattle.mx_app_draw.specs.Bars.{bars_of_slot, bars}
use Rattle.mx_app_draw.proofs.Rows.{next_row, all_rows}
use Rattle.mx_app_draw.proofs.bars.push_bars.Goals as goal

pub loop-slot-preserved : goal.loop-slot-preserved
loop-slot-preserved c =
    next_row (bars_of_slot c.args.scene.now c.args.strip) c.loop-slot.slot c.args.out.now.items c.loop-slot.out.items c.push_bars_of_slot.new.out.items _ c.loop-slot.invariant c.in_ok-push_bars_of_slot.ensures refl

pub returns : goal.returns
unfolding bars
returns c =
    let all : c.loop-slot.slot ≡ c.args.scene.now.services = omega arith in
    all_rows (bars_of_slot c.args.scene.now c.args.strip) c.loop-slot.slot c.args.scene.now.services c.args.out.now.items c.loop-slot.out.items all c.loop-slot.invariant
