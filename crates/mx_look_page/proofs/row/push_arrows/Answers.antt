use Rattle.std.proofs.Common.{◌≡◌, refl, arith}
use Rattle.mx_look_page.specs.Rows.{arrow_items, all_arrows}
use Rattle.mx_look.proofs.TraceRows.{next_row, all_rows}
use Rattle.mx_look_page.proofs.row.push_arrows.Goals as goal

pub loop-slot-preserved : goal.loop-slot-preserved
loop-slot-preserved c =
    next_row (arrow_items c.args.transition.now) c.loop-slot.slot c.args.out.now.items c.loop-slot.out.items c.push_arrows_to.new.out.items _ c.loop-slot.invariant c.in_ok-push_arrows_to.ensures refl

pub returns : goal.returns
unfolding all_arrows
returns c =
    let all : c.loop-slot.slot ≡ 32 = omega arith in
    all_rows (arrow_items c.args.transition.now) c.loop-slot.slot 32 c.args.out.now.items c.loop-slot.out.items all c.loop-slot.invariant
