use Rattle.std.proofs.Common.{◌≡◌, refl, arith}
use Rattle.mx_why.specs.Noting.{change_note, change_notes}
use Rattle.mx_why.proofs.Rows.{next_row, all_rows}
use Rattle.mx_why.proofs.noting.push_changes.Goals as goal

pub loop-slot-preserved : goal.loop-slot-preserved
loop-slot-preserved c =
    next_row (change_note c.args.transition.now) c.loop-slot.slot c.args.notes.now.items c.loop-slot.notes.items c.push_change.new.notes.items _ c.loop-slot.invariant c.in_ok-push_change.ensures refl

pub returns : goal.returns
unfolding change_notes
returns c =
    let all : c.loop-slot.slot ≡ 32 = omega arith in
    all_rows (change_note c.args.transition.now) c.loop-slot.slot 32 c.args.notes.now.items c.loop-slot.notes.items all c.loop-slot.invariant
