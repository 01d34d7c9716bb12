use Rattle.std.proofs.Common.{◌≡◌, refl, arith}
use Rattle.mx_why.specs.Unheard.{unheard_line_at}
use Rattle.mx_why.proofs.Rows.{next_row, all_rows}
use Rattle.mx_why.proofs.unheard.push_each_unheard.Goals as goal

pub loop-slot-preserved : goal.loop-slot-preserved
loop-slot-preserved c =
    next_row (unheard_line_at c.args.end.now c.args.notes.now c.args.found.now) c.loop-slot.slot c.args.out.now.items c.loop-slot.out.items c.push_unheard_at.new.out.items _ c.loop-slot.invariant c.in_ok-push_unheard_at.ensures refl

pub returns : goal.returns
returns c =
    let all : c.loop-slot.slot ≡ 32 = omega arith in
    all_rows (unheard_line_at c.args.end.now c.args.notes.now c.args.found.now) c.loop-slot.slot 32 c.args.out.now.items c.loop-slot.out.items all c.loop-slot.invariant
