use Rattle.std.proofs.Common.{◌≡◌, refl, arith}
use Rattle.mx_why.specs.Lines.{wait_at}
use Rattle.mx_why.proofs.Rows.{next_row, all_rows}
use Rattle.mx_why.proofs.lines.push_each_wait.Goals as goal

pub loop-slot-preserved : goal.loop-slot-preserved
loop-slot-preserved c =
    next_row (wait_at c.args.end.now c.args.notes.now c.args.said.now c.args.is_never) c.loop-slot.slot c.args.out.now.items c.loop-slot.out.items c.push_wait_at.new.out.items _ c.loop-slot.invariant c.in_ok-push_wait_at.ensures refl

pub returns : goal.returns
returns c =
    let all : c.loop-slot.slot ≡ 32 = omega arith in
    all_rows (wait_at c.args.end.now c.args.notes.now c.args.said.now c.args.is_never) c.loop-slot.slot 32 c.args.out.now.items c.loop-slot.out.items all c.loop-slot.invariant
