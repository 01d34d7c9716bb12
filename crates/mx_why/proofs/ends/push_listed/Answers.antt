use Rattle.std.proofs.Common.{◌≡◌, refl, arith}
use Rattle.mx_why.specs.Endings.{listed_at, listed_text}
use Rattle.mx_why.proofs.Rows.{next_row, all_rows}
use Rattle.mx_why.proofs.ends.push_listed.Goals as goal

pub loop-slot-preserved : goal.loop-slot-preserved
loop-slot-preserved c =
    next_row (listed_at c.args.end.now c.args.unfinished) c.loop-slot.slot c.args.out.now.items c.loop-slot.out.items c.push_listed_at.new.out.items _ c.loop-slot.invariant c.in_ok-push_listed_at.ensures refl

pub returns : goal.returns
unfolding listed_text
returns c =
    let all : c.loop-slot.slot ≡ 32 = omega arith in
    all_rows (listed_at c.args.end.now c.args.unfinished) c.loop-slot.slot 32 c.args.out.now.items c.loop-slot.out.items all c.loop-slot.invariant
