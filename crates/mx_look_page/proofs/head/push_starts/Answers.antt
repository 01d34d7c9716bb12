use Rattle.std.proofs.Common.{◌≡◌, refl, arith}
use Rattle.mx_look_page.specs.Shown.{state_in}
use Rattle.mx_look_page.specs.Heads.{start_item, start_items}
use Rattle.mx_look.proofs.TraceRows.{next_row, all_rows}
use Rattle.mx_look_page.proofs.head.push_starts.Goals as goal

pub loop-slot-preserved : goal.loop-slot-preserved
loop-slot-preserved c =
    next_row (λ s. start_item s (state_in c.args.shown.now s)) c.loop-slot.slot c.args.out.now.items c.loop-slot.out.items c.push_start.new.out.items _ c.loop-slot.invariant c.in_ok-push_start.ensures refl

pub returns : goal.returns
unfolding start_items
returns c =
    let all : c.loop-slot.slot ≡ 32 = omega arith in
    all_rows (λ s. start_item s (state_in c.args.shown.now s)) c.loop-slot.slot 32 c.args.out.now.items c.loop-slot.out.items all c.loop-slot.invariant
