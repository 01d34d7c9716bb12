use Rattle.std.proofs.Common.{◌≡◌, refl, arith}
use Rattle.mx_look.specs.Going.{gone_on}
use Rattle.mx_look_page.specs.Rows.{state_part, changed_states}
use Rattle.mx_look_page.specs.Shown.{state_in}
use Rattle.mx_look.proofs.TraceRows.{next_row, all_rows}
use Rattle.mx_look_page.proofs.row.push_states.Goals as goal

pub loop-slot-preserved : goal.loop-slot-preserved
loop-slot-preserved c =
    next_row (λ s. state_part s (state_in c.args.before.now s) (state_in c.args.after.now s) (gone_on c.args.transition.now s)) c.loop-slot.slot c.args.out.now.items c.loop-slot.out.items c.push_state.new.out.items _ c.loop-slot.invariant c.in_ok-push_state.ensures refl

pub returns : goal.returns
unfolding changed_states
returns c =
    let all : c.loop-slot.slot ≡ 32 = omega arith in
    all_rows (λ s. state_part s (state_in c.args.before.now s) (state_in c.args.after.now s) (gone_on c.args.transition.now s)) c.loop-slot.slot 32 c.args.out.now.items c.loop-slot.out.items all c.loop-slot.invariant
