use Rattle.std.proofs.Common.{◌≡◌, refl, arith}
use Rattle.mx_look.specs.Trace.{alarm_line, alarm_lines}
use Rattle.mx_look.proofs.TraceRows.{next_row, all_rows}
use Rattle.mx_look.proofs.record.push_alarms.Goals as goal

pub loop-slot-preserved : goal.loop-slot-preserved
loop-slot-preserved c =
    next_row (alarm_line c.args.transition.now) c.loop-slot.slot c.args.out.now.items c.loop-slot.out.items c.push_alarm.new.out.items _ c.loop-slot.invariant c.in_ok-push_alarm.ensures refl

pub returns : goal.returns
unfolding alarm_lines
returns c =
    let all : c.loop-slot.slot ≡ 32 = omega arith in
    all_rows (alarm_line c.args.transition.now) c.loop-slot.slot 32 c.args.out.now.items c.loop-slot.out.items all c.loop-slot.invariant
