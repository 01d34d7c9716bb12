use Rattle.std.proofs.Common.{◌≤◌, ◌-◌, length}
use Rattle.mx_text.proofs.Feeds.{NoneBefore}
use Rattle.mx_text.proofs.text_lines.next_line.Given as goal

abbrev pub invariant-loop-end : goal.invariant-loop-end
invariant-loop-end l = record { within : l.end ≤ length l.text; none : NoneBefore l.text l.end }

abbrev pub decreases-loop-end : goal.decreases-loop-end
decreases-loop-end l = length l.text - l.end
