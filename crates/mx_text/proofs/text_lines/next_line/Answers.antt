use Rattle.std.proofs.Common.{rules, arith}
use Rattle.mx_text.proofs.Feeds.{line_at, line_last}
use Rattle.mx_text.proofs.text_lines.next_line.Goals as goal

pub returns-then-text-end-eq10-clause-line : goal.returns-then-text-end-eq10-clause-line
returns-then-text-end-eq10-clause-line c = line_at c.args.text.now c.loop-end.end (omega arith) c.loop-end.invariant.none c.if-text-end-eq10.true

pub returns-clause-line : goal.returns-clause-line
returns-clause-line c = line_last c.args.text.now c.loop-end.end (search rules) (omega arith) c.loop-end.invariant.none
