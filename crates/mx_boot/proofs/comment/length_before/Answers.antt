use Rattle.std.proofs.Common.{rules, arith}
use Rattle.mx_boot.proofs.Comments.{before_byte}
use Rattle.mx_boot.proofs.comment.length_before.Goals as goal

pub returns-else-line-end-clause-before : goal.returns-else-line-end-clause-before
returns-else-line-end-clause-before c =
    before_byte c.args.byte c.args.line.now c.loop-end.end c.loop-end.invariant.within c.loop-end.invariant.none (λ l. search rules)

pub returns-after-loop-end-clause-before : goal.returns-after-loop-end-clause-before
returns-after-loop-end-clause-before c =
    before_byte c.args.byte c.args.line.now c.loop-end.end c.loop-end.invariant.within c.loop-end.invariant.none (λ l. absurd (omega (arith, l, c.loop-end-test.false)))
