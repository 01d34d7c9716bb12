use Rattle.std.proofs.Common.{rules, arith}
use Rattle.mx_lex.specs.Tokens.{none, blank, carriage_return, comment}
use Rattle.mx_lex.proofs.Lexing.{either}
use Rattle.mx_lex.proofs.gaps.gap_end.Goals as goal

pub loop-at-preserved-then-byte-eq9 : goal.loop-at-preserved-then-byte-eq9
loop-at-preserved-then-byte-eq9 c = record {
  within = omega arith;
  gap = λ b g. c.loop-at.invariant.gap b (blank (either c.if-byte-eq9.either) g);
}

pub loop-at-preserved-then-byte-eq59 : goal.loop-at-preserved-then-byte-eq59
loop-at-preserved-then-byte-eq59 c = record {
  within = omega arith;
  gap = λ b g. c.loop-at.invariant.gap b (comment c.if-byte-eq59.true (omega arith) c.line_feed_at-at.ensures.run c.line_feed_at-at.ensures.over g);
}

pub loop-at-preserved : goal.loop-at-preserved
loop-at-preserved c = record {
  within = omega arith;
  gap = λ b g. c.loop-at.invariant.gap b (carriage_return c.if-byte-eq13.true (search rules) g);
}

pub returns-else-byte-eq13-clause-gap : goal.returns-else-byte-eq13-clause-gap
returns-else-byte-eq13-clause-gap c = c.loop-at.invariant.gap _ none

pub returns-clause-gap : goal.returns-clause-gap
returns-clause-gap c = c.loop-at.invariant.gap _ none
