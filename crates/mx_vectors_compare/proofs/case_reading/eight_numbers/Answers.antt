use Rattle.std.proofs.Common.{arith}
use Rattle.std.proofs.lemmas.List.{length-set}
use Rattle.mx_vectors_compare.proofs.Numbers.{numbers_more, numbers_all}
use Rattle.mx_vectors_compare.proofs.case_reading.eight_numbers.Invariants.{nothing}
use Rattle.mx_vectors_compare.proofs.case_reading.eight_numbers.Goals as goal

pub loop-at-preserved : goal.loop-at-preserved
loop-at-preserved c = record {
  eight = simp length-set c.loop-at.invariant.eight;
  first = numbers_more c.args.words.now nothing c.loop-at.numbers c.loop-at.at c.in_ok-numbers.field-0 (omega arith) c.in_ok-numbers.ensures c.loop-at.invariant.first;
}

pub returns : goal.returns
returns c = (
  c.loop-at.invariant.eight,
  numbers_all c.args.words.now nothing c.loop-at.numbers c.loop-at.at (omega arith) (omega arith) c.loop-at.invariant.first,
)
