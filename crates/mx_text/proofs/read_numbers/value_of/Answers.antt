use Rattle.std.proofs.Common.{arith, ◌≡◌, ◌+◌, ◌*◌, ◌<◌, ◌≤◌, get_or, take, drop, [], sym, ◌∙◌}
use Rattle.std.proofs.lemmas.List.{take_all, drop_all}
use Rattle.std.proofs.lemmas.List.Elements.{All-more}
use Rattle.mx_text.specs.Bytes.{digit_value}
use Rattle.mx_text.specs.Numbers.{value_from}
use Rattle.mx_text.proofs.Digits.{value_grows, value_step, bounded_product}
use Rattle.mx_text.proofs.read_numbers.value_of.Goals as goal

-- the product fits, as a step in between
pub overflow_mul-more : goal.overflow_mul-more
overflow_mul-more c = omega (arith, bounded_product c.from.result c.from-in-loop-byte.result (omega arith))

pub overflow_add-more : goal.overflow_add-more
overflow_add-more c = omega (arith, bounded_product c.from.result c.from-in-loop-byte.result (omega arith))

pub returns-then-more-from : goal.returns-then-more-from
returns-then-more-from c = λ n small digits same.
    let s = c.args.digits.now in
    let e : value_from c.args.base 0 s ≡ value_from c.args.base c.loop-byte.value (drop c.loop-byte.byte-index s) = c.loop-byte.invariant.value in
    let f : value_from c.args.base c.loop-byte.value (drop c.loop-byte.byte-index s)
    ≡ value_from c.args.base (c.loop-byte.value * c.args.base + digit_value (get_or s c.loop-byte.byte-index 0)) (drop (c.loop-byte.byte-index + 1) s)
    = value_step c.args.base c.loop-byte.value c.loop-byte.byte-index s (omega arith) in
    let g : c.loop-byte.value * c.args.base + digit_value (get_or s c.loop-byte.byte-index 0)
    ≤ value_from c.args.base (c.loop-byte.value * c.args.base + digit_value (get_or s c.loop-byte.byte-index 0)) (drop (c.loop-byte.byte-index + 1) s)
    = value_grows c.args.base (c.loop-byte.value * c.args.base + digit_value (get_or s c.loop-byte.byte-index 0)) (drop (c.loop-byte.byte-index + 1) s) (omega arith) in
    let big : 4294967295 < c.loop-byte.value * c.args.base + digit_value (get_or s c.loop-byte.byte-index 0) =
    rw (← c.from.ensures, ← c.from-in-loop-byte.ensures, ← c.digit_value-digit.ensures.value, ← c.from-in-loop-byte-2.ensures) (omega arith) in
    omega arith

pub loop-byte-preserved : goal.loop-byte-preserved
loop-byte-preserved c =
    let s = c.args.digits.now in record {
      small = omega arith;
      value = rw (c.from.ensures, c.from-in-loop-byte.ensures, c.from-in-loop-byte-2.ensures, c.digit_value-digit.ensures.value)
          (c.loop-byte.invariant.value ∙ value_step c.args.base c.loop-byte.value c.loop-byte.byte-index s (omega arith));
      each = All-more (λ b. digit_value b < c.args.base) s c.loop-byte.byte-index 0 (omega arith) c.loop-byte.invariant.each (omega (arith, c.digit_value-digit.ensures.value));
    }

pub returns : goal.returns
returns c =
    let s = c.args.digits.now in
    let whole : take c.loop-byte.byte-index s ≡ s = take_all c.loop-byte.byte-index s (omega arith) in
    let over : drop c.loop-byte.byte-index s ≡ [] = drop_all c.loop-byte.byte-index s (omega arith) in
    let value : value_from c.args.base 0 s ≡ value_from c.args.base c.loop-byte.value [] = rw over at c.loop-byte.invariant.value in
    (rw whole at c.loop-byte.invariant.each, sym value)
