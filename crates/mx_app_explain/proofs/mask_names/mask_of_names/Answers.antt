use Rattle.std.proofs.Common.{◌≡◌, ◌∙◌, ◌+◌, Some, ap, arith, drop, length, sym}
use Rattle.mx_text.specs.Lines.{lines}
use Rattle.mx_app_explain.specs.MaskNames.{names_in, with_names}
use Rattle.mx_app_explain.proofs.Masks.{few, last_one, many, names_less, no_bit, one_more, one_name, some_name, to_end, unnamed}
use Rattle.mx_app_explain.proofs.mask_names.mask_of_names.Goals as goal

pub returns-in_err-bit : goal.returns-in_err-bit
returns-in_err-bit c =
    let ls = lines c.args.text.now in
    let none = no_bit ls c.args.key c.loop.mask c.loop.rest.now c.before_byte-name.result.now c.before_byte-name.ensures (sym c.in_err-bit.ensures.bit) in
    c.from_residual.ensures ∙ unnamed ls c.args.key c.args.word.now (sym c.loop.invariant.names ∙ none)

pub returns-then-name-rest : goal.returns-then-name-rest
returns-then-name-rest c =
    let ls = lines c.args.text.now in
    let key = c.args.key in
    let rest = c.loop.rest.now in
    let name = c.before_byte-name.result.now in
    let is = c.before_byte-name.ensures in
    let same : length name ≡ length rest = omega (arith, c.if-name-rest.true) in
    let last = last_one ls key c.loop.mask rest name is c.in_ok-bit.bit same (sym c.in_ok-bit.ensures.bit) in
    let one = one_name ls key c.loop.mask rest name is same in
    few ls key c.args.word.now _ (sym c.loop.invariant.names ∙ last ∙ ap Some (sym c.with_bit-mask.ensures)) (omega (arith, one, c.loop.invariant.count, c.loop-test.true))

pub loop-preserved : goal.loop-preserved
loop-preserved c =
    let ls = lines c.args.text.now in
    let key = c.args.key in
    let rest = c.loop.rest.now in
    let name = c.before_byte-name.result.now in
    let is = c.before_byte-name.ensures in
    let other = c.if-name-rest.false in
    let more = one_more ls key c.loop.mask rest name is c.in_ok-bit.bit other (sym c.in_ok-bit.ensures.bit) in
    let less = names_less ls key c.loop.mask rest name is other in
    let left = to_end (length name + 1) rest in
    let count : length (names_in c.args.word.now) ≡ c.loop.counter + 1 + length (names_in (drop (length name + 1) rest)) = omega (arith, less, c.loop.invariant.count) in
    record {
      names = ap (λ r. with_names ls key c.with_bit-mask.result (names_in r)) left
          ∙ ap (λ m. with_names ls key m (names_in (drop (length name + 1) rest))) c.with_bit-mask.ensures
          ∙ sym more
          ∙ c.loop.invariant.names;
      count = count ∙ ap (λ r. c.loop.counter + 1 + length (names_in r)) (sym left);
    }

pub returns : goal.returns
returns c = many (lines c.args.text.now) c.args.key c.args.word.now (omega (arith, some_name c.loop.rest.now, c.loop.invariant.count, c.loop-test.false))
