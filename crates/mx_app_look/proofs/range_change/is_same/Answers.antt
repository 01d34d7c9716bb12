use Rattle.std.proofs.Common.{◌≡◌, ◌∙◌, ◌≤◌, ◌+◌, ap, sym, arith}
use Rattle.std.specs.Prelude.{slice_index}
use Rattle.mx_word.specs.Word.{value_at}
use Rattle.mx_app_look.proofs.Ranges.{bytes_of_same, more, other_byte, other_number}
use Rattle.mx_app_look.proofs.range_change.is_same.Goals as goal

pub returns-then-qword_from : goal.returns-then-qword_from
returns-then-qword_from c =
    let few : c.loop-done.done + 8 ≤ c.args.count = omega (arith, c.loop-done.invariant.few, c.loop-done-test.true) in
    other_number c.args.memory.now c.args.other.now c.args.at c.args.count c.requires.inside c.requires.there c.loop-done.done 8 few
    (λ e. c.if-qword_from.true (c.qword_from.ensures.value ∙ e ∙ sym c.qword_from-in-loop-done.ensures.value))

pub loop-done-preserved : goal.loop-done-preserved
loop-done-preserved c =
    let few : c.loop-done.done + 8 ≤ c.args.count = omega (arith, c.loop-done.invariant.few, c.loop-done-test.true) in
    let number : value_at c.args.memory.now (c.args.at + c.loop-done.done) 8 ≡ value_at c.args.other.now c.loop-done.done 8 =
    sym c.qword_from.ensures.value ∙ c.if-qword_from.false ∙ c.qword_from-in-loop-done.ensures.value in
    record {
      same = more c.args.memory.now c.args.other.now c.args.at c.args.count c.requires.inside c.requires.there c.loop-done.done 8 few c.loop-done.invariant.same
          (bytes_of_same 8 (c.args.at + c.loop-done.done) c.loop-done.done c.args.memory.now c.args.other.now c.qword_from.ensures.bytes c.qword_from-in-loop-done.ensures.bytes number);
      few = few;
    }

pub returns-then-byte_or_zero : goal.returns-then-byte_or_zero
returns-then-byte_or_zero c =
    other_byte c.args.memory.now c.args.other.now c.args.at c.args.count c.requires.inside c.requires.there c.loop-done-2.done c.loop-done-2-test.true
    (λ e. c.if-byte_or_zero.true (c.byte_or_zero.ensures ∙ e ∙ sym c.byte_or_zero-in-loop-done-2.ensures))

pub loop-done-2-preserved : goal.loop-done-2-preserved
loop-done-2-preserved c =
    let at = c.args.at in
    let done = c.loop-done-2.done in
    let few : done + 1 ≤ c.args.count = omega (arith, c.loop-done-2-test.true) in
    let byte : slice_index c.args.memory.now (at + done) ≡ slice_index c.args.other.now done =
    sym c.byte_or_zero.ensures ∙ c.if-byte_or_zero.false ∙ c.byte_or_zero-in-loop-done-2.ensures in
    record {
      same = more c.args.memory.now c.args.other.now at c.args.count c.requires.inside c.requires.there done 1 few c.loop-done-2.invariant.same
          (λ j lt.
          let here : at + done + j ≡ at + done = omega (arith, lt) in
          let there : done ≡ done + j = omega (arith, lt) in
          ap (slice_index c.args.memory.now) here ∙ byte ∙ ap (slice_index c.args.other.now) there);
      few = few;
    }
