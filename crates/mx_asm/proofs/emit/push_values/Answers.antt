use Rattle.std.proofs.lemmas.List.{append-nil}
use Rattle.std.proofs.Common.{[], refl, ◌∙◌, sym}
use Rattle.mx_word.specs.Word.{bytes_of, bytes_in}
use Rattle.mx_asm.specs.Layout.{value_under}
use Rattle.mx_asm.specs.View.{above_of}
use Rattle.mx_asm.proofs.Emitting.{values_more, values_all, none_on, some_is_not_none}
use Rattle.mx_asm.proofs.emit.push_values.Goals as goal

pub loop-value-preserved : goal.loop-value-preserved
loop-value-preserved c = record {
  clean = (none_on (above_of c.args.layout.now) c.args.values.now c.loop-value.value-index _ c.value.result c.value.ensures c.loop-value-test.true c.loop-value.invariant.clean).1;
  put = values_more (value_under (above_of c.args.layout.now)) (bytes_of (bytes_in c.args.size)) c.args.values.now c.loop-value.value-index _ c.in-Some.number c.args.out.now.items c.loop-value.out.items c.push_number.new.out.items c.loop-value-test.true (sym c.value.ensures ∙ c.in-Some.is) c.loop-value.invariant.put c.in_ok-push_number.ensures;
}

pub unreachable-requires : goal.unreachable-requires
unreachable-requires c =
    some_is_not_none c.value.result (none_on (above_of c.args.layout.now) c.args.values.now c.loop-value.value-index _ c.value.result c.value.ensures c.loop-value-test.true c.loop-value.invariant.clean).0 c.in_default.is

pub loop-value-init : goal.loop-value-init
loop-value-init c = record { clean = c.requires; put = ([], refl, sym (append-nil c.args.out.now.items)) }

pub returns : goal.returns
returns c =
    values_all (value_under (above_of c.args.layout.now)) (bytes_of (bytes_in c.args.size)) c.args.values.now c.loop-value.value-index c.args.out.now.items c.loop-value.out.items c.loop-value-test.false c.loop-value.invariant.put
