use Rattle.std.proofs.lemmas.Result.{IfOk-at_ok}
use Rattle.mx_turns.specs.Ahead.{AreTried}
use Rattle.mx_turns.proofs.AheadLemmas.{both_if}
use Rattle.mx_turns.proofs.ahead.+try_all.Goals as goal

pub returns : goal.returns
returns g t c =
    let s = c.args.sweep in
    let w = c.args.boot.now.value.kernel.boot in
    let from = c.args.range.from in
    let end = c.args.range.end in
    let middle = c.middle_of-middle.result in
    let cut = c.middle_of-middle.ensures in
    both_if _ s w from middle end c.in_ok-first.field-0 c.in_ok-second.field-0 c.and.result cut.above cut.below cut.left
    (IfOk-at_ok (AreTried s w from middle) c.in_ok-first.was c.join-first.ensures.first)
    (IfOk-at_ok (AreTried s w middle end) c.in_ok-second.was c.join-first.ensures.second)
    c.and.ensures.pairs c.and.ensures.told
