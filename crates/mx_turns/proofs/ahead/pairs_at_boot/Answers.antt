use Rattle.std.proofs.Common.{◌∷◌, [], All, ap, arith, length, length-append, subst, sym}
use Rattle.std.proofs.lemmas.List.Elements.{All-push}
use Rattle.mx_turns.specs.Ahead.{IsBefore}
use Rattle.mx_turns.proofs.ahead.pairs_at_boot.Goals as goal

pub loop-preserved : goal.loop-preserved
loop-preserved c =
    let is = IsBefore c.args.sweep c.args.boot.now.value.kernel.boot c.args.sweep.range.from in
    let old = c.loop.pairs.items in
    let pair = c.in_ok-pair.pair in
    let items = c.in-Ok.ensures.items in
    let more = length-append old (pair ∷ []) in
    let len = ap length items in
    let inv = c.loop.invariant in
    record {
      all = subst (All is) (sym items) (All-push is old pair inv.all c.in_ok-pair.ensures);
      count = omega (arith, len, more, inv.count);
    }
