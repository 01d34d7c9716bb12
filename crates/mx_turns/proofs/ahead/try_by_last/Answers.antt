use Rattle.mx_turns.specs.Ahead.{IsBefore}
use Rattle.std.proofs.lemmas.List.Elements.{All-pop}
use Rattle.mx_turns.proofs.AheadLemmas.{by_last}
use Rattle.mx_turns.proofs.ahead.try_by_last.Goals as goal

pub returns : goal.returns
returns c =
    let s = c.args.sweep in
    let w = c.args.boot.now.value.kernel.boot in
    let from = c.args.range.from in
    let others = All-pop (IsBefore s w from) c.args.pairs.items c.pop.new.self.items c.pop.result c.pop.ensures.items c.requires.pairs in
    let tried = c.in_ok-last.ensures in
    by_last s w from c.args.range.end (record { pairs = c.push.new.self; told = c.in_ok-last.told }) c.pop.new.self.items c.in_ok-last.last c.requires.order others.0
    c.in-Ok.ensures.items tried.pair tried.told tried.all tried.last
