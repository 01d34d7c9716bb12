use Rattle.std.proofs.Common.{◌≡◌, ◌∙◌, false, rules, sym, true}
use Rattle.mx_cpus.proofs.OutsiderLemmas.{asked_end, asked_go_on}
use Rattle.mx_cpus.proofs.calling.ask_to_end.Goals as goal

pub ask-next-requires-clause-table : goal.ask-next-requires-clause-table
ask-next-requires-clause-table g c = c.loop.invariant.follows.table ∙ c.requires.table

pub ask-next-requires-clause-actor : goal.ask-next-requires-clause-actor
ask-next-requires-clause-actor g c = c.loop.invariant.actor ∙ sym c.loop.invariant.follows.actor

pub ask-next-requires-clause-goes_on : goal.ask-next-requires-clause-goes_on
ask-next-requires-clause-goes_on g c = c.loop.invariant.goes_on

pub returns-then-not-goes_on-clause-asked : goal.returns-then-not-goes_on-clause-asked
returns-then-not-goes_on-clause-asked g c =
    let next = c.ask-next in
    let off : next.result.1.goes_on ≡ false = search rules in
    asked_end g.M.Naming.boot (g.G.WatchingGate.was_called c.args.context.now.door.gate.now) c.args.seat c.loop.seat next.result.0 c.loop.side next.result.1 c.loop.invariant next.ensures.asked off

pub returns-then-not-goes_on-clause-actor : goal.returns-then-not-goes_on-clause-actor
returns-then-not-goes_on-clause-actor g c = c.ask-next.ensures.side.0 ∙ c.loop.invariant.actor

pub loop-preserved : goal.loop-preserved
loop-preserved g c =
    let next = c.ask-next in
    let on : next.result.1.goes_on ≡ true = search rules in
    asked_go_on g.M.Naming.boot (g.G.WatchingGate.was_called c.args.context.now.door.gate.now) c.args.seat c.loop.seat next.result.0 c.loop.side next.result.1 c.loop.invariant next.ensures.asked next.ensures.side.0 on
