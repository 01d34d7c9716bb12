use Rattle.std.proofs.Common.{◌≡◌, ◌∙◌, false, rules, sym, true}
use Rattle.mx_cpus.proofs.LoopLemmas.{processor_made, turns_end, turns_go_on}
use Rattle.mx_cpus.proofs.loops.make_turns.Goals as goal

pub turn_or_wait-next-requires-clause-table : goal.turn_or_wait-next-requires-clause-table
turn_or_wait-next-requires-clause-table g c = c.loop.invariant.made.follows.table ∙ c.requires.table

pub turn_or_wait-next-requires-clause-actor : goal.turn_or_wait-next-requires-clause-actor
turn_or_wait-next-requires-clause-actor g c = c.loop.invariant.actor ∙ sym c.loop.invariant.made.follows.actor

pub turn_or_wait-next-requires-clause-goes_on : goal.turn_or_wait-next-requires-clause-goes_on
turn_or_wait-next-requires-clause-goes_on g c = c.loop.invariant.goes_on

pub returns-then-not-goes_on-clause-course : goal.returns-then-not-goes_on-clause-course
returns-then-not-goes_on-clause-course g c =
    let next = c.turn_or_wait-next in
    let off : next.result.2 ≡ false = search rules in
    turns_end g.M.Naming.boot (g.G.WatchingGate.was_called c.args.context.now.door.gate.now) c.args.seat c.loop.seat next.result.0 c.loop.side next.result.1 c.loop.invariant (next.ensures.ends off)

pub returns-then-not-goes_on-clause-made : goal.returns-then-not-goes_on-clause-made
returns-then-not-goes_on-clause-made g c =
    processor_made g.M.Naming.boot (g.G.WatchingGate.was_called c.args.context.now.door.gate.now) c.args.seat c.turn_or_wait-next.result.0 c.facts.ensures.mine c.requires.empty (returns-then-not-goes_on-clause-course g c)

pub returns-then-not-goes_on-clause-side : goal.returns-then-not-goes_on-clause-side
returns-then-not-goes_on-clause-side g c = c.turn_or_wait-next.ensures.actor ∙ c.loop.invariant.actor

pub loop-preserved : goal.loop-preserved
loop-preserved g c =
    let next = c.turn_or_wait-next in
    let on : next.result.2 ≡ true = search rules in
    turns_go_on g.M.Naming.boot (g.G.WatchingGate.was_called c.args.context.now.door.gate.now) c.args.seat c.loop.seat next.result.0 c.loop.side next.result.1 c.loop.invariant (next.ensures.more on) next.ensures.actor (next.ensures.goes_on on)
