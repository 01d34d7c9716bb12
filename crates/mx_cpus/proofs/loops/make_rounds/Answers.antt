use Rattle.std.proofs.Common.{◌≡◌, ◌∙◌, false, rules, sym, true}
use Rattle.mx_cpus.proofs.LoopLemmas.{respawner_made, rounds_end, rounds_go_on}
use Rattle.mx_cpus.proofs.loops.make_rounds.Goals as goal

pub round_and_question-next-requires-clause-table : goal.round_and_question-next-requires-clause-table
round_and_question-next-requires-clause-table g c = c.loop.invariant.follows.table ∙ c.requires.table

pub round_and_question-next-requires-clause-actor : goal.round_and_question-next-requires-clause-actor
round_and_question-next-requires-clause-actor g c = c.loop.invariant.actor ∙ sym c.loop.invariant.follows.actor

pub round_and_question-next-requires-clause-goes_on : goal.round_and_question-next-requires-clause-goes_on
round_and_question-next-requires-clause-goes_on g c = c.loop.invariant.goes_on

pub returns-then-not-goes_on-clause-course : goal.returns-then-not-goes_on-clause-course
returns-then-not-goes_on-clause-course g c =
    let next = c.round_and_question-next in
    let off : next.result.2 ≡ false = search rules in
    rounds_end g.M.Naming.boot (g.G.WatchingGate.was_called c.args.context.now.door.gate.now) c.args.ticks c.args.seat c.loop.seat next.result.0 c.loop.side next.result.1 c.loop.left c.loop.invariant (next.ensures.ends off)

pub returns-then-not-goes_on-clause-made : goal.returns-then-not-goes_on-clause-made
returns-then-not-goes_on-clause-made g c =
    respawner_made g.M.Naming.boot (g.G.WatchingGate.was_called c.args.context.now.door.gate.now) c.args.ticks c.args.seat c.facts.ensures.mine c.round_and_question-next.result.0 (returns-then-not-goes_on-clause-course g c)

pub returns-then-not-goes_on-clause-side : goal.returns-then-not-goes_on-clause-side
returns-then-not-goes_on-clause-side g c = c.round_and_question-next.ensures.actor ∙ c.loop.invariant.actor

pub loop-preserved : goal.loop-preserved
loop-preserved g c =
    let next = c.round_and_question-next in
    let on : next.result.2 ≡ true = search rules in
    rounds_go_on g.M.Naming.boot (g.G.WatchingGate.was_called c.args.context.now.door.gate.now) c.args.ticks c.args.seat c.loop.seat next.result.0 c.loop.side next.result.1 c.loop.left c.loop.invariant c.saturating_sub-left.result (next.ensures.more on) next.ensures.actor (next.ensures.goes_on on) c.saturating_sub-left.ensures
