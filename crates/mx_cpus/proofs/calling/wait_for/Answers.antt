use Rattle.std.proofs.Common.{◌≡◌, ◌<◌, ◌-◌, arith, rules, false, subst, sym}
use Rattle.std.proofs.lemmas.Option.{MatchOption-at_none, MatchOption-at_some}
use Rattle.mx_cpus.specs.Outsiders.{IsStopped}
use Rattle.mx_cpus.proofs.OutsiderLemmas.{looks_go_on, looks_stop}
use Rattle.mx_cpus.proofs.calling.wait_for.Goals as goal

pub returns-in-None-far-clause-waits : goal.returns-in-None-far-clause-waits
returns-in-None-far-clause-waits g c =
    let boot = g.M.Naming.boot in
    let called = g.G.WatchingGate.was_called c.args.context.now.door.gate.now in
    let busy : c.loop.seen.at_rest ≡ false = search rules in
    let few : c.loop.seen.records - c.how_far-seat.result.1.records < c.args.more = omega (arith, c.saturating_sub.ensures) in
    let next = c.ask_and_look-next in
    let ends = MatchOption-at_none _ _ c.in-None-far.is next.ensures.ends in
    subst (λ t. IsStopped boot called c.args.more c.args.seat t) (sym ends.1)
    (looks_stop boot called c.args.more c.args.seat c.how_far-seat.result.0 c.loop.seat c.loop.side next.result.1 c.how_far-seat.result.1 c.loop.seen
    c.loop.invariant c.how_far-seat.ensures.rest c.how_far-seat.ensures.records busy few next.ensures.seen next.ensures.called ends.0)

pub loop-preserved : goal.loop-preserved
loop-preserved g c =
    let busy : c.loop.seen.at_rest ≡ false = search rules in
    let few : c.loop.seen.records - c.how_far-seat.result.1.records < c.args.more = omega (arith, c.saturating_sub.ensures) in
    let next = c.ask_and_look-next in
    let looks = MatchOption-at_some _ _ c.in-Some-far.far c.in-Some-far.is next.ensures.looks in
    looks_go_on g.M.Naming.boot (g.G.WatchingGate.was_called c.args.context.now.door.gate.now) c.args.more c.how_far-seat.result.0 c.loop.seat next.result.0 c.loop.side next.result.1 c.how_far-seat.result.1 c.loop.seen c.in-Some-far.far
    c.loop.invariant c.how_far-seat.ensures.records busy few next.ensures.seen next.ensures.called next.ensures.actor looks.0 looks.1 looks.2
