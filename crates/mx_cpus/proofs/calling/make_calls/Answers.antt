use Rattle.std.proofs.Common.{◌∙◌, ◌≤◌, length, arith}
use Rattle.std.proofs.lemmas.List.{take_all}
use Rattle.mx_cpus.proofs.OutsiderLemmas.{broken_full, broken_stopped, calls_all, calls_full, calls_go_on, calls_stopped, made_all, outsider_made}
use Rattle.mx_cpus.proofs.calling.make_calls.Goals as goal

pub returns-in-Full : goal.returns-in-Full
returns-in-Full g c =
    let boot = g.M.Naming.boot in
    let called = g.G.WatchingGate.was_called c.args.context.now.door.gate.now in
    let xs = c.args.calls.now in
    let next = c.make_call-next in
    let course = calls_full boot called xs c.loop-call.call-index _ c.args.seat c.loop-call.seat next.result.0 c.loop-call.side next.result.2 c.loop-call.invariant c.loop-call-test.true next.ensures.made c.in-Full.is in
    record {
      made = outsider_made boot called xs c.args.seat next.result.0 c.facts.ensures.mine course;
      course = course;
      whole = broken_full boot called xs c.loop-call.call-index _ c.args.seat c.loop-call.seat next.result.0 c.loop-call.side next.result.2 c.loop-call.invariant c.loop-call-test.true next.ensures.made c.in-Full.is;
      side = next.ensures.actor ∙ c.loop-call.invariant.follows.actor;
    }

pub returns-in-Stopped : goal.returns-in-Stopped
returns-in-Stopped g c =
    let boot = g.M.Naming.boot in
    let called = g.G.WatchingGate.was_called c.args.context.now.door.gate.now in
    let xs = c.args.calls.now in
    let next = c.make_call-next in
    let course = calls_stopped boot called xs c.loop-call.call-index _ c.args.seat c.loop-call.seat next.result.0 c.loop-call.side next.result.2 c.loop-call.invariant c.loop-call-test.true next.ensures.made c.in-Stopped.is in
    record {
      made = outsider_made boot called xs c.args.seat next.result.0 c.facts.ensures.mine course;
      course = course;
      whole = broken_stopped boot called xs c.loop-call.call-index _ c.args.seat c.loop-call.seat next.result.0 c.loop-call.side next.result.2 c.loop-call.invariant c.loop-call-test.true next.ensures.made c.in-Stopped.is;
      side = next.ensures.actor ∙ c.loop-call.invariant.follows.actor;
    }

pub loop-call-preserved : goal.loop-call-preserved
loop-call-preserved g c =
    let next = c.make_call-next in
    calls_go_on g.M.Naming.boot (g.G.WatchingGate.was_called c.args.context.now.door.gate.now) c.args.calls.now c.loop-call.call-index _ c.args.seat c.loop-call.seat next.result.0 c.loop-call.side next.result.1 next.result.2
    c.loop-call.invariant c.loop-call-test.true next.ensures.made c.in-Made.is next.ensures.actor next.ensures.goes_on

pub returns-clause-made : goal.returns-clause-made
returns-clause-made g c =
    let boot = g.M.Naming.boot in
    let called = g.G.WatchingGate.was_called c.args.context.now.door.gate.now in
    let xs = c.args.calls.now in
    let k = c.loop-call.call-index in
    let over : length xs ≤ k = omega arith in
    outsider_made boot called xs c.args.seat c.ask_to_end-seat.result.0 c.facts.ensures.mine
    (calls_all boot called xs k c.args.seat c.loop-call.seat c.ask_to_end-seat.result.0 c.loop-call.side c.loop-call.invariant (take_all k xs over) c.ask_to_end-seat.ensures.asked)

pub returns-clause-whole : goal.returns-clause-whole
returns-clause-whole g c =
    let xs = c.args.calls.now in
    let k = c.loop-call.call-index in
    let over : length xs ≤ k = omega arith in
    made_all g.M.Naming.boot (g.G.WatchingGate.was_called c.args.context.now.door.gate.now) xs k c.args.seat c.loop-call.seat c.ask_to_end-seat.result.0 c.loop-call.side c.loop-call.invariant (take_all k xs over) c.ask_to_end-seat.ensures.asked
