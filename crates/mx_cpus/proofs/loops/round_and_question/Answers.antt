use Rattle.std.proofs.Common.{◌∙◌, inl, inr, nat_lt, subst, sym}
use Rattle.mx_cpus.specs.Courses.{IsAsked}
use Rattle.mx_cpus.specs.Progresses.{IsRoundTo}
use Rattle.mx_cpus.proofs.LoopLemmas.{round_made}
use Rattle.mx_cpus.proofs.loops.round_and_question.Goals as goal

pub ask-seat-requires-clause-table : goal.ask-seat-requires-clause-table
ask-seat-requires-clause-table g c =
    let next = c.make_round-seat.result.0 in
    let round = subst (IsRoundTo g.M.Naming.boot c.args.left c.args.seat next) c.in-GoesOn.is c.make_round-seat.ensures in
    (round_made g.M.Naming.boot c.args.left c.args.seat next c.facts.ensures.mine round).follows.table ∙ c.requires.table

pub ask-seat-requires-clause-actor : goal.ask-seat-requires-clause-actor
ask-seat-requires-clause-actor g c =
    let next = c.make_round-seat.result.0 in
    let round = subst (IsRoundTo g.M.Naming.boot c.args.left c.args.seat next) c.in-GoesOn.is c.make_round-seat.ensures in
    c.requires.actor ∙ sym (round_made g.M.Naming.boot c.args.left c.args.seat next c.facts.ensures.mine round).follows.actor

pub returns-in-Full-clause-ends : goal.returns-in-Full-clause-ends
returns-in-Full-clause-ends g c = λ off.
    inl (subst (IsRoundTo g.M.Naming.boot c.args.left c.args.seat c.make_round-seat.result.0) c.in-Full.is c.make_round-seat.ensures)

pub returns-in-GoesOn-clause-more : goal.returns-in-GoesOn-clause-more
returns-in-GoesOn-clause-more g c = λ on.
    let boot = g.M.Naming.boot in
    let called = g.G.WatchingGate.was_called c.args.context.now.door.gate.now in
    let next = c.make_round-seat.result.0 in
    let round = subst (IsRoundTo boot c.args.left c.args.seat next) c.in-GoesOn.is c.make_round-seat.ensures in
    (next, round, subst (IsAsked boot called (nat_lt c.args.left 2) next c.ask-seat.result.0) (sym c.goes_on-goes_on.ensures ∙ on) c.ask-seat.ensures.asked)

pub returns-in-GoesOn-clause-ends : goal.returns-in-GoesOn-clause-ends
returns-in-GoesOn-clause-ends g c = λ off.
    let boot = g.M.Naming.boot in
    let called = g.G.WatchingGate.was_called c.args.context.now.door.gate.now in
    let next = c.make_round-seat.result.0 in
    let round = subst (IsRoundTo boot c.args.left c.args.seat next) c.in-GoesOn.is c.make_round-seat.ensures in
    inr (next, round, subst (IsAsked boot called (nat_lt c.args.left 2) next c.ask-seat.result.0) (sym c.goes_on-goes_on.ensures ∙ off) c.ask-seat.ensures.asked)
