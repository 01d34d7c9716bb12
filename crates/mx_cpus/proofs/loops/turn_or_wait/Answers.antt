use Rattle.std.proofs.Common.{◌≡◌, ◌∙◌, ℕ, Result, false, inr, subst, sym}
use Rattle.std.specs.Prelude.{OnOk}
use Rattle.mx_machine.specs.declared.events.Refusal.{Refusal}
use Rattle.mx_cpus.specs.Courses.{IsTurn, turn_number}
use Rattle.mx_cpus.proofs.LoopLemmas.{IsCounted, one_turn, turn_to}
use Rattle.mx_cpus.proofs.loops.turn_or_wait.Goals as goal

pub ask_stop-side-requires : goal.ask_stop-side-requires
ask_stop-side-requires g c = record {
  goes_on = (subst (λ (r : Result (Unit {0}) Refusal). OnOk r (IsCounted c.args.side c.make_turn-seat.result.1)) c.in-Ok.is c.make_turn-seat.ensures.counted).2;
}

pub returns-in-Ok-clause-more : goal.returns-in-Ok-clause-more
returns-in-Ok-clause-more g c = λ on n number.
    let s = c.args.seat in
    let made = c.make_turn-seat in
    let asked = c.ask_stop-side in
    let called = g.G.WatchingGate.was_called c.args.context.now.door.gate.now in
    let turn = subst (λ (r : Result (Unit {0}) Refusal). OnOk r ((i : ℕ) → c.args.side.turn ≡ turn_number i → IsTurn g.M.Naming.boot called i s made.result.0)) c.in-Ok.is made.ensures.turn in
    let counted = subst (λ (r : Result (Unit {0}) Refusal). OnOk r (IsCounted c.args.side made.result.1)) c.in-Ok.is made.ensures.counted in
    one_turn g.M.Naming.boot called s made.result.0 c.args.side made.result.1 asked.result turn counted c.requires.actor asked.ensures.called n number (sym c.goes_on-goes_on.ensures ∙ on) asked.ensures.side.1

pub returns-in-Ok-clause-ends : goal.returns-in-Ok-clause-ends
returns-in-Ok-clause-ends g c = λ off n number.
    let s = c.args.seat in
    let made = c.make_turn-seat in
    let asked = c.ask_stop-side in
    let called = g.G.WatchingGate.was_called c.args.context.now.door.gate.now in
    let turn = subst (λ (r : Result (Unit {0}) Refusal). OnOk r ((i : ℕ) → c.args.side.turn ≡ turn_number i → IsTurn g.M.Naming.boot called i s made.result.0)) c.in-Ok.is made.ensures.turn in
    let counted = subst (λ (r : Result (Unit {0}) Refusal). OnOk r (IsCounted c.args.side made.result.1)) c.in-Ok.is made.ensures.counted in
    inr (inr (turn_to g.M.Naming.boot called s made.result.0 c.args.side made.result.1 asked.result turn counted c.requires.actor asked.ensures.called n number false (sym c.goes_on-goes_on.ensures ∙ off)))

pub returns-in-Ok-clause-actor : goal.returns-in-Ok-clause-actor
returns-in-Ok-clause-actor g c =
    c.ask_stop-side.ensures.side.0 ∙ (subst (λ (r : Result (Unit {0}) Refusal). OnOk r (IsCounted c.args.side c.make_turn-seat.result.1)) c.in-Ok.is c.make_turn-seat.ensures.counted).0

pub returns-in-Ok-clause-goes_on : goal.returns-in-Ok-clause-goes_on
returns-in-Ok-clause-goes_on g c = λ on. sym c.goes_on-goes_on.ensures ∙ on
