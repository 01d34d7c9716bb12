use Rattle.std.proofs.Common.{◌≡◌, ◌∙◌, ◌+◌, ◌-◌, ◌≤◌, Bool, List, true, false, cond, drop, refl, ap, sym, arith}
use Rattle.std.specs.Int.{from_bool}
use Rattle.mx_turns.specs.Made.{outside_events}
use Rattle.mx_turns.specs.declared.outside.OutsideLine.{OutsideLine}
use Rattle.mx_explore.specs.Passages.{passage, standing}
use Rattle.mx_explore.specs.Passing.{passed_turns}
use Rattle.mx_explore.proofs.RunLemmas.{room_stays}
use Rattle.mx_explore.proofs.TurnLemmas.{coming_on, ends_full, ends_last, ends_over, get_drop, goes_on}
use Rattle.mx_explore.proofs.passing.pass_turns.Goals as goal

number : (b : Bool) → from_bool b ≡ cond b 1 0
number true = refl
number false = refl

at_most : (b : Bool) → cond b 1 0 ≤ 1
at_most true = omega arith
at_most false = omega arith

pub loop-init : goal.loop-init
loop-init c = record {
  room = c.requires;
  few = omega arith;
  left = (let p = passage c.args.machine.now (outside_events c.args.outside) (standing c.args.schedule.now) false in let all : c.args.bound ≡ c.args.bound - 0 = omega arith in ap (λ k. passed_turns k p) all);
}

pub loop-preserved : goal.loop-preserved
loop-preserved c =
    let events = outside_events c.args.outside in
    let at = c.loop.place in
    let m = c.loop.machine in
    let n = c.pass_turn.new.machine in
    let t = standing c.pass_turn.new.schedule in
    let gone = c.in_ok-turned.turned.is_gone in
    let full = c.in_ok-turned.turned.is_full in
    let more : at + c.from-place.result ≡ at + cond gone 1 0 = ap (λ k. at + k) (c.from-place.ensures ∙ number gone) in
    record {
      room = room_stays m n c.in_ok-turned.ensures.cpus c.in_ok-turned.ensures.actors c.loop.invariant.room;
      few = (let one : cond gone 1 0 ≤ 1 = at_most gone in let few = c.loop.invariant.few in omega (arith, few, one, more));
      left =
          goes_on (passage c.args.machine.now events (standing c.args.schedule.now) false) c.args.bound events c.loop.counter at m (standing c.loop.schedule) (passage n (cond gone (drop 1 (drop at events)) (drop at events)) t full)
          c.loop-test.true c.loop.invariant.left c.get-next.result c.get-next.ensures (sym c.is_over.ensures ∙ c.if-is_over.false) (c.in_ok-turned.ensures.passed (drop at events) (c.get-next.ensures ∙ sym (get_drop events at))) c.if-turned.false
          ∙ ap (λ (l : List OutsideLine). passed_turns (c.args.bound - (c.loop.counter + 1)) (passage n l t full)) (coming_on events at gone ∙ ap (λ k. drop k events) (sym more))
          ∙ ap (λ (b : Bool). passed_turns (c.args.bound - (c.loop.counter + 1)) (passage n (drop (at + c.from-place.result) events) t b)) c.if-turned.false;
    }

pub returns-then-is_over : goal.returns-then-is_over
returns-then-is_over c =
    let events = outside_events c.args.outside in
    let p = passage c.args.machine.now events (standing c.args.schedule.now) false in (
      drop c.loop.place events,
      false,
      ends_over p c.args.bound events c.loop.counter c.loop.place c.loop.machine (standing c.loop.schedule) c.loop.invariant.left c.get-next.result c.get-next.ensures (sym c.is_over.ensures ∙ c.if-is_over.true),
    )

pub returns-then-turned : goal.returns-then-turned
returns-then-turned c =
    let events = outside_events c.args.outside in
    let p = passage c.args.machine.now events (standing c.args.schedule.now) false in
    let left = cond c.in_ok-turned.turned.is_gone (drop 1 (drop c.loop.place events)) (drop c.loop.place events) in
    let q = passage c.pass_turn.new.machine left (standing c.pass_turn.new.schedule) c.in_ok-turned.turned.is_full in (
      left,
      c.in_ok-turned.turned.is_full,
      ends_full p c.args.bound events c.loop.counter c.loop.place c.loop.machine (standing c.loop.schedule) q c.loop-test.true c.loop.invariant.left c.get-next.result c.get-next.ensures (sym c.is_over.ensures ∙ c.if-is_over.false)
          (c.in_ok-turned.ensures.passed (drop c.loop.place events) (c.get-next.ensures ∙ sym (get_drop events c.loop.place))) c.if-turned.true,
    )

pub returns-then-is_over-2 : goal.returns-then-is_over-2
returns-then-is_over-2 c =
    let events = outside_events c.args.outside in
    let p = passage c.args.machine.now events (standing c.args.schedule.now) false in
    let last : c.loop.counter ≡ c.args.bound = omega (arith, c.loop-test.false, c.loop.auto.counter-end) in (
      drop c.loop.place events,
      false,
      ends_last p c.args.bound events c.loop.counter c.loop.place c.loop.machine (standing c.loop.schedule) c.loop.invariant.left last c.get.result true c.get.ensures (sym c.is_over-2.ensures ∙ c.if-is_over-2.true),
    )

pub returns-else-is_over-2 : goal.returns-else-is_over-2
returns-else-is_over-2 c =
    let events = outside_events c.args.outside in
    let p = passage c.args.machine.now events (standing c.args.schedule.now) false in
    let last : c.loop.counter ≡ c.args.bound = omega (arith, c.loop-test.false, c.loop.auto.counter-end) in (
      drop c.loop.place events,
      false,
      ends_last p c.args.bound events c.loop.counter c.loop.place c.loop.machine (standing c.loop.schedule) c.loop.invariant.left last c.get.result false c.get.ensures (sym c.is_over-2.ensures ∙ c.if-is_over-2.false),
    )
