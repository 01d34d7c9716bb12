use Rattle.std.proofs.Common.{◌≡◌, ◌<◌, ◌≤◌, ◌+◌, ◌-◌, ap, subst, length, arith}
use Rattle.mx_walk.specs.declared.positions.Position.{Position}
use Rattle.mx_walk.specs.Positions.{IsAt}
use Rattle.mx_walk.proofs.Along.{any_record, at, halted_in, is_few, is_inside, steps_on}
use Rattle.mx_walk.proofs.walking_forward.go_in_record.Goals as goal

pub returns-in-Ok-clause-there : goal.returns-in-Ok-clause-there
returns-in-Ok-clause-there c =
    let k = c.args.to.records in
    let rs = c.args.records.now in
    let m = c.args.machine.now in
    let b : k < length rs = is_inside rs c.args.to c.requires.to (omega (arith, c.requires.later, c.if-from-to.false)) in
    let all : c.args.from.steps + (c.args.to.steps - c.args.from.steps) ≡ c.args.to.steps = omega (arith, c.requires.later) in
    let from : IsAt m.kernel.boot rs (at k c.args.from.steps) m = subst (λ (p : Position). IsAt m.kernel.boot rs p m) (ap (λ r. at r c.args.from.steps) c.requires.same) c.requires.there in
    subst (λ j. IsAt m.kernel.boot rs (at k j) c.make_steps.new.machine) all
    (steps_on rs k any_record b m.kernel.boot m c.make_steps.new.machine c.args.from.steps (c.args.to.steps - c.args.from.steps) from (ap (λ k. k.boot) c.make_steps.ensures.kernel) c.in-Ok.ensures.ok
    (omega (arith, all, is_few rs k any_record b c.args.to.steps c.requires.to)))

pub returns-in-Err-clause-there : goal.returns-in-Err-clause-there
returns-in-Err-clause-there c =
    let k = c.args.to.records in
    let rs = c.args.records.now in
    let m = c.args.machine.now in
    let b : k < length rs = is_inside rs c.args.to c.requires.to (omega (arith, c.requires.later, c.if-from-to.false)) in
    let h = c.in-Err.ensures.err in
    let few : c.args.from.steps + c.in-Err.halted.made ≤ c.args.to.steps = omega (arith, h.0, c.requires.later) in
    let from : IsAt m.kernel.boot rs (at k c.args.from.steps) m = subst (λ (p : Position). IsAt m.kernel.boot rs p m) (ap (λ r. at r c.args.from.steps) c.requires.same) c.requires.there in
    steps_on rs k any_record b m.kernel.boot m c.make_steps.new.machine c.args.from.steps c.in-Err.halted.made from (ap (λ k. k.boot) c.make_steps.ensures.kernel) h.1
    (omega (arith, few, is_few rs k any_record b c.args.to.steps c.requires.to))

pub returns-in-Err-clause-halted : goal.returns-in-Err-clause-halted
returns-in-Err-clause-halted c =
    let k = c.args.to.records in
    let rs = c.args.records.now in
    let m = c.args.machine.now in
    let b : k < length rs = is_inside rs c.args.to c.requires.to (omega (arith, c.requires.later, c.if-from-to.false)) in
    let h = c.in-Err.ensures.err in
    let few : c.args.from.steps + c.in-Err.halted.made ≤ c.args.to.steps = omega (arith, h.0, c.requires.later) in
    let from : IsAt m.kernel.boot rs (at k c.args.from.steps) m = subst (λ (p : Position). IsAt m.kernel.boot rs p m) (ap (λ r. at r c.args.from.steps) c.requires.same) c.requires.there in
    let most = is_few rs k any_record b c.args.to.steps c.requires.to in
    let there : IsAt m.kernel.boot rs (at k (c.args.from.steps + c.in-Err.halted.made)) c.make_steps.new.machine =
    steps_on rs k any_record b m.kernel.boot m c.make_steps.new.machine c.args.from.steps c.in-Err.halted.made from (ap (λ k. k.boot) c.make_steps.ensures.kernel) h.1 (omega (arith, few, most)) in
    halted_in rs k any_record b m.kernel.boot c.make_steps.new.machine c.args.from.steps c.in-Err.halted.made c.args.to.steps there c.requires.later most (omega (arith, h.0)) (λ _. (c.in-Err.halted.refusal, h.2))
