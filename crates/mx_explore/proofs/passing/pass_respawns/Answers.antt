use Rattle.std.proofs.Common.{◌∙◌, false, true, refl, ap, sym, arith}
use Rattle.mx_explore.specs.Passages.{passage, standing}
use Rattle.mx_explore.specs.Passing.{NewIn}
use Rattle.mx_explore.proofs.PassageLemmas.{all_past, full_past, next_past, respawns_need}
use Rattle.mx_explore.proofs.passing.pass_respawns.Goals as goal

pub loop-slot-preserved : goal.loop-slot-preserved
loop-slot-preserved c = record {
  passed = λ coming.
      next_past c.args.start NewIn (passage c.args.machine.now coming (standing c.args.schedule.now) false) (passage c.loop-slot.machine coming (standing c.loop-slot.schedule) false) _ c.loop-slot.slot
      (c.loop-slot.invariant.passed coming) (ap (passage c.pass_respawn.new.machine coming (standing c.pass_respawn.new.schedule)) (sym c.if-is_full.false) ∙ c.in_ok-is_full.ensures.passed coming);
  cpus = c.in_ok-is_full.ensures.cpus ∙ c.loop-slot.invariant.cpus;
  actors = c.in_ok-is_full.ensures.actors ∙ c.loop-slot.invariant.actors;
}

pub returns-then-is_full-clause-passed : goal.returns-then-is_full-clause-passed
returns-then-is_full-clause-passed c coming =
    full_past c.args.start NewIn respawns_need (passage c.args.machine.now coming (standing c.args.schedule.now) false) (passage c.loop-slot.machine coming (standing c.loop-slot.schedule) false) _ c.loop-slot.slot c.args.slots
    (omega (arith, c.loop-slot-test.true)) (c.loop-slot.invariant.passed coming) (ap (passage c.pass_respawn.new.machine coming (standing c.pass_respawn.new.schedule)) (sym c.if-is_full.true) ∙ c.in_ok-is_full.ensures.passed coming) refl

pub returns-clause-passed : goal.returns-clause-passed
returns-clause-passed c coming =
    all_past c.args.start NewIn (passage c.args.machine.now coming (standing c.args.schedule.now) false) _ c.loop-slot.slot c.args.slots
    (omega (arith, c.loop-slot-test.false)) (omega (arith, c.loop-slot.auto.slot-end)) (c.loop-slot.invariant.passed coming)
