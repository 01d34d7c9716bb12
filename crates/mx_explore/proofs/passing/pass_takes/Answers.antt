use Rattle.std.proofs.Common.{◌∙◌, false, true, refl, ap, sym, arith}
use Rattle.mx_explore.specs.Passages.{passage, standing}
use Rattle.mx_explore.specs.Passing.{TakeBy}
use Rattle.mx_explore.proofs.PassageLemmas.{all_past, full_past, next_past, takes_need}
use Rattle.mx_explore.proofs.passing.pass_takes.Goals as goal

pub loop-cpu-preserved : goal.loop-cpu-preserved
loop-cpu-preserved c = record {
  passed = λ coming.
      next_past c.args.start TakeBy (passage c.args.machine.now coming (standing c.args.schedule.now) false) (passage c.loop-cpu.machine coming (standing c.loop-cpu.schedule) false) _ c.loop-cpu.cpu
      (c.loop-cpu.invariant.passed coming) (ap (passage c.pass_take.new.machine coming (standing c.pass_take.new.schedule)) (sym c.if-is_full.false) ∙ c.in_ok-is_full.ensures.passed coming);
  cpus = c.in_ok-is_full.ensures.cpus ∙ c.loop-cpu.invariant.cpus;
  actors = c.in_ok-is_full.ensures.actors ∙ c.loop-cpu.invariant.actors;
}

pub returns-then-is_full-clause-passed : goal.returns-then-is_full-clause-passed
returns-then-is_full-clause-passed c coming =
    full_past c.args.start TakeBy takes_need (passage c.args.machine.now coming (standing c.args.schedule.now) false) (passage c.loop-cpu.machine coming (standing c.loop-cpu.schedule) false) _ c.loop-cpu.cpu c.args.cpus
    (omega (arith, c.loop-cpu-test.true)) (c.loop-cpu.invariant.passed coming) (ap (passage c.pass_take.new.machine coming (standing c.pass_take.new.schedule)) (sym c.if-is_full.true) ∙ c.in_ok-is_full.ensures.passed coming) refl

pub returns-clause-passed : goal.returns-clause-passed
returns-clause-passed c coming =
    all_past c.args.start TakeBy (passage c.args.machine.now coming (standing c.args.schedule.now) false) _ c.loop-cpu.cpu c.args.cpus
    (omega (arith, c.loop-cpu-test.false)) (omega (arith, c.loop-cpu.auto.cpu-end)) (c.loop-cpu.invariant.passed coming)
