use Rattle.std.proofs.Common.{◌∙◌, arith}
use Rattle.mx_explore.specs.Passages.{passage, standing}
use Rattle.mx_explore.specs.Passing.{BackBy}
use Rattle.mx_explore.proofs.PassageLemmas.{all_past, next_past}
use Rattle.mx_explore.proofs.passing.pass_backs.Goals as goal

pub loop-cpu-preserved : goal.loop-cpu-preserved
loop-cpu-preserved c = record {
  passed = λ coming is_full.
      next_past c.args.start BackBy (passage c.args.machine.now coming (standing c.args.schedule.now) is_full) (passage c.loop-cpu.machine coming (standing c.loop-cpu.schedule) is_full) _ c.loop-cpu.cpu
      (c.loop-cpu.invariant.passed coming is_full) (c.in_ok-pass_back.ensures.passed coming is_full);
  cpus = c.in_ok-pass_back.ensures.cpus ∙ c.loop-cpu.invariant.cpus;
  actors = c.in_ok-pass_back.ensures.actors ∙ c.loop-cpu.invariant.actors;
}

pub returns-clause-passed : goal.returns-clause-passed
returns-clause-passed c coming is_full =
    all_past c.args.start BackBy (passage c.args.machine.now coming (standing c.args.schedule.now) is_full) _ c.loop-cpu.cpu c.args.cpus
    (omega (arith, c.loop-cpu-test.false)) (omega (arith, c.loop-cpu.auto.cpu-end)) (c.loop-cpu.invariant.passed coming is_full)
