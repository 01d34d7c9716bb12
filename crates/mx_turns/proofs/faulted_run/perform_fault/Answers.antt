use Rattle.std.proofs.Common.{◌∙◌}
use Rattle.mx_app_step.specs.Machine.{world_of}
use Rattle.mx_turns.proofs.RunLemmas.{next_kept, next_said, next_world}
use Rattle.mx_turns.proofs.faulted_run.perform_fault.Goals as goal

pub loop-line-preserved : goal.loop-line-preserved
loop-line-preserved c =
    let inv = c.loop-line.invariant in
    let i = c.loop-line.line-index in
    let w = world_of c.loop-line.machine in
    let u = world_of c.perform_fault_line-answer.new.machine in
    let answer = c.perform_fault_line-answer.result in
    let made = c.perform_fault_line-answer.ensures.made in
    record {
      said = next_said c.args.other c.args.fault.now i _ c.loop-line-test.true _ c.loop-line.said.items c.push.new.self.items w u answer made c.in_ok-push.ensures.items inv.said;
      world = next_world c.args.other c.args.fault.now i _ c.loop-line-test.true _ w u answer made inv.world;
      kept = next_kept c.args.other c.args.fault.now i _ c.loop-line-test.true _ c.loop-line.machine.kernel c.perform_fault_line-answer.new.machine.kernel w u answer made c.perform_fault_line-answer.ensures.kept inv.kept;
      actors = c.perform_fault_line-answer.ensures.actors ∙ inv.actors;
      cpus = c.perform_fault_line-answer.ensures.cpus ∙ inv.cpus;
    }
