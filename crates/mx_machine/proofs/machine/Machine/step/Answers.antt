use Rattle.std.proofs.Common.{◌≡◌, ◌∙◌, ap, get_or, ◌<◌, length, None, slice_set, subst, arith}
use Rattle.mx_machine.specs.declared.events.Event.TheVariants.{Step}
use Rattle.mx_machine.specs.Move.{move}
use Rattle.mx_machine.specs.Machine.{MachineState, world_of}
use Rattle.mx_machine.proofs.DoneLemmas.{any_default, none_beyond, on, step-done, step-kept}
use Rattle.mx_machine.proofs.MachineLemmas.{empty-refused}
use Rattle.mx_machine.proofs.machine.Machine.step.Goals as goal

pub returns-then-cpu-ge8-clause-moved : goal.returns-then-cpu-ge8-clause-moved
returns-then-cpu-ge8-clause-moved c = empty-refused (world_of c.args.self.now) c.args.cpu Step tt (none_beyond c.args.self.now.kernel c.args.self.now.outs c.args.cpu c.facts.ensures (omega arith))

pub invariant_of-self : goal.invariant_of-self
invariant_of-self c =
    let os = c.self.inside.outs in
    let below : c.args.cpu < length os = omega (arith, c.self.invariant.places) in
    let at = any_default os c.args.cpu None c.index-self-cpu.result below in
    (step-done c.self.inside.kernel os c.args.cpu (get_or os c.args.cpu c.index-self-cpu.result) c.step_held.new.held c.step_held.result below c.self.invariant at c.step_held.ensures).running

pub returns-clause-moved : goal.returns-clause-moved
returns-clause-moved c =
    let os = c.self.inside.outs in
    let below : c.args.cpu < length os = omega (arith, c.self.invariant.places) in
    let at = any_default os c.args.cpu None c.index-self-cpu.result below in
    let d = step-done c.self.inside.kernel os c.args.cpu (get_or os c.args.cpu c.index-self-cpu.result) c.step_held.new.held c.step_held.result below c.self.invariant at c.step_held.ensures in
    subst (λ (m : MachineState). move (world_of m) c.args.cpu Step ≡ (c.step_held.result, world_of (on c.self.inside.kernel (slice_set os c.args.cpu c.step_held.new.held)))) c.self.view_is d.world

pub returns-clause-recorded : goal.returns-clause-recorded
returns-clause-recorded c = ap (λ (m : MachineState). m.kernel) c.self.view_is ∙ step-kept c.args.self.now.kernel c.args.cpu c.step_held.result
