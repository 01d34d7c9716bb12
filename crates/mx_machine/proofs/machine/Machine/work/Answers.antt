use Rattle.std.proofs.Common.{◌≡◌, ◌<◌, get_or, length, None, OnOk, IfErr, slice_set, refl, ap, subst, arith}
use Rattle.mx_machine.specs.declared.events.Refusal.TheVariants.{CpuEmpty}
use Rattle.mx_machine.specs.World.{HeldProcess, held_by}
use Rattle.mx_machine.specs.Machine.{HasWorked, MachineState, world_of}
use Rattle.mx_machine.proofs.DoneLemmas.{actors-of_kernel, any_default, none_beyond, on, worked}
use Rattle.mx_machine.proofs.machine.Machine.work.Goals as goal

pub returns-then-cpu-ge8-clause-err : goal.returns-then-cpu-ge8-clause-err
returns-then-cpu-ge8-clause-err g c = (refl, none_beyond c.args.self.now.kernel c.args.self.now.outs c.args.cpu c.facts.ensures (omega arith), refl, refl)

pub invariant_of-self : goal.invariant_of-self
invariant_of-self g c =
    let os = c.self.inside.outs in
    let below : c.args.cpu < length os = omega (arith, c.self.invariant.places) in
    (worked c.self.inside.kernel os c.args.cpu (get_or os c.args.cpu c.index-self-cpu.result) c.work_held.new.held c.work_held.result (λ o. g.T.Tool.steps c.args.tool.now o) (λ o. g.T.Tool.Becomes c.args.tool.now o c.work_held.new.tool) (c.work_held.new.tool ≡ c.args.tool.now)
    below c.self.invariant (any_default os c.args.cpu None c.index-self-cpu.result below) c.work_held.ensures.none c.work_held.ensures.some).running

pub returns-clause-ok : goal.returns-clause-ok
returns-clause-ok g c =
    let os = c.self.inside.outs in
    let below : c.args.cpu < length os = omega (arith, c.self.invariant.places) in
    subst (λ (m : MachineState). OnOk c.work_held.result ((l : HeldProcess) × HasWorked (world_of m) (world_of (on c.self.inside.kernel (slice_set os c.args.cpu c.work_held.new.held))) c.args.cpu (g.T.Tool.steps c.args.tool.now l.out) l × g.T.Tool.Becomes c.args.tool.now l.out c.work_held.new.tool)) c.self.view_is
    (worked c.self.inside.kernel os c.args.cpu (get_or os c.args.cpu c.index-self-cpu.result) c.work_held.new.held c.work_held.result (λ o. g.T.Tool.steps c.args.tool.now o) (λ o. g.T.Tool.Becomes c.args.tool.now o c.work_held.new.tool) (c.work_held.new.tool ≡ c.args.tool.now)
    below c.self.invariant (any_default os c.args.cpu None c.index-self-cpu.result below) c.work_held.ensures.none c.work_held.ensures.some).ok

pub returns-clause-err : goal.returns-clause-err
returns-clause-err g c =
    let os = c.self.inside.outs in
    let below : c.args.cpu < length os = omega (arith, c.self.invariant.places) in
    subst (λ (m : MachineState). IfErr c.work_held.result (λ e. (e ≡ CpuEmpty) × (held_by (world_of m) c.args.cpu ≡ None) × (on c.self.inside.kernel (slice_set os c.args.cpu c.work_held.new.held) ≡ m) × (c.work_held.new.tool ≡ c.args.tool.now))) c.self.view_is
    (worked c.self.inside.kernel os c.args.cpu (get_or os c.args.cpu c.index-self-cpu.result) c.work_held.new.held c.work_held.result (λ o. g.T.Tool.steps c.args.tool.now o) (λ o. g.T.Tool.Becomes c.args.tool.now o c.work_held.new.tool) (c.work_held.new.tool ≡ c.args.tool.now)
    below c.self.invariant (any_default os c.args.cpu None c.index-self-cpu.result below) c.work_held.ensures.none c.work_held.ensures.some).err

pub returns-clause-actors : goal.returns-clause-actors
returns-clause-actors g c =
    actors-of_kernel c.args.self.now (on c.self.inside.kernel (slice_set c.self.inside.outs c.args.cpu c.work_held.new.held)) (ap (λ (m : MachineState). m.kernel) c.self.view_is)
