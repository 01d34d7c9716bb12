use Rattle.std.proofs.Common.{◌≡◌, ◌∙◌, ◌<◌, length, Some, None, refl, subst, arith}
use Rattle.mx_machine.specs.World.{HeldProcess, held_by}
use Rattle.mx_machine.specs.Machine.{MachineState, world_of}
use Rattle.mx_machine.proofs.DoneLemmas.{any_default, lends, lends_none, none_beyond}
use Rattle.mx_machine.proofs.MachineLemmas.{held-now}
use Rattle.mx_machine.proofs.machine.Machine.out.Goals as goal

pub returns-then-cpu-ge8 : goal.returns-then-cpu-ge8
returns-then-cpu-ge8 c = none_beyond c.args.self.now.kernel c.args.self.now.outs c.args.cpu c.facts.ensures (omega arith)

pub returns-in-Some : goal.returns-in-Some
returns-in-Some c =
    let k = c.self.inside.kernel in
    let os = c.self.inside.outs in
    let below : c.args.cpu < length os = omega (arith, c.self.invariant.places) in
    let at = any_default os c.args.cpu None c.index-self-cpu.result below ∙ c.in-Some.ensures in
    let l = lends k os c.args.cpu c.in-Some.out.now c.self.invariant at in
    subst (λ (m : MachineState). (x : HeldProcess) × held_by (world_of m) c.args.cpu ≡ Some x × c.in-Some.out.now ≡ x.out) c.self.view_is
    (record l.lent { out = c.in-Some.out.now }, held-now k os c.args.cpu l.lent c.in-Some.out.now l.is at, refl)

pub returns-in-None : goal.returns-in-None
returns-in-None c =
    let os = c.self.inside.outs in
    let below : c.args.cpu < length os = omega (arith, c.self.invariant.places) in
    subst (λ (m : MachineState). held_by (world_of m) c.args.cpu ≡ None) c.self.view_is
    (lends_none c.self.inside.kernel os c.args.cpu c.self.invariant (any_default os c.args.cpu None c.index-self-cpu.result below ∙ c.in-None.ensures))
