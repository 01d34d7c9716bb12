use Rattle.std.proofs.Common.{◌≡◌, ◌∙◌, ◌<◌, ap, sym, subst}
use Rattle.mx_machine.specs.KernelState.{recorded_as}
use Rattle.mx_machine.specs.Move.{move}
use Rattle.mx_machine.specs.World.{actors}
use Rattle.mx_machine.specs.Machine.{MachineState, kept_after, world_of}
use Rattle.mx_machine.proofs.DoneLemmas.{actors-now, on, ruled, ruled-kept}
use Rattle.mx_machine.proofs.machine.Machine.rule.Goals as goal

pub event-requires-clause-actor : goal.event-requires-clause-actor
event-requires-clause-actor c =
    let b : c.args.actor < actors (world_of (on c.self.inside.kernel c.self.inside.outs)) =
    subst (λ (m : MachineState). c.args.actor < actors (world_of m)) (sym c.self.view_is) c.requires.actor in
    subst (λ n. c.args.actor < n) (actors-now (on c.self.inside.kernel c.self.inside.outs)) b

pub invariant_of-self : goal.invariant_of-self
invariant_of-self c = (ruled c.self.inside.kernel c.event.new.self c.self.inside.outs c.args.actor c.args.event c.event.result (recorded_as c.args.event) c.self.invariant c.requires.event c.event.ensures.ok c.event.ensures.err).running

pub returns-clause-moved : goal.returns-clause-moved
returns-clause-moved c =
    let r = ruled c.self.inside.kernel c.event.new.self c.self.inside.outs c.args.actor c.args.event c.event.result (recorded_as c.args.event) c.self.invariant c.requires.event c.event.ensures.ok c.event.ensures.err in
    subst (λ (m : MachineState). move (world_of m) c.args.actor c.args.event ≡ (c.event.result, world_of (on c.event.new.self c.self.inside.outs))) c.self.view_is r.world

pub returns-clause-recorded : goal.returns-clause-recorded
returns-clause-recorded c =
    ruled-kept c.self.inside.kernel c.event.new.self c.args.actor c.args.event c.event.result c.requires.event c.event.ensures.ok c.event.ensures.err
    ∙ ap (λ (m : MachineState). kept_after m.kernel c.args.actor c.args.event c.event.result) c.self.view_is
