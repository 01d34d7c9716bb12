use Rattle.std.proofs.Common.{◌≡◌, ◌∙◌, sym, subst}
use Rattle.mx_machine.specs.World.{actors}
use Rattle.mx_machine.specs.Machine.{MachineState, world_of}
use Rattle.mx_machine.proofs.DoneLemmas.{actors-now, on}
use Rattle.mx_machine.proofs.machine.Machine.actors.Goals as goal

pub returns : goal.returns
returns c = subst (λ (m : MachineState). c.actors.result ≡ actors (world_of m)) c.self.view_is (c.actors.ensures ∙ sym (actors-now (on c.self.inside.kernel c.self.inside.outs)))
