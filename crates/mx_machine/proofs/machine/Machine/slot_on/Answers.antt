use Rattle.std.proofs.Common.{◌≡◌, ◌∙◌, sym, subst}
use Rattle.std.specs.Option.{option_map}
use Rattle.mx_machine.specs.World.{HeldProcess, held_by}
use Rattle.mx_machine.specs.Machine.{MachineState, world_of}
use Rattle.mx_machine.proofs.MachineLemmas.{slot-now}
use Rattle.mx_machine.proofs.machine.Machine.slot_on.Goals as goal

pub returns : goal.returns
returns c =
    subst (λ (m : MachineState). c.slot_on.result ≡ option_map (λ (l : HeldProcess). l.slot) (held_by (world_of m) c.args.cpu)) c.self.view_is
    (c.slot_on.ensures ∙ sym (slot-now c.self.inside.kernel c.self.inside.outs c.args.cpu))
