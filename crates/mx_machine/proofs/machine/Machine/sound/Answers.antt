use Rattle.std.proofs.Common.{subst}
use Rattle.mx_machine.specs.Sound.{IsSound}
use Rattle.mx_machine.specs.Machine.{MachineState, world_of}
use Rattle.mx_machine.proofs.DoneLemmas.{on}
use Rattle.mx_machine.proofs.SoundLemmas.{is-sound}
use Rattle.mx_machine.proofs.machine.Machine.sound.Goals as goal

pub returns : goal.returns
returns c = subst (λ (m : MachineState). IsSound (world_of m)) c.self.view_is (is-sound (on c.self.inside.kernel c.self.inside.outs) c.self.invariant c.facts.ensures.sound)
