use Rattle.std.proofs.Common.{refl}
use Rattle.mx_machine.proofs.ReplayLemmas.{opened_sound, opened_accepted, opened_history, opened_written, opened_fresh, opened_few}
use Rattle.mx_machine.proofs.KernelSoundLemmas.{opened_booted}
use Rattle.mx_machine.proofs.kernel.Kernel.facts.Goals as goal

pub returns-clause-sound : goal.returns-clause-sound
returns-clause-sound c = opened_sound _ _ _ _ c.self.view_is c.self.invariant c.facts.ensures.sound c.facts.ensures.holds

pub returns-clause-accepted : goal.returns-clause-accepted
returns-clause-accepted c = opened_accepted _ _ _ _ c.self.view_is c.self.invariant

pub returns-clause-written : goal.returns-clause-written
returns-clause-written c = opened_written _ _ _ _ c.self.view_is c.self.invariant

pub returns-clause-fresh : goal.returns-clause-fresh
returns-clause-fresh c = opened_fresh _ _ _ _ c.self.view_is c.self.invariant

pub returns-clause-few : goal.returns-clause-few
returns-clause-few c = opened_few _ _ _ _ c.self.view_is c.self.invariant refl

pub returns-clause-history : goal.returns-clause-history
returns-clause-history c = opened_history _ _ _ _ c.self.view_is c.self.invariant

pub returns-clause-booted : goal.returns-clause-booted
returns-clause-booted c = opened_booted _ _ _ _ _ _ _ c.self.view_is
