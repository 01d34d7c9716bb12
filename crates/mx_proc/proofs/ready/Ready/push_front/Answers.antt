use Rattle.std.proofs.Common.{refl}
use Rattle.mx_proc.proofs.ReadyLemmas.{filled_more}
use Rattle.mx_proc.proofs.ready.Ready.push_front.Goals as goal

pub invariant_of-self : goal.invariant_of-self
invariant_of-self c = filled_more _ c.args.level c.self.inside.lists _ _ c.self.invariant c.requires.level refl c.push_front.ensures
