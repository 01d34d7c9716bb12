use Rattle.mx_proc.proofs.ReadyLemmas.{filled_out}
use Rattle.mx_proc.proofs.ready.Ready.remove.Goals as goal

pub invariant_of-self : goal.invariant_of-self
invariant_of-self c = filled_out _ c.args.level c.self.inside.lists _ _ _ c.self.invariant c.requires.level c.remove.ensures c.first.ensures c.if-is_none.ensures
