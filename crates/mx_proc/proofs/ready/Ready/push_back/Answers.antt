use Rattle.mx_proc.specs.Queues.{list_at}
use Rattle.mx_proc.proofs.ReadyLemmas.{filled_more, some_in-end}
use Rattle.mx_proc.proofs.ready.Ready.push_back.Goals as goal

pub invariant_of-self : goal.invariant_of-self
invariant_of-self c = filled_more _ c.args.level c.self.inside.lists _ _ c.self.invariant c.requires.level (some_in-end c.args.slot (list_at c.self.inside.lists c.args.level)) c.push_back.ensures
