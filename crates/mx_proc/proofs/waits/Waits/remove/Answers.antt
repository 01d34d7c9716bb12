use Rattle.std.proofs.Common.{refl, ◌∙◌, ap, rules}
use Rattle.mx_proc.specs.Waits.{without_from}
use Rattle.mx_proc.proofs.CallerLemmas.{times_some, sends_below, in_queue, one_left, one_left_pairs}
use Rattle.mx_proc.proofs.waits.Waits.remove.Goals as goal

pub bounds-self-inside-from : goal.bounds-self-inside-from
bounds-self-inside-from c = (sends_below c.args.from c.self.invariant (times_some _ _ _ c.args.from c.self.view_is c.requires)).0

pub remove-requires : goal.remove-requires
remove-requires c = (search rules, (search rules, (times_some _ _ _ c.args.from c.self.view_is c.requires)))

pub remove-requires-2 : goal.remove-requires-2
remove-requires-2 c = (search rules, ((sends_below c.args.from c.self.invariant (times_some _ _ _ c.args.from c.self.view_is c.requires)).1, in_queue c.args.from c.self.invariant (times_some _ _ _ c.args.from c.self.view_is c.requires)))

pub bounds-self-inside-from-2 : goal.bounds-self-inside-from-2
bounds-self-inside-from-2 c = (sends_below c.args.from c.self.invariant (times_some _ _ _ c.args.from c.self.view_is c.requires)).0

pub invariant_of-self : goal.invariant_of-self
invariant_of-self c = one_left c.args.from _ _ _ c.self.invariant (times_some _ _ _ c.args.from c.self.view_is c.requires) refl c.remove.ensures c.remove-2.ensures

pub returns : goal.returns
returns c = one_left_pairs c.args.from _ c.self.invariant c.remove.ensures ∙ ap (without_from c.args.from) c.self.view_is
