use Rattle.std.proofs.Common.{◌++◌, ◌∷◌, [], ◌∙◌, ap, arith, rules}
use Rattle.mx_proc.proofs.CallerLemmas.{times_none, in_no_order, in_no_queue, few_call, one_calls, one_calls_pairs}
use Rattle.mx_proc.proofs.waits.Waits.push.Goals as goal

pub push_back-requires : goal.push_back-requires
push_back-requires c = (search rules, (search rules, (c.requires.from, in_no_order c.args.from c.self.invariant (times_none _ _ _ c.args.from c.self.view_is c.requires.absent))))

pub push_back-requires-2 : goal.push_back-requires-2
push_back-requires-2 c = (search rules, (c.requires.to, (c.requires.from, in_no_queue c.args.from c.self.invariant (times_none _ _ _ c.args.from c.self.view_is c.requires.absent))))

pub overflow_add-self : goal.overflow_add-self
overflow_add-self c = omega (arith, few_call c.args.from c.self.invariant c.requires.from (times_none _ _ _ c.args.from c.self.view_is c.requires.absent))

pub invariant_of-self : goal.invariant_of-self
invariant_of-self c = one_calls c.args.from c.args.to _ _ c.self.invariant c.requires.from c.requires.to (times_none _ _ _ c.args.from c.self.view_is c.requires.absent) c.push_back.ensures c.push_back-2.ensures

pub returns : goal.returns
returns c = one_calls_pairs c.args.from c.args.to _ c.self.invariant c.requires.from (times_none _ _ _ c.args.from c.self.view_is c.requires.absent) c.push_back.ensures ∙ ap (λ l. l ++ (c.args.from, c.args.to) ∷ []) c.self.view_is
