use Rattle.std.proofs.Common.{◌∙◌, refl, ap, sym, subst, arith}
use Rattle.mx_machine.specs.Agrees.{IsAtReplay}
use Rattle.std.proofs.Common.{vec_capacity}
use Rattle.std.proofs.lemmas.Result.{err_from_is_err_and}
use Rattle.mx_machine.proofs.ReplayLemmas.{kept_of, opened_sound, take_refused, take_is, take_lent, take_agrees, after_taking, is_actor}
use Rattle.mx_machine.proofs.kernel.Kernel.take_into.Goals as goal

pub returns-in_err-take-clause-err : goal.returns-in_err-take-clause-err
returns-in_err-take-clause-err c =
    let p = err_from_is_err_and c.from_residual.result c.from_residual.ensures.1 in
    rw (p.1, p.2) (take_refused _ _ _ _ c.args.cpu _ c.self.view_is c.self.invariant c.in_err-take.ensures.err.0, ap (λ d. kept_of c.self.inside.rules d c.self.inside.processors c.self.inside.records.items) c.in_err-take.ensures.err.1 ∙ c.self.view_is)

pub invariant_of-self-2 : goal.invariant_of-self-2
invariant_of-self-2 c = let t = c.in_ok-take.ensures.ok in
    subst (λ k. IsAtReplay c.take.new.self (vec_capacity c.note.new.records) k) (sym (after_taking c.self.inside.rules _ _ c.self.inside.processors c.args.cpu t.0 _ _ _ t.1 c.note.ensures.items))
    (take_agrees _ _ _ _ _ c.args.cpu t.0 _ c.self.invariant (opened_sound _ _ _ _ refl c.self.invariant c.facts.ensures.sound c.facts.ensures.holds) t.1 c.facts.ensures.holds (record { actor = is_actor _ _ _ c.args.cpu c.self.invariant t.1.processor; number = omega arith }) c.note.ensures.room)

pub returns-clause-ok : goal.returns-clause-ok
returns-clause-ok c = let t = c.in_ok-take.ensures.ok in
    take_is _ _ _ _ _ c.args.cpu c.self.view_is c.self.invariant t.1.accepted (after_taking c.self.inside.rules _ _ c.self.inside.processors c.args.cpu t.0 _ _ _ t.1 c.note.ensures.items)

pub returns-clause-lent : goal.returns-clause-lent
returns-clause-lent c = let t = c.in_ok-take.ensures.ok in
    take_lent _ _ _ _ _ c.args.cpu t.0 _ c.self.invariant t.1 (after_taking c.self.inside.rules _ _ c.self.inside.processors c.args.cpu t.0 _ _ _ t.1 c.note.ensures.items)
