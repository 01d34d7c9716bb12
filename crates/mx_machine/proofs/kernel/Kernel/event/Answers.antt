use Rattle.std.proofs.Common.{◌∙◌, ◌++◌, ◌∷◌, [], refl, ap, sym, subst}
use Rattle.mx_machine.specs.Agrees.{IsAtReplay}
use Rattle.std.proofs.Common.{vec_capacity}
use Rattle.std.proofs.lemmas.Result.{err_from_is_err_and}
use Rattle.mx_machine.proofs.ReplayLemmas.{kept_of, opened_sound, act_refused, act_answer, act_is, act_agrees, after_acting, event_actor}
use Rattle.mx_machine.proofs.kernel.Kernel.event.Goals as goal

pub returns-in_err-answer-clause-err : goal.returns-in_err-answer-clause-err
returns-in_err-answer-clause-err c =
    let p = err_from_is_err_and c.from_residual.result c.from_residual.ensures.1 in
    rw (p.1, p.2) (
      act_refused _ _ _ _ c.args.actor c.args.event _ c.self.view_is c.self.invariant c.requires.event c.in_err-answer.ensures.0,
      ap (λ d. kept_of c.self.inside.rules d c.self.inside.processors c.self.inside.records.items) c.in_err-answer.ensures.1 ∙ c.self.view_is,
    )

pub invariant_of-self-2 : goal.invariant_of-self-2
invariant_of-self-2 c = let h = c.in_ok-answer.ensures in
    subst (λ k. IsAtReplay c.act.new.self (vec_capacity c.note.new.records) k) (sym (after_acting c.self.inside.rules _ _ c.self.inside.processors c.args.actor _ _ c.args.event _ h (c.note.ensures.items ∙ ap (λ e. c.self.inside.records.items ++ record { actor = c.args.actor; event = e } ∷ []) c.recorded_as.ensures)))
    (act_agrees _ _ _ _ _ c.args.actor c.args.event _ c.self.invariant (opened_sound _ _ _ _ refl c.self.invariant c.facts.ensures.sound c.facts.ensures.holds) c.requires.event h (record { actor = event_actor _ _ _ _ _ c.self.view_is c.self.invariant c.requires.actor; number = h.number }) c.note.ensures.room)

pub returns-clause-ok : goal.returns-clause-ok
returns-clause-ok c = let h = c.in_ok-answer.ensures in (
  act_answer _ _ _ _ c.args.actor c.args.event _ c.self.view_is c.self.invariant c.requires.event h.answer,
  act_is _ _ _ _ _ c.args.actor c.args.event c.self.view_is c.self.invariant c.requires.event h.accepted
      (after_acting c.self.inside.rules _ _ c.self.inside.processors c.args.actor _ _ c.args.event _ h (c.note.ensures.items ∙ ap (λ e. c.self.inside.records.items ++ record { actor = c.args.actor; event = e } ∷ []) c.recorded_as.ensures)),
)
