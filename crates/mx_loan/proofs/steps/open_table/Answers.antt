use Rattle.std.proofs.Common.{◌≡◌, ◌∙◌, ℕ, List, ◌∷◌, [], sym, subst, replicate, rules}
use Rattle.mx_loan.specs.Rule.{RuleHolds, founder_view}
use Rattle.mx_loan.specs.declared.knowledge.TableSizes.{TableSizes}
use Rattle.mx_loan.proofs.Moves.{begins}
use Rattle.mx_loan.proofs.steps.open_table.Goals as goal

pub of_words-requires : goal.of_words-requires
of_words-requires c =
    let all : c.in_ok-words.words.items ≡ replicate c.args.actors 0 = search rules in
    let n : TableSizes = record { actors = c.args.actors; cpus = c.args.cpus } in
    subst (λ (ws : List ℕ). RuleHolds ws (founder_view n ∷ [])) (sym (c.as_slice.ensures.value ∙ all)) (begins n)
