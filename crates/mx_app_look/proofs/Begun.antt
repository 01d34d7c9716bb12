-- The words of verbs, one more.
use Rattle.std.proofs.Common.{◌≡◌, ◌∙◌, ◌<◌, ℕ, suc, ◌+◌, true, false, List, ◌∷◌, ◌++◌, cond, codes, drop, filter, get_or, length, ap, arith}
use Rattle.std.proofs.Math.Seq.{drop-cons}
use Rattle.mx_app_look.specs.declared.verb.Verb.{Verb}
use Rattle.mx_app_look.specs.Verbs.{begins_verb, names_after, verb_word}

module _ (word : List ℕ) (verbs : List Verb) (i : ℕ) (v : Verb) (b : i < length verbs) where
  abbrev pub rest : List Verb
  rest = drop (i + 1) verbs

  split : drop i verbs ≡ get_or verbs i v ∷ rest
  split = let e : suc i ≡ i + 1 = omega arith in drop-cons verbs i v b ∙ ap (λ k. get_or verbs i v ∷ drop k verbs) e

  pub named : (between : List ℕ) → begins_verb word (get_or verbs i v) ≡ true
      → names_after between (filter (begins_verb word) (drop i verbs)) ≡ between ++ verb_word (get_or verbs i v) ++ names_after (codes ", ") (filter (begins_verb word) rest)
  named between is =
      ap (λ vs. names_after between (filter (begins_verb word) vs)) split
      ∙ ap (λ c. names_after between (cond c (get_or verbs i v ∷ filter (begins_verb word) rest) (filter (begins_verb word) rest))) is

  pub passed : (between : List ℕ) → begins_verb word (get_or verbs i v) ≡ false
      → names_after between (filter (begins_verb word) (drop i verbs)) ≡ names_after between (filter (begins_verb word) rest)
  passed between isnt =
      ap (λ vs. names_after between (filter (begins_verb word) vs)) split
      ∙ ap (λ c. names_after between (cond c (get_or verbs i v ∷ filter (begins_verb word) rest) (filter (begins_verb word) rest))) isnt
