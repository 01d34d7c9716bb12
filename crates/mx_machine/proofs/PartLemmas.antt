-- An actor's part of a history.
use Rattle.std.proofs.Common.{◌≡◌, ◌∙◌, ℕ, ◌==◌, List, [], ◌∷◌, ◌++◌, Bool, cond, refl, sym, ap, subst}
use Rattle.std.proofs.lemmas.Bool.{eq-eqb}
use Rattle.std.proofs.lemmas.List.Elements.{filter-append}
use Rattle.mx_machine.specs.declared.history.Record.{Record}
use Rattle.mx_machine.specs.declared.history.Recorded.{Recorded}
use Rattle.mx_machine.specs.History.{part_of}

part_both : (xs ys : List Record) (a : ℕ) → part_of (xs ++ ys) a ≡ part_of xs a ++ part_of ys a
part_both xs ys a = filter-append (λ (x : Record). x.actor == a) xs ys

pub part_own : (xs : List Record) (a : ℕ) (e : Recorded) → part_of (xs ++ record { actor = a; event = e } ∷ []) a ≡ part_of xs a ++ record { actor = a; event = e } ∷ []
part_own xs a e =
    let r : Record = record { actor = a; event = e } in
    part_both xs (r ∷ []) a ∙ ap (λ (l : List Record). part_of xs a ++ l) (subst (λ (b : Bool). cond b (r ∷ []) [] ≡ r ∷ []) (sym (eq-eqb a a refl)) refl)
