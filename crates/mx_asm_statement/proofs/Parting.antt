-- The first comma.
use Rattle.std.proofs.Common.{◌≡◌, ℕ, ◌<◌, ◌+◌, length, Some, None, true, false, List, [], ◌∷◌, ◌++◌, ap, ◌∙◌, refl, arith, sym, Option}
use Rattle.std.specs.Prelude.{slice_index_or, zero, suc, ◌-◌, take, drop}
use Rattle.std.proofs.lemmas.List.{take_all, length-drop, append-nil, append_assoc}
use Rattle.mx_asm_statement.specs.declared.argument.Argument.{Argument}
use Rattle.mx_asm_statement.specs.Items.{◌>>=◌}
use Rattle.mx_asm_statement.specs.Arguments.{argument_of}
use Rattle.std.specs.List.{slice_split, onto_first}
use Rattle.std.proofs.lemmas.List.Splits.{slice_split-cons_yes, slice_split-cons_no}
use Rattle.mx_asm_statement.specs.declared.item.Item.{Item}
use Rattle.mx_asm_statement.specs.declared.item.Item.TheVariants as items
use Rattle.mx_asm_statement.specs.Lists.{is_comma, each_of, arguments_of}

abbrev pub NoneBefore : List Item → ℕ → Type 0
NoneBefore xs at = (k : ℕ) → k < at → is_comma (slice_index_or xs k items.Long) ≡ false

pub split_none : (xs : List Item) → NoneBefore xs (length xs) → slice_split is_comma xs ≡ xs ∷ []
split_none [] none = refl
split_none (x ∷ xs) none = slice_split-cons_no is_comma x xs (none 0 (omega arith)) ∙ ap (onto_first x) (split_none xs (λ k l. none (suc k) (omega arith)))

pub split_there : (xs : List Item) (at : ℕ) (d : Item) → at < length xs → NoneBefore xs at → is_comma (slice_index_or xs at d) ≡ true → slice_split is_comma xs ≡ take at xs ∷ slice_split is_comma (drop (suc at) xs)
split_there [] at d h none is = absurd (omega arith)
split_there (x ∷ xs) zero d h none is = slice_split-cons_yes is_comma x xs is
split_there (x ∷ xs) (suc at) d h none is = slice_split-cons_no is_comma x xs (none 0 (omega arith)) ∙ ap (onto_first x) (split_there xs at d (omega arith) (λ k l. none (suc k) (omega arith)) is)

-- the same, as a slice's rest is written
pub split_at_comma : (xs : List Item) (at : ℕ) (d : Item) → at < length xs → NoneBefore xs at → is_comma (slice_index_or xs at d) ≡ true → slice_split is_comma xs ≡ take at xs ∷ slice_split is_comma (take (length xs - (at + 1)) (drop (at + 1) xs))
split_at_comma xs at d h none is =
    let next : suc at ≡ at + 1 = omega arith in
    split_there xs at d h none is ∙ ap (λ ys. take at xs ∷ slice_split is_comma ys) (ap (λ n. drop n xs) next ∙ sym (take_all (length xs - (at + 1)) (drop (at + 1) xs) (omega (arith, length-drop (at + 1) xs))))

-- ---- arguments, part by part

-- what is found, and what the parts say
abbrev pub behind : List Argument → Option (List Argument) → Option (List Argument)
behind found os = os >>= λ more. Some (found ++ more)

after_none : (os : Option (List Argument)) → behind [] os ≡ os
after_none None = refl
after_none (Some os) = refl

pub after_start : (xs : List Item) → 0 < length xs → arguments_of xs ≡ behind [] (each_of (slice_split is_comma xs))
after_start [] h = absurd (omega (arith, h))
after_start (x ∷ xs) h = sym (after_none (each_of (slice_split is_comma (x ∷ xs))))

onto : (found : List Argument) (o : Argument) (os : Option (List Argument)) → behind found (os >>= λ more. Some (o ∷ more)) ≡ behind (found ++ o ∷ []) os
onto found o None = refl
onto found o (Some os) = ap Some (sym (append_assoc found (o ∷ []) os))

pub after_one : (found : List Argument) (parts : List (List Item)) (front : List Item) (o : Argument) → argument_of front ≡ Some o → behind found (each_of (front ∷ parts)) ≡ behind (found ++ o ∷ []) (each_of parts)
after_one found parts front o h = ap (λ r. behind found (r >>= λ o'. each_of parts >>= λ more. Some (o' ∷ more))) h ∙ onto found o (each_of parts)

pub after_bad : (found : List Argument) (parts : List (List Item)) (front : List Item) → argument_of front ≡ None → behind found (each_of (front ∷ parts)) ≡ None
after_bad found parts front h = ap (λ r. behind found (r >>= λ o'. each_of parts >>= λ more. Some (o' ∷ more))) h

pub after_last : (found : List Argument) (front : List Item) (o : Argument) → argument_of front ≡ Some o → behind found (each_of (front ∷ [])) ≡ Some (found ++ o ∷ [])
after_last found front o h = after_one found [] front o h ∙ ap Some (append-nil (found ++ o ∷ []))
