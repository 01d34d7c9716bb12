-- A binary search among sorted words ends at the row that `lookup` has.
use Rattle.std.proofs.Common.{◌≡◌, ℕ, ◌<◌, zero, suc, ⊎_elim, true, false, List, [], ◌∷◌, length, get_or, Some, None, Err, nat_eq, refl, sym, ap, ◌∙◌, arith}
use Rattle.std.specs.declared.cmp.Ordering.{Ordering}
use Rattle.std.specs.declared.cmp.Ordering.TheVariants.{Less, Equal, Greater}
use Rattle.std.specs.Ordering.{nat_cmp, is_lt, is_eq, ordering_reverse}
use Rattle.std.specs.Cmp.Lexicographic.{pointwise, slice_cmp}
use Rattle.std.specs.List.Sorted.{IsBinarySearchResult, IsSortedBy}
use Rattle.std.proofs.lemmas.Bool.{and_parts, true≢false, cases_lt}
use Rattle.std.proofs.lemmas.Bool.Decides.{nat_tests}
use Rattle.std.proofs.lemmas.Cmp.{nat_list_cmp_total, alike_right, same_from_slice_cmp}
use Rattle.std.proofs.lemmas.List.Sorted.{searchable_from_sorted}
use native.Mathlib.Numerals.{unary_clauses}
use Rattle.mx_insn_words.specs.declared.sorted_words.Named.{Named}
use Rattle.mx_insn_words.specs.Named.{lookup, is_sorted}

abbrev compared : List ℕ → List ℕ → Ordering
compared = slice_cmp nat_cmp

equal_words : (a b : List ℕ) → is_eq (compared a b) ≡ pointwise nat_eq a b
equal_words a b = same_from_slice_cmp nat_cmp is_eq (pointwise nat_eq) refl (λ _ _. refl) (λ _ _. refl) (λ x y xs ys o h. grind (arith, nat_tests)) a b (compared a b) refl

less : (o : Ordering) → is_lt o ≡ true → o ≡ Less
less Less e = refl
less Equal e = absurd (true≢false (sym e))
less Greater e = absurd (true≢false (sym e))

not_less : (o : Ordering) → ordering_reverse o ≡ Less → is_lt o ≡ false
not_less Less e = absurd cc
not_less Equal e = refl
not_less Greater e = refl

module _ {T : Type 0} where
  below : (row : Named T) (rows : List (Named T)) (i : ℕ) (d : Named T) → is_sorted (row ∷ rows) ≡ true → i < length rows → compared row.word.now (get_or rows i d).word.now ≡ Less
  below row [] i d e l = absurd (omega arith)
  below row (next ∷ rows) zero d e l = less _ (and_parts _ _ e).0
  below row (next ∷ rows) (suc i) d e l = nat_list_cmp_total.trans row.word.now next.word.now _ (less _ (and_parts _ _ e).0) (below next rows i d (and_parts _ _ e).1 (omega arith))

  rest_sorted : (row : Named T) (rows : List (Named T)) → is_sorted (row ∷ rows) ≡ true → is_sorted rows ≡ true
  rest_sorted row [] e = refl
  rest_sorted row (next ∷ rows) e = (and_parts _ _ e).1

  sorted_pairs : (rows : List (Named T)) → is_sorted rows ≡ true → IsSortedBy (λ a b. is_lt (compared a.word.now b.word.now)) rows
  sorted_pairs [] e k d a b = absurd (omega arith)
  sorted_pairs (row ∷ rows) e zero d a b = not_less _ (sym (nat_list_cmp_total.antisymm row.word.now _) ∙ below row rows 0 d e (omega arith))
  sorted_pairs (row ∷ rows) e (suc k) d a b = simp unary_clauses (simp unary_clauses at (sorted_pairs rows (rest_sorted row rows e) k d (omega arith) (omega arith)))

  -- the row at which a search ends is the first of its word
  pub at_row : (rows : List (Named T)) (w : List ℕ) (i : ℕ) (d : Named T) → is_sorted rows ≡ true → i < length rows → compared (get_or rows i d).word.now w ≡ Equal → lookup rows w ≡ Some (get_or rows i d).value
  at_row [] w i d e l s = absurd (omega arith)
  at_row (row ∷ rows) w zero d e l s = rw (sym (equal_words row.word.now w) ∙ ap is_eq s)
  at_row (row ∷ rows) w (suc i) d e l s =
      let before : compared row.word.now w ≡ Less = sym (alike_right nat_list_cmp_total (get_or rows i d).word.now w row.word.now s) ∙ below row rows i d e (omega arith) in
      rw (sym (equal_words row.word.now w) ∙ ap is_eq before) (at_row rows w i d (rest_sorted row rows e) (omega arith) s)

  no_row : (rows : List (Named T)) (w : List ℕ) → ((k : ℕ) (d : Named T) → k < length rows → is_eq (compared (get_or rows k d).word.now w) ≡ false) → lookup rows w ≡ None
  no_row [] w f = refl
  no_row (row ∷ rows) w f = rw (sym (equal_words row.word.now w) ∙ f 0 row (omega arith)) (no_row rows w (λ k d l. f (suc k) d (omega arith)))

  pub searched : (rows : List (Named T)) (w : List ℕ) (i : ℕ) → is_sorted rows ≡ true → IsBinarySearchResult (λ row. compared row.word.now w) rows (Err i) → lookup rows w ≡ None
  searched rows w i e h =
      let parts = h (searchable_from_sorted nat_list_cmp_total (λ (row : Named T). row.word.now) rows w (sorted_pairs rows e)) in
      no_row rows w (λ k d l. ⊎_elim (λ a. ap is_eq (parts.0 k d (omega arith) a)) (λ a. ap is_eq (parts.1 k d a l)) (cases_lt k i))
