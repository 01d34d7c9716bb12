use Rattle.std.proofs.Common.{◌≡◌, ℕ, zero, suc, ◌*◌, ◌%◌, ◌^◌, ◌<◌, inl, inr, List, [], ◌∷◌, ◌++◌, length, slice_set, slice_get, Option, None, false, get_or-set_same, refl, sym, ap, ◌∙◌, arith, subst, bit_or, bit_and}
use Rattle.std.specs.Int.{bit_at, bit_not}
use Rattle.std.specs.Option.{is_some}
use Rattle.std.proofs.lemmas.Nat.Bits.{bit_at_set_same, bit_at_set_other, bit_at_clear_same, bit_at_clear_other, bit_at-zero}
use Rattle.std.proofs.Common.{length-set, w16}
use Rattle.mx_proc.specs.Queues.{list_at, first_ready, some_in, AreFilled}
use Rattle.mx_proc.proofs.ListLemmas.{list_at-cases}

-- one more list is filled, or was
pub filled_more : (filled level : ℕ) (lists lists' : List (List ℕ)) (xs : List ℕ) → AreFilled filled lists → level < 16 → some_in xs ≡ 1 → lists' ≡ slice_set lists level xs
    → AreFilled (bit_or filled (1 * 2 ^ level % 2 ^ 16)) lists'
filled_more filled level lists lists' xs h b y is = record {
  long = ap length is ∙ length-set lists level xs ∙ h.long;
  bits = λ l c. elim (list_at-cases lists level l xs (omega (arith, h.long))) [
    | inl e ↦ subst (λ k. bit_at (bit_or filled (1 * 2 ^ level % 2 ^ 16)) k ≡ some_in (list_at lists' l)) (sym e.0)
        (bit_at_set_same w16 filled level b ∙ sym (new l e.1 ∙ y))
    | inr e ↦ bit_at_set_other w16 filled level b l e.0 ∙ h.bits l c ∙ sym (new l e.1)
  ];
}
  where
    new : {ys : List ℕ} (l : ℕ) → list_at (slice_set lists level xs) l ≡ ys → some_in (list_at lists' l) ≡ some_in ys
    new l e = ap (λ x. some_in (list_at x l)) is ∙ ap some_in e

-- one list is empty now
filled_less : (filled level : ℕ) (lists lists' : List (List ℕ)) (xs : List ℕ) → AreFilled filled lists → level < 16 → some_in xs ≡ 0 → lists' ≡ slice_set lists level xs
    → AreFilled (bit_and filled (bit_not w16 (1 * 2 ^ level % 2 ^ 16))) lists'
filled_less filled level lists lists' xs h b y is = record {
  long = ap length is ∙ length-set lists level xs ∙ h.long;
  bits = λ l c. elim (list_at-cases lists level l xs (omega (arith, h.long))) [
    | inl e ↦ subst (λ k. bit_at (bit_and filled (bit_not w16 (1 * 2 ^ level % 2 ^ 16))) k ≡ some_in (list_at lists' l)) (sym e.0)
        (bit_at_clear_same w16 filled level b ∙ sym (new l e.1 ∙ y))
    | inr e ↦ bit_at_clear_other w16 filled level b l c e.0 ∙ h.bits l c ∙ sym (new l e.1)
  ];
}
  where
    new : {ys : List ℕ} (l : ℕ) → list_at (slice_set lists level xs) l ≡ ys → some_in (list_at lists' l) ≡ some_in ys
    new l e = ap (λ x. some_in (list_at x l)) is ∙ ap some_in e

-- what has no first item is empty
none_in : (xs : List ℕ) → is_some (slice_get xs 0) ≡ false → some_in xs ≡ 0
none_in [] e = refl
none_in (x ∷ xs) e = cc

-- one list has no first item any more
pub filled_out : (filled level : ℕ) (lists lists' : List (List ℕ)) (xs : List ℕ) (first : Option ℕ) → AreFilled filled lists → level < 16 → lists' ≡ slice_set lists level xs → first ≡ slice_get (list_at lists' level) 0 → is_some first ≡ false
    → AreFilled (bit_and filled (bit_not w16 (1 * 2 ^ level % 2 ^ 16))) lists'
filled_out filled level lists lists' xs first h b is e n =
    let at : list_at lists' level ≡ xs = ap (λ l. list_at l level) is ∙ get_or-set_same lists level xs [] (omega (arith, h.long)) in
    filled_less filled level lists lists' xs h b (none_in xs (ap (λ l. is_some (slice_get l 0)) (sym at) ∙ ap is_some (sym e) ∙ n)) is

pub some_in-end : (s : ℕ) (xs : List ℕ) → some_in (xs ++ s ∷ []) ≡ 1
some_in-end s [] = refl
some_in-end s (x ∷ xs) = refl

empty_of : (xs : List ℕ) → some_in xs ≡ 0 → xs ≡ []
empty_of [] e = refl
empty_of (x ∷ xs) e = absurd (omega arith)

-- where no list is filled nobody is picked
none_picked : (lists : List (List ℕ)) → ((l : ℕ) → l < length lists → some_in (list_at lists l) ≡ 0) → first_ready lists ≡ None
none_picked [] h = refl
none_picked (xs ∷ lists) h = ap (λ ys. first_ready (ys ∷ lists)) (empty_of xs (h 0 (omega arith))) ∙ none_picked lists (λ l b. h (suc l) (omega arith))

-- the first list that is filled decides
first_picked : (lists : List (List ℕ)) (level : ℕ) → ((l : ℕ) → l < level → some_in (list_at lists l) ≡ 0) → some_in (list_at lists level) ≡ 1 → first_ready lists ≡ slice_get (list_at lists level) 0
first_picked [] level h y = absurd (omega arith)
first_picked ([] ∷ lists) zero h y = absurd (omega arith)
first_picked ((x ∷ xs) ∷ lists) zero h y = refl
first_picked (xs ∷ lists) (suc level) h y = ap (λ ys. first_ready (ys ∷ lists)) (empty_of xs (h 0 (omega arith))) ∙ first_picked lists level (λ l b. h (suc l) (omega arith)) y

pub nobody_picked : (lists : List (List ℕ)) → AreFilled 0 lists → first_ready lists ≡ None
nobody_picked lists h = none_picked lists (λ l b. sym (h.bits l (omega (arith, h.long))) ∙ bit_at-zero l)

pub lowest_picked : (filled level : ℕ) (lists : List (List ℕ)) → AreFilled filled lists → level < 16 → bit_at filled level ≡ 1 → ((l : ℕ) → l < level → bit_at filled l ≡ 0) → first_ready lists ≡ slice_get (list_at lists level) 0
lowest_picked filled level lists h b y low = first_picked lists level (λ l c. sym (h.bits l (omega arith)) ∙ low l c) (sym (h.bits level b) ∙ y)
