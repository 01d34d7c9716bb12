-- The folder in a file's name.
use Rattle.std.proofs.Common.{◌≡◌, ◌≢◌, ◌∙◌, ◌<◌, ◌≤◌, ◌+◌, ◌-◌, ◌⊎◌, inl, inr, ℕ, zero, suc, List, Option, Some, None, length, get_or, take, drop, refl, ap, sym, arith, length-drop, get_or-drop}
use Rattle.std.specs.Prelude.{MatchOption}
use Rattle.std.specs.Borrow.{Bor}
use Rattle.std.specs.Option.{option_map}
use Rattle.std.specs.Path.{rfind_below}
use Rattle.std.specs.Str.Pattern.{RFindsChar}
use Rattle.std.proofs.lemmas.Bool.{cases_eq, cond-false, cond-true, eq-eqb, ne_eqb}
use Rattle.std.proofs.lemmas.Str.{len_utf8_ascii}
use Rattle.std.proofs.lemmas.Str.Pattern.{NoCharPasses-char}
use Rattle.mx_app_explain.specs.Explaining.{folder_of}

-- no stroke is there
none_below : (text : List ℕ) (n : ℕ) → ((i : ℕ) → i < n → get_or text i 0 ≢ 47) → rfind_below 47 text n ≡ None
none_below text zero none = refl
none_below text (suc n) none = cond-false _ _ _ (ne_eqb _ 47 (none n (omega arith))) ∙ none_below text n (λ i l. none i (omega arith))

-- the last one is at k
last_below : (text : List ℕ) (k n : ℕ) → k < n → get_or text k 0 ≡ 47 → ((i : ℕ) → k < i → i < n → get_or text i 0 ≢ 47) → rfind_below 47 text n ≡ Some k
last_below text k zero l at none = absurd (omega arith)
last_below text k (suc n) l at none = by (cases_eq k n) (λ below. last_below text k n below at (λ i a b. none i a (omega arith)))
  where
    by : (k ≡ n) ⊎ (k ≢ n) → (k < n → rfind_below 47 text n ≡ Some k) → rfind_below 47 text (suc n) ≡ Some k
    by (inl here) lower = cond-true _ _ _ (eq-eqb _ 47 (ap (λ j. get_or text j 0) (sym here) ∙ at)) ∙ ap (λ j. Some j) (sym here)
    by (inr other) lower = cond-false _ _ _ (ne_eqb _ 47 (none n (omega (arith, other)) (omega arith))) ∙ lower (omega (arith, other))

-- what `rsplit_once` gives at a stroke
pub folder_is : (name : List ℕ) (r : Option (Bor (List ℕ) × Bor (List ℕ)))
    → MatchOption r (RFindsChar 47 name None) (λ x. (i : ℕ) × (j : ℕ) × RFindsChar 47 name (Some (i, j)) × (x.0.now ≡ take i name) × (x.1.now ≡ drop j name) × (i ≤ j) × (length x.0.now ≡ i) × (length x.1.now + j ≡ length name))
    → option_map (λ x. x.0.now) r ≡ folder_of name
folder_is name None h =
    sym (ap (option_map (λ n. take n name)) (none_below name (length name) (λ i l. NoCharPasses-char 47 name i h (omega arith) l)))
folder_is name (Some x) h =
    let i = h.0 in
    let j = h.1 in
    let next : j ≡ i + 1 = omega (arith, h.2.1.ends, len_utf8_ascii 47 (omega arith)) in
    let later : (k : ℕ) → i < k → k < length name → get_or name k 0 ≢ 47 = λ k a l e.
    let back : j + (k - j) ≡ k = omega (arith, next) in
    NoCharPasses-char 47 (drop j name) (k - j) h.2.0 (omega arith) (omega (arith, length-drop j name, next)) (get_or-drop j name (k - j) 0 ∙ ap (λ n. get_or name n 0) back ∙ e) in
    let found = last_below name i (length name) (omega (arith, h.7, next)) (h.2.1.byte (omega arith)) later in
    ap Some h.3 ∙ sym (ap (option_map (λ n. take n name)) found)
