-- Spaces at the front, and the first field.
use Rattle.std.proofs.Common.{◌≡◌, ◌≢◌, ℕ, zero, suc, ◌<◌, ◌≤◌, ◌⊎◌, inl, inr, true, false, List, [], ◌∷◌, length, get_or, take, drop, refl, sym, ◌∙◌, ap, arith, eq-eqb}
use Rattle.std.specs.Prelude.{◌==◌, filter}
use Rattle.std.proofs.Math.Seq.{drop-cons}
use Rattle.std.proofs.lemmas.List.{take_all, drop_all}
use Rattle.std.specs.List.{slice_split, onto_first}
use Rattle.std.proofs.lemmas.Bool.Decides.{eqb_tells}
use Rattle.std.proofs.lemmas.List.Splits.{slice_split-cons_yes, slice_split-cons_no}
use Rattle.mx_text.specs.Fields.{is_space, has_bytes, fields}

abbrev pub AreSpaces : List ℕ → ℕ → Type 0
AreSpaces t at = (k : ℕ) → k < at → get_or t k 0 ≡ 32

abbrev pub AreNoSpaces : List ℕ → ℕ → Type 0
AreNoSpaces t at = (k : ℕ) → k < at → get_or t k 0 ≢ 32

is_none : (b : ℕ) → b ≢ 32 → is_space b ≡ false
is_none b h = by_case (eqb_tells b 32)
  where
    by_case : (((b == 32) ≡ true) × (b ≡ 32)) ⊎ (((b == 32) ≡ false) × (b ≢ 32)) → is_space b ≡ false
    by_case (inl p) = absurd (h p.1)
    by_case (inr p) = p.0

one_space : (b : ℕ) (bs : List ℕ) → b ≡ 32 → fields (b ∷ bs) ≡ fields bs
one_space b bs h = ap (filter has_bytes) (slice_split-cons_yes is_space b bs (eq-eqb b 32 h))

pub after_spaces : (t : List ℕ) (at : ℕ) → at ≤ length t → AreSpaces t at → fields t ≡ fields (drop at t)
after_spaces t zero h all = refl
after_spaces [] (suc at) h all = absurd (omega (arith, h))
after_spaces (b ∷ bs) (suc at) h all = one_space b bs (all 0 (omega arith)) ∙ after_spaces bs at (omega arith) (λ k l. all (suc k) (omega arith))

split_none : (t : List ℕ) → AreNoSpaces t (length t) → slice_split is_space t ≡ t ∷ []
split_none [] none = refl
split_none (b ∷ bs) none = slice_split-cons_no is_space b bs (is_none b (none 0 (omega arith))) ∙ ap (onto_first b) (split_none bs (λ k l. none (suc k) (omega arith)))

split_there : (t : List ℕ) (at : ℕ) → at < length t → AreNoSpaces t at → get_or t at 0 ≡ 32 → slice_split is_space t ≡ take at t ∷ slice_split is_space (drop (suc at) t)
split_there [] at h none is = absurd (omega (arith, h))
split_there (b ∷ bs) zero h none is = slice_split-cons_yes is_space b bs (eq-eqb b 32 is)
split_there (b ∷ bs) (suc at) h none is = slice_split-cons_no is_space b bs (is_none b (none 0 (omega arith))) ∙ ap (onto_first b) (split_there bs at (omega arith) (λ k l. none (suc k) (omega arith)) is)

next_space : (t : List ℕ) (at : ℕ) → at < length t → get_or t at 0 ≡ 32 → fields (drop at t) ≡ fields (drop (suc at) t)
next_space t at h is = ap fields (drop-cons t at 0 h) ∙ one_space (get_or t at 0) (drop (suc at) t) is

-- a field is all that is left
pub field_alone : (t : List ℕ) (end : ℕ) → 0 < end → end ≡ length t → AreNoSpaces t end → fields t ≡ take end t ∷ fields (drop end t)
field_alone [] end some e none = absurd (omega (arith, some, e))
field_alone (b ∷ bs) end some e none =
    let whole : take end (b ∷ bs) ≡ b ∷ bs = take_all end (b ∷ bs) (omega (arith, e)) in
    let over : drop end (b ∷ bs) ≡ [] = drop_all end (b ∷ bs) (omega (arith, e)) in
    ap (filter has_bytes) (split_none (b ∷ bs) (λ k l. none k (omega (arith, l, e))))
    ∙ sym (ap (λ u. take end (b ∷ bs) ∷ fields u) over ∙ ap (λ u. u ∷ []) whole)

-- a space ends it
pub field_there : (t : List ℕ) (end : ℕ) → 0 < end → end < length t → AreNoSpaces t end → get_or t end 0 ≡ 32 → fields t ≡ take end t ∷ fields (drop end t)
field_there [] end some h none is = absurd (omega (arith, h))
field_there (b ∷ bs) zero some h none is = absurd (omega (arith, some))
field_there (b ∷ bs) (suc e) some h none is =
    ap (filter has_bytes) (split_there (b ∷ bs) (suc e) h none is)
    ∙ ap (λ u. (b ∷ take e bs) ∷ u) (sym (next_space (b ∷ bs) (suc e) h is))
