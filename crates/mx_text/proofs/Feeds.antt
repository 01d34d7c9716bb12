-- The first line feed ends the first line.
use Rattle.std.proofs.Common.{◌≡◌, ◌≢◌, ℕ, zero, suc, ◌+◌, ◌-◌, ◌<◌, Bool, true, false, List, [], ◌∷◌, length, get_or, take, drop, refl, sym, ◌∙◌, ap, arith, eq-eqb, ◌⊎◌, inl, inr}
use Rattle.std.specs.Prelude.{◌==◌, if◌then◌else◌}
use Rattle.std.proofs.lemmas.Bool.Decides.{eqb_tells}
use Rattle.std.proofs.lemmas.List.{take_all, length-drop, drop_all}
use Rattle.std.proofs.Math.Seq.{take-nil}
use Rattle.mx_text.specs.Lines.{lines, begun_by}

-- no line feed is before a place
abbrev pub NoneBefore : List ℕ → ℕ → Type 0
NoneBefore t at = (k : ℕ) → k < at → get_or t k 0 ≢ 10

chosen : {A : Type 0} (c : Bool) (a b : A) → c ≡ true → (if c then a else b) ≡ a
chosen true a b h = refl
chosen false a b h = cc

passed : {A : Type 0} (c : Bool) (a b : A) → c ≡ false → (if c then a else b) ≡ b
passed true a b h = cc
passed false a b h = refl

no_feed : (b : ℕ) → b ≢ 10 → (b == 10) ≡ false
no_feed b h = by_case (eqb_tells b 10)
  where
    by_case : (((b == 10) ≡ true) × (b ≡ 10)) ⊎ (((b == 10) ≡ false) × (b ≢ 10)) → (b == 10) ≡ false
    by_case (inl p) = absurd (h p.1)
    by_case (inr p) = p.0

pub line_there : (t : List ℕ) (at : ℕ) → at < length t → NoneBefore t at → get_or t at 0 ≡ 10 → lines t ≡ take at t ∷ lines (drop (suc at) t)
line_there [] at h none is = absurd (omega arith)
line_there (b ∷ bs) zero h none is = chosen (b == 10) ([] ∷ lines bs) (begun_by b (lines bs)) (eq-eqb b 10 is)
line_there (b ∷ bs) (suc at) h none is =
    passed (b == 10) ([] ∷ lines bs) (begun_by b (lines bs)) (no_feed b (none 0 (omega arith)))
    ∙ ap (begun_by b) (line_there bs at (omega arith) (λ k l. none (suc k) (omega arith)) is)

pub line_alone : (t : List ℕ) → 0 < length t → NoneBefore t (length t) → lines t ≡ t ∷ []
line_alone [] h none = absurd (omega arith)
line_alone (b ∷ []) h none = passed (b == 10) ([] ∷ lines []) (begun_by b (lines [])) (no_feed b (none 0 (omega arith)))
line_alone (b ∷ c ∷ bs) h none =
    passed (b == 10) ([] ∷ lines (c ∷ bs)) (begun_by b (lines (c ∷ bs))) (no_feed b (none 0 (omega arith)))
    ∙ ap (begun_by b) (line_alone (c ∷ bs) (omega arith) (λ k l. none (suc k) (omega arith)))

-- the same, as a slice's rest is written
pub line_at : (t : List ℕ) (at : ℕ) → at < length t → NoneBefore t at → get_or t at 0 ≡ 10
    → lines t ≡ take at t ∷ lines (take (length t - (at + 1)) (drop (at + 1) t))
line_at t at h none is =
    let next : suc at ≡ at + 1 = omega arith in
    line_there t at h none is
    ∙ ap (λ u. take at t ∷ lines u) (ap (λ n. drop n t) next ∙ sym (take_all (length t - (at + 1)) (drop (at + 1) t) (omega (arith, length-drop (at + 1) t))))

pub line_last : (t : List ℕ) (at : ℕ) → 0 < length t → at ≡ length t → NoneBefore t at
    → lines t ≡ t ∷ lines (take (length t - at) (drop at t))
line_last t at some e none =
    let over : drop at t ≡ [] = drop_all at t (omega arith) in
    let left : take (length t - at) (drop at t) ≡ [] = ap (take (length t - at)) over ∙ take-nil (length t - at) in
    line_alone t some (λ k l. none k (omega arith)) ∙ sym (ap (λ u. t ∷ lines u) left)
