-- Where a comment begins.
use Rattle.std.proofs.Common.{◌≡◌, ◌≢◌, ℕ, ◌<◌, ◌≤◌, ◌⊎◌, inl, inr, true, false, List, length, get_or, take, sym, ap}
use Rattle.std.specs.Prelude.{◌==◌, not}
use Rattle.std.specs.List.{before_first}
use Rattle.std.proofs.lemmas.Bool.Decides.{eqb_tells}
use Rattle.std.proofs.lemmas.List.Sums.{prefix_len_is}
use Rattle.mx_boot.specs.Items.{is_byte}

abbrev pub AreNone : ℕ → List ℕ → ℕ → Type 0
AreNone m t at = (k : ℕ) → k < at → get_or t k 0 ≢ m

goes_on : (m b : ℕ) → b ≢ m → not (is_byte m b) ≡ true
goes_on m b h = by_case (eqb_tells b m)
  where
    by_case : (((b == m) ≡ true) × (b ≡ m)) ⊎ (((b == m) ≡ false) × (b ≢ m)) → not (is_byte m b) ≡ true
    by_case (inl p) = absurd (h p.1)
    by_case (inr p) = ap not p.0

ends : (m b : ℕ) → b ≡ m → not (is_byte m b) ≡ false
ends m b h = by_case (eqb_tells b m)
  where
    by_case : (((b == m) ≡ true) × (b ≡ m)) ⊎ (((b == m) ≡ false) × (b ≢ m)) → not (is_byte m b) ≡ false
    by_case (inl p) = ap not p.0
    by_case (inr p) = absurd (p.1 h)

pub before_byte : (m : ℕ) (t : List ℕ) (end : ℕ) → end ≤ length t → AreNone m t end → (end < length t → get_or t end 0 ≡ m)
    → take end t ≡ before_first (is_byte m) t
before_byte m t end within none is =
    ap (λ n. take n t)
    (sym (prefix_len_is (λ x. not (is_byte m x)) t end 0 within (λ k l. goes_on m (get_or t k 0) (none k l)) (λ l. ends m (get_or t end 0) (is l))))
