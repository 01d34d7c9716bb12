-- Whether a text is ended, by its last byte.
use Rattle.std.proofs.Common.{◌≡◌, ℕ, suc, ◌-◌, Bool, true, List, [], ◌∷◌, length, Option, Some, None, refl, ap, ◌∙◌, arith}
use Rattle.std.specs.Prelude.{◌==◌, slice_get}
use Rattle.mx_boot.specs.Log.{is_ended}

abbrev pub feed_or_none : Option ℕ → Bool
feed_or_none None = true
feed_or_none (Some b) = b == 10

pub ended_last : (t : List ℕ) → is_ended t ≡ feed_or_none (slice_get t (length t - 1))
ended_last [] = refl
ended_last (b ∷ []) =
    let e : 0 ≡ length (b ∷ []) - 1 = omega arith in
    ap (λ (n : ℕ). feed_or_none (slice_get (b ∷ []) n)) e
ended_last (b ∷ c ∷ bs) =
    let e : suc (length (c ∷ bs) - 1) ≡ length (b ∷ c ∷ bs) - 1 = omega arith in
    ended_last (c ∷ bs) ∙ ap (λ (n : ℕ). feed_or_none (slice_get (b ∷ c ∷ bs) n)) e
