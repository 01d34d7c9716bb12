-- A list that is filled by a function of the index, one place more.
use Rattle.std.proofs.Common.{◌≡◌, ℕ, ◌+◌, ◌<◌, List, length, get_or, sym, subst}
use Rattle.std.proofs.Math.ListN.{set}
use Rattle.std.proofs.lemmas.List.Edits.{fill_by_more}

pub filled_more : {X : Type 0} (f : ℕ → X) (xs : List X) (i : ℕ) (v d : X) → i < length xs → v ≡ f i
    → ((k : ℕ) → k < i → get_or xs k d ≡ f k) → (k : ℕ) → k < i + 1 → get_or (set xs i v) k d ≡ f k
filled_more {X} f xs i v d b e h = subst (λ (x : X). (k : ℕ) → k < i + 1 → get_or (set xs i x) k d ≡ f k) (sym e) (fill_by_more f xs i d b h)
