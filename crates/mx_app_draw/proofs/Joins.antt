-- Texts put one after the other.
use Rattle.std.proofs.Common.{◌≡◌, ◌∙◌, ℕ, List, ◌++◌, Result, Ok, Err, OnOk, ap, append_assoc}
use Rattle.std.specs.Prelude.{if◌then◌else◌}
use Rattle.std.specs.Result.{is_ok}

-- one more
pub next : (t y z a b : List ℕ) → y ≡ t ++ a → z ≡ y ++ b → z ≡ t ++ (a ++ b)
next t y z a b e f = f ∙ ap (λ l. l ++ b) e ∙ append_assoc t a b

-- the last one, if there is memory for it
pub last : {E : Type 0} (r : Result (Unit {0}) E) (t y z x a b : List ℕ) → y ≡ t ++ a → z ≡ (if is_ok r then y ++ b else x) → OnOk r (z ≡ t ++ (a ++ b))
last (Ok done) t y z x a b e f = next t y z a b e f
last (Err error) t y z x a b e f = tt

-- the last one, put by a call
pub last_by : {E : Type 0} (r : Result (Unit {0}) E) (t y z a b : List ℕ) → y ≡ t ++ a → OnOk r (z ≡ y ++ b) → OnOk r (z ≡ t ++ (a ++ b))
last_by (Ok done) t y z a b e f = next t y z a b e f
last_by (Err error) t y z a b e f = tt
