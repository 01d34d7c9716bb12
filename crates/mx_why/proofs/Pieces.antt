-- A text of several pieces, appended one after the other.
use Rattle.std.proofs.Common.{◌≡◌, ◌∙◌, List, ℕ, ◌++◌, Result, Ok, Err, OnOk, append_assoc, ap}
use Rattle.std.specs.Prelude.{if◌then◌else◌, is_ok}
use Rattle.std.proofs.lemmas.Result.{on_ok_weaker}

pub joined : (o a b : List ℕ) {x y : List ℕ} → x ≡ o ++ a → y ≡ x ++ b → y ≡ o ++ (a ++ b)
joined o a b {x} {y} p q = q ∙ ap (λ (t : List ℕ). t ++ b) p ∙ append_assoc o a b

pub joined_is : (o a b c : List ℕ) {x y : List ℕ} → x ≡ o ++ a → b ≡ c → y ≡ x ++ b → y ≡ o ++ (a ++ c)
joined_is o a b c {x} {y} p e q = joined o a c p (q ∙ ap (λ (t : List ℕ). x ++ t) e)

-- the last piece
pub last_joined : {T E : Type 0} (r : Result T E) (o a b x y : List ℕ) → x ≡ o ++ a → OnOk r (y ≡ x ++ b) → OnOk r (y ≡ o ++ (a ++ b))
last_joined r o a b x y p h = on_ok_weaker r (λ q. joined o a b p q) h

pub last_joined_is : {T E : Type 0} (r : Result T E) (o a b c x y : List ℕ) → x ≡ o ++ a → b ≡ c → OnOk r (y ≡ x ++ b) → OnOk r (y ≡ o ++ (a ++ c))
last_joined_is r o a b c x y p e h = on_ok_weaker r (λ q. joined_is o a b c p e q) h

pub extended : {T E : Type 0} (r : Result T E) (new a b : List ℕ) → new ≡ (if is_ok r then a else b) → OnOk r (new ≡ a)
extended (Ok x) new a b h = h
extended (Err e) new a b h = tt
