-- The value of digits, one more at a time.
use Rattle.std.proofs.Common.{◌≡◌, ℕ, ◌+◌, ◌*◌, ◌<◌, ◌≤◌, List, [], ◌∷◌, length, get_or, drop, refl, arith, add-one, drop-cons}
use Rattle.std.proofs.Math.Nat.{mul-le-mul_left}
use Rattle.mx_text.specs.Bytes.{digit_value}
use Rattle.mx_text.specs.Numbers.{value_from}

pub value_grows : (base above : ℕ) (bs : List ℕ) → 1 ≤ base → above ≤ value_from base above bs
value_grows base above [] h = omega arith
value_grows base above (b ∷ bs) h =
    let rest : above * base + digit_value b ≤ value_from base (above * base + digit_value b) bs = value_grows base (above * base + digit_value b) bs h in
    let more : above * 1 ≤ above * base = mul-le-mul_left above h in
    omega arith

pub bounded_product : (a b : ℕ) → b ≤ 16 → a * b ≤ a * 16
bounded_product a b h = mul-le-mul_left a h

pub value_step : (base above i : ℕ) (bs : List ℕ) → i < length bs
    → value_from base above (drop i bs) ≡ value_from base (above * base + digit_value (get_or bs i 0)) (drop (i + 1) bs)
value_step base above i bs h = rw (add-one, drop-cons bs i 0) refl
