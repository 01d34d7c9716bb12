-- Turning a word leaves a word.
use Rattle.std.proofs.Common.{◌≡◌, ℕ, ◌+◌, ◌-◌, ◌*◌, ◌/◌, ◌%◌, ◌^◌, ◌<◌, ◌≤◌, arith, ap, sym, subst}
use Rattle.std.proofs.lemmas.Nat.{pow-add, shr_split, shr_high, mod_low, mul-add-lt, shr_below, mod_below, pow_pos}
use Rattle.mx_word.specs.Word.{width}
use Rattle.mx_word.specs.declared.size.Size.{Size}
use Rattle.mx_word.specs.declared.size.Size.TheVariants.{Byte, Word, Dword}
use Rattle.mx_alu.specs.Shifts.{rotation_of}

parted : (q r x : ℕ) → x < 2 ^ (q + r) → x * 2 ^ r % 2 ^ (q + r) + x * 2 ^ r / 2 ^ (q + r) < 2 ^ (q + r)
parted q r x h =
    let a : ℕ = x / 2 ^ q in
    let b : ℕ = x % 2 ^ q in
    let small : b < 2 ^ q = mod_below x (2 ^ q) (pow_pos q) in
    let high : a < 2 ^ r = shr_below x r q (subst (λ (n : ℕ). x < 2 ^ n) (let e : q + r ≡ r + q = omega arith in e) h) in
    let p : 2 ^ (q + r) ≡ 2 ^ q * 2 ^ r = pow-add 2 q r in
    let lo : b * 2 ^ r < 2 ^ (q + r) = omega (arith, p, mul-add-lt b (2 ^ r) 0 (2 ^ q) small (pow_pos r)) in
    let e : x * 2 ^ r ≡ a * 2 ^ (q + r) + b * 2 ^ r = omega (arith, p, ap (λ (t : ℕ). t * 2 ^ r) (shr_split x q), ap (λ (t : ℕ). a * t) p) in
    rw (e, mod_low a (q + r) (b * 2 ^ r) lo, shr_high a (q + r) (b * 2 ^ r) lo) (rw p (let k : b * 2 ^ r + a < 2 ^ r * 2 ^ q = mul-add-lt b (2 ^ r) a (2 ^ q) small high in omega (arith, k)))

-- a word turned to the left is a word
pub rotated_below : (w x k : ℕ) → k ≤ w → x < 2 ^ w → rotation_of w x k < 2 ^ w
rotated_below w x k few h =
    let e : w ≡ (w - k) + k = omega arith in
    subst (λ (n : ℕ). x < 2 ^ n → rotation_of n x k < 2 ^ n) (sym e) (parted (w - k) k x) h

pub width_le : (s : Size) → 2 ^ width s ≤ 2 ^ 32
width_le Byte = omega arith
width_le Word = omega arith
width_le Dword = omega arith
