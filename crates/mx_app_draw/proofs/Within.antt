-- What is on the paper: products, quotients and rests are small.
use Rattle.std.proofs.Common.{◌≤◌, ℕ, ◌*◌, ◌/◌, ◌%◌}
use Rattle.std.proofs.Math.Nat.{div-le_self, mod-le}
use Rattle.std.proofs.lemmas.Nat.{mul-le}

pub strips_within : (k h : ℕ) → k ≤ 25 → h ≤ 1128 → k * h ≤ 28200
strips_within k h a b = mul-le k h 25 1128 a b

pub quotient_within : (j p : ℕ) → j / p ≤ j
quotient_within j p = div-le_self j p

pub rest_within : (j p : ℕ) → j % p ≤ j
rest_within j p = mod-le j p
