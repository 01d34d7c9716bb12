-- What is left of what is to come from outside.
use Rattle.std.proofs.Common.{◌≡◌, ◌∙◌, ◌+◌, ◌-◌, ◌<◌, ◌≤◌, ℕ, ◌++◌, List, drop, length, min, replicate, ap, arith, sym}
use Rattle.std.proofs.lemmas.List.{drop-append-le, drop-replicate}
use Rattle.std.proofs.Math.Seq.{drop-append-add}
use Rattle.mx_turns.specs.declared.outside.OutsideLine.{OutsideLine}

-- a line of the list is left
pub left_listed : (xs : List OutsideLine) (n made : ℕ) (x : OutsideLine) → made ≤ length xs → drop made xs ++ replicate n x ≡ drop made (xs ++ replicate n x)
left_listed xs n made x le = sym (drop-append-le made xs (replicate n x) le)

-- some ticks are left
pub left_ticks : (xs : List OutsideLine) (ticks gone made : ℕ) (x : OutsideLine) → length xs < made → gone ≡ min (made - length xs) ticks → replicate (ticks - gone) x ≡ drop made (xs ++ replicate ticks x)
left_ticks xs ticks gone made x lt is =
    let d = made - length xs in
    let place : length xs + (made - length xs) ≡ made = omega (arith, lt) in
    let many : ticks - gone ≡ ticks - (made - length xs) = omega (arith, is) in
    ap (λ n. replicate n x) many
    ∙ sym (ap (λ n. drop n (xs ++ replicate ticks x)) (sym place) ∙ drop-append-add xs (replicate ticks x) d ∙ drop-replicate d ticks x)
