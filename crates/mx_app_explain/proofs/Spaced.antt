-- One byte more of a line.
use Rattle.std.proofs.Common.{◌≡◌, ◌∙◌, ◌<◌, ◌+◌, ℕ, suc, List, ◌++◌, length, drop, get_or, ap, sym, arith}
use Rattle.std.specs.List.{flat_map}
use Rattle.std.proofs.Math.Seq.{drop-cons}
use Rattle.mx_app_explain.specs.TextWords.{spaced_byte}

pub spaced_more : (bytes : List ℕ) (i b : ℕ) → i < length bytes → b ≡ get_or bytes i b
    → flat_map spaced_byte (drop i bytes) ≡ spaced_byte b ++ flat_map spaced_byte (drop (i + 1) bytes)
spaced_more bytes i b h is =
    let next : suc i ≡ i + 1 = omega arith in
    ap (flat_map spaced_byte) (drop-cons bytes i b h)
    ∙ ap (λ (u : ℕ). spaced_byte u ++ flat_map spaced_byte (drop (suc i) bytes)) (sym is)
    ∙ ap (λ (n : ℕ). spaced_byte b ++ flat_map spaced_byte (drop n bytes)) next
