-- Symbols one after another.
use Rattle.std.proofs.Common.{◌≡◌, ℕ, zero, suc, ◌+◌, ◌*◌, List, [], ◌∷◌, ◌++◌, ap, ◌∙◌, arith}
use Rattle.mx_aout.specs.declared.program.Symbol.{Symbol}
use Rattle.mx_aout.specs.File.{symbol_at, symbols_from}

-- one symbol more
pub symbols_from-more : (b : List ℕ) (at k : ℕ) → symbols_from b at (k + 1) ≡ symbols_from b at k ++ symbol_at b (at + k * 16) ∷ []
symbols_from-more b at zero = ap (λ (n : ℕ). symbol_at b n ∷ []) (let e : at ≡ at + 0 * 16 = omega arith in e)
symbols_from-more b at (suc k) =
    ap (λ (n : ℕ). symbols_from b at n) (let e : suc k + 1 ≡ suc (k + 1) = omega arith in e)
    ∙ ap (λ (z : List Symbol). symbol_at b at ∷ z) (symbols_from-more b (at + 16) k)
    ∙ ap (λ (n : ℕ). symbol_at b at ∷ (symbols_from b (at + 16) k ++ symbol_at b n ∷ [])) (let e : at + 16 + k * 16 ≡ at + suc k * 16 = omega arith in e)
