-- Bytes that are text, by the test and by the fact.
use Rattle.std.proofs.Common.{◌≡◌, ℕ, Bool, true, false, List, refl}
use Rattle.std.specs.Str.{IsUtf8, is_utf8}
use Rattle.std.proofs.lemmas.Str.{IsUtf8-from_is_utf8, is_utf8-from_IsUtf8}

pub text_is : (line : List ℕ) → IsUtf8 line → true ≡ is_utf8 line
text_is line h = cc (is_utf8-from_IsUtf8 line h)

pub text_isnt : (line : List ℕ) → (IsUtf8 line → ⊥) → false ≡ is_utf8 line
text_isnt line h = by (is_utf8 line) refl
  where
    by : (b : Bool) → is_utf8 line ≡ b → false ≡ is_utf8 line
    by true e = absurd (h (IsUtf8-from_is_utf8 line e))
    by false e = cc
