-- Which bytes spell which number (C's decimal and hexadecimal constants; the bound is our own).
use Rattle.std.specs.Prelude.{◌≡◌, ◌≢◌, ℕ, ◌+◌, ◌*◌, ◌^◌, ◌<◌, ◌⊎◌, List, [], ◌∷◌}
use Rattle.std.specs.List.{All}
use Rattle.mx_text.specs.Bytes.{digit_value}

-- digits, highest first: the number of which `above` is the front and whose further digits these are
abbrev pub value_from : ℕ → ℕ → List ℕ → ℕ
value_from base above [] = above
value_from base above (b ∷ bs) = value_from base (above * base + digit_value b) bs

abbrev pub AreDigits : ℕ → List ℕ → Type 0
AreDigits base bs = All (λ b. digit_value b < base) bs

-- digits that spell no number of 32 bits
abbrev pub IsNoValue : ℕ → List ℕ → Type 0
IsNoValue base bs = (n : ℕ) → n < 2 ^ 32 → AreDigits base bs → n ≡ value_from base 0 bs → ⊥

-- one or more digits, of a number of 32 bits
abbrev pub IsNumberInBase : ℕ → List ℕ → ℕ → Type 0
IsNumberInBase base bs n = (bs ≢ []) × (n < 2 ^ 32) × AreDigits base bs × (n ≡ value_from base 0 bs)

-- decimal digits, or 0x and hexadecimal digits
abbrev pub IsNumber : List ℕ → ℕ → Type 0
IsNumber bs n = IsNumberInBase 10 bs n ⊎ ((digits : List ℕ) × (bs ≡ 48 ∷ 120 ∷ digits) × IsNumberInBase 16 digits n)
