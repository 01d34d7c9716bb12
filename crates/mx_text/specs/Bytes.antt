-- What single bytes of a text are (our own notation, but for the digits, which are C's).
use Rattle.std.specs.Prelude.{ℕ, ◌-◌, Bool, ◌&&◌, ◌||◌, ◌==◌, nat_le, if◌then◌else◌}

abbrev pub is_between : ℕ → ℕ → ℕ → Bool
is_between low high b = nat_le low b && nat_le b high

abbrev pub is_digit : ℕ → Bool
is_digit b = is_between 48 57 b

-- A to Z and a to z
abbrev pub is_letter : ℕ → Bool
is_letter b = is_between 65 90 b || is_between 97 122 b

-- a letter or the underscore
abbrev pub begins_name : ℕ → Bool
begins_name b = is_letter b || b == 95

-- what a name, a number and a word of a statement run on over
abbrev pub is_word_byte : ℕ → Bool
is_word_byte b = begins_name b || is_digit b

-- a digit's value in bases up to 16, in either case; 16 for no digit
abbrev pub digit_value : ℕ → ℕ
digit_value b =
    if is_between 48 57 b then b - 48
    else if is_between 97 102 b then b - 87
    else if is_between 65 70 b then b - 55
    else 16
