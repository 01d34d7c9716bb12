-- One or more digits.
use Rattle.std.proofs.Common.{◌≡◌, ◌&&◌, ◌==◌, Bool, true, false, ℕ, List, [], ◌∷◌, length}
use Rattle.std.specs.List.{list_all}
use Rattle.mx_text.specs.Bytes.{is_digit}
use Rattle.mx_text.specs.Fields.{has_bytes}

-- bytes are there
pub some_digits : (text : List ℕ) (e r : Bool) → e ≡ false → e ≡ (length text == 0) → r ≡ list_all is_digit text → r ≡ (has_bytes text && list_all is_digit text)
some_digits [] true r there is all = absurd cc
some_digits [] false r there is all = absurd cc
some_digits (b ∷ bs) e r there is all = all
