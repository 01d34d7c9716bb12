-- Numbers within limits.
use Rattle.std.specs.Prelude.{ℕ, Bool, ◌&&◌, nat_lt, nat_le, if◌then◌else◌, List, Option, Some, None}
use Rattle.std.specs.List.{list_all}
use Rattle.mx_text.specs.Bytes.{digit_value}
use Rattle.mx_text.specs.Numbers.{value_from}
use Rattle.mx_text.specs.Fields.{has_bytes}

-- one or more digits of the base, whose number is at most the limit
abbrev pub spells_up_to : ℕ → ℕ → List ℕ → Bool
spells_up_to limit base word =
    has_bytes word && list_all (λ b. nat_lt (digit_value b) base) word && nat_le (value_from base 0 word) limit

abbrev pub number_up_to : ℕ → ℕ → List ℕ → Option ℕ
number_up_to limit base word = if spells_up_to limit base word then Some (value_from base 0 word) else None
