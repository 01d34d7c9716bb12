-- Addresses of a program's names (a.out.h: a name ends at its first zero byte).
use Rattle.std.specs.Prelude.{ℕ, Bool, nat_eq, if◌then◌else◌, List, [], ◌∷◌, Option, Some, None}
use Rattle.std.specs.Cmp.Lexicographic.{pointwise}
use Rattle.mx_aout.specs.declared.program.Symbol.{Symbol}
use Rattle.mx_dis.specs.Names.{before_zero}

abbrev pub has_name : List ℕ → Symbol → Bool
has_name name s = pointwise nat_eq (before_zero s.name) name

-- the value of the first symbol of that name
abbrev pub first_named : List Symbol → List ℕ → Option ℕ
first_named [] name = None
first_named (s ∷ ss) name = if has_name name s then Some s.value else first_named ss name
