-- Operands as a list.
use Rattle.std.specs.Prelude.{List, [], ◌∷◌}
use Rattle.mx_insn_words.specs.declared.written.Written.{Written}
use Rattle.mx_insn_words.specs.declared.written.WrittenOperands.{WrittenOperands}
use Rattle.mx_insn_words.specs.declared.written.WrittenOperands.TheVariants.{Nothing, One, Two, Three}

abbrev pub written_list : WrittenOperands → List Written
written_list Nothing = []
written_list (One x) = x ∷ []
written_list (Two x y) = x ∷ y ∷ []
written_list (Three x y z) = x ∷ y ∷ z ∷ []
