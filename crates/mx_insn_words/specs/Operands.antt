-- How an operand is written.
use Rattle.std.specs.Prelude.{ℕ, Bool, not, ◌&&◌, ◌||◌, ◌==◌, if◌then◌else◌, List, [], ◌∷◌, ◌++◌, codes, Option, Some}
use Rattle.std.specs.Prelude.{None, is_none}
use Rattle.std.specs.List.{join_with_byte}
use Rattle.mx_word.specs.declared.size.Size.TheVariants.{Dword}
use Rattle.mx_word.specs.declared.names.Register.{Register}
use Rattle.mx_insn.specs.declared.insn.Scale.{Scale}
use Rattle.mx_insn.specs.declared.insn.Scale.TheVariants.{One, Two, Four, Eight}
use Rattle.mx_insn.specs.declared.insn.Index.{Index}
use Rattle.mx_insn.specs.declared.insn.Memory.{Memory}
use Rattle.mx_insn_words.specs.Registers.{register_word, size_word}
use Rattle.mx_insn_words.specs.declared.written.Written.{Written}
use Rattle.mx_insn_words.specs.declared.written.Written.TheVariants as written
use Rattle.mx_insn_words.specs.Numbers.{number_text}

abbrev pub scale_text : Scale → List ℕ
scale_text One = codes "*1"
scale_text Two = codes "*2"
scale_text Four = codes "*4"
scale_text Eight = codes "*8"

abbrev pub base_parts : Option Register → List (List ℕ)
base_parts None = []
base_parts (Some r) = register_word Dword r ∷ []

abbrev pub index_text : Index → List ℕ
index_text i = register_word Dword i.register ++ scale_text i.scale

abbrev pub index_parts : Option Index → List (List ℕ)
index_parts None = []
index_parts (Some i) = index_text i ∷ []

-- a displacement is written if it isn't 0, or if there is nothing else
abbrev pub shows_displacement : Memory → Bool
shows_displacement m = not (m.displacement == 0) || (is_none m.base && is_none m.index)

abbrev pub displacement_parts : Memory → List (List ℕ)
displacement_parts m = if shows_displacement m then number_text m.displacement ∷ [] else []

-- base, index with its scale, and displacement, with `+` between them
abbrev pub place_text : Memory → List ℕ
place_text m = join_with_byte 43 (base_parts m.base ++ (index_parts m.index ++ displacement_parts m))

abbrev pub bracket_text : Memory → List ℕ
bracket_text m = codes "[" ++ (place_text m ++ codes "]")

-- a register's word, memory after the word of its size, an address without one, a number
abbrev pub operand_text : Written → List ℕ
operand_text (written.Register size r) = register_word size r
operand_text (written.Memory size m) = size_word size ++ (codes " " ++ bracket_text m)
operand_text (written.Address m) = bracket_text m
operand_text (written.Number n) = number_text n
