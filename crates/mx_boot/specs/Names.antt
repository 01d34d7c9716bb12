-- Names that a service may have, as those of labels in an assembler's text.
use Rattle.std.specs.Prelude.{◌≡◌, ◌⊎◌, ℕ, List}
use Rattle.mx_word.specs.declared.size.Size.{Size}
use Rattle.mx_word.specs.declared.names.Register.{Register}
use Rattle.mx_insn_words.specs.Registers.{register_word, size_word}

-- a word is a register or names a size
abbrev pub IsReserved : List ℕ → Type 0
IsReserved word =
    ((size : Size) × (register : Register) × (word ≡ register_word size register))
    ⊎ ((size : Size) × (word ≡ size_word size))
