-- How a text is parted into instructions and single bytes.
use Rattle.std.specs.Prelude.{◌≡◌, ℕ, ◌+◌, List, [], ◌∷◌, drop}
use Rattle.mx_insn.specs.declared.insn.Insn.{Insn}
use Rattle.mx_decode.specs.Decode.{SpellsFirst, NoneFirst}
use Rattle.mx_dis.specs.declared.part.Part.{Part}
use Rattle.mx_dis.specs.declared.part.Part.TheVariants.{Instruction, Byte}

-- from its first byte on a text is parted into spellings of instructions, and single bytes at which no
-- instruction begins
abbrev pub IsParting : List ℕ → List Part → Type 0
IsParting t [] = t ≡ []
IsParting t (Instruction i k ∷ parts) = SpellsFirst t k i × IsParting (drop k t) parts
IsParting t (Byte b ∷ parts) = (rest : List ℕ) × (t ≡ b ∷ rest) × NoneFirst t × IsParting rest parts

-- a text begins with this part: an instruction whose spelling comes first, or the first byte, if there is
-- none
abbrev pub IsFirstPart : List ℕ → Part → Type 0
IsFirstPart t (Instruction i k) = SpellsFirst t k i
IsFirstPart t (Byte b) = (rest : List ℕ) × (t ≡ b ∷ rest) × NoneFirst t

-- how many bytes a part takes
abbrev pub part_size : Part → ℕ
part_size (Instruction i k) = k
part_size (Byte b) = 1

-- how many bytes parts take together
abbrev pub total_size : List Part → ℕ
total_size [] = 0
total_size (p ∷ parts) = part_size p + total_size parts

-- the first part is this instruction, spelled by k bytes, and the others are a parting of the rest
abbrev pub BeginsWith : Insn → ℕ → List ℕ → List Part → Type 0
BeginsWith i k rest parts = (others : List Part) × (parts ≡ Instruction i k ∷ others) × IsParting rest others
