-- The listing of a text.
use Rattle.std.specs.Prelude.{◌≡◌, ℕ, ◌+◌, List, [], ◌∷◌, ◌++◌, codes}
use Rattle.mx_insn_words.specs.declared.start.Directive.TheVariants.{Data1}
use Rattle.mx_insn_words.specs.Words.{directive_word}
use Rattle.mx_insn_words.specs.Numbers.{number_text, eight_digits}
use Rattle.mx_insn_words.specs.Statement.{statement_text}
use Rattle.mx_dis.specs.declared.part.Part.{Part}
use Rattle.mx_dis.specs.declared.part.Part.TheVariants.{Instruction, Byte}
use Rattle.mx_dis.specs.Parting.{IsParting, part_size}

-- a part as text, with the address of the next part: an instruction, or the directive for its byte
abbrev pub part_text : ℕ → Part → List ℕ
part_text next (Instruction i k) = statement_text next i
part_text next (Byte b) = directive_word Data1 ++ (codes " " ++ number_text b)

-- the line of a part at an address: the address, a space, and what the part is
abbrev pub listing_line : ℕ → Part → List ℕ
listing_line at p = eight_digits at ++ (codes " " ++ (part_text (at + part_size p) p ++ codes "\n"))

-- the lines of parts. The first is at an address, and each other follows the one before
abbrev pub lines_of : ℕ → List Part → List ℕ
lines_of at [] = []
lines_of at (p ∷ parts) = listing_line at p ++ lines_of (at + part_size p) parts

-- the listing of bytes from an address on: the lines of their parting
abbrev pub IsListing : ℕ → List ℕ → List ℕ → Type 0
IsListing at bytes text = (parts : List Part) × IsParting bytes parts × (text ≡ lines_of at parts)
