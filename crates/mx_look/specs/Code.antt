-- The line of code at an address of a process (our own).
use Rattle.std.specs.Prelude.{ℕ, ◌-◌, List, [], ◌∷◌, ◌++◌, codes, drop, take, Option, Some, None, Result, Ok, Err, if◌then◌else◌, nat_lt}
use Rattle.mx_insn.specs.declared.insn.Insn.{Insn}
use Rattle.mx_decode.specs.declared.DecodeFault.{DecodeFault}
use Rattle.mx_decode.specs.Decode.{front}
use Rattle.mx_aout.specs.declared.program.Symbol.{Symbol}
use Rattle.mx_exec.specs.declared.image.Image.{Image}
use Rattle.mx_exec.specs.Image.{code_bytes, dword_sum}
use Rattle.mx_insn_words.specs.Numbers.{eight_digits, hexadecimal}
use Rattle.mx_dis.specs.declared.part.Part.{Part}
use Rattle.mx_dis.specs.declared.part.Part.TheVariants.{Instruction, Byte}
use Rattle.mx_dis.specs.Listing.{part_text}
use Rattle.mx_dis.specs.Names.{name_text}
use Rattle.mx_dis.specs.Parting.{part_size}
use Rattle.mx_look.specs.Nearest.{nearest_symbol}

-- ---- the symbol

-- its name, and how far the address lies after it
unfoldable pub place_text : ℕ → Symbol → List ℕ
place_text at s =
    name_text s.name ++ (if nat_lt s.value at then codes "+" ++ hexadecimal (at - s.value) else []) ++ codes " "

abbrev pub place_text_if : ℕ → Option Symbol → List ℕ
place_text_if at None = []
place_text_if at (Some s) = place_text at s

-- ---- the instruction

-- the bytes from an address on that an instruction there can have
abbrev pub code_front : Image → ℕ → List ℕ
code_front m at = take 15 (drop at (code_bytes m))

abbrev pub part_by : ℕ → Result (Insn × ℕ) DecodeFault → Part
part_by b (Ok p) = Instruction p.0 p.1
part_by b (Err e) = Byte b

-- what a listing has of the first of these bytes; nothing where there is none
abbrev pub part_of_front : List ℕ → Option Part
part_of_front [] = None
part_of_front (b ∷ bs) = Some (part_by b (front (b ∷ bs)))

unfoldable pub code_part : Image → ℕ → Option Part
code_part m at = part_of_front (code_front m at)

abbrev pub part_text_if : ℕ → Option Part → List ℕ
part_text_if at None = codes "no code"
part_text_if at (Some p) = part_text (dword_sum at (part_size p)) p

-- ---- THE LINE

-- an address, the symbol there, and what a listing has there
unfoldable pub code_text : Option Symbol → Option Part → ℕ → List ℕ
code_text symbol part at = eight_digits at ++ codes " " ++ place_text_if at symbol ++ part_text_if at part

unfoldable pub code_line : List Symbol → Image → ℕ → List ℕ
code_line symbols m at = code_text (nearest_symbol at symbols) (code_part m at) at ++ codes "\n"
