-- The roundtrip: a text is assembled, written, read, loaded and listed, and its instructions are found again.
use Rattle.std.specs.Prelude.{◌≡◌, ℕ, ◌+◌, List, [], ◌∷◌, ◌++◌, map, length, Some, string_bytes, ⊤}
use Rattle.mx_insn.specs.declared.insn.Insn.{Insn}
use Rattle.mx_insn.specs.Spelling.{Spells}
use Rattle.mx_asm_statement.specs.declared.statement.Section.{Section}
use Rattle.mx_asm_statement.specs.declared.statement.Section.TheVariants.{Text, Data, Bss}
use Rattle.mx_asm_statement.specs.declared.statement.Statement.{Statement}
use Rattle.mx_asm_statement.specs.declared.statement.Statement.TheVariants as says
use Rattle.mx_asm_statement.specs.declared.line.Line.{Line}
use Rattle.mx_aout.specs.declared.program.Program.{Program}
use Rattle.mx_aout.specs.File.{FileIs}
use Rattle.mx_aout.specs.Written.{short_file}
use Rattle.mx_asm.specs.declared.sizes.SectionSizes.{SectionSizes}
use Rattle.mx_asm.specs.Branches.{branch_by, distance}
use Rattle.mx_asm.specs.Layout.{LinesAbove, no_lines_above, left_by, sizes_after, section_offset_of, address_of_offset, value_under, statement_said}
use Rattle.mx_asm.specs.Bytes.{named_under, put_into}
use Rattle.mx_asm.specs.Assembled.{AreAssembled}
use Rattle.mx_asm.specs.Text.{IsAssembled}
use Rattle.mx_exec.specs.Image.{code_bytes}
use Rattle.mx_load.specs.Load.{image_of_program}
use Rattle.mx_dis.specs.declared.part.Part.{Part}
use Rattle.mx_dis.specs.declared.part.Part.TheVariants.{Instruction}
use Rattle.mx_dis.specs.Parting.{IsParting, total_size}
use Rattle.mx_dis.specs.Listing.{lines_of}
use Rattle.mx_app_program.specs.declared.round_trip.Journey.{Journey}

-- ---- bytes in the code

-- these bytes are at an address
abbrev pub StandAt : List ℕ → ℕ → List ℕ → Type 0
StandAt code at b = (before after : List ℕ) × (code ≡ before ++ (b ++ after)) × (length before ≡ at)

abbrev pub StandIfText : Section → List ℕ → ℕ → List ℕ → Type 0
StandIfText Text code at b = StandAt code at b
StandIfText Data code at b = ⊤
StandIfText Bss code at b = ⊤

-- the bytes of each statement in the text section are at its address
abbrev pub AllAtAddress : List ℕ → LinesAbove → SectionSizes → List Line → List (List ℕ) → Type 0
AllAtAddress code a s [] bs = ⊤
AllAtAddress code a s (l ∷ ls) [] = ⊤
AllAtAddress code a s (l ∷ ls) (b ∷ bs) =
    StandIfText s.section code (address_of_offset a (section_offset_of s)) b
    × AllAtAddress code a (sizes_after s (statement_said l) (length b)) ls bs

-- ---- instructions in the listing

-- at an address the parts have this instruction, spelled by k bytes
abbrev pub HasAt : List Part → ℕ → Insn → ℕ → Type 0
HasAt parts at i k = (before after : List Part) × (parts ≡ before ++ Instruction i k ∷ after) × (total_size before ≡ at)

-- what these bytes spell is listed at their address
abbrev pub IsListed : List Part → ℕ → List ℕ → Insn → Type 0
IsListed parts at b i = Spells b i × HasAt parts at i (length b)

-- the instruction of a statement is listed; a directive has none
abbrev pub StatementListed : LinesAbove → ℕ → Statement → List ℕ → List Part → Type 0
StatementListed a at (says.Instruction i) b parts =
    (insn : Insn) × (named_under a i ≡ Some insn) × IsListed parts at b insn
StatementListed a at (says.Branch k target) b parts =
    (x : ℕ) × (value_under a target ≡ Some x) × IsListed parts at b (branch_by k (distance (at + length b) x))
StatementListed a at _ b parts = ⊤

abbrev pub ListedIfText : Section → LinesAbove → ℕ → Statement → List ℕ → List Part → Type 0
ListedIfText Text a at t b parts = StatementListed a at t b parts
ListedIfText Data a at t b parts = ⊤
ListedIfText Bss a at t b parts = ⊤

-- the bytes that a directive puts into the text section
abbrev pub put_by_directive : Section → Statement → List ℕ → List ℕ
put_by_directive section (says.Instruction i) b = []
put_by_directive section (says.Branch k target) b = []
put_by_directive section _ b = put_into Text section b

-- the instruction of each line in the text section is listed, if no directive before it puts bytes there
abbrev pub AllListed : List Part → LinesAbove → SectionSizes → List Line → List (List ℕ) → Type 0
AllListed parts a s [] bs = ⊤
AllListed parts a s (l ∷ ls) [] = ⊤
AllListed parts a s (l ∷ ls) (b ∷ bs) =
    ListedIfText s.section a (address_of_offset a (section_offset_of s)) (statement_said l) b parts
    × (put_by_directive s.section (statement_said l) b ≡ []
    → AllListed parts a (sizes_after s (statement_said l) (length b)) ls bs)

-- ---- a text that is assembled

-- the layout of its labels, by the lengths of its bytes
abbrev pub layout_of : {lines : List Line} {p : Program} → AreAssembled lines p → LinesAbove
layout_of {lines} made = left_by no_lines_above lines (map length made.bytes)

-- the code has the bytes of each statement at its address
abbrev pub CodeKeeps : (lines : List Line) (p : Program) → AreAssembled lines p → List ℕ → Type 0
CodeKeeps lines p made code = AllAtAddress code (layout_of made) no_lines_above.sizes lines made.bytes

-- the parts have each instruction at its address, if no directive before it puts bytes into the text section
abbrev pub PartsKeep : (lines : List Line) (p : Program) → AreAssembled lines p → List Part → Type 0
PartsKeep lines p made parts = AllListed parts (layout_of made) no_lines_above.sizes lines made.bytes

-- a text's roundtrip: its program's file in the short form, of which it is the only program; the image of
-- that program, whose code has each statement's bytes at its address; and the listing, whose parts have each
-- instruction there
pub record GoesAround (text : List ℕ) (way : Journey) : Type 0 where
  pub program : Program
  pub assembled : IsAssembled text program
  pub file : FileIs way.file program
  pub short : way.file ≡ short_file program
  pub only : (other : Program) → FileIs way.file other → other ≡ program
  pub image : way.image ≡ image_of_program program
  pub code : CodeKeeps assembled.0 program assembled.2 (code_bytes way.image)
  pub parts : List Part
  pub parting : IsParting program.text parts
  pub listing : string_bytes way.listing ≡ lines_of 0 parts
  pub instructions : PartsKeep assembled.0 program assembled.2 parts
