-- The bytes of statements, with the addresses of the labels put in.
use Rattle.std.specs.Prelude.{◌≡◌, ℕ, ◌+◌, List, [], ◌∷◌, ◌++◌, map, length, replicate, Option, Some, None, ⊤}
use Rattle.std.specs.List.{flat_map}
use Rattle.mx_word.specs.Word.{bytes_of, bytes_in}
use Rattle.mx_insn.specs.declared.insn.Insn.{Insn}
use Rattle.mx_encode.specs.Chosen.{Chosen}
use Rattle.mx_encode.specs.Filled.{with_immediate, with_displacement}
use Rattle.mx_asm_statement.specs.declared.statement.Section.{Section}
use Rattle.mx_asm_statement.specs.declared.statement.Section.TheVariants.{Text, Data, Bss}
use Rattle.mx_asm_statement.specs.declared.statement.Statement.{Statement}
use Rattle.mx_asm_statement.specs.declared.statement.Statement.TheVariants as says
use Rattle.mx_asm_statement.specs.declared.instruction.Instruction.{Instruction}
use Rattle.mx_asm_statement.specs.declared.value.Value.{Value}
use Rattle.mx_asm_statement.specs.declared.line.Line.{Line}
use Rattle.mx_asm_statement.specs.Instructions.{marks}
use Rattle.mx_asm.specs.declared.sizes.SectionSizes.{SectionSizes}
use Rattle.mx_asm.specs.Branches.{branch_by, branch_marks, branch_length, distance}
use Rattle.mx_asm.specs.Lengths.{statement_length}
use Rattle.mx_asm.specs.Layout.{LinesAbove, value_under, section_offset_of, sizes_after, address_of_offset}
use Rattle.mx_asm.specs.Layout.{statement_said}

abbrev pub put_in : (Insn → ℕ → Insn) → Insn → Option ℕ → Option Insn
put_in put i None = None
put_in put i (Some n) = Some (put i n)

-- a number without a name is in the instruction already
abbrev pub put_under : LinesAbove → (Insn → ℕ → Insn) → Option Value → Insn → Option Insn
put_under a put None i = Some i
put_under a put (Some v) i = put_in put i (value_under a v)

abbrev pub then_put : LinesAbove → (Insn → ℕ → Insn) → Option Value → Option Insn → Option Insn
then_put a put v None = None
then_put a put v (Some i) = put_under a put v i

-- the instruction that is named: the numbers that hold names are put in
abbrev pub named_under : LinesAbove → Instruction → Option Insn
named_under a i = then_put a with_displacement i.displacement (put_under a with_immediate i.immediate i.insn)

-- the bytes of a statement at an address
abbrev pub BytesOf : LinesAbove → ℕ → Statement → List ℕ → Type 0
BytesOf a at (says.Data size values) b =
    (numbers : List ℕ) × (map (value_under a) values ≡ map Some numbers)
    × (b ≡ flat_map (bytes_of (bytes_in size)) numbers)
BytesOf a at (says.Ascii bytes) b = b ≡ bytes
BytesOf a at (says.Space n) b = b ≡ replicate n 0
BytesOf a at (says.Instruction i) b = (insn : Insn) × (named_under a i ≡ Some insn) × Chosen insn (marks i) b
BytesOf a at (says.Branch k target) b =
    (x : ℕ) × (value_under a target ≡ Some x) × Chosen (branch_by k (distance (at + length b) x)) (branch_marks k) b
    × (length b ≡ branch_length k)
BytesOf a at _ b = b ≡ []

-- the bytes of a statement in its section at its address; bss takes only labels and zeros
abbrev pub StandsIn : Section → LinesAbove → ℕ → Statement → List ℕ → Type 0
StandsIn Text a at t b = BytesOf a at t b
StandsIn Data a at t b = BytesOf a at t b
StandsIn Bss a at t b = b ≡ replicate (statement_length t) 0

-- all at once: each statement has the right bytes at its address
abbrev pub AllStand : LinesAbove → SectionSizes → List Line → List (List ℕ) → Type 0
AllStand a s [] [] = ⊤
AllStand a s (l ∷ ls) (b ∷ bs) =
    StandsIn s.section a (address_of_offset a (section_offset_of s)) (statement_said l) b
    × AllStand a (sizes_after s (statement_said l) (length b)) ls bs
AllStand a s [] (b ∷ bs) = ⊥
AllStand a s (l ∷ ls) [] = ⊥

abbrev pub put_into : Section → Section → List ℕ → List ℕ
put_into Text Text b = b
put_into Data Data b = b
put_into _ _ b = []

-- what the statements put into a section
abbrev pub contents : Section → SectionSizes → List Line → List (List ℕ) → List ℕ
contents section s [] bs = []
contents section s (l ∷ ls) [] = []
contents section s (l ∷ ls) (b ∷ bs) =
    put_into section s.section b ++ contents section (sizes_after s (statement_said l) (length b)) ls bs

-- the new bytes are the old and those of a statement
abbrev pub Pushes : LinesAbove → ℕ → Statement → List ℕ → List ℕ → Type 0
Pushes a at t old new = (b : List ℕ) × BytesOf a at t b × (new ≡ old ++ b)

-- what one statement adds at its address: the new text and data are the old ones and its bytes
pub record PutsOut (a : LinesAbove) (s : SectionSizes) (t : Statement) (text init text' init' : List ℕ) : Type 0 where
  pub bytes : List ℕ
  pub stand : StandsIn s.section a (address_of_offset a (section_offset_of s)) t bytes
  pub text_is : text' ≡ text ++ put_into Text s.section bytes
  pub init_is : init' ≡ init ++ put_into Data s.section bytes

-- what is put into text and data
pub record AreParts (a : LinesAbove) (s : SectionSizes) (lines : List Line) (text init : List ℕ) : Type 0 where
  pub bytes : List (List ℕ)
  pub stand : AllStand a s lines bytes
  pub text_is : text ≡ contents Text s lines bytes
  pub init_is : init ≡ contents Data s lines bytes
