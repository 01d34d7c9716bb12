-- How a line's fields spell a case.
use Rattle.std.specs.Prelude.{◌≡◌, ℕ, ⊤, List, [], ◌∷◌, ◌++◌, ◌==◌, length, codes, Option, Some, None, Result, Ok, Err}
use Rattle.std.specs.List.{slice_split}
use Rattle.std.specs.Str.Parse.{ParsesUnsigned}
use Rattle.hex.specs.Hex.{decode_of}
use Rattle.mx_exec.specs.declared.image.Outcome.{Outcome}
use Rattle.mx_exec.specs.declared.image.Outcome.TheVariants.{Go, Trap, Fault}
use Rattle.mx_vectors_compare.specs.declared.case.StepState.{StepState}
use Rattle.mx_vectors_compare.specs.declared.case_reading.Fields.{Fields}
use Rattle.mx_vectors_compare.specs.declared.case.Case.{Case}
use Rattle.mx_vectors_compare.specs.declared.case.CaseError.{CaseError}
use Rattle.mx_vectors_compare.specs.declared.case.CaseError.TheVariants.{Malformed, NoMemory}

-- what is read of a text is what it spells, and a text that spells nothing is malformed, unless memory runs out
abbrev pub ReadsField : {A : Type 0} → (A → Type 0) → Result A CaseError → Type 0
ReadsField Spelled (Ok x) = Spelled x
ReadsField {A} Spelled (Err Malformed) = (x : A) → Spelled x → ⊥
ReadsField Spelled (Err NoMemory) = ⊤

-- hexadecimal digits of a number of 32 bits
abbrev pub IsHexNumber : List ℕ → ℕ → Type 0
IsHexNumber text n = ParsesUnsigned {E = CaseError} 32 16 text (Ok n)

-- each text is the number at its place
abbrev pub AreNumbers : List (List ℕ) → List ℕ → Type 0
AreNumbers [] [] = ⊤
AreNumbers (text ∷ texts) (n ∷ numbers) = IsHexNumber text n × AreNumbers texts numbers
AreNumbers _ _ = ⊥

-- eight numbers parted by spaces
abbrev pub AreRegisters : List ℕ → List ℕ → Type 0
AreRegisters text words = (length words ≡ 8) × AreNumbers (slice_split (λ b. b == 32) text) words

-- hexadecimal digits, two a byte
abbrev pub AreHexBytes : List ℕ → List ℕ → Type 0
AreHexBytes text bytes = decode_of text ≡ Ok bytes

-- the code's bytes, or `-`
abbrev pub IsCode : List ℕ → Option (List ℕ) → Type 0
IsCode text None = text ≡ codes "-"
IsCode text (Some bytes) = AreHexBytes text bytes

-- `go`, or `fault-` and the vector in decimal digits
abbrev pub IsOutcome : List ℕ → Outcome → Type 0
IsOutcome text Go = text ≡ codes "go"
IsOutcome text Trap = ⊥
IsOutcome text (Fault vector) =
    (digits : List ℕ) × (text ≡ codes "fault-" ++ digits) × ParsesUnsigned {E = CaseError} 8 10 digits (Ok vector)

-- registers, EIP and flags
pub record IsState (a b c : List ℕ) (s : StepState) : Type 0 where
  pub registers : AreRegisters a s.registers
  pub eip : IsHexNumber b s.eip
  pub flags : IsHexNumber c s.flags

-- each part is what its field spells; of the changes, that there are none
pub record IsCase (f : Fields) (c : Case) : Type 0 where
  pub row : c.row.now ≡ f.row.now
  pub spelling : c.spelling.now ≡ f.spelling.now
  pub bytes : AreHexBytes f.spelling.now c.bytes
  pub code : IsCode f.code.now c.code
  pub memory : AreHexBytes f.memory.now c.memory
  pub before : IsState f.words.now f.eip.now f.flags.now c.before
  pub outcome : IsOutcome f.ends.now c.outcome
  pub after : IsState f.words_after.now f.eip_after.now f.flags_after.now c.after
  pub mask : IsHexNumber f.mask.now c.mask
  pub unchanged : f.changes.now ≡ codes "-" → c.memory_after ≡ c.memory

-- some line spells the case
abbrev pub IsCaseSpelled : Case → Type 0
IsCaseSpelled c = (f : Fields) × IsCase f c
