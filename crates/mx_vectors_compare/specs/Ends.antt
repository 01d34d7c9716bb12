-- What image a case begins with, and when a step of it ended as the case wants.
use Rattle.std.specs.Prelude.{◌≡◌, ℕ, ◌+◌, ◌-◌, ◌%◌, ◌==◌, if◌then◌else◌, List, Option, Some, None, bit_and, bit_or}
use Rattle.mx_flags.specs.Flags.{bits_of, values_of}
use Rattle.mx_regs.specs.RegisterValues.{words_of}
use Rattle.mx_exec.specs.declared.image.Code.{Code}
use Rattle.mx_exec.specs.declared.image.Code.TheVariants.{Separate, Shared}
use Rattle.mx_exec.specs.declared.image.Image.{Image}
use Rattle.mx_exec.specs.declared.image.Outcome.{Outcome}
use Rattle.mx_exec.specs.declared.image.Outcome.TheVariants.{Go, Trap, Fault}
use Rattle.mx_vectors_compare.specs.declared.case.Case.{Case}

-- ---- before the step

-- the code is in bytes of its own, or in the data
abbrev pub code_of_case : Option (List ℕ) → Code
code_of_case (Some bytes) = Separate bytes
code_of_case None = Shared

-- the image that a case begins with
abbrev pub image_of_case : Case → Image
image_of_case c = record {
  regs = words_of c.before.registers;
  eip = c.before.eip;
  flags = values_of c.before.flags;
  memory = c.memory;
  code = code_of_case c.code;
}

-- ---- after it

-- a fault is its vector, which is below 256
abbrev pub number_of : Outcome → ℕ
number_of (Fault vector) = vector
number_of Go = 256
number_of Trap = 257

-- the flags to compare: all, and carry if the mask has it; only direction if the mask is direction
abbrev pub compared_flags : ℕ → ℕ
compared_flags mask = if mask == 0x400 then 0x400 else 0xCD4 + mask % 2

-- the first word's bits where the mask has ones, the second's where it has zeros
abbrev pub merged : ℕ → ℕ → ℕ → ℕ
merged mask a b = bit_or (bit_and a mask) (bit_and b (4294967295 - mask))

-- the flags after the step: those that the manual leaves undefined are as before it
abbrev pub wanted_flags : Case → ℕ
wanted_flags c = merged c.mask c.after.flags c.before.flags

-- two words are equal in the bits that a mask has
abbrev pub SameBits : ℕ → ℕ → ℕ → Type 0
SameBits mask a b = bit_and a mask ≡ bit_and b mask

-- a step ended as the case wants
pub record EndsAs (c : Case) (o : Outcome) (m : Image) : Type 0 where
  pub outcome : o ≡ c.outcome
  pub registers : m.regs ≡ words_of c.after.registers
  pub eip : m.eip ≡ c.after.eip
  pub flags : SameBits (compared_flags c.mask) (bits_of m.flags) (wanted_flags c)
  pub memory : m.memory ≡ c.memory_after
