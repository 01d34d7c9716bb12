-- Whether an instruction of a process's code begins at an address, if its bytes are parted from the first on, as `mx dis`
-- parts them (our own).
use Rattle.std.specs.Prelude.{ℕ, zero, suc, ◌==◌, ◌&&◌, ◌||◌, if◌then◌else◌, Bool, true, false, List, [], ◌++◌, codes, Option, Some, None, Result, Ok, Err}
use Rattle.mx_boot.specs.declared.address_word.AddressWord.{AddressWord}
use Rattle.mx_dis.specs.declared.part.Part.{Part}
use Rattle.mx_dis.specs.declared.part.Part.TheVariants.{Instruction, Byte}
use Rattle.mx_dis.specs.Parting.{part_size}
use Rattle.mx_exec.specs.declared.image.Image.{Image}
use Rattle.mx_exec.specs.Image.{dword_sum}
use Rattle.mx_insn_words.specs.Numbers.{eight_digits}
use Rattle.mx_look.specs.Code.{code_part}
use Rattle.mx_print_answers.specs.Slots.{address_asked, image_in}
use Rattle.mx_print_answers.specs.declared.refused.Refused.{Refused as Kind}
use Rattle.mx_machine.specs.World.{World}

-- ---- the parts

-- from where the part ends that begins there, if there is one
abbrev pub after_part : Option Part → ℕ → (ℕ → Bool) → Bool
after_part None from goes_on = false
after_part (Some p) from goes_on = goes_on (dword_sum from (part_size p))

-- a part begins at an address: that is the first part from here on, or one of so many after it
abbrev pub begins_part : ℕ → Image → ℕ → ℕ → Bool
begins_part zero m at from = from == at
begins_part (suc n) m at from = from == at || after_part (code_part m from) from (begins_part n m at)

abbrev pub is_instruction : Option Part → Bool
is_instruction None = false
is_instruction (Some (Byte b)) = false
is_instruction (Some (Instruction i k)) = true

-- AN INSTRUCTION BEGINS there; a part has a byte at least, so no more parts than that come before it
abbrev pub begins_at : Image → ℕ → Bool
begins_at m at = begins_part at m at 0 && is_instruction (code_part m at)

-- ---- what is printed if none does

abbrev pub no_start : ℕ → List ℕ
no_start at =
    codes "mx dis has no instruction at " ++ eight_digits at ++ codes ": a number is decimal, or hexadecimal after 0x\n"

abbrev pub start_note : Option Image → ℕ → List ℕ
start_note None at = []
start_note (Some m) at = if begins_at m at then [] else no_start at

abbrev pub note_at : Option Image → Result ℕ Kind → List ℕ
note_at m (Err r) = []
note_at m (Ok at) = start_note m at

-- at the address that is named in the program of a slot's service
abbrev pub note_in : World → AddressWord → Result ℕ Kind → List ℕ
note_in w at (Err r) = []
note_in w at (Ok s) = note_at (image_in w s) (address_asked w s at)
