-- Addresses as gdb has them, and what is there (our own).
use Rattle.std.specs.Prelude.{ℕ, ◌-◌, nat_le, if◌then◌else◌, List, [], ◌∷◌, drop, take, min}
use Rattle.std.specs.Prelude.{Option, Some, None}
use Rattle.mx_exec.specs.Image.{code_bytes, dword_sum, register_of}
use Rattle.mx_exec.specs.declared.image.Image.{Image}
use Rattle.mx_flags.specs.Flags.{bits_of}
use Rattle.mx_word.specs.declared.names.Register.TheVariants.{Eax, Ecx, Edx, Ebx, Esp, Ebp, Esi, Edi}

-- code is from 80000000 on: both segments of a program begin at 0
abbrev pub code_begin : ℕ
code_begin = 2147483648

-- the address in the code, if it is one of code
abbrev pub code_address : ℕ → Option ℕ
code_address a = if nat_le code_begin a then Some (a - code_begin) else None

-- and as gdb has it
abbrev pub shown_address : ℕ → ℕ
shown_address a = dword_sum a code_begin

-- what an address is of: the code, or the data segment; and where it is there
abbrev pub segment_by : Image → Option ℕ → List ℕ
segment_by m None = m.memory
segment_by m (Some c) = code_bytes m

abbrev pub place_by : ℕ → Option ℕ → ℕ
place_by a None = a
place_by a (Some c) = c

abbrev pub place_of : ℕ → ℕ
place_of a = place_by a (code_address a)

-- ALL BYTES of a process from an address on: of its code, or of its data segment
abbrev pub bytes_at : Image → ℕ → List ℕ
bytes_at m a = drop (place_of a) (segment_by m (code_address a))

-- how many a reply has at most: 8,190, as with two digits a byte they fill a packet; and data ends where code begins,
-- and code at the last address
abbrev pub most_bytes : ℕ → ℕ → ℕ
most_bytes a n = min (min n 8190) (code_begin - place_of a)

-- so many of them
abbrev pub bytes_for : Image → ℕ → ℕ → List ℕ
bytes_for m a n = take (most_bytes a n) (bytes_at m a)

-- THE REGISTERS, in gdb's order ("Debugging with GDB", "i386 Features")
abbrev pub registers_of : Image → List ℕ
registers_of m =
    register_of m Eax ∷ register_of m Ecx ∷ register_of m Edx ∷ register_of m Ebx
    ∷ register_of m Esp ∷ register_of m Ebp ∷ register_of m Esi ∷ register_of m Edi
    ∷ shown_address m.eip ∷ bits_of m.flags ∷ []
