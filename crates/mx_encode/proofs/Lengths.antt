-- How many bytes are chosen doesn't hang on a number that is marked wide, nor on a distance that reaches.
use Rattle.std.proofs.Common.{◌≡◌, ℕ, suc, ◌+◌, Bool, true, false, List, ◌++◌, length, Option, Some, None, refl, sym, ap, ◌∙◌, IsTrue}
use Rattle.std.proofs.lemmas.List.{length-append}
use Rattle.mx_word.specs.declared.names.Condition.{Condition}
use Rattle.mx_word.specs.declared.names.Register.{Register}
use Rattle.mx_word.specs.Word.{bytes_of}
use Rattle.mx_insn.specs.declared.insn.Index.{Index}
use Rattle.mx_insn.specs.declared.insn.Loop.{Loop}
use Rattle.mx_insn.specs.declared.insn.Operand.{Operand}
use Rattle.mx_insn.specs.declared.insn.Operand.TheVariants as operand
use Rattle.mx_insn.specs.declared.insn.Operands.TheVariants as operands
use Rattle.mx_insn.specs.declared.insn.Immediate.TheVariants as immediate
use Rattle.mx_insn.specs.declared.insn.WideImmediate.TheVariants as wide_immediates
use Rattle.mx_insn.specs.declared.insn.Insn.{Insn}
use Rattle.mx_insn.specs.declared.insn.Insn.TheVariants as insns
use Rattle.mx_insn.specs.Spelling.{spelling, prefix_bytes, escape_bytes, modrm_bytes, sib_bytes, displacement_length}
use Rattle.mx_encode.specs.declared.Wide.{Wide}
use Rattle.mx_encode.specs.declared.fields.Rm.{Rm}
use Rattle.mx_encode.specs.Numbers.{number_bytes}
use Rattle.mx_encode.specs.Places.{rm_form_for, sib_of, mode_of, base_number}
use Rattle.mx_encode.specs.Choice.{Choice, choice}
use Rattle.mx_encode.specs.Chosen.{Chosen, fields_of}
use Rattle.mx_encode.specs.Filled.{operand_with_displacement, with_displacement, with_immediate, with_target, reaches}
use Rattle.mx_encode.specs.Lengths.{spelled_length, chosen_length as whole_length}
use Rattle.mx_encode.specs.Numbers.{arithmetic_number, is_short}
use Rattle.mx_encode.proofs.Each.{rm_at, choice_at, given_at, each}
use Rattle.mx_word.specs.Names.{register_number}

-- ---- the length of a choice

abbrev rm_length : Option Rm → ℕ
rm_length rm = length (modrm_bytes (rm_form_for rm true))

abbrev chosen_length : Choice → ℕ
chosen_length c = length (prefix_bytes c.resized c.repeat false) + (length (escape_bytes c.row.escaped) + suc (rm_length c.rm + length (number_bytes c.immediate)))

length-spelling : (c : Choice) → length (spelling c.row (fields_of c true)) ≡ chosen_length c
length-spelling c =
    length-append (prefix_bytes c.resized c.repeat false) _
    ∙ ap (λ n. length (prefix_bytes c.resized c.repeat false) + n) (length-append (escape_bytes c.row.escaped) _
    ∙ ap (λ n. length (escape_bytes c.row.escaped) + suc n) (length-append (modrm_bytes (rm_form_for c.rm true)) (number_bytes c.immediate)))

abbrev given_length : Option Choice → ℕ
given_length None = 0
given_length (Some c) = chosen_length c

-- ---- a displacement that is marked wide takes four bytes, whichever it is

after_sib : (base : Option Register) (index : Option Index) (m n : ℕ) → length (sib_bytes (sib_of base index) ++ bytes_of 4 n) ≡ length (sib_bytes (sib_of base index) ++ bytes_of 4 m)
after_sib base index m n =
    length-append (sib_bytes (sib_of base index)) (bytes_of 4 n) ∙ sym (length-append (sib_bytes (sib_of base index)) (bytes_of 4 m))

memory_length : (base : Option Register) (index : Option Index) (m n : ℕ)
    → length (sib_bytes (sib_of base index) ++ bytes_of (displacement_length (mode_of base n true) (base_number base)) n)
    ≡ length (sib_bytes (sib_of base index) ++ bytes_of (displacement_length (mode_of base m true) (base_number base)) m)
memory_length None index m n = after_sib None index m n
memory_length (Some r) index m n = after_sib (Some r) index m n

operand_length : (reg : ℕ) (o : Operand) (n : ℕ) → rm_length (Some (record { reg = reg; operand = operand_with_displacement o n })) ≡ rm_length (Some (record { reg = reg; operand = o }))
operand_length reg (operand.Register r) n = refl
operand_length reg (operand.Memory m) n = ap suc (memory_length m.base m.index m.displacement n)

rm_length_at : (rm : Option Rm) (n : ℕ) → rm_length (rm_at rm n) ≡ rm_length rm
rm_length_at None n = refl
rm_length_at (Some rm) n = operand_length rm.reg rm.operand n

length_at : (c : Choice) (n : ℕ) → chosen_length (choice_at c n) ≡ chosen_length c
length_at c n = ap (λ k. length (prefix_bytes c.resized c.repeat false) + (length (escape_bytes c.row.escaped) + suc (k + length (number_bytes c.immediate)))) (rm_length_at c.rm n)

given_length_at : (c : Option Choice) (n : ℕ) → given_length (given_at c n) ≡ given_length c
given_length_at None n = refl
given_length_at (Some c) n = length_at c n

spelled_given : (c : Option Choice) → spelled_length c true ≡ given_length c
spelled_given None = refl
spelled_given (Some c) = length-spelling c

displaced_count : (i : Insn) (short long : Bool) (n : ℕ) → IsTrue long
    → whole_length (with_displacement i n) (record { immediate = short; displacement = long }) ≡ whole_length i (record { immediate = short; displacement = long })
displaced_count i short true n h =
    spelled_given (choice (with_displacement i n) (record { immediate = short; displacement = true }))
    ∙ (ap given_length ((each i).stays short n) ∙ (given_length_at (choice i (record { immediate = short; displacement = true })) n
    ∙ sym (spelled_given (choice i (record { immediate = short; displacement = true })))))
displaced_count i short false n h = cc

-- whatever is before them, four bytes are four
four_after : (before : List ℕ) (m n : ℕ) → length (before ++ bytes_of 4 n) ≡ length (before ++ bytes_of 4 m)
four_after before m n = length-append before (bytes_of 4 n) ∙ sym (length-append before (bytes_of 4 m))

valued_count : (i : Insn) (short long : Bool) (n : ℕ) → IsTrue short
    → whole_length (with_immediate i n) (record { immediate = short; displacement = long }) ≡ whole_length i (record { immediate = short; displacement = long })
valued_count i false long n h = cc
valued_count (insns.Arithmetic o (operands.Immediate to (immediate.Dword m))) true long n h = ap suc (four_after (modrm_bytes (rm_form_for (Some (record { reg = arithmetic_number o; operand = to })) long)) m n)
valued_count (insns.Move (operands.Immediate (operand.Memory a) (immediate.Dword m))) true long n h = ap suc (four_after (modrm_bytes (rm_form_for (Some (record { reg = 0; operand = operand.Memory a })) long)) m n)
valued_count (insns.Move (operands.Immediate (operand.Register r) (immediate.Dword m))) true long n h = refl
valued_count (insns.TestImmediate o (immediate.Dword m)) true long n h = ap suc (four_after (modrm_bytes (rm_form_for (Some (record { reg = 0; operand = o })) long)) m n)
valued_count (insns.MultiplyImmediate to from (wide_immediates.Dword m)) true long n h = ap suc (four_after (modrm_bytes (rm_form_for (Some (record { reg = register_number to; operand = from })) long)) m n)
valued_count (insns.PushImmediate m) true long n h = refl
valued_count i true long n h = refl

whole-length-chosen : (i : Insn) (wide : Wide) (b : List ℕ) → Chosen i wide b → length b ≡ whole_length i wide
whole-length-chosen i wide b x = ap length x.spells.bytes_are ∙ sym (ap (λ c. spelled_length c wide.displacement) x.is_chosen)

-- ---- a distance that reaches

short_jump_if : (c : Condition) (short : Bool) (n : ℕ) → is_short 32 n ≡ true → whole_length (insns.JumpIf c n) (record { immediate = short; displacement = false }) ≡ 2
short_jump_if c short n h = rw h refl

short_jump : (short : Bool) (n : ℕ) → is_short 32 n ≡ true → whole_length (insns.Jump n) (record { immediate = short; displacement = false }) ≡ 2
short_jump short n h = rw h refl

short_loop : (o : Loop) (short long : Bool) (n : ℕ) → is_short 32 n ≡ true → whole_length (insns.Loop o n) (record { immediate = short; displacement = long }) ≡ 2
short_loop o short long n h = rw h refl

targeted_count : (i : Insn) (short long : Bool) (m n : ℕ) → IsTrue (reaches i (record { immediate = short; displacement = long }) m) → IsTrue (reaches i (record { immediate = short; displacement = long }) n)
    → whole_length (with_target i n) (record { immediate = short; displacement = long }) ≡ whole_length (with_target i m) (record { immediate = short; displacement = long })
targeted_count (insns.JumpIf c k) short true m n x y = refl
targeted_count (insns.JumpIf c k) short false m n x y = short_jump_if c short n y ∙ sym (short_jump_if c short m x)
targeted_count (insns.Jump k) short true m n x y = refl
targeted_count (insns.Jump k) short false m n x y = short_jump short n y ∙ sym (short_jump short m x)
targeted_count (insns.Call k) short long m n x y = refl
targeted_count (insns.Loop o k) short long m n x y = short_loop o short long n y ∙ sym (short_loop o short long m x)
targeted_count i short long m n x y = refl

-- ---- whichever the marks are

-- an immediate that is marked wide doesn't decide the length
pub immediate_keeps_count : (i : Insn) (wide : Wide) (n : ℕ) → IsTrue wide.immediate → whole_length (with_immediate i n) wide ≡ whole_length i wide
immediate_keeps_count i wide n h = valued_count i wide.immediate wide.displacement n h

pub immediate_keeps_length : (i : Insn) (wide : Wide) (n : ℕ) (a b : List ℕ) → IsTrue wide.immediate → Chosen i wide a → Chosen (with_immediate i n) wide b → length b ≡ length a
immediate_keeps_length i wide n a b h x y =
    whole-length-chosen (with_immediate i n) wide b y ∙ immediate_keeps_count i wide n h ∙ sym (whole-length-chosen i wide a x)

-- nor does a displacement in memory that is marked wide
pub displacement_keeps_count : (i : Insn) (wide : Wide) (n : ℕ) → IsTrue wide.displacement → whole_length (with_displacement i n) wide ≡ whole_length i wide
displacement_keeps_count i wide n h = displaced_count i wide.immediate wide.displacement n h

pub displacement_keeps_length : (i : Insn) (wide : Wide) (n : ℕ) (a b : List ℕ) → IsTrue wide.displacement → Chosen i wide a → Chosen (with_displacement i n) wide b → length b ≡ length a
displacement_keeps_length i wide n a b h x y =
    whole-length-chosen (with_displacement i n) wide b y ∙ displacement_keeps_count i wide n h ∙ sym (whole-length-chosen i wide a x)

-- nor the distance, as long as a jump reaches its target
pub target_keeps_length : (i : Insn) (wide : Wide) (m n : ℕ) (a b : List ℕ) → IsTrue (reaches i wide m) → IsTrue (reaches i wide n)
    → Chosen (with_target i m) wide a → Chosen (with_target i n) wide b → length b ≡ length a
target_keeps_length i wide m n a b x y s t =
    whole-length-chosen (with_target i n) wide b t ∙ targeted_count i wide.immediate wide.displacement m n x y ∙ sym (whole-length-chosen (with_target i m) wide a s)
