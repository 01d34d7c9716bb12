-- The numbers of what is stated are as wide as their types.
use Rattle.std.proofs.Common.{◌≡◌, ℕ, ◌<◌, ◌^◌, Bool, true, false, List, [], ◌∷◌, Option, Some, None, refl, subst, arith, lit<}
use Rattle.std.specs.Prelude.{ℤ, pos, negsuc}
use Rattle.std.proofs.lemmas.Bool.{cond_both}
use Rattle.mx_word.specs.Word.{width, modulo}
use Rattle.mx_word.specs.declared.size.Size.{Size}
use Rattle.mx_word.specs.declared.size.Size.TheVariants.{Byte, Word, Dword}
use Rattle.mx_word.specs.declared.names.Register.{Register}
use Rattle.mx_word.specs.declared.names.Register.TheVariants.{Eax, Ecx, Edx, Ebx, Esp, Ebp, Esi, Edi}
use Rattle.mx_word.specs.declared.names.Arithmetic.{Arithmetic}
use Rattle.mx_word.specs.declared.names.Condition.{Condition}
use Rattle.mx_word.specs.declared.names.Unary.{Unary}
use Rattle.mx_word.specs.declared.names.Shift.{Shift}
use Rattle.mx_word.specs.declared.names.BitTest.{BitTest}
use Rattle.mx_word.specs.declared.names.BitScan.{BitScan}
use Rattle.mx_word.specs.declared.names.DoubleShift.{DoubleShift}
use Rattle.mx_text.specs.declared.names.Name.{Name}
use Rattle.mx_insn.specs.declared.insn.Memory.{Memory}
use Rattle.mx_insn.specs.declared.insn.Operand.TheVariants as operands
use Rattle.mx_insn.specs.declared.insn.Product.{Product}
use Rattle.mx_insn.specs.declared.insn.Product.TheVariants.{Mul, Imul, Div, Idiv}
use Rattle.mx_insn.specs.declared.insn.Loop.{Loop}
use Rattle.mx_insn.specs.declared.insn.OperandSize.TheVariants as operand_sizes
use Rattle.mx_insn.specs.declared.insn.Repeat.TheVariants as repeats
use Rattle.mx_insn.specs.declared.insn.Insn.{Insn}
use Rattle.mx_insn.specs.declared.insn.Insn.TheVariants as insns
use Rattle.mx_insn.specs.Spelling.{immediate_of}
use Rattle.mx_encode.specs.Forms.{has_form}
use Rattle.mx_encode.specs.Given.{OperandFits, ImmediateFits, WideImmediateFits, OperandsFit, CountFits, PortFits, Fits}
use Rattle.mx_insn_words.specs.declared.mnemonic.Mnemonic.{Mnemonic}
use Rattle.mx_insn_words.specs.declared.mnemonic.Mnemonic.TheVariants as mnemonics
use Rattle.mx_insn_words.specs.declared.mnemonic.Single.{Single}
use Rattle.mx_insn_words.specs.declared.mnemonic.Single.TheVariants.{Mov, Test, Xchg, Lea, Movzx, Movsx, Push, Jmp, Call, Ret, Int, Cbw, Cwde, Cwd, Cdq, In, Out}
use Rattle.mx_insn_words.specs.declared.start.Prefix.{Prefix}
use Rattle.mx_insn_words.specs.declared.start.Prefix.TheVariants.{Rep, Repe, Repne}
use Rattle.mx_asm_statement.specs.declared.argument.Argument.{Argument}
use Rattle.mx_asm_statement.specs.declared.branch.JumpLength.{JumpLength}
use Rattle.mx_asm_statement.specs.declared.branch.JumpLength.TheVariants.{Short, Long}
use Rattle.mx_asm_statement.specs.declared.argument.Argument.TheVariants as arguments
use Rattle.mx_asm_statement.specs.declared.memory.Address.{Address}
use Rattle.mx_asm_statement.specs.Items.{◌>>=◌}
use Rattle.mx_asm_statement.specs.declared.value.Value.{Value}
use Rattle.mx_asm_statement.specs.declared.statement.Statement.{Statement}
use Rattle.mx_asm_statement.specs.declared.statement.Statement.TheVariants as statements
use Rattle.mx_asm_statement.specs.declared.instruction.Instruction.{Instruction}
use Rattle.mx_asm_statement.specs.Instructions.{instruction_if_formed, instruction_of}
use Rattle.mx_asm_statement.specs.Values.{whole_of}
use Rattle.mx_asm_statement.specs.declared.sized_operand.SizedOperand.{SizedOperand}
use Rattle.mx_asm_statement.specs.declared.pair.Pair.{Pair}
use Rattle.mx_asm_statement.specs.declared.move_forms.ExtensionParts.{ExtensionParts}
use Rattle.mx_asm_statement.specs.Numbers.{is_out_of_range, low_bits, number_in, immediate_in, is_same, names_no_other, value_waiting}
use Rattle.mx_asm_statement.specs.SizedOperands.{statement_of_insn, memory_named, sized_memory, sized_operand_of, operand_of_size, operand_beside, not_byte}
use Rattle.mx_asm_statement.specs.Pairs.{pair_into_memory, operands_of}
use Rattle.mx_asm_statement.specs.Operations.{unary, test, sized_factor, factor_of, product, shift_count_of, shift, double_shift, bit_test, bit_scan, set_condition_statement}
use Rattle.mx_asm_statement.specs.Moves.{exchange, load_address_statement, extension_between, extension_parts, zero_extend, sign_extend}
use Rattle.mx_asm_statement.specs.Stack.{statement_without_arguments, push, only_register, return_of, interrupt, port_of, port_size_of, port_in, port_out}
use Rattle.mx_asm_statement.specs.Transfers.{jump, jump_if_statement, call, loop_statement}
use Rattle.mx_asm_statement.specs.Statements.{IsCode, arithmetic_statement, move_statement, statement_for_single, statement_for, statement_after_prefix}

-- if there is one, it is so
abbrev pub If : {A : Type 0} → (A → Type 0) → Option A → Type 0
If P None = Unit {0}
If P (Some a) = P a

next : {A B : Type 0} (P : A → Type 0) (Q : B → Type 0) (o : Option A) (f : A → Option B) → If P o → ((a : A) → P a → If Q (f a)) → If Q (o >>= f)
next P Q None f h k = tt
next P Q (Some a) f h k = k a h

-- whatever it is
each : {A B : Type 0} (Q : B → Type 0) (o : Option A) (f : A → Option B) → ((a : A) → If Q (f a)) → If Q (o >>= f)
each Q None f k = tt
each Q (Some a) f k = k a

-- an instruction whose numbers are as wide as their types, or a jump; no directive
abbrev pub StatementFits : Statement → Type 0
StatementFits (statements.Instruction i) = Fits i.insn
StatementFits (statements.Branch k target) = Unit {0}
StatementFits _ = ⊥

abbrev pub SpotFits : SizedOperand → Type 0
SpotFits spot = OperandFits spot.operand

abbrev pub MemoryFits : Memory → Type 0
MemoryFits m = m.displacement < 2 ^ 32

abbrev pub PairFits : Pair → Type 0
PairFits pair = OperandsFit pair.operands

abbrev pub PartsFit : ExtensionParts → Type 0
PartsFit parts = OperandFits parts.from

fits_where : (o : Option Statement) (i : Instruction) → If StatementFits o → o ≡ Some (statements.Instruction i) → Fits i.insn
fits_where o i h e = subst (If StatementFits) e h

code_where : (o : Option Statement) (s : Statement) → If StatementFits o → o ≡ Some s → IsCode s
code_where o s h e = code s (subst (If StatementFits) e h)
  where
    code : (s : Statement) → StatementFits s → IsCode s
    code (statements.Instruction i) h = tt
    code (statements.Branch k target) h = tt
    code statements.Nothing h = absurd h
    code (statements.Enter section) h = absurd h
    code (statements.Data size values) h = absurd h
    code (statements.Ascii bytes) h = absurd h
    code (statements.Space n) h = absurd h
    code statements.Separate h = absurd h
    code (statements.Entry name) h = absurd h
    code (statements.Stack n) h = absurd h

-- ---- numbers

modulo_below : (s : Size) (z : ℤ) → modulo (width s) z < 2 ^ width s
modulo_below Byte (pos n) = omega arith
modulo_below Byte (negsuc n) = omega arith
modulo_below Word (pos n) = omega arith
modulo_below Word (negsuc n) = omega arith
modulo_below Dword (pos n) = omega arith
modulo_below Dword (negsuc n) = omega arith

abbrev pub Within : Size → ℕ → Type 0
Within s n = n < 2 ^ width s

bits_fit : (name : Option Name) (s : Size) (z : ℤ) → If (Within s) (low_bits name s z)
bits_fit None s z = cond_both (is_out_of_range (width s) z) None (Some (modulo (width s) z)) (If (Within s)) (λ h. tt) (λ h. modulo_below s z)
bits_fit (Some name) Byte z = tt
bits_fit (Some name) Word z = tt
bits_fit (Some name) Dword z = lit< tt

number_fits : (s : Size) (v : Value) → If (Within s) (number_in s v)
number_fits s v = bits_fit v.name s (whole_of v)

immediate_fits : (s : Size) (v : Value) → If ImmediateFits (immediate_in s v)
immediate_fits s v = next (Within s) ImmediateFits (number_in s v) _ (number_fits s v) (sized s)
  where
    sized : (s : Size) (n : ℕ) → n < 2 ^ width s → ImmediateFits (immediate_of s n)
    sized Byte n h = h
    sized Word n h = h
    sized Dword n h = h

factor_fits : (s : Size) (v : Value) → If WideImmediateFits (factor_of s v)
factor_fits s v = next (Within s) WideImmediateFits (number_in s v) _ (number_fits s v) (sized s)
  where
    sized : (s : Size) (n : ℕ) → n < 2 ^ width s → If WideImmediateFits (sized_factor s n)
    sized Byte n h = tt
    sized Word n h = h
    sized Dword n h = h

-- ---- spots

memory_fits : (a : Address) → If MemoryFits (memory_named a)
memory_fits a = next (Within Dword) MemoryFits (number_in Dword a.value) _ (number_fits Dword a.value) (λ n h. h)

in_fits : (s : Size) (a : Address) → If SpotFits (sized_memory s a)
in_fits s a = next MemoryFits SpotFits (memory_named a) _ (memory_fits a) (λ m h. h)

spot_fits : (x : Argument) → If SpotFits (sized_operand_of x)
spot_fits (arguments.Register s r) = tt
spot_fits (arguments.Memory (Some s) a) = in_fits s a
spot_fits (arguments.Memory None a) = tt
spot_fits (arguments.Value v) = tt

sized_fits : (s : Size) (x : Argument) → If SpotFits (operand_of_size s x)
sized_fits s x = next SpotFits SpotFits (sized_operand_of x) _ (spot_fits x) (λ spot h. cond_both (is_same spot.size s) (Some spot) None (If SpotFits) (λ e. h) (λ e. tt))

beside_fits : (s : Size) (x : Argument) → If SpotFits (operand_beside s x)
beside_fits s (arguments.Register t r) = cond_both (is_same t s) (Some (record { size = s; operand = operands.Register r; displacement = None })) None (If SpotFits) (λ e. tt) (λ e. tt)
beside_fits s (arguments.Memory named a) = cond_both (names_no_other named s) (sized_memory s a) None (If SpotFits) (λ e. in_fits s a) (λ e. tt)
beside_fits s (arguments.Value v) = tt

-- ---- statements

says_fits : (i : Insn) (immediate displacement : Option Value) → Fits i → If StatementFits (statement_of_insn i immediate displacement)
unfolding instruction_of
says_fits i immediate displacement fits = go (has_form i) refl
  where
    go : (b : Bool) (e : has_form i ≡ b) → If StatementFits (instruction_if_formed i immediate displacement b e >>= λ x. Some (statements.Instruction x))
    go true e = fits
    go false e = tt

-- what a spot makes
with_spot : (o : Option SizedOperand) (f : SizedOperand → Option Statement) → If SpotFits o → ((spot : SizedOperand) → SpotFits spot → If StatementFits (f spot)) → If StatementFits (o >>= f)
with_spot o f h k = next SpotFits StatementFits o f h k

-- ---- two operands

to_memory_fits : (named : Option Size) (a : Address) (s : Size) (r : Register) → If PairFits (pair_into_memory named a s r)
to_memory_fits named a s r = cond_both (names_no_other named s) _ None (If PairFits) (λ e. next MemoryFits PairFits (memory_named a) _ (memory_fits a) (λ m h. h)) (λ e. tt)

pair_fits : (xs : List Argument) → If PairFits (operands_of xs)
pair_fits [] = tt
pair_fits (x ∷ []) = tt
pair_fits (x ∷ arguments.Value v ∷ []) =
    next SpotFits PairFits (sized_operand_of x) _ (spot_fits x) (λ spot h. next ImmediateFits PairFits (immediate_in spot.size v) _ (immediate_fits spot.size v) (λ i g. (h, g)))
pair_fits (arguments.Register s to ∷ arguments.Register t r ∷ []) = next SpotFits PairFits (operand_beside s (arguments.Register t r)) _ (beside_fits s (arguments.Register t r)) (λ spot h. h)
pair_fits (arguments.Register s to ∷ arguments.Memory n a ∷ []) = next SpotFits PairFits (operand_beside s (arguments.Memory n a)) _ (beside_fits s (arguments.Memory n a)) (λ spot h. h)
pair_fits (arguments.Memory named a ∷ arguments.Register s from ∷ []) = to_memory_fits named a s from
pair_fits (arguments.Memory named a ∷ arguments.Memory n b ∷ []) = tt
pair_fits (arguments.Value v ∷ arguments.Register s from ∷ []) = tt
pair_fits (arguments.Value v ∷ arguments.Memory n b ∷ []) = tt
pair_fits (arguments.Register s r ∷ arguments.Register t q ∷ z ∷ zs) = tt
pair_fits (arguments.Register s r ∷ arguments.Memory k b ∷ z ∷ zs) = tt
pair_fits (arguments.Register s r ∷ arguments.Value u ∷ z ∷ zs) = tt
pair_fits (arguments.Memory n a ∷ arguments.Register t q ∷ z ∷ zs) = tt
pair_fits (arguments.Memory n a ∷ arguments.Memory k b ∷ z ∷ zs) = tt
pair_fits (arguments.Memory n a ∷ arguments.Value u ∷ z ∷ zs) = tt
pair_fits (arguments.Value v ∷ arguments.Register t q ∷ z ∷ zs) = tt
pair_fits (arguments.Value v ∷ arguments.Memory k b ∷ z ∷ zs) = tt
pair_fits (arguments.Value v ∷ arguments.Value u ∷ z ∷ zs) = tt

arithmetic_fits : (o : Arithmetic) (xs : List Argument) → If StatementFits (arithmetic_statement o xs)
arithmetic_fits o xs = next PairFits StatementFits (operands_of xs) _ (pair_fits xs) (λ pair h. says_fits (insns.Arithmetic o pair.operands) pair.immediate pair.displacement h)

moved_fits : (xs : List Argument) → If StatementFits (move_statement xs)
moved_fits xs = next PairFits StatementFits (operands_of xs) _ (pair_fits xs) (λ pair h. says_fits (insns.Move pair.operands) pair.immediate pair.displacement h)

-- ---- one operand, and what is next to it

unary_fits : (o : Unary) (xs : List Argument) → If StatementFits (unary o xs)
unary_fits o [] = tt
unary_fits o (x ∷ []) = with_spot (sized_operand_of x) _ (spot_fits x) (λ spot h. says_fits (insns.Unary o spot.size spot.operand) None spot.displacement h)
unary_fits o (x ∷ y ∷ ys) = tt

test_fits : (xs : List Argument) → If StatementFits (test xs)
test_fits [] = tt
test_fits (x ∷ []) = tt
test_fits (x ∷ arguments.Register s r ∷ []) = with_spot (operand_beside s x) _ (beside_fits s x) (λ spot h. says_fits (insns.Test s spot.operand r) None spot.displacement h)
test_fits (x ∷ arguments.Value v ∷ []) =
    with_spot (sized_operand_of x) _ (spot_fits x) (λ spot h.
    next ImmediateFits StatementFits (immediate_in spot.size v) _ (immediate_fits spot.size v) (λ i g. says_fits (insns.TestImmediate spot.operand i) (value_waiting v) spot.displacement (h, g)))
test_fits (x ∷ arguments.Memory n a ∷ []) = tt
test_fits (x ∷ arguments.Register t q ∷ z ∷ zs) = tt
test_fits (x ∷ arguments.Memory k b ∷ z ∷ zs) = tt
test_fits (x ∷ arguments.Value u ∷ z ∷ zs) = tt

product_fits : (o : Product) (xs : List Argument) → If StatementFits (product o xs)
product_fits o [] = tt
product_fits o (x ∷ []) = with_spot (sized_operand_of x) _ (spot_fits x) (λ spot h. says_fits (insns.Product o spot.size spot.operand) None spot.displacement h)
product_fits Imul (arguments.Register s to ∷ y ∷ []) =
    each StatementFits (not_byte s) _ (λ size. with_spot (operand_beside s y) _ (beside_fits s y) (λ spot h. says_fits (insns.Multiply size to spot.operand) None spot.displacement h))
product_fits Imul (arguments.Register s to ∷ y ∷ arguments.Value v ∷ []) =
    with_spot (operand_beside s y) _ (beside_fits s y) (λ spot h.
    next WideImmediateFits StatementFits (factor_of s v) _ (factor_fits s v) (λ by g. says_fits (insns.MultiplyImmediate to spot.operand by) (value_waiting v) spot.displacement (h, g)))
product_fits Imul (arguments.Register s to ∷ y ∷ arguments.Register t r ∷ []) = tt
product_fits Imul (arguments.Register s to ∷ y ∷ arguments.Memory n a ∷ []) = tt
product_fits Imul (arguments.Register s to ∷ y ∷ arguments.Register t q ∷ w ∷ zs) = tt
product_fits Imul (arguments.Register s to ∷ y ∷ arguments.Memory k b ∷ w ∷ zs) = tt
product_fits Imul (arguments.Register s to ∷ y ∷ arguments.Value u ∷ w ∷ zs) = tt
product_fits Imul (arguments.Memory n a ∷ y ∷ ys) = tt
product_fits Imul (arguments.Value v ∷ y ∷ ys) = tt
product_fits Mul (x ∷ y ∷ ys) = tt
product_fits Div (x ∷ y ∷ ys) = tt
product_fits Idiv (x ∷ y ∷ ys) = tt

count_fits : (x : Argument) → If CountFits (shift_count_of x)
count_fits (arguments.Value v) = next (Within Byte) CountFits (number_in Byte v) _ (number_fits Byte v) (λ n h. h)
count_fits (arguments.Memory n a) = tt
count_fits (arguments.Register Word r) = tt
count_fits (arguments.Register Dword r) = tt
count_fits (arguments.Register Byte Eax) = tt
count_fits (arguments.Register Byte Ecx) = tt
count_fits (arguments.Register Byte Edx) = tt
count_fits (arguments.Register Byte Ebx) = tt
count_fits (arguments.Register Byte Esp) = tt
count_fits (arguments.Register Byte Ebp) = tt
count_fits (arguments.Register Byte Esi) = tt
count_fits (arguments.Register Byte Edi) = tt

shift_fits : (o : Shift) (xs : List Argument) → If StatementFits (shift o xs)
shift_fits o [] = tt
shift_fits o (x ∷ []) = tt
shift_fits o (x ∷ y ∷ []) =
    with_spot (sized_operand_of x) _ (spot_fits x) (λ spot h.
    next CountFits StatementFits (shift_count_of y) _ (count_fits y) (λ count g. says_fits (insns.Shift o spot.size spot.operand count) None spot.displacement (h, g)))
shift_fits o (x ∷ y ∷ z ∷ zs) = tt

double_shift_fits : (o : DoubleShift) (xs : List Argument) → If StatementFits (double_shift o xs)
double_shift_fits o [] = tt
double_shift_fits o (x ∷ []) = tt
double_shift_fits o (x ∷ arguments.Register Dword r ∷ []) = tt
double_shift_fits o (x ∷ arguments.Register Dword r ∷ y ∷ []) =
    with_spot (operand_beside Dword x) _ (beside_fits Dword x) (λ spot h.
    next CountFits StatementFits (shift_count_of y) _ (count_fits y) (λ count g. says_fits (insns.DoubleShift o spot.operand r count) None spot.displacement (h, g)))
double_shift_fits o (x ∷ arguments.Register Dword r ∷ y ∷ z ∷ zs) = tt
double_shift_fits o (x ∷ arguments.Register Byte r ∷ ys) = tt
double_shift_fits o (x ∷ arguments.Register Word r ∷ ys) = tt
double_shift_fits o (x ∷ arguments.Memory n a ∷ ys) = tt
double_shift_fits o (x ∷ arguments.Value v ∷ ys) = tt

bit_number_fits : (o : BitTest) (x : Argument) (v : Value) → If StatementFits (operand_of_size Dword x >>= λ spot. number_in Byte v >>= λ word. statement_of_insn (insns.BitTest o spot.operand word) None spot.displacement)
bit_number_fits o x v =
    with_spot (operand_of_size Dword x) _ (sized_fits Dword x) (λ spot h.
    next (Within Byte) StatementFits (number_in Byte v) _ (number_fits Byte v) (λ n g. says_fits (insns.BitTest o spot.operand n) None spot.displacement (h, g)))

bit_test_fits : (o : BitTest) (xs : List Argument) → If StatementFits (bit_test o xs)
bit_test_fits o [] = tt
bit_test_fits o (arguments.Register Byte r ∷ []) = tt
bit_test_fits o (arguments.Register Word r ∷ []) = tt
bit_test_fits o (arguments.Register Dword r ∷ []) = tt
bit_test_fits o (arguments.Memory n a ∷ []) = tt
bit_test_fits o (arguments.Value v ∷ []) = tt
bit_test_fits o (arguments.Register Dword r ∷ arguments.Register Dword n ∷ []) = says_fits (insns.BitTestRegister o r n) None None tt
bit_test_fits o (arguments.Register Dword r ∷ arguments.Register Dword n ∷ z ∷ zs) = tt
bit_test_fits o (arguments.Register Dword r ∷ arguments.Register Byte n ∷ zs) = tt
bit_test_fits o (arguments.Register Dword r ∷ arguments.Register Word n ∷ zs) = tt
bit_test_fits o (arguments.Register Byte r ∷ arguments.Register s n ∷ zs) = tt
bit_test_fits o (arguments.Register Word r ∷ arguments.Register s n ∷ zs) = tt
bit_test_fits o (arguments.Register Byte r ∷ arguments.Value v ∷ []) = bit_number_fits o (arguments.Register Byte r) v
bit_test_fits o (arguments.Register Word r ∷ arguments.Value v ∷ []) = bit_number_fits o (arguments.Register Word r) v
bit_test_fits o (arguments.Register Dword r ∷ arguments.Value v ∷ []) = bit_number_fits o (arguments.Register Dword r) v
bit_test_fits o (arguments.Register Byte r ∷ arguments.Value v ∷ z ∷ zs) = tt
bit_test_fits o (arguments.Register Word r ∷ arguments.Value v ∷ z ∷ zs) = tt
bit_test_fits o (arguments.Register Dword r ∷ arguments.Value v ∷ z ∷ zs) = tt
bit_test_fits o (arguments.Register Byte r ∷ arguments.Memory n a ∷ zs) = tt
bit_test_fits o (arguments.Register Word r ∷ arguments.Memory n a ∷ zs) = tt
bit_test_fits o (arguments.Register Dword r ∷ arguments.Memory n a ∷ zs) = tt
bit_test_fits o (arguments.Memory n a ∷ arguments.Value v ∷ []) = bit_number_fits o (arguments.Memory n a) v
bit_test_fits o (arguments.Memory n a ∷ arguments.Value v ∷ z ∷ zs) = tt
bit_test_fits o (arguments.Memory n a ∷ arguments.Register s r ∷ zs) = tt
bit_test_fits o (arguments.Memory n a ∷ arguments.Memory k b ∷ zs) = tt
bit_test_fits o (arguments.Value u ∷ arguments.Value v ∷ []) = bit_number_fits o (arguments.Value u) v
bit_test_fits o (arguments.Value u ∷ arguments.Value v ∷ z ∷ zs) = tt
bit_test_fits o (arguments.Value u ∷ arguments.Register s r ∷ zs) = tt
bit_test_fits o (arguments.Value u ∷ arguments.Memory k b ∷ zs) = tt

bit_scan_fits : (o : BitScan) (xs : List Argument) → If StatementFits (bit_scan o xs)
bit_scan_fits o [] = tt
bit_scan_fits o (arguments.Register Dword to ∷ []) = tt
bit_scan_fits o (arguments.Register Dword to ∷ y ∷ []) = with_spot (operand_beside Dword y) _ (beside_fits Dword y) (λ spot h. says_fits (insns.BitScan o to spot.operand) None spot.displacement h)
bit_scan_fits o (arguments.Register Dword to ∷ y ∷ z ∷ zs) = tt
bit_scan_fits o (arguments.Register Byte r ∷ ys) = tt
bit_scan_fits o (arguments.Register Word r ∷ ys) = tt
bit_scan_fits o (arguments.Memory n a ∷ ys) = tt
bit_scan_fits o (arguments.Value v ∷ ys) = tt

condition_fits : (c : Condition) (xs : List Argument) → If StatementFits (set_condition_statement c xs)
condition_fits c [] = tt
condition_fits c (x ∷ []) = with_spot (operand_of_size Byte x) _ (sized_fits Byte x) (λ spot h. says_fits (insns.SetCondition c spot.operand) None spot.displacement h)
condition_fits c (x ∷ y ∷ ys) = tt

-- ---- moves

exchange_fits : (xs : List Argument) → If StatementFits (exchange xs)
exchange_fits [] = tt
exchange_fits (x ∷ []) = tt
exchange_fits (x ∷ arguments.Register s r ∷ []) = with_spot (operand_beside s x) _ (beside_fits s x) (λ spot h. says_fits (insns.Exchange s spot.operand r) None spot.displacement h)
exchange_fits (x ∷ arguments.Register s r ∷ z ∷ zs) = tt
exchange_fits (x ∷ arguments.Value v ∷ zs) = tt
exchange_fits (x ∷ arguments.Memory n a ∷ zs) = tt

load_fits : (xs : List Argument) → If StatementFits (load_address_statement xs)
load_fits [] = tt
load_fits (arguments.Register s r ∷ []) = tt
load_fits (arguments.Memory n a ∷ []) = tt
load_fits (arguments.Value v ∷ []) = tt
load_fits (arguments.Register s to ∷ arguments.Memory None a ∷ []) =
    each StatementFits (not_byte s) _ (λ size. next MemoryFits StatementFits (memory_named a) _ (memory_fits a) (λ m h. says_fits (insns.LoadAddress size to m) None (value_waiting a.value) h))
load_fits (arguments.Register s to ∷ arguments.Memory None a ∷ z ∷ zs) = tt
load_fits (arguments.Register s to ∷ arguments.Memory (Some n) a ∷ zs) = tt
load_fits (arguments.Register s to ∷ arguments.Register t r ∷ zs) = tt
load_fits (arguments.Register s to ∷ arguments.Value v ∷ zs) = tt
load_fits (arguments.Memory n a ∷ y ∷ zs) = tt
load_fits (arguments.Value v ∷ y ∷ zs) = tt

parts_fit : (xs : List Argument) → If PartsFit (extension_parts xs)
parts_fit [] = tt
parts_fit (arguments.Register s r ∷ []) = tt
parts_fit (arguments.Memory n a ∷ []) = tt
parts_fit (arguments.Value v ∷ []) = tt
parts_fit (arguments.Register s to ∷ y ∷ []) =
    next SpotFits PartsFit (sized_operand_of y) _ (spot_fits y) (λ spot h. each PartsFit (extension_between s spot.size) _ (λ e. h))
parts_fit (arguments.Register s to ∷ y ∷ z ∷ zs) = tt
parts_fit (arguments.Memory n a ∷ y ∷ zs) = tt
parts_fit (arguments.Value v ∷ y ∷ zs) = tt

zero_extend_fits : (xs : List Argument) → If StatementFits (zero_extend xs)
zero_extend_fits xs = next PartsFit StatementFits (extension_parts xs) _ (parts_fit xs) (λ x h. says_fits (insns.ZeroExtend x.extension x.to x.from) None x.displacement h)

sign_extend_fits : (xs : List Argument) → If StatementFits (sign_extend xs)
sign_extend_fits xs = next PartsFit StatementFits (extension_parts xs) _ (parts_fit xs) (λ x h. says_fits (insns.SignExtend x.extension x.to x.from) None x.displacement h)

-- ---- the stack, interrupts and ports

alone_fits : (i : Insn) (xs : List Argument) → Fits i → If StatementFits (statement_without_arguments i xs)
alone_fits i [] h = says_fits i None None h
alone_fits i (x ∷ xs) h = tt

pushed : (x : Argument) → If StatementFits (operand_of_size Dword x >>= λ spot. statement_of_insn (insns.Push spot.operand) None spot.displacement)
pushed x = with_spot (operand_of_size Dword x) _ (sized_fits Dword x) (λ spot h. says_fits (insns.Push spot.operand) None spot.displacement h)

push_fits : (xs : List Argument) → If StatementFits (push xs)
push_fits [] = tt
push_fits (arguments.Value v ∷ []) = next (Within Dword) StatementFits (number_in Dword v) _ (number_fits Dword v) (λ n h. says_fits (insns.PushImmediate n) (value_waiting v) None h)
push_fits (arguments.Register s r ∷ []) = pushed (arguments.Register s r)
push_fits (arguments.Memory n a ∷ []) = pushed (arguments.Memory n a)
push_fits (arguments.Value v ∷ y ∷ ys) = tt
push_fits (arguments.Register s r ∷ y ∷ ys) = tt
push_fits (arguments.Memory n a ∷ y ∷ ys) = tt

return_fits : (xs : List Argument) → If StatementFits (return_of xs)
return_fits [] = says_fits (insns.Return 0) None None (lit< tt)
return_fits (arguments.Value v ∷ []) = next (Within Word) StatementFits (number_in Word v) _ (number_fits Word v) (λ n h. says_fits (insns.Return n) None None h)
return_fits (arguments.Value v ∷ y ∷ ys) = tt
return_fits (arguments.Register s r ∷ ys) = tt
return_fits (arguments.Memory n a ∷ ys) = tt

interrupt_fits : (xs : List Argument) → If StatementFits (interrupt xs)
interrupt_fits [] = tt
interrupt_fits (arguments.Value v ∷ []) = next (Within Byte) StatementFits (number_in Byte v) _ (number_fits Byte v) (λ n h. says_fits (insns.Interrupt n) None None h)
interrupt_fits (arguments.Value v ∷ y ∷ ys) = tt
interrupt_fits (arguments.Register s r ∷ ys) = tt
interrupt_fits (arguments.Memory n a ∷ ys) = tt

port_fits : (x : Argument) → If PortFits (port_of x)
port_fits (arguments.Value v) = next (Within Byte) PortFits (number_in Byte v) _ (number_fits Byte v) (λ n h. h)
port_fits (arguments.Memory n a) = tt
port_fits (arguments.Register Byte r) = tt
port_fits (arguments.Register Dword r) = tt
port_fits (arguments.Register Word Eax) = tt
port_fits (arguments.Register Word Ecx) = tt
port_fits (arguments.Register Word Edx) = tt
port_fits (arguments.Register Word Ebx) = tt
port_fits (arguments.Register Word Esp) = tt
port_fits (arguments.Register Word Ebp) = tt
port_fits (arguments.Register Word Esi) = tt
port_fits (arguments.Register Word Edi) = tt

in_port : (xs : List Argument) → If StatementFits (port_in xs)
in_port [] = tt
in_port (x ∷ []) = tt
in_port (x ∷ y ∷ []) = each StatementFits (port_size_of x) _ (λ size. next PortFits StatementFits (port_of y) _ (port_fits y) (λ port h. says_fits (insns.In size port) None None h))
in_port (x ∷ y ∷ z ∷ zs) = tt

out_port : (xs : List Argument) → If StatementFits (port_out xs)
out_port [] = tt
out_port (x ∷ []) = tt
out_port (x ∷ y ∷ []) = next PortFits StatementFits (port_of x) _ (port_fits x) (λ port h. each StatementFits (port_size_of y) _ (λ size. says_fits (insns.Out size port) None None h))
out_port (x ∷ y ∷ z ∷ zs) = tt

-- ---- jumps

jumped : (x : Argument) → If StatementFits (operand_of_size Dword x >>= λ spot. statement_of_insn (insns.JumpTo spot.operand) None spot.displacement)
jumped x = with_spot (operand_of_size Dword x) _ (sized_fits Dword x) (λ spot h. says_fits (insns.JumpTo spot.operand) None spot.displacement h)

jump_fits : (length : JumpLength) (xs : List Argument) → If StatementFits (jump length xs)
jump_fits length [] = elim length as (λ b. If StatementFits (jump b [])) [ Short ↦ tt | Long ↦ tt ]
jump_fits length (arguments.Value v ∷ []) = tt
jump_fits Long (arguments.Register s r ∷ []) = jumped (arguments.Register s r)
jump_fits Long (arguments.Memory n a ∷ []) = jumped (arguments.Memory n a)
jump_fits Short (arguments.Register s r ∷ []) = tt
jump_fits Short (arguments.Memory n a ∷ []) = tt
jump_fits Long (arguments.Value v ∷ y ∷ ys) = tt
jump_fits Long (arguments.Register s r ∷ y ∷ ys) = tt
jump_fits Long (arguments.Memory n a ∷ y ∷ ys) = tt
jump_fits Short (arguments.Value v ∷ y ∷ ys) = tt
jump_fits Short (arguments.Register s r ∷ y ∷ ys) = tt
jump_fits Short (arguments.Memory n a ∷ y ∷ ys) = tt

jump_if_fits : (length : JumpLength) (c : Condition) (xs : List Argument) → If StatementFits (jump_if_statement length c xs)
jump_if_fits length c [] = tt
jump_if_fits length c (arguments.Value v ∷ []) = tt
jump_if_fits length c (arguments.Value v ∷ y ∷ ys) = tt
jump_if_fits length c (arguments.Register s r ∷ ys) = tt
jump_if_fits length c (arguments.Memory n a ∷ ys) = tt

called : (x : Argument) → If StatementFits (operand_of_size Dword x >>= λ spot. statement_of_insn (insns.CallTo spot.operand) None spot.displacement)
called x = with_spot (operand_of_size Dword x) _ (sized_fits Dword x) (λ spot h. says_fits (insns.CallTo spot.operand) None spot.displacement h)

call_fits : (xs : List Argument) → If StatementFits (call xs)
call_fits [] = tt
call_fits (arguments.Value v ∷ []) = tt
call_fits (arguments.Register s r ∷ []) = called (arguments.Register s r)
call_fits (arguments.Memory n a ∷ []) = called (arguments.Memory n a)
call_fits (arguments.Value v ∷ y ∷ ys) = tt
call_fits (arguments.Register s r ∷ y ∷ ys) = tt
call_fits (arguments.Memory n a ∷ y ∷ ys) = tt

looping_fits : (o : Loop) (xs : List Argument) → If StatementFits (loop_statement o xs)
looping_fits o [] = tt
looping_fits o (arguments.Value v ∷ []) = tt
looping_fits o (arguments.Value v ∷ y ∷ ys) = tt
looping_fits o (arguments.Register s r ∷ ys) = tt
looping_fits o (arguments.Memory n a ∷ ys) = tt

-- ---- every statement

single_fits : (length : JumpLength) (o : Single) (xs : List Argument) → If StatementFits (statement_for_single length o xs)
single_fits length Mov xs = moved_fits xs
single_fits length Test xs = test_fits xs
single_fits length Xchg xs = exchange_fits xs
single_fits length Lea xs = load_fits xs
single_fits length Movzx xs = zero_extend_fits xs
single_fits length Movsx xs = sign_extend_fits xs
single_fits length Push xs = push_fits xs
single_fits length Jmp xs = jump_fits length xs
single_fits length Call xs = call_fits xs
single_fits length Ret xs = return_fits xs
single_fits length Int xs = interrupt_fits xs
single_fits length Cbw xs = alone_fits (insns.ExtendAccumulator operand_sizes.Word) xs tt
single_fits length Cwde xs = alone_fits (insns.ExtendAccumulator operand_sizes.Dword) xs tt
single_fits length Cwd xs = alone_fits (insns.SpreadSign operand_sizes.Word) xs tt
single_fits length Cdq xs = alone_fits (insns.SpreadSign operand_sizes.Dword) xs tt
single_fits length In xs = in_port xs
single_fits length Out xs = out_port xs
-- what has one register and no number, as POP
single_fits length _ xs = each StatementFits (only_register xs) _ (λ r. says_fits _ None None tt)

stated_fits : (length : JumpLength) (m : Mnemonic) (xs : List Argument) → If StatementFits (statement_for length m xs)
stated_fits length (mnemonics.Arithmetic o) xs = arithmetic_fits o xs
stated_fits length (mnemonics.Unary o) xs = unary_fits o xs
stated_fits length (mnemonics.Product o) xs = product_fits o xs
stated_fits length (mnemonics.Shift o) xs = shift_fits o xs
stated_fits length (mnemonics.DoubleShift o) xs = double_shift_fits o xs
stated_fits length (mnemonics.BitTest o) xs = bit_test_fits o xs
stated_fits length (mnemonics.BitScan o) xs = bit_scan_fits o xs
stated_fits length (mnemonics.Loop o) xs = looping_fits o xs
stated_fits length (mnemonics.Plain o) xs = alone_fits (insns.Plain o) xs tt
stated_fits length (mnemonics.Single o) xs = single_fits length o xs
stated_fits length (mnemonics.JumpIf c) xs = jump_if_fits length c xs
stated_fits length (mnemonics.SetCondition c) xs = condition_fits c xs
stated_fits length (mnemonics.Transfer o s) xs = alone_fits (insns.Transfer o s false) xs tt
stated_fits length (mnemonics.Compare o s) xs = alone_fits (insns.Compare o s None) xs tt

repeated_fits : (p : Prefix) (m : Mnemonic) → If StatementFits (statement_after_prefix p m)
repeated_fits Rep (mnemonics.Transfer o s) = says_fits (insns.Transfer o s true) None None tt
repeated_fits Repe (mnemonics.Compare o s) = says_fits (insns.Compare o s (Some repeats.Repe)) None None tt
repeated_fits Repne (mnemonics.Compare o s) = says_fits (insns.Compare o s (Some repeats.Repne)) None None tt
repeated_fits _ _ = tt

-- ---- of a statement that a mnemonic has

-- the numbers of its instruction are as wide as their types
pub numbers_fit : (length : JumpLength) (m : Mnemonic) (xs : List Argument) (i : Instruction) → statement_for length m xs ≡ Some (statements.Instruction i) → Fits i.insn
numbers_fit length m xs i e = fits_where (statement_for length m xs) i (stated_fits length m xs) e

pub repeated_numbers_fit : (p : Prefix) (m : Mnemonic) (i : Instruction) → statement_after_prefix p m ≡ Some (statements.Instruction i) → Fits i.insn
repeated_numbers_fit p m i e = fits_where (statement_after_prefix p m) i (repeated_fits p m) e

-- it is an instruction or a jump, and no directive
pub code_is_stated : (length : JumpLength) (m : Mnemonic) (xs : List Argument) (s : Statement) → statement_for length m xs ≡ Some s → IsCode s
code_is_stated length m xs s e = code_where (statement_for length m xs) s (stated_fits length m xs) e

pub code_is_repeated : (p : Prefix) (m : Mnemonic) (s : Statement) → statement_after_prefix p m ≡ Some s → IsCode s
code_is_repeated p m s e = code_where (statement_after_prefix p m) s (repeated_fits p m) e
