-- What is chosen for each instruction suits it.
use Rattle.std.proofs.Common.{◌≡◌, ℕ, ◌<◌, ◌^◌, Bool, true, false, cond, eqb, Option, Some, None, refl, lit<}
use Rattle.std.specs.Prelude.{not}
use Rattle.std.proofs.lemmas.Bool.{and_parts, cond_both, eqb-true}
use Rattle.mx_word.specs.Names.{register_number, condition_code}
use Rattle.mx_word.specs.declared.size.Size.{Size}
use Rattle.mx_word.specs.declared.size.Size.TheVariants.{Byte, Word, Dword}
use Rattle.mx_word.specs.declared.names.Register.{Register}
use Rattle.mx_word.specs.declared.names.Condition.{Condition}
use Rattle.mx_word.specs.declared.names.Arithmetic.{Arithmetic}
use Rattle.mx_word.specs.declared.names.Shift.{Shift}
use Rattle.mx_word.specs.declared.names.Shift.TheVariants.{Rol, Ror, Shl, Shr, Sar}
use Rattle.mx_word.specs.declared.names.BitTest.{BitTest}
use Rattle.mx_word.specs.declared.names.BitTest.TheVariants.{Bt, Bts, Btr, Btc}
use Rattle.mx_word.specs.declared.names.BitScan.{BitScan}
use Rattle.mx_word.specs.declared.names.DoubleShift.{DoubleShift}
use Rattle.mx_word.specs.declared.names.Unary.{Unary}
use Rattle.mx_word.specs.declared.names.Unary.TheVariants.{Inc, Dec, Not, Neg}
use Rattle.mx_insn.specs.declared.insn.Memory.{Memory}
use Rattle.mx_insn.specs.declared.insn.Operand.{Operand}
use Rattle.mx_insn.specs.declared.insn.Operand.TheVariants as operand
use Rattle.mx_insn.specs.declared.insn.Operands.{Operands}
use Rattle.mx_insn.specs.declared.insn.Operands.TheVariants as operands
use Rattle.mx_insn.specs.declared.insn.OperandSize.{OperandSize}
use Rattle.mx_insn.specs.declared.insn.OperandSize.TheVariants as operand_sizes
use Rattle.mx_insn.specs.declared.insn.Immediate.{Immediate}
use Rattle.mx_insn.specs.declared.insn.Immediate.TheVariants as immediate
use Rattle.mx_insn.specs.declared.insn.WideImmediate.{WideImmediate}
use Rattle.mx_insn.specs.declared.insn.WideImmediate.TheVariants as wide_immediates
use Rattle.mx_insn.specs.declared.insn.Product.{Product}
use Rattle.mx_insn.specs.declared.insn.Product.TheVariants.{Mul, Imul, Div, Idiv}
use Rattle.mx_insn.specs.declared.insn.Count.{Count}
use Rattle.mx_insn.specs.declared.insn.Count.TheVariants as counts
use Rattle.mx_insn.specs.declared.insn.Extension.{Extension}
use Rattle.mx_insn.specs.declared.insn.Extension.TheVariants.{ByteToWord, ByteToDword, WordToDword}
use Rattle.mx_insn.specs.declared.insn.Loop.{Loop}
use Rattle.mx_insn.specs.declared.insn.Transfer.{Transfer}
use Rattle.mx_insn.specs.declared.insn.Comparison.{Comparison}
use Rattle.mx_insn.specs.declared.insn.Repeat.{Repeat}
use Rattle.mx_insn.specs.declared.insn.Port.{Port}
use Rattle.mx_insn.specs.declared.insn.Port.TheVariants as ports
use Rattle.mx_insn.specs.declared.insn.PortSize.{PortSize}
use Rattle.mx_insn.specs.declared.insn.PortSize.TheVariants as port_sizes
use Rattle.mx_insn.specs.declared.insn.Plain.{Plain}
use Rattle.mx_insn.specs.declared.insn.Plain.TheVariants.{Pushad, Popad, Pushfd, Popfd, Sahf, Lahf, Nop, Leave, Int3, Into, Hlt, Cli, Sti, Cmc, Clc, Stc, Cld, Std}
use Rattle.mx_insn.specs.declared.insn.Insn.{Insn}
use Rattle.mx_insn.specs.declared.insn.Insn.TheVariants as insns
use Rattle.mx_insn.specs.declared.row.ModRm.TheVariants.{Any, Only}
use Rattle.mx_insn.specs.declared.row.Repeats.TheVariants.{Both}
use Rattle.mx_insn.specs.declared.row.CountColumn.TheVariants as by
use Rattle.mx_insn.specs.declared.row.Pattern.TheVariants as patterns
use Rattle.mx_insn.specs.Table.{shift_number, product_number, sized_column, plain_column, arithmetic_rm_reg_row, arithmetic_whole_row, arithmetic_signed_row, push_dword_row, push_signed_row, multiply_whole_row, multiply_signed_row, jump_if_signed_row, jump_if_dword_row, move_rm_reg_row, shift_immediate_row, shift_one_row, return_bytes_row, return_row, loop_row, jump_dword_row, jump_signed_row, rows, bit_test_number}
use Rattle.mx_insn.specs.Spelling.{to_rm, row_size, allows_resized, allows_repeat}
use Rattle.mx_encode.specs.declared.Wide.{Wide}
use Rattle.mx_encode.specs.declared.fields.Number.TheVariants as numbers
use Rattle.mx_encode.specs.Numbers.{arithmetic_number, is_word, is_short, shortens, short}
use Rattle.mx_encode.specs.Choice.{Choice, bare, with_rm, choice, rep, arithmetic_immediate, arithmetic_choice, move_immediate, move_choice, test_choice, test_immediate, exchange_choice, unary_choice, product_choice, shift_choice, load_address, multiply_choice, multiply_immediate, zero_extension, sign_extension, set_condition, push_choice, push_immediate, jump_if, jump_choice, call_choice, jump_to, call_to, loop_choice, return_choice, interrupt_choice, extend_accumulator, spread_sign, transfer_choice, compare_choice, in_choice, out_choice, plain_choice, bit_test_choice, register_bit_test, bit_scan_choice, double_shift_choice}
use Rattle.mx_encode.specs.Given.{OperandFits, ImmediateFits, WideImmediateFits, OperandsFit, CountFits, PortFits, Fits}
use Rattle.mx_encode.proofs.Digits.{register_below, register_again, arithmetic_below, arithmetic_again, condition_below, condition_again}
use Rattle.mx_encode.proofs.Listed.{opcode_at, under_at, escaped_at, listed_at, arithmetic_rm_reg, arithmetic_reg_rm, move_rm_reg, move_reg_rm, test_rm_reg, exchange_rm_reg, inc_rm, dec_rm, not_rm, neg_rm, product_rm, shift_immediate, shift_one, shift_cl, transfer_listed, compare_listed, loop_listed, plain_listed, bit_test_immediate, bit_test_register, bit_scan, double_shift_immediate, double_shift_cl}
use Rattle.mx_encode.proofs.Suits.{reads_nothing, reads_byte, reads_word, reads_dword, reads_whole_word, reads_whole_dword, reads_short, Suits, sized_suits}

-- a value that a byte represents
shortened : (w n : ℕ) (long : Bool) → shortens w n long ≡ true → is_short w n ≡ true
shortened w n long h = (and_parts (not long) (is_short w n) h).1

by_mark : (w n : ℕ) (long : Bool) (x y : Choice) (i : Insn) → (is_short w n ≡ true → Suits x i) → Suits y i → Suits (cond (shortens w n long) x y) i
by_mark w n long x y i p q = cond_both (shortens w n long) x y (λ c. Suits c i) (λ h. p (shortened w n long h)) (λ h. q)

-- ---- two operands

arithmetic_to_rm : (o : Arithmetic) (size : Size) (x : Operand) (r : Register) → OperandFits x → Suits (with_rm (arithmetic_rm_reg_row size) (is_word size) (arithmetic_number o) (register_number r) x numbers.Nothing) (insns.Arithmetic o (to_rm size x r))
arithmetic_to_rm o size x r fits = sized_suits size 0x00 8 8 Any patterns.ArithmeticRmReg (arithmetic_number o) (register_number r) x (insns.Arithmetic o (to_rm size x r)) (arithmetic_rm_reg size) (arithmetic_below o) (register_below r, fits) (rw (arithmetic_again o, register_again r) refl)

arithmetic_immediate_suits : (o : Arithmetic) (to : Operand) (value : Immediate) (long : Bool) → OperandFits to → ImmediateFits value → Suits (arithmetic_immediate o to value long) (insns.Arithmetic o (operands.Immediate to value))
unfolding rows
arithmetic_immediate_suits o to (immediate.Byte n) long fits small = record { listed = (opcode_at 0x80, lit< tt, refl); resized = refl; repeat = refl; number = lit< tt; rm = (arithmetic_below o, fits); value = n; reads = reads_byte false Byte n small; means = rw (arithmetic_again o) refl }
arithmetic_immediate_suits o to (immediate.Word n) long fits small = by_mark 16 n long (with_rm arithmetic_signed_row true 0 (arithmetic_number o) to (short n)) (with_rm arithmetic_whole_row true 0 (arithmetic_number o) to (numbers.Word n)) (insns.Arithmetic o (operands.Immediate to (immediate.Word n)))
    (λ h. record { listed = (opcode_at 0x83, lit< tt, refl); resized = refl; repeat = refl; number = lit< tt; rm = (arithmetic_below o, fits); value = n; reads = reads_short true Word n h; means = rw (arithmetic_again o) refl })
    (record { listed = (opcode_at 0x81, lit< tt, refl); resized = refl; repeat = refl; number = lit< tt; rm = (arithmetic_below o, fits); value = n; reads = reads_whole_word Word n small; means = rw (arithmetic_again o) refl })
arithmetic_immediate_suits o to (immediate.Dword n) long fits small = by_mark 32 n long (with_rm arithmetic_signed_row false 0 (arithmetic_number o) to (short n)) (with_rm arithmetic_whole_row false 0 (arithmetic_number o) to (numbers.Dword n)) (insns.Arithmetic o (operands.Immediate to (immediate.Dword n)))
    (λ h. record { listed = (opcode_at 0x83, lit< tt, refl); resized = refl; repeat = refl; number = lit< tt; rm = (arithmetic_below o, fits); value = n; reads = reads_short false Dword n h; means = rw (arithmetic_again o) refl })
    (record { listed = (opcode_at 0x81, lit< tt, refl); resized = refl; repeat = refl; number = lit< tt; rm = (arithmetic_below o, fits); value = n; reads = reads_whole_dword Dword n small; means = rw (arithmetic_again o) refl })

arithmetic_suits : (o : Arithmetic) (x : Operands) (long : Bool) → OperandsFit x → Suits (arithmetic_choice o x long) (insns.Arithmetic o x)
arithmetic_suits o (operands.ToRegister size to (operand.Register from)) long fits = arithmetic_to_rm o size (operand.Register to) from tt
arithmetic_suits o (operands.ToRegister size to (operand.Memory m)) long fits = sized_suits size 0x02 8 8 Any patterns.ArithmeticRegRm (arithmetic_number o) (register_number to) (operand.Memory m) (insns.Arithmetic o (operands.ToRegister size to (operand.Memory m))) (arithmetic_reg_rm size) (arithmetic_below o) (register_below to, fits) (rw (arithmetic_again o, register_again to) refl)
arithmetic_suits o (operands.ToMemory size to from) long fits = arithmetic_to_rm o size (operand.Memory to) from fits
arithmetic_suits o (operands.Immediate to value) long fits = arithmetic_immediate_suits o to value long fits.0 fits.1

move_to_rm : (size : Size) (x : Operand) (r : Register) → OperandFits x → Suits (with_rm (move_rm_reg_row size) (is_word size) 0 (register_number r) x numbers.Nothing) (insns.Move (to_rm size x r))
move_to_rm size x r fits = sized_suits size 0x88 1 1 Any patterns.MoveRmReg 0 (register_number r) x (insns.Move (to_rm size x r)) (move_rm_reg size) (lit< tt) (register_below r, fits) (rw (register_again r) refl)

move_immediate_suits : (to : Operand) (value : Immediate) → OperandFits to → ImmediateFits value → Suits (move_immediate to value) (insns.Move (operands.Immediate to value))
unfolding rows
move_immediate_suits (operand.Register r) (immediate.Byte n) fits small = record { listed = (opcode_at 0xB0, lit< tt, refl); resized = refl; repeat = refl; number = register_below r; rm = tt; value = n; reads = reads_byte false Byte n small; means = rw (register_again r) refl }
move_immediate_suits (operand.Memory m) (immediate.Byte n) fits small = record { listed = (under_at 0xC6 0, lit< tt, refl); resized = refl; repeat = refl; number = lit< tt; rm = (lit< tt, fits, refl); value = n; reads = reads_byte false Byte n small; means = refl }
move_immediate_suits (operand.Register r) (immediate.Word n) fits small = record { listed = (opcode_at 0xB8, lit< tt, refl); resized = refl; repeat = refl; number = register_below r; rm = tt; value = n; reads = reads_whole_word Word n small; means = rw (register_again r) refl }
move_immediate_suits (operand.Memory m) (immediate.Word n) fits small = record { listed = (under_at 0xC7 0, lit< tt, refl); resized = refl; repeat = refl; number = lit< tt; rm = (lit< tt, fits, refl); value = n; reads = reads_whole_word Word n small; means = refl }
move_immediate_suits (operand.Register r) (immediate.Dword n) fits small = record { listed = (opcode_at 0xB8, lit< tt, refl); resized = refl; repeat = refl; number = register_below r; rm = tt; value = n; reads = reads_whole_dword Dword n small; means = rw (register_again r) refl }
move_immediate_suits (operand.Memory m) (immediate.Dword n) fits small = record { listed = (under_at 0xC7 0, lit< tt, refl); resized = refl; repeat = refl; number = lit< tt; rm = (lit< tt, fits, refl); value = n; reads = reads_whole_dword Dword n small; means = refl }

move_suits : (x : Operands) → OperandsFit x → Suits (move_choice x) (insns.Move x)
move_suits (operands.ToRegister size to (operand.Register from)) fits = move_to_rm size (operand.Register to) from tt
move_suits (operands.ToRegister size to (operand.Memory m)) fits = sized_suits size 0x8A 1 1 Any patterns.MoveRegRm 0 (register_number to) (operand.Memory m) (insns.Move (operands.ToRegister size to (operand.Memory m))) (move_reg_rm size) (lit< tt) (register_below to, fits) (rw (register_again to) refl)
move_suits (operands.ToMemory size to from) fits = move_to_rm size (operand.Memory to) from fits
move_suits (operands.Immediate to value) fits = move_immediate_suits to value fits.0 fits.1

test_suits : (size : Size) (o : Operand) (r : Register) → OperandFits o → Suits (test_choice size o r) (insns.Test size o r)
test_suits size o r fits = sized_suits size 0x84 1 1 Any patterns.TestRmReg 0 (register_number r) o (insns.Test size o r) (test_rm_reg size) (lit< tt) (register_below r, fits) (rw (register_again r) refl)

exchange_suits : (size : Size) (o : Operand) (r : Register) → OperandFits o → Suits (exchange_choice size o r) (insns.Exchange size o r)
exchange_suits size o r fits = sized_suits size 0x86 1 1 Any patterns.ExchangeRmReg 0 (register_number r) o (insns.Exchange size o r) (exchange_rm_reg size) (lit< tt) (register_below r, fits) (rw (register_again r) refl)

test_immediate_suits : (o : Operand) (value : Immediate) → OperandFits o → ImmediateFits value → Suits (test_immediate o value) (insns.TestImmediate o value)
unfolding rows
test_immediate_suits o (immediate.Byte n) fits small = record { listed = (under_at 0xF6 0, lit< tt, refl); resized = refl; repeat = refl; number = lit< tt; rm = (lit< tt, fits, refl); value = n; reads = reads_byte false Byte n small; means = refl }
test_immediate_suits o (immediate.Word n) fits small = record { listed = (under_at 0xF7 0, lit< tt, refl); resized = refl; repeat = refl; number = lit< tt; rm = (lit< tt, fits, refl); value = n; reads = reads_whole_word Word n small; means = refl }
test_immediate_suits o (immediate.Dword n) fits small = record { listed = (under_at 0xF7 0, lit< tt, refl); resized = refl; repeat = refl; number = lit< tt; rm = (lit< tt, fits, refl); value = n; reads = reads_whole_dword Dword n small; means = refl }

-- ---- one operand

unary_suits : (o : Unary) (size : Size) (x : Operand) → OperandFits x → Suits (unary_choice o size x) (insns.Unary o size x)
unfolding rows
unary_suits Inc Byte x fits = sized_suits Byte 0xFE 1 1 (Only 0) (patterns.UnaryRm Inc) 0 0 (x) (insns.Unary Inc Byte (x)) (inc_rm Byte) (lit< tt) (lit< tt, fits, refl) refl
unary_suits Inc Word (operand.Register r) fits = record { listed = (opcode_at 0x40, lit< tt, refl); resized = refl; repeat = refl; number = register_below r; rm = tt; value = 0; reads = reads_nothing true Word; means = rw (register_again r) refl }
unary_suits Inc Word (operand.Memory m) fits = sized_suits Word 0xFE 1 1 (Only 0) (patterns.UnaryRm Inc) 0 0 (operand.Memory m) (insns.Unary Inc Word (operand.Memory m)) (inc_rm Word) (lit< tt) (lit< tt, fits, refl) refl
unary_suits Inc Dword (operand.Register r) fits = record { listed = (opcode_at 0x40, lit< tt, refl); resized = refl; repeat = refl; number = register_below r; rm = tt; value = 0; reads = reads_nothing false Dword; means = rw (register_again r) refl }
unary_suits Inc Dword (operand.Memory m) fits = sized_suits Dword 0xFE 1 1 (Only 0) (patterns.UnaryRm Inc) 0 0 (operand.Memory m) (insns.Unary Inc Dword (operand.Memory m)) (inc_rm Dword) (lit< tt) (lit< tt, fits, refl) refl
unary_suits Dec Byte x fits = sized_suits Byte 0xFE 1 1 (Only 1) (patterns.UnaryRm Dec) 0 1 (x) (insns.Unary Dec Byte (x)) (dec_rm Byte) (lit< tt) (lit< tt, fits, refl) refl
unary_suits Dec Word (operand.Register r) fits = record { listed = (opcode_at 0x48, lit< tt, refl); resized = refl; repeat = refl; number = register_below r; rm = tt; value = 0; reads = reads_nothing true Word; means = rw (register_again r) refl }
unary_suits Dec Word (operand.Memory m) fits = sized_suits Word 0xFE 1 1 (Only 1) (patterns.UnaryRm Dec) 0 1 (operand.Memory m) (insns.Unary Dec Word (operand.Memory m)) (dec_rm Word) (lit< tt) (lit< tt, fits, refl) refl
unary_suits Dec Dword (operand.Register r) fits = record { listed = (opcode_at 0x48, lit< tt, refl); resized = refl; repeat = refl; number = register_below r; rm = tt; value = 0; reads = reads_nothing false Dword; means = rw (register_again r) refl }
unary_suits Dec Dword (operand.Memory m) fits = sized_suits Dword 0xFE 1 1 (Only 1) (patterns.UnaryRm Dec) 0 1 (operand.Memory m) (insns.Unary Dec Dword (operand.Memory m)) (dec_rm Dword) (lit< tt) (lit< tt, fits, refl) refl
unary_suits Not size x fits = sized_suits size 0xF6 1 1 (Only 2) (patterns.UnaryRm Not) 0 2 x (insns.Unary Not size x) (not_rm size) (lit< tt) (lit< tt, fits, refl) refl
unary_suits Neg size x fits = sized_suits size 0xF6 1 1 (Only 3) (patterns.UnaryRm Neg) 0 3 x (insns.Unary Neg size x) (neg_rm size) (lit< tt) (lit< tt, fits, refl) refl

product_below : (o : Product) → product_number o < 8
product_below Mul = lit< tt
product_below Imul = lit< tt
product_below Div = lit< tt
product_below Idiv = lit< tt

product_suits : (o : Product) (size : Size) (x : Operand) → OperandFits x → Suits (product_choice o size x) (insns.Product o size x)
product_suits o size x fits = sized_suits size 0xF6 1 1 (Only (product_number o)) (patterns.ProductRm o) 0 (product_number o) x (insns.Product o size x) (product_rm o size) (lit< tt) (product_below o, fits, refl) refl

shift_below : (o : Shift) → shift_number o < 8
shift_below Rol = lit< tt
shift_below Ror = lit< tt
shift_below Shl = lit< tt
shift_below Shr = lit< tt
shift_below Sar = lit< tt

sized_again : (size : Size) → (allows_resized (sized_column size) (is_word size) ≡ true) × (row_size (sized_column size) (is_word size) ≡ size)
sized_again Byte = (refl, refl)
sized_again Word = (refl, refl)
sized_again Dword = (refl, refl)

shift_suits : (o : Shift) (size : Size) (x : Operand) (count : Count) → OperandFits x → CountFits count → Suits (shift_choice o size x count) (insns.Shift o size x count)
shift_suits o size x counts.Cl fits small = sized_suits size 0xD2 1 1 (Only (shift_number o)) (patterns.ShiftRm o by.Cl) 0 (shift_number o) x (insns.Shift o size x counts.Cl) (shift_cl o size) (lit< tt) (shift_below o, fits, refl) refl
shift_suits o size x (counts.Immediate n) fits small =
    cond_both (eqb n 1) (with_rm (shift_one_row o size) (is_word size) 0 (shift_number o) x numbers.Nothing) (with_rm (shift_immediate_row o size) (is_word size) 0 (shift_number o) x (numbers.Byte n)) (λ c. Suits c (insns.Shift o size x (counts.Immediate n)))
    (λ h. sized_suits size 0xD0 1 1 (Only (shift_number o)) (patterns.ShiftRm o by.One) 0 (shift_number o) x (insns.Shift o size x (counts.Immediate n)) (shift_one o size) (lit< tt) (shift_below o, fits, refl) (rw (eqb-true n 1 h) refl))
    (λ h. record { listed = shift_immediate o size; resized = (sized_again size).0; repeat = refl; number = lit< tt; rm = (shift_below o, fits, refl); value = n; reads = reads_byte (is_word size) (row_size (sized_column size) (is_word size)) n small; means = rw ((sized_again size).1) refl })

bit_test_below : (o : BitTest) → bit_test_number o < 8
bit_test_below Bt = lit< tt
bit_test_below Bts = lit< tt
bit_test_below Btr = lit< tt
bit_test_below Btc = lit< tt

bit_test_suits : (o : BitTest) (x : Operand) (n : ℕ) → OperandFits x → n < 2 ^ 8 → Suits (bit_test_choice o x n) (insns.BitTest o x n)
bit_test_suits o x n fits small = record { listed = bit_test_immediate o; resized = refl; repeat = refl; number = lit< tt; rm = (bit_test_below o, fits, refl); value = n; reads = reads_byte false Dword n small; means = refl }

register_bit_test_suits : (o : BitTest) (r n : Register) → Suits (register_bit_test o r n) (insns.BitTestRegister o r n)
register_bit_test_suits o r n = record { listed = bit_test_register o; resized = refl; repeat = refl; number = lit< tt; rm = (register_below n, tt, refl); value = 0; reads = reads_nothing false Dword; means = rw (register_again n) refl }

double_shift_suits : (o : DoubleShift) (x : Operand) (r : Register) (count : Count) → OperandFits x → CountFits count → Suits (double_shift_choice o x r count) (insns.DoubleShift o x r count)
double_shift_suits o x r counts.Cl fits small = record { listed = double_shift_cl o; resized = refl; repeat = refl; number = lit< tt; rm = (register_below r, fits); value = 0; reads = reads_nothing false Dword; means = rw (register_again r) refl }
double_shift_suits o x r (counts.Immediate n) fits small = record { listed = double_shift_immediate o; resized = refl; repeat = refl; number = lit< tt; rm = (register_below r, fits); value = n; reads = reads_byte false Dword n small; means = rw (register_again r) refl }

-- ---- into a register

bit_scan_suits : (o : BitScan) (to : Register) (from : Operand) → OperandFits from → Suits (bit_scan_choice o to from) (insns.BitScan o to from)
bit_scan_suits o to from fits = record { listed = bit_scan o; resized = refl; repeat = refl; number = lit< tt; rm = (register_below to, fits); value = 0; reads = reads_nothing false Dword; means = rw (register_again to) refl }

load_suits : (size : OperandSize) (to : Register) (m : Memory) → m.displacement < 2 ^ 32 → Suits (load_address size to m) (insns.LoadAddress size to m)
unfolding rows
load_suits operand_sizes.Word to m lt = record { listed = (opcode_at 0x8D, lit< tt, refl); resized = refl; repeat = refl; number = lit< tt; rm = (register_below to, lt, refl); value = 0; reads = reads_nothing true Word; means = rw (register_again to) refl }
load_suits operand_sizes.Dword to m lt = record { listed = (opcode_at 0x8D, lit< tt, refl); resized = refl; repeat = refl; number = lit< tt; rm = (register_below to, lt, refl); value = 0; reads = reads_nothing false Dword; means = rw (register_again to) refl }

multiply_suits : (size : OperandSize) (to : Register) (from : Operand) → OperandFits from → Suits (multiply_choice size to from) (insns.Multiply size to from)
unfolding rows
multiply_suits operand_sizes.Word to from fits = record { listed = (escaped_at 0xAF, lit< tt, refl); resized = refl; repeat = refl; number = lit< tt; rm = (register_below to, fits); value = 0; reads = reads_nothing true Word; means = rw (register_again to) refl }
multiply_suits operand_sizes.Dword to from fits = record { listed = (escaped_at 0xAF, lit< tt, refl); resized = refl; repeat = refl; number = lit< tt; rm = (register_below to, fits); value = 0; reads = reads_nothing false Dword; means = rw (register_again to) refl }

multiply_immediate_suits : (to : Register) (from : Operand) (value : WideImmediate) (long : Bool) → OperandFits from → WideImmediateFits value → Suits (multiply_immediate to from value long) (insns.MultiplyImmediate to from value)
unfolding rows
multiply_immediate_suits to from (wide_immediates.Word n) long fits small = by_mark 16 n long (with_rm multiply_signed_row true 0 (register_number to) from (short n)) (with_rm multiply_whole_row true 0 (register_number to) from (numbers.Word n)) (insns.MultiplyImmediate to from (wide_immediates.Word n))
    (λ h. record { listed = (opcode_at 0x6B, lit< tt, refl); resized = refl; repeat = refl; number = lit< tt; rm = (register_below to, fits); value = n; reads = reads_short true Word n h; means = rw (register_again to) refl })
    (record { listed = (opcode_at 0x69, lit< tt, refl); resized = refl; repeat = refl; number = lit< tt; rm = (register_below to, fits); value = n; reads = reads_whole_word Word n small; means = rw (register_again to) refl })
multiply_immediate_suits to from (wide_immediates.Dword n) long fits small = by_mark 32 n long (with_rm multiply_signed_row false 0 (register_number to) from (short n)) (with_rm multiply_whole_row false 0 (register_number to) from (numbers.Dword n)) (insns.MultiplyImmediate to from (wide_immediates.Dword n))
    (λ h. record { listed = (opcode_at 0x6B, lit< tt, refl); resized = refl; repeat = refl; number = lit< tt; rm = (register_below to, fits); value = n; reads = reads_short false Dword n h; means = rw (register_again to) refl })
    (record { listed = (opcode_at 0x69, lit< tt, refl); resized = refl; repeat = refl; number = lit< tt; rm = (register_below to, fits); value = n; reads = reads_whole_dword Dword n small; means = rw (register_again to) refl })

zero_extension_suits : (e : Extension) (to : Register) (from : Operand) → OperandFits from → Suits (zero_extension e to from) (insns.ZeroExtend e to from)
unfolding rows
zero_extension_suits ByteToWord to from fits = record { listed = (escaped_at 0xB6, lit< tt, refl); resized = refl; repeat = refl; number = lit< tt; rm = (register_below to, fits); value = 0; reads = reads_nothing true Word; means = rw (register_again to) refl }
zero_extension_suits ByteToDword to from fits = record { listed = (escaped_at 0xB6, lit< tt, refl); resized = refl; repeat = refl; number = lit< tt; rm = (register_below to, fits); value = 0; reads = reads_nothing false Dword; means = rw (register_again to) refl }
zero_extension_suits WordToDword to from fits = record { listed = (escaped_at 0xB7, lit< tt, refl); resized = refl; repeat = refl; number = lit< tt; rm = (register_below to, fits); value = 0; reads = reads_nothing false Dword; means = rw (register_again to) refl }

sign_extension_suits : (e : Extension) (to : Register) (from : Operand) → OperandFits from → Suits (sign_extension e to from) (insns.SignExtend e to from)
unfolding rows
sign_extension_suits ByteToWord to from fits = record { listed = (escaped_at 0xBE, lit< tt, refl); resized = refl; repeat = refl; number = lit< tt; rm = (register_below to, fits); value = 0; reads = reads_nothing true Word; means = rw (register_again to) refl }
sign_extension_suits ByteToDword to from fits = record { listed = (escaped_at 0xBE, lit< tt, refl); resized = refl; repeat = refl; number = lit< tt; rm = (register_below to, fits); value = 0; reads = reads_nothing false Dword; means = rw (register_again to) refl }
sign_extension_suits WordToDword to from fits = record { listed = (escaped_at 0xBF, lit< tt, refl); resized = refl; repeat = refl; number = lit< tt; rm = (register_below to, fits); value = 0; reads = reads_nothing false Dword; means = rw (register_again to) refl }

condition_suits : (c : Condition) (o : Operand) → OperandFits o → Suits (set_condition c o) (insns.SetCondition c o)
unfolding rows
condition_suits c o fits = record { listed = (escaped_at 0x90, lit< tt, refl); resized = refl; repeat = refl; number = condition_below c; rm = (lit< tt, fits); value = 0; reads = reads_nothing false Byte; means = rw (condition_again c) refl }

-- ---- the stack

push_suits : (o : Operand) → OperandFits o → Suits (push_choice o) (insns.Push o)
unfolding rows
push_suits (operand.Register r) fits = record { listed = (opcode_at 0x50, lit< tt, refl); resized = refl; repeat = refl; number = register_below r; rm = tt; value = 0; reads = reads_nothing false Dword; means = rw (register_again r) refl }
push_suits (operand.Memory m) fits = record { listed = (under_at 0xFF 6, lit< tt, refl); resized = refl; repeat = refl; number = lit< tt; rm = (lit< tt, fits, refl); value = 0; reads = reads_nothing false Dword; means = refl }

push_immediate_suits : (n : ℕ) (long : Bool) → n < 2 ^ 32 → Suits (push_immediate n long) (insns.PushImmediate n)
unfolding rows
push_immediate_suits n long small = by_mark 32 n long (bare push_signed_row false 0 (short n)) (bare push_dword_row false 0 (numbers.Dword n)) (insns.PushImmediate n)
    (λ h. record { listed = (opcode_at 0x6A, lit< tt, refl); resized = refl; repeat = refl; number = lit< tt; rm = tt; value = n; reads = reads_short false Dword n h; means = refl })
    (record { listed = (opcode_at 0x68, lit< tt, refl); resized = refl; repeat = refl; number = lit< tt; rm = tt; value = n; reads = reads_dword false Dword n small; means = refl })

-- ---- jumps

jump_if_suits : (c : Condition) (n : ℕ) (long : Bool) → n < 2 ^ 32 → Suits (jump_if c n long) (insns.JumpIf c n)
unfolding rows
jump_if_suits c n long small = by_mark 32 n long (bare jump_if_signed_row false (condition_code c) (short n)) (bare jump_if_dword_row false (condition_code c) (numbers.Dword n)) (insns.JumpIf c n)
    (λ h. record { listed = (opcode_at 0x70, lit< tt, refl); resized = refl; repeat = refl; number = condition_below c; rm = tt; value = n; reads = reads_short false Dword n h; means = rw (condition_again c) refl })
    (record { listed = (escaped_at 0x80, lit< tt, refl); resized = refl; repeat = refl; number = condition_below c; rm = tt; value = n; reads = reads_dword false Dword n small; means = rw (condition_again c) refl })

jump_suits : (n : ℕ) (long : Bool) → n < 2 ^ 32 → Suits (jump_choice n long) (insns.Jump n)
unfolding rows
jump_suits n long small = by_mark 32 n long (bare jump_signed_row false 0 (short n)) (bare jump_dword_row false 0 (numbers.Dword n)) (insns.Jump n)
    (λ h. record { listed = (opcode_at 0xEB, lit< tt, refl); resized = refl; repeat = refl; number = lit< tt; rm = tt; value = n; reads = reads_short false Dword n h; means = refl })
    (record { listed = (opcode_at 0xE9, lit< tt, refl); resized = refl; repeat = refl; number = lit< tt; rm = tt; value = n; reads = reads_dword false Dword n small; means = refl })

call_suits : (n : ℕ) → n < 2 ^ 32 → Suits (call_choice n) (insns.Call n)
unfolding rows
call_suits n small = record { listed = (opcode_at 0xE8, lit< tt, refl); resized = refl; repeat = refl; number = lit< tt; rm = tt; value = n; reads = reads_dword false Dword n small; means = refl }

jump_to_suits : (o : Operand) → OperandFits o → Suits (jump_to o) (insns.JumpTo o)
unfolding rows
jump_to_suits o fits = record { listed = (under_at 0xFF 4, lit< tt, refl); resized = refl; repeat = refl; number = lit< tt; rm = (lit< tt, fits, refl); value = 0; reads = reads_nothing false Dword; means = refl }

call_to_suits : (o : Operand) → OperandFits o → Suits (call_to o) (insns.CallTo o)
unfolding rows
call_to_suits o fits = record { listed = (under_at 0xFF 2, lit< tt, refl); resized = refl; repeat = refl; number = lit< tt; rm = (lit< tt, fits, refl); value = 0; reads = reads_nothing false Dword; means = refl }

-- the choice suits, where there is one
abbrev pub SuitsWhere : Option Choice → Insn → Type 0
SuitsWhere None i = Unit {0}
SuitsWhere (Some c) i = Suits c i

loop_suits : (o : Loop) (n : ℕ) → SuitsWhere (loop_choice o n) (insns.Loop o n)
loop_suits o n = cond_both (is_short 32 n) (Some (bare (loop_row o) false 0 (short n))) None (λ c. SuitsWhere c (insns.Loop o n))
    (λ h. record { listed = loop_listed o; resized = refl; repeat = refl; number = lit< tt; rm = tt; value = n; reads = reads_short false Dword n h; means = refl })
    (λ h. tt)

return_suits : (n : ℕ) → n < 2 ^ 16 → Suits (return_choice n) (insns.Return n)
unfolding rows
return_suits n small = cond_both (eqb n 0) (bare return_row false 0 numbers.Nothing) (bare return_bytes_row false 0 (numbers.Word n)) (λ c. Suits c (insns.Return n))
    (λ h. record { listed = (opcode_at 0xC3, lit< tt, refl); resized = refl; repeat = refl; number = lit< tt; rm = tt; value = 0; reads = reads_nothing false Dword; means = rw (eqb-true n 0 h) refl })
    (λ h. record { listed = (opcode_at 0xC2, lit< tt, refl); resized = refl; repeat = refl; number = lit< tt; rm = tt; value = n; reads = reads_word false Dword n small; means = refl })

interrupt_suits : (n : ℕ) → n < 2 ^ 8 → Suits (interrupt_choice n) (insns.Interrupt n)
unfolding rows
interrupt_suits n small = record { listed = (opcode_at 0xCD, lit< tt, refl); resized = refl; repeat = refl; number = lit< tt; rm = tt; value = n; reads = reads_byte false Dword n small; means = refl }

-- ---- the accumulator, strings and ports

extend_accumulator_suits : (size : OperandSize) → Suits (extend_accumulator size) (insns.ExtendAccumulator size)
unfolding rows
extend_accumulator_suits operand_sizes.Word = record { listed = (opcode_at 0x98, lit< tt, refl); resized = refl; repeat = refl; number = lit< tt; rm = tt; value = 0; reads = reads_nothing true Word; means = refl }
extend_accumulator_suits operand_sizes.Dword = record { listed = (opcode_at 0x98, lit< tt, refl); resized = refl; repeat = refl; number = lit< tt; rm = tt; value = 0; reads = reads_nothing false Dword; means = refl }

spread_sign_suits : (size : OperandSize) → Suits (spread_sign size) (insns.SpreadSign size)
unfolding rows
spread_sign_suits operand_sizes.Word = record { listed = (opcode_at 0x99, lit< tt, refl); resized = refl; repeat = refl; number = lit< tt; rm = tt; value = 0; reads = reads_nothing true Word; means = refl }
spread_sign_suits operand_sizes.Dword = record { listed = (opcode_at 0x99, lit< tt, refl); resized = refl; repeat = refl; number = lit< tt; rm = tt; value = 0; reads = reads_nothing false Dword; means = refl }

transfer_suits : (o : Transfer) (size : Size) (repeated : Bool) → Suits (transfer_choice o size (rep repeated)) (insns.Transfer o size repeated)
transfer_suits o size true = record { listed = transfer_listed o size; resized = (sized_again size).0; repeat = refl; number = lit< tt; rm = tt; value = 0; reads = reads_nothing (is_word size) (row_size (sized_column size) (is_word size)); means = rw ((sized_again size).1) refl }
transfer_suits o size false = record { listed = transfer_listed o size; resized = (sized_again size).0; repeat = refl; number = lit< tt; rm = tt; value = 0; reads = reads_nothing (is_word size) (row_size (sized_column size) (is_word size)); means = rw ((sized_again size).1) refl }

both_allowed : (repeat : Option Repeat) → allows_repeat Both repeat ≡ true
both_allowed None = refl
both_allowed (Some r) = refl

compare_suits : (o : Comparison) (size : Size) (repeat : Option Repeat) → Suits (compare_choice o size repeat) (insns.Compare o size repeat)
compare_suits o size repeat = record { listed = compare_listed o size; resized = (sized_again size).0; repeat = both_allowed repeat; number = lit< tt; rm = tt; value = 0; reads = reads_nothing (is_word size) (row_size (sized_column size) (is_word size)); means = rw ((sized_again size).1) refl }

in_suits : (size : PortSize) (port : Port) → PortFits port → Suits (in_choice size port) (insns.In size port)
unfolding rows
in_suits port_sizes.Byte (ports.Immediate n) small = record { listed = (opcode_at 0xE4, lit< tt, refl); resized = refl; repeat = refl; number = lit< tt; rm = tt; value = n; reads = reads_byte false Byte n small; means = refl }
in_suits port_sizes.Byte ports.Dx small = record { listed = (opcode_at 0xEC, lit< tt, refl); resized = refl; repeat = refl; number = lit< tt; rm = tt; value = 0; reads = reads_nothing false Byte; means = refl }
in_suits port_sizes.Dword (ports.Immediate n) small = record { listed = (opcode_at 0xE5, lit< tt, refl); resized = refl; repeat = refl; number = lit< tt; rm = tt; value = n; reads = reads_byte false Dword n small; means = refl }
in_suits port_sizes.Dword ports.Dx small = record { listed = (opcode_at 0xED, lit< tt, refl); resized = refl; repeat = refl; number = lit< tt; rm = tt; value = 0; reads = reads_nothing false Dword; means = refl }

out_suits : (size : PortSize) (port : Port) → PortFits port → Suits (out_choice size port) (insns.Out size port)
unfolding rows
out_suits port_sizes.Byte (ports.Immediate n) small = record { listed = (opcode_at 0xE6, lit< tt, refl); resized = refl; repeat = refl; number = lit< tt; rm = tt; value = n; reads = reads_byte false Byte n small; means = refl }
out_suits port_sizes.Byte ports.Dx small = record { listed = (opcode_at 0xEE, lit< tt, refl); resized = refl; repeat = refl; number = lit< tt; rm = tt; value = 0; reads = reads_nothing false Byte; means = refl }
out_suits port_sizes.Dword (ports.Immediate n) small = record { listed = (opcode_at 0xE7, lit< tt, refl); resized = refl; repeat = refl; number = lit< tt; rm = tt; value = n; reads = reads_byte false Dword n small; means = refl }
out_suits port_sizes.Dword ports.Dx small = record { listed = (opcode_at 0xEF, lit< tt, refl); resized = refl; repeat = refl; number = lit< tt; rm = tt; value = 0; reads = reads_nothing false Dword; means = refl }

plain_wide : (o : Plain) → allows_resized (plain_column o) false ≡ true
plain_wide Pushad = refl
plain_wide Popad = refl
plain_wide Pushfd = refl
plain_wide Popfd = refl
plain_wide Sahf = refl
plain_wide Lahf = refl
plain_wide Nop = refl
plain_wide Leave = refl
plain_wide Int3 = refl
plain_wide Into = refl
plain_wide Hlt = refl
plain_wide Cli = refl
plain_wide Sti = refl
plain_wide Cmc = refl
plain_wide Clc = refl
plain_wide Stc = refl
plain_wide Cld = refl
plain_wide Std = refl

plain_suits : (o : Plain) → Suits (plain_choice o) (insns.Plain o)
plain_suits o = record { listed = plain_listed o; resized = plain_wide o; repeat = refl; number = lit< tt; rm = tt; value = 0; reads = reads_nothing false (row_size (plain_column o) false); means = refl }

-- ---- every instruction

pub choice_suits : (i : Insn) (wide : Wide) → Fits i → SuitsWhere (choice i wide) i
unfolding rows
choice_suits (insns.Arithmetic o x) wide fits = arithmetic_suits o x wide.immediate fits
choice_suits (insns.Move x) wide fits = move_suits x fits
choice_suits (insns.Test size o r) wide fits = test_suits size o r fits
choice_suits (insns.TestImmediate o value) wide fits = test_immediate_suits o value fits.0 fits.1
choice_suits (insns.Exchange size o r) wide fits = exchange_suits size o r fits
choice_suits (insns.LoadAddress size to m) wide fits = load_suits size to m fits
choice_suits (insns.Unary o size x) wide fits = unary_suits o size x fits
choice_suits (insns.Product o size x) wide fits = product_suits o size x fits
choice_suits (insns.Multiply size to from) wide fits = multiply_suits size to from fits
choice_suits (insns.MultiplyImmediate to from value) wide fits = multiply_immediate_suits to from value wide.immediate fits.0 fits.1
choice_suits (insns.Shift o size x count) wide fits = shift_suits o size x count fits.0 fits.1
choice_suits (insns.DoubleShift o x r count) wide fits = double_shift_suits o x r count fits.0 fits.1
choice_suits (insns.BitTest o x n) wide fits = bit_test_suits o x n fits.0 fits.1
choice_suits (insns.BitTestRegister o r n) wide fits = register_bit_test_suits o r n
choice_suits (insns.BitScan o to from) wide fits = bit_scan_suits o to from fits
choice_suits (insns.ZeroExtend e to from) wide fits = zero_extension_suits e to from fits
choice_suits (insns.SignExtend e to from) wide fits = sign_extension_suits e to from fits
choice_suits (insns.SetCondition c o) wide fits = condition_suits c o fits
choice_suits (insns.Push o) wide fits = push_suits o fits
choice_suits (insns.PushImmediate n) wide fits = push_immediate_suits n wide.immediate fits
choice_suits (insns.JumpIf c n) wide fits = jump_if_suits c n wide.displacement fits
choice_suits (insns.Jump n) wide fits = jump_suits n wide.displacement fits
choice_suits (insns.Call n) wide fits = call_suits n fits
choice_suits (insns.JumpTo o) wide fits = jump_to_suits o fits
choice_suits (insns.CallTo o) wide fits = call_to_suits o fits
choice_suits (insns.Loop o n) wide fits = loop_suits o n
choice_suits (insns.Return n) wide fits = return_suits n fits
choice_suits (insns.Interrupt n) wide fits = interrupt_suits n fits
choice_suits (insns.ExtendAccumulator size) wide fits = extend_accumulator_suits size
choice_suits (insns.SpreadSign size) wide fits = spread_sign_suits size
choice_suits (insns.Transfer o size repeated) wide fits = transfer_suits o size repeated
choice_suits (insns.Compare o size repeat) wide fits = compare_suits o size repeat
choice_suits (insns.In size port) wide fits = in_suits size port fits
choice_suits (insns.Out size port) wide fits = out_suits size port fits
choice_suits (insns.Plain o) wide fits = plain_suits o
-- a dword register in the opcode and nothing else, as POP
choice_suits _ wide fits = record { listed = listed_at _ (lit< tt) refl; resized = refl; repeat = refl; number = register_below _; rm = tt; value = 0; reads = reads_nothing false Dword; means = rw register_again refl }
