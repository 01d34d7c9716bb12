-- Which row of the table, and which values in it, an instruction and its marks take.
use Rattle.std.specs.Prelude.{ℕ, ◌==◌, Bool, true, false, if◌then◌else◌, Option, Some, None}
use Rattle.mx_word.specs.Names.{register_number, condition_code}
use Rattle.mx_word.specs.declared.size.Size.{Size}
use Rattle.mx_word.specs.declared.size.Size.TheVariants.{Byte, Word, Dword}
use Rattle.mx_word.specs.declared.names.Register.{Register}
use Rattle.mx_word.specs.declared.names.Condition.{Condition}
use Rattle.mx_word.specs.declared.names.Arithmetic.{Arithmetic}
use Rattle.mx_word.specs.declared.names.Shift.{Shift}
use Rattle.mx_word.specs.declared.names.BitTest.{BitTest}
use Rattle.mx_word.specs.declared.names.BitScan.{BitScan}
use Rattle.mx_word.specs.declared.names.DoubleShift.{DoubleShift}
use Rattle.mx_word.specs.declared.names.Unary.{Unary}
use Rattle.mx_word.specs.declared.names.Unary.TheVariants.{Inc, Dec, Not, Neg}
use Rattle.mx_insn.specs.declared.insn.Memory.{Memory}
use Rattle.mx_insn.specs.declared.insn.Operand.{Operand}
use Rattle.mx_insn.specs.declared.insn.Operand.TheVariants as operand
use Rattle.mx_insn.specs.declared.insn.Operands.{Operands}
use Rattle.mx_insn.specs.declared.insn.Operands.TheVariants as operands
use Rattle.mx_insn.specs.declared.insn.OperandSize.{OperandSize}
use Rattle.mx_insn.specs.declared.insn.Immediate.{Immediate}
use Rattle.mx_insn.specs.declared.insn.Immediate.TheVariants as immediate
use Rattle.mx_insn.specs.declared.insn.WideImmediate.{WideImmediate}
use Rattle.mx_insn.specs.declared.insn.WideImmediate.TheVariants as wide_immediates
use Rattle.mx_insn.specs.declared.insn.Product.{Product}
use Rattle.mx_insn.specs.declared.insn.Count.{Count}
use Rattle.mx_insn.specs.declared.insn.Count.TheVariants as counts
use Rattle.mx_insn.specs.declared.insn.Extension.{Extension}
use Rattle.mx_insn.specs.declared.insn.Extension.TheVariants.{ByteToWord, ByteToDword, WordToDword}
use Rattle.mx_insn.specs.declared.insn.Loop.{Loop}
use Rattle.mx_insn.specs.declared.insn.Transfer.{Transfer}
use Rattle.mx_insn.specs.declared.insn.Comparison.{Comparison}
use Rattle.mx_insn.specs.declared.insn.Repeat.{Repeat}
use Rattle.mx_insn.specs.declared.insn.Repeat.TheVariants.{Repe}
use Rattle.mx_insn.specs.declared.insn.Port.{Port}
use Rattle.mx_insn.specs.declared.insn.Port.TheVariants as ports
use Rattle.mx_insn.specs.declared.insn.PortSize.{PortSize}
use Rattle.mx_insn.specs.declared.insn.PortSize.TheVariants as port_sizes
use Rattle.mx_insn.specs.declared.insn.Plain.{Plain}
use Rattle.mx_insn.specs.declared.insn.Insn.{Insn}
use Rattle.mx_insn.specs.declared.insn.Insn.TheVariants as insns
use Rattle.mx_insn.specs.declared.row.Row.{Row}
use Rattle.mx_insn.specs.Table.{shift_number, product_number, arithmetic_rm_reg_row, arithmetic_reg_rm_row}
use Rattle.mx_insn.specs.Table.{arithmetic_byte_row, arithmetic_whole_row, arithmetic_signed_row, increase_reg_row}
use Rattle.mx_insn.specs.Table.{decrease_reg_row, push_reg_row, pop_reg_row, push_dword_row, push_signed_row}
use Rattle.mx_insn.specs.Table.{multiply_whole_row, multiply_signed_row, jump_if_signed_row, jump_if_dword_row}
use Rattle.mx_insn.specs.Table.{test_rm_reg_row, test_rm_byte_row, test_rm_whole_row, exchange_rm_reg_row}
use Rattle.mx_insn.specs.Table.{move_rm_reg_row, move_reg_rm_row, move_reg_byte_row, move_reg_whole_row}
use Rattle.mx_insn.specs.Table.{move_rm_byte_row, move_rm_whole_row, load_address_row, extend_accumulator_row}
use Rattle.mx_insn.specs.Table.{spread_sign_row, transfer_row, compare_row, shift_immediate_row, shift_one_row}
use Rattle.mx_insn.specs.Table.{shift_cl_row, return_bytes_row, return_row, interrupt_row, loop_row, call_row}
use Rattle.mx_insn.specs.Table.{jump_dword_row, jump_signed_row, call_rm_row, jump_rm_row, push_rm_row}
use Rattle.mx_insn.specs.Table.{in_immediate_byte_row, in_immediate_dword_row, out_immediate_byte_row}
use Rattle.mx_insn.specs.Table.{out_immediate_dword_row, in_dx_byte_row, in_dx_dword_row, out_dx_byte_row}
use Rattle.mx_insn.specs.Table.{out_dx_dword_row, not_rm_row, neg_rm_row, product_row, increase_rm_row, decrease_rm_row}
use Rattle.mx_insn.specs.Table.{plain_row, set_condition_row, multiply_reg_rm_row, zero_extend_byte_row}
use Rattle.mx_insn.specs.Table.{zero_extend_word_row, sign_extend_byte_row, sign_extend_word_row, bit_test_number}
use Rattle.mx_insn.specs.Table.{bit_test_immediate_row, bit_test_register_row, bit_scan_row, double_shift_immediate_row}
use Rattle.mx_insn.specs.Table.{double_shift_cl_row}
use Rattle.mx_encode.specs.declared.Wide.{Wide}
use Rattle.mx_encode.specs.declared.fields.Number.{Number}
use Rattle.mx_encode.specs.declared.fields.Number.TheVariants as numbers
use Rattle.mx_encode.specs.declared.fields.Rm.{Rm}
use Rattle.mx_insn.specs.Spelling.{is_resized}
use Rattle.mx_encode.specs.Numbers.{arithmetic_number, is_word, is_short, shortens, short}

-- a row, and the values of its fields
pub record Choice : Type 0 where
  pub row : Row
  -- there is a 66
  pub resized : Bool
  pub repeat : Option Repeat
  -- which of the row's opcodes
  pub number : ℕ
  pub rm : Option Rm
  pub immediate : Number

-- without a ModRM byte
abbrev pub bare : Row → Bool → ℕ → Number → Choice
bare row resized number immediate =
    record { row = row; resized = resized; repeat = None; number = number; rm = None; immediate = immediate }

-- with a reg field, and an operand that mod and rm name
abbrev pub with_rm : Row → Bool → ℕ → ℕ → Operand → Number → Choice
with_rm row resized number reg o immediate =
    record {
      row = row;
      resized = resized;
      repeat = None;
      number = number;
      rm = Some (record { reg = reg; operand = o });
      immediate = immediate;
    }

-- ---- two operands

-- 83 if the value is a byte with its sign extended and isn't marked wide, else 81; 80 for bytes
abbrev pub arithmetic_immediate : Arithmetic → Operand → Immediate → Bool → Choice
arithmetic_immediate o to (immediate.Byte n) long =
    with_rm arithmetic_byte_row false 0 (arithmetic_number o) to (numbers.Byte n)
arithmetic_immediate o to (immediate.Word n) long =
    if shortens 16 n long then with_rm arithmetic_signed_row true 0 (arithmetic_number o) to (short n)
    else with_rm arithmetic_whole_row true 0 (arithmetic_number o) to (numbers.Word n)
arithmetic_immediate o to (immediate.Dword n) long =
    if shortens 32 n long then with_rm arithmetic_signed_row false 0 (arithmetic_number o) to (short n)
    else with_rm arithmetic_whole_row false 0 (arithmetic_number o) to (numbers.Dword n)

-- a register from a register by the row rm, r; from memory by r, rm
abbrev pub arithmetic_choice : Arithmetic → Operands → Bool → Choice
arithmetic_choice o (operands.ToRegister size to (operand.Register from)) long =
    with_rm (arithmetic_rm_reg_row size) (is_word size) (arithmetic_number o) (register_number from)
    (operand.Register to) numbers.Nothing
arithmetic_choice o (operands.ToRegister size to (operand.Memory m)) long =
    with_rm (arithmetic_reg_rm_row size) (is_word size) (arithmetic_number o) (register_number to)
    (operand.Memory m) numbers.Nothing
arithmetic_choice o (operands.ToMemory size to from) long =
    with_rm (arithmetic_rm_reg_row size) (is_word size) (arithmetic_number o) (register_number from)
    (operand.Memory to) numbers.Nothing
arithmetic_choice o (operands.Immediate to value) long = arithmetic_immediate o to value long

-- a register by B0 + r and B8 + r, memory by C6 and C7
abbrev pub move_immediate : Operand → Immediate → Choice
move_immediate (operand.Register r) (immediate.Byte n) =
    bare move_reg_byte_row false (register_number r) (numbers.Byte n)
move_immediate (operand.Register r) (immediate.Word n) =
    bare move_reg_whole_row true (register_number r) (numbers.Word n)
move_immediate (operand.Register r) (immediate.Dword n) =
    bare move_reg_whole_row false (register_number r) (numbers.Dword n)
move_immediate (operand.Memory m) (immediate.Byte n) =
    with_rm move_rm_byte_row false 0 0 (operand.Memory m) (numbers.Byte n)
move_immediate (operand.Memory m) (immediate.Word n) =
    with_rm move_rm_whole_row true 0 0 (operand.Memory m) (numbers.Word n)
move_immediate (operand.Memory m) (immediate.Dword n) =
    with_rm move_rm_whole_row false 0 0 (operand.Memory m) (numbers.Dword n)

abbrev pub move_choice : Operands → Choice
move_choice (operands.ToRegister size to (operand.Register from)) =
    with_rm (move_rm_reg_row size) (is_word size) 0 (register_number from) (operand.Register to) numbers.Nothing
move_choice (operands.ToRegister size to (operand.Memory m)) =
    with_rm (move_reg_rm_row size) (is_word size) 0 (register_number to) (operand.Memory m) numbers.Nothing
move_choice (operands.ToMemory size to from) =
    with_rm (move_rm_reg_row size) (is_word size) 0 (register_number from) (operand.Memory to) numbers.Nothing
move_choice (operands.Immediate to value) = move_immediate to value

abbrev pub test_choice : Size → Operand → Register → Choice
test_choice size o r = with_rm (test_rm_reg_row size) (is_word size) 0 (register_number r) o numbers.Nothing

abbrev pub test_immediate : Operand → Immediate → Choice
test_immediate o (immediate.Byte n) = with_rm test_rm_byte_row false 0 0 o (numbers.Byte n)
test_immediate o (immediate.Word n) = with_rm test_rm_whole_row true 0 0 o (numbers.Word n)
test_immediate o (immediate.Dword n) = with_rm test_rm_whole_row false 0 0 o (numbers.Dword n)

abbrev pub exchange_choice : Size → Operand → Register → Choice
exchange_choice size o r = with_rm (exchange_rm_reg_row size) (is_word size) 0 (register_number r) o numbers.Nothing

-- ---- one operand

-- INC and DEC of a word or dword register take a row of their own, bytes and memory that with /n
abbrev pub step_choice : Row → Row → ℕ → Size → Operand → Choice
step_choice register rm n Byte o = with_rm rm false 0 n o numbers.Nothing
step_choice register rm n Word (operand.Register r) = bare register true (register_number r) numbers.Nothing
step_choice register rm n Word (operand.Memory m) = with_rm rm true 0 n (operand.Memory m) numbers.Nothing
step_choice register rm n Dword (operand.Register r) = bare register false (register_number r) numbers.Nothing
step_choice register rm n Dword (operand.Memory m) = with_rm rm false 0 n (operand.Memory m) numbers.Nothing

abbrev pub unary_choice : Unary → Size → Operand → Choice
unary_choice Inc size o = step_choice increase_reg_row (increase_rm_row size) 0 size o
unary_choice Dec size o = step_choice decrease_reg_row (decrease_rm_row size) 1 size o
unary_choice Not size o = with_rm (not_rm_row size) (is_word size) 0 2 o numbers.Nothing
unary_choice Neg size o = with_rm (neg_rm_row size) (is_word size) 0 3 o numbers.Nothing

abbrev pub product_choice : Product → Size → Operand → Choice
product_choice o size operand = with_rm (product_row o size) (is_word size) 0 (product_number o) operand numbers.Nothing

-- the count 1 by D0 and D1, CL by D2 and D3, another by C0 and C1
abbrev pub shift_choice : Shift → Size → Operand → Count → Choice
shift_choice o size operand counts.Cl =
    with_rm (shift_cl_row o size) (is_word size) 0 (shift_number o) operand numbers.Nothing
shift_choice o size operand (counts.Immediate n) =
    if n == 1 then with_rm (shift_one_row o size) (is_word size) 0 (shift_number o) operand numbers.Nothing
    else with_rm (shift_immediate_row o size) (is_word size) 0 (shift_number o) operand (numbers.Byte n)

-- a bit's number in the instruction by BA, in a register by A3 and its like
abbrev pub bit_test_choice : BitTest → Operand → ℕ → Choice
bit_test_choice o operand n = with_rm (bit_test_immediate_row o) false 0 (bit_test_number o) operand (numbers.Byte n)

abbrev pub register_bit_test : BitTest → Register → Register → Choice
register_bit_test o r n =
    with_rm (bit_test_register_row o) false 0 (register_number n) (operand.Register r) numbers.Nothing

-- CL by A5 and AD, a number by A4 and AC
abbrev pub double_shift_choice : DoubleShift → Operand → Register → Count → Choice
double_shift_choice o operand r counts.Cl =
    with_rm (double_shift_cl_row o) false 0 (register_number r) operand numbers.Nothing
double_shift_choice o operand r (counts.Immediate n) =
    with_rm (double_shift_immediate_row o) false 0 (register_number r) operand (numbers.Byte n)

-- ---- into a register

abbrev pub load_address : OperandSize → Register → Memory → Choice
load_address size to m =
    with_rm load_address_row (is_resized size) 0 (register_number to) (operand.Memory m) numbers.Nothing

abbrev pub multiply_choice : OperandSize → Register → Operand → Choice
multiply_choice size to from = with_rm multiply_reg_rm_row (is_resized size) 0 (register_number to) from numbers.Nothing

abbrev pub bit_scan_choice : BitScan → Register → Operand → Choice
bit_scan_choice o to from = with_rm (bit_scan_row o) false 0 (register_number to) from numbers.Nothing

-- 6B if the value is a byte with its sign extended and isn't marked wide, else 69
abbrev pub multiply_immediate : Register → Operand → WideImmediate → Bool → Choice
multiply_immediate to from (wide_immediates.Word n) long =
    if shortens 16 n long then with_rm multiply_signed_row true 0 (register_number to) from (short n)
    else with_rm multiply_whole_row true 0 (register_number to) from (numbers.Word n)
multiply_immediate to from (wide_immediates.Dword n) long =
    if shortens 32 n long then with_rm multiply_signed_row false 0 (register_number to) from (short n)
    else with_rm multiply_whole_row false 0 (register_number to) from (numbers.Dword n)

abbrev pub zero_extension : Extension → Register → Operand → Choice
zero_extension ByteToWord to from = with_rm zero_extend_byte_row true 0 (register_number to) from numbers.Nothing
zero_extension ByteToDword to from = with_rm zero_extend_byte_row false 0 (register_number to) from numbers.Nothing
zero_extension WordToDword to from = with_rm zero_extend_word_row false 0 (register_number to) from numbers.Nothing

abbrev pub sign_extension : Extension → Register → Operand → Choice
sign_extension ByteToWord to from = with_rm sign_extend_byte_row true 0 (register_number to) from numbers.Nothing
sign_extension ByteToDword to from = with_rm sign_extend_byte_row false 0 (register_number to) from numbers.Nothing
sign_extension WordToDword to from = with_rm sign_extend_word_row false 0 (register_number to) from numbers.Nothing

-- SETcc's reg field may be any, and is 0
abbrev pub set_condition : Condition → Operand → Choice
set_condition c o = with_rm set_condition_row false (condition_code c) 0 o numbers.Nothing

-- ---- the stack

-- a register by 50 + r, memory by FF /6
abbrev pub push_choice : Operand → Choice
push_choice (operand.Register r) = bare push_reg_row false (register_number r) numbers.Nothing
push_choice (operand.Memory m) = with_rm push_rm_row false 0 6 (operand.Memory m) numbers.Nothing

abbrev pub push_immediate : ℕ → Bool → Choice
push_immediate n long =
    if shortens 32 n long then bare push_signed_row false 0 (short n)
    else bare push_dword_row false 0 (numbers.Dword n)

abbrev pub pop_choice : Register → Choice
pop_choice r = bare pop_reg_row false (register_number r) numbers.Nothing

-- ---- jumps

abbrev pub jump_if : Condition → ℕ → Bool → Choice
jump_if c n long =
    if shortens 32 n long then bare jump_if_signed_row false (condition_code c) (short n)
    else bare jump_if_dword_row false (condition_code c) (numbers.Dword n)

abbrev pub jump_choice : ℕ → Bool → Choice
jump_choice n long =
    if shortens 32 n long then bare jump_signed_row false 0 (short n)
    else bare jump_dword_row false 0 (numbers.Dword n)

abbrev pub call_choice : ℕ → Choice
call_choice n = bare call_row false 0 (numbers.Dword n)

abbrev pub jump_to : Operand → Choice
jump_to o = with_rm jump_rm_row false 0 4 o numbers.Nothing

abbrev pub call_to : Operand → Choice
call_to o = with_rm call_rm_row false 0 2 o numbers.Nothing

-- LOOP and JECXZ reach no further than a byte with its sign extended
abbrev pub loop_choice : Loop → ℕ → Option Choice
loop_choice o n =
    if is_short 32 n then Some (bare (loop_row o) false 0 (short n)) else None

abbrev pub return_choice : ℕ → Choice
return_choice n =
    if n == 0 then bare return_row false 0 numbers.Nothing
    else bare return_bytes_row false 0 (numbers.Word n)

abbrev pub interrupt_choice : ℕ → Choice
interrupt_choice n = bare interrupt_row false 0 (numbers.Byte n)

-- ---- the accumulator, strings and ports

abbrev pub extend_accumulator : OperandSize → Choice
extend_accumulator size = bare extend_accumulator_row (is_resized size) 0 numbers.Nothing

abbrev pub spread_sign : OperandSize → Choice
spread_sign size = bare spread_sign_row (is_resized size) 0 numbers.Nothing

-- F3, as REP
abbrev pub rep : Bool → Option Repeat
rep true = Some Repe
rep false = None

abbrev pub transfer_choice : Transfer → Size → Option Repeat → Choice
transfer_choice o size repeat =
    record (bare (transfer_row o size) (is_word size) 0 numbers.Nothing) { repeat = repeat }

abbrev pub compare_choice : Comparison → Size → Option Repeat → Choice
compare_choice o size repeat =
    record (bare (compare_row o size) (is_word size) 0 numbers.Nothing) { repeat = repeat }

abbrev pub in_choice : PortSize → Port → Choice
in_choice port_sizes.Byte (ports.Immediate n) = bare in_immediate_byte_row false 0 (numbers.Byte n)
in_choice port_sizes.Dword (ports.Immediate n) = bare in_immediate_dword_row false 0 (numbers.Byte n)
in_choice port_sizes.Byte ports.Dx = bare in_dx_byte_row false 0 numbers.Nothing
in_choice port_sizes.Dword ports.Dx = bare in_dx_dword_row false 0 numbers.Nothing

abbrev pub out_choice : PortSize → Port → Choice
out_choice port_sizes.Byte (ports.Immediate n) = bare out_immediate_byte_row false 0 (numbers.Byte n)
out_choice port_sizes.Dword (ports.Immediate n) = bare out_immediate_dword_row false 0 (numbers.Byte n)
out_choice port_sizes.Byte ports.Dx = bare out_dx_byte_row false 0 numbers.Nothing
out_choice port_sizes.Dword ports.Dx = bare out_dx_dword_row false 0 numbers.Nothing

-- ---- without operands

abbrev pub plain_choice : Plain → Choice
plain_choice o = bare (plain_row o) false 0 numbers.Nothing

-- ---- every instruction

-- no row of the accumulator's immediates, of memory at A0 to A3, or of XCHG at 91 to 97 is chosen
abbrev pub choice : Insn → Wide → Option Choice
choice (insns.Arithmetic o x) wide = Some (arithmetic_choice o x wide.immediate)
choice (insns.Move x) wide = Some (move_choice x)
choice (insns.Test size o r) wide = Some (test_choice size o r)
choice (insns.TestImmediate o value) wide = Some (test_immediate o value)
choice (insns.Exchange size o r) wide = Some (exchange_choice size o r)
choice (insns.LoadAddress size to m) wide = Some (load_address size to m)
choice (insns.Unary o size x) wide = Some (unary_choice o size x)
choice (insns.Product o size x) wide = Some (product_choice o size x)
choice (insns.Multiply size to from) wide = Some (multiply_choice size to from)
choice (insns.MultiplyImmediate to from value) wide = Some (multiply_immediate to from value wide.immediate)
choice (insns.Shift o size x count) wide = Some (shift_choice o size x count)
choice (insns.DoubleShift o x r count) wide = Some (double_shift_choice o x r count)
choice (insns.BitTest o x n) wide = Some (bit_test_choice o x n)
choice (insns.BitTestRegister o r n) wide = Some (register_bit_test o r n)
choice (insns.BitScan o to from) wide = Some (bit_scan_choice o to from)
choice (insns.ZeroExtend e to from) wide = Some (zero_extension e to from)
choice (insns.SignExtend e to from) wide = Some (sign_extension e to from)
choice (insns.SetCondition c o) wide = Some (set_condition c o)
choice (insns.Push o) wide = Some (push_choice o)
choice (insns.PushImmediate n) wide = Some (push_immediate n wide.immediate)
choice (insns.Pop r) wide = Some (pop_choice r)
choice (insns.JumpIf c n) wide = Some (jump_if c n wide.displacement)
choice (insns.Jump n) wide = Some (jump_choice n wide.displacement)
choice (insns.Call n) wide = Some (call_choice n)
choice (insns.JumpTo o) wide = Some (jump_to o)
choice (insns.CallTo o) wide = Some (call_to o)
choice (insns.Loop o n) wide = loop_choice o n
choice (insns.Return n) wide = Some (return_choice n)
choice (insns.Interrupt n) wide = Some (interrupt_choice n)
choice (insns.ExtendAccumulator size) wide = Some (extend_accumulator size)
choice (insns.SpreadSign size) wide = Some (spread_sign size)
choice (insns.Transfer o size repeated) wide = Some (transfer_choice o size (rep repeated))
choice (insns.Compare o size repeat) wide = Some (compare_choice o size repeat)
choice (insns.In size port) wide = Some (in_choice size port)
choice (insns.Out size port) wide = Some (out_choice size port)
choice (insns.Plain o) wide = Some (plain_choice o)
