-- Each row that is chosen is in the table.
use Rattle.std.proofs.Common.{◌≡◌, ℕ, ◌<◌, length, refl, lit<}
use Rattle.std.specs.Prelude.{Bool, true, false, not, ◌&&◌, ◌==◌, Contains, slice_index_or}
use Rattle.std.specs.List.{position_or_len}
use Rattle.mx_word.specs.declared.size.Size.{Size}
use Rattle.mx_word.specs.declared.size.Size.TheVariants.{Byte, Word, Dword}
use Rattle.mx_word.specs.declared.names.Shift.{Shift}
use Rattle.mx_word.specs.declared.names.Shift.TheVariants.{Rol, Ror, Shl, Shr, Sar}
use Rattle.mx_word.specs.declared.names.BitTest.{BitTest}
use Rattle.mx_word.specs.declared.names.BitTest.TheVariants.{Bt, Bts, Btr, Btc}
use Rattle.mx_word.specs.declared.names.BitScan.{BitScan}
use Rattle.mx_word.specs.declared.names.BitScan.TheVariants.{Bsf, Bsr}
use Rattle.mx_word.specs.declared.names.DoubleShift.{DoubleShift}
use Rattle.mx_word.specs.declared.names.DoubleShift.TheVariants.{Shld, Shrd}
use Rattle.mx_word.specs.declared.names.Unary.TheVariants.{Inc, Dec, Not, Neg}
use Rattle.mx_insn.specs.declared.insn.Product.{Product}
use Rattle.mx_insn.specs.declared.insn.Product.TheVariants.{Mul, Imul, Div, Idiv}
use Rattle.mx_insn.specs.declared.insn.Loop.{Loop}
use Rattle.mx_insn.specs.declared.insn.Loop.TheVariants as loops
use Rattle.mx_insn.specs.declared.insn.Transfer.{Transfer}
use Rattle.mx_insn.specs.declared.insn.Transfer.TheVariants.{Movs, Stos, Lods}
use Rattle.mx_insn.specs.declared.insn.Comparison.{Comparison}
use Rattle.mx_insn.specs.declared.insn.Comparison.TheVariants.{Cmps, Scas}
use Rattle.mx_insn.specs.declared.insn.Plain.{Plain}
use Rattle.mx_insn.specs.declared.insn.Plain.TheVariants.{Pushad, Popad, Pushfd, Popfd, Sahf, Lahf, Nop, Leave, Int3, Into, Hlt, Cli, Sti, Cmc, Clc, Stc, Cld, Std}
use Rattle.mx_insn.specs.declared.row.Row.{Row}
use Rattle.mx_insn.specs.declared.row.Repeats.{Repeats}
use Rattle.mx_insn.specs.declared.row.Repeats.TheVariants.{Neither, Rep, Both}
use Rattle.mx_insn.specs.declared.row.ModRm.{ModRm}
use Rattle.mx_insn.specs.declared.row.ModRm.TheVariants.{Absent, Any, Only}
use Rattle.mx_insn.specs.declared.row.ImmediateColumn.{ImmediateColumn}
use Rattle.mx_insn.specs.declared.row.CountColumn.TheVariants as by
use Rattle.mx_insn.specs.declared.row.Pattern.{Pattern}
use Rattle.mx_insn.specs.declared.row.Pattern.TheVariants as patterns
use Rattle.mx_insn.specs.Table.{sized, arithmetic_rm_reg_row, arithmetic_reg_rm_row, test_rm_reg_row, exchange_rm_reg_row, move_rm_reg_row, move_reg_rm_row, transfer_row, compare_row, shift_immediate_row, shift_one_row, shift_cl_row, loop_row, not_rm_row, neg_rm_row, product_row, increase_rm_row, decrease_rm_row, plain_row, bit_test_immediate_row, bit_test_register_row, bit_scan_row, double_shift_immediate_row, double_shift_cl_row, rows, no, ib}

-- ---- where a row is

abbrev pub is_under : ℕ → ModRm → Bool
is_under n (Only m) = n == m
is_under n _ = false

abbrev pub same_map : Bool → Bool → Bool
same_map true b = b
same_map false b = not b

-- the row of an opcode, of an opcode under /n, and of an opcode after 0F
abbrev pub opcode_at : ℕ → ℕ
opcode_at first = position_or_len (λ (r : Row). not r.escaped && (r.first == first)) rows

abbrev pub under_at : ℕ → ℕ → ℕ
under_at first n = position_or_len (λ (r : Row). not r.escaped && ((r.first == first) && is_under n r.modrm)) rows

abbrev pub escaped_at : ℕ → ℕ
escaped_at first = position_or_len (λ (r : Row). r.escaped && (r.first == first)) rows

abbrev pub escaped_under_at : ℕ → ℕ → ℕ
escaped_under_at first n = position_or_len (λ (r : Row). r.escaped && ((r.first == first) && is_under n r.modrm)) rows

-- of a row without a ModRM byte
abbrev pub row_at : Row → ℕ
row_at row = position_or_len (λ (r : Row). same_map r.escaped row.escaped && (r.first == row.first)) rows

pub listed_at : (row : Row) → row_at row < length rows → slice_index_or rows (row_at row) row ≡ row → Contains rows row
listed_at row lt e = (row_at row, lt, e)

-- a row of bytes and the next, of words and dwords
pair_listed : (size : Size) (first step count : ℕ) (repeats : Repeats) (modrm : ModRm) (immediate : ImmediateColumn) (pattern : Pattern) → Contains rows (sized Byte first step count repeats modrm immediate pattern) → Contains rows (sized Word first step count repeats modrm immediate pattern) → Contains rows (sized size first step count repeats modrm immediate pattern)
pair_listed Byte first step count repeats modrm immediate pattern x y = x
pair_listed Word first step count repeats modrm immediate pattern x y = y
pair_listed Dword first step count repeats modrm immediate pattern x y = y

pub arithmetic_rm_reg : (size : Size) → Contains rows (arithmetic_rm_reg_row size)
unfolding rows
arithmetic_rm_reg size = pair_listed size 0x00 8 8 Neither Any no patterns.ArithmeticRmReg (opcode_at 0x00, lit< tt, refl) (opcode_at 0x01, lit< tt, refl)

pub arithmetic_reg_rm : (size : Size) → Contains rows (arithmetic_reg_rm_row size)
unfolding rows
arithmetic_reg_rm size = pair_listed size 0x02 8 8 Neither Any no patterns.ArithmeticRegRm (opcode_at 0x02, lit< tt, refl) (opcode_at 0x03, lit< tt, refl)

pub move_rm_reg : (size : Size) → Contains rows (move_rm_reg_row size)
unfolding rows
move_rm_reg size = pair_listed size 0x88 1 1 Neither Any no patterns.MoveRmReg (opcode_at 0x88, lit< tt, refl) (opcode_at 0x89, lit< tt, refl)

pub move_reg_rm : (size : Size) → Contains rows (move_reg_rm_row size)
unfolding rows
move_reg_rm size = pair_listed size 0x8A 1 1 Neither Any no patterns.MoveRegRm (opcode_at 0x8A, lit< tt, refl) (opcode_at 0x8B, lit< tt, refl)

pub test_rm_reg : (size : Size) → Contains rows (test_rm_reg_row size)
unfolding rows
test_rm_reg size = pair_listed size 0x84 1 1 Neither Any no patterns.TestRmReg (opcode_at 0x84, lit< tt, refl) (opcode_at 0x85, lit< tt, refl)

pub exchange_rm_reg : (size : Size) → Contains rows (exchange_rm_reg_row size)
unfolding rows
exchange_rm_reg size = pair_listed size 0x86 1 1 Neither Any no patterns.ExchangeRmReg (opcode_at 0x86, lit< tt, refl) (opcode_at 0x87, lit< tt, refl)

pub inc_rm : (size : Size) → Contains rows (increase_rm_row size)
unfolding rows
inc_rm size = pair_listed size 0xFE 1 1 Neither (Only 0) no (patterns.UnaryRm Inc) (under_at 0xFE 0, lit< tt, refl) (under_at 0xFF 0, lit< tt, refl)

pub dec_rm : (size : Size) → Contains rows (decrease_rm_row size)
unfolding rows
dec_rm size = pair_listed size 0xFE 1 1 Neither (Only 1) no (patterns.UnaryRm Dec) (under_at 0xFE 1, lit< tt, refl) (under_at 0xFF 1, lit< tt, refl)

pub not_rm : (size : Size) → Contains rows (not_rm_row size)
unfolding rows
not_rm size = pair_listed size 0xF6 1 1 Neither (Only 2) no (patterns.UnaryRm Not) (under_at 0xF6 2, lit< tt, refl) (under_at 0xF7 2, lit< tt, refl)

pub neg_rm : (size : Size) → Contains rows (neg_rm_row size)
unfolding rows
neg_rm size = pair_listed size 0xF6 1 1 Neither (Only 3) no (patterns.UnaryRm Neg) (under_at 0xF6 3, lit< tt, refl) (under_at 0xF7 3, lit< tt, refl)

pub product_rm : (o : Product) (size : Size) → Contains rows (product_row o size)
unfolding rows
product_rm Mul size = pair_listed size 0xF6 1 1 Neither (Only 4) no (patterns.ProductRm Mul) (under_at 0xF6 4, lit< tt, refl) (under_at 0xF7 4, lit< tt, refl)
product_rm Imul size = pair_listed size 0xF6 1 1 Neither (Only 5) no (patterns.ProductRm Imul) (under_at 0xF6 5, lit< tt, refl) (under_at 0xF7 5, lit< tt, refl)
product_rm Div size = pair_listed size 0xF6 1 1 Neither (Only 6) no (patterns.ProductRm Div) (under_at 0xF6 6, lit< tt, refl) (under_at 0xF7 6, lit< tt, refl)
product_rm Idiv size = pair_listed size 0xF6 1 1 Neither (Only 7) no (patterns.ProductRm Idiv) (under_at 0xF6 7, lit< tt, refl) (under_at 0xF7 7, lit< tt, refl)

pub shift_immediate : (o : Shift) (size : Size) → Contains rows (shift_immediate_row o size)
unfolding rows
shift_immediate Rol size = pair_listed size 0xC0 1 1 Neither (Only 0) ib (patterns.ShiftRm Rol by.Immediate) (under_at 0xC0 0, lit< tt, refl) (under_at 0xC1 0, lit< tt, refl)
shift_immediate Ror size = pair_listed size 0xC0 1 1 Neither (Only 1) ib (patterns.ShiftRm Ror by.Immediate) (under_at 0xC0 1, lit< tt, refl) (under_at 0xC1 1, lit< tt, refl)
shift_immediate Shl size = pair_listed size 0xC0 1 1 Neither (Only 4) ib (patterns.ShiftRm Shl by.Immediate) (under_at 0xC0 4, lit< tt, refl) (under_at 0xC1 4, lit< tt, refl)
shift_immediate Shr size = pair_listed size 0xC0 1 1 Neither (Only 5) ib (patterns.ShiftRm Shr by.Immediate) (under_at 0xC0 5, lit< tt, refl) (under_at 0xC1 5, lit< tt, refl)
shift_immediate Sar size = pair_listed size 0xC0 1 1 Neither (Only 7) ib (patterns.ShiftRm Sar by.Immediate) (under_at 0xC0 7, lit< tt, refl) (under_at 0xC1 7, lit< tt, refl)

pub shift_one : (o : Shift) (size : Size) → Contains rows (shift_one_row o size)
unfolding rows
shift_one Rol size = pair_listed size 0xD0 1 1 Neither (Only 0) no (patterns.ShiftRm Rol by.One) (under_at 0xD0 0, lit< tt, refl) (under_at 0xD1 0, lit< tt, refl)
shift_one Ror size = pair_listed size 0xD0 1 1 Neither (Only 1) no (patterns.ShiftRm Ror by.One) (under_at 0xD0 1, lit< tt, refl) (under_at 0xD1 1, lit< tt, refl)
shift_one Shl size = pair_listed size 0xD0 1 1 Neither (Only 4) no (patterns.ShiftRm Shl by.One) (under_at 0xD0 4, lit< tt, refl) (under_at 0xD1 4, lit< tt, refl)
shift_one Shr size = pair_listed size 0xD0 1 1 Neither (Only 5) no (patterns.ShiftRm Shr by.One) (under_at 0xD0 5, lit< tt, refl) (under_at 0xD1 5, lit< tt, refl)
shift_one Sar size = pair_listed size 0xD0 1 1 Neither (Only 7) no (patterns.ShiftRm Sar by.One) (under_at 0xD0 7, lit< tt, refl) (under_at 0xD1 7, lit< tt, refl)

pub shift_cl : (o : Shift) (size : Size) → Contains rows (shift_cl_row o size)
unfolding rows
shift_cl Rol size = pair_listed size 0xD2 1 1 Neither (Only 0) no (patterns.ShiftRm Rol by.Cl) (under_at 0xD2 0, lit< tt, refl) (under_at 0xD3 0, lit< tt, refl)
shift_cl Ror size = pair_listed size 0xD2 1 1 Neither (Only 1) no (patterns.ShiftRm Ror by.Cl) (under_at 0xD2 1, lit< tt, refl) (under_at 0xD3 1, lit< tt, refl)
shift_cl Shl size = pair_listed size 0xD2 1 1 Neither (Only 4) no (patterns.ShiftRm Shl by.Cl) (under_at 0xD2 4, lit< tt, refl) (under_at 0xD3 4, lit< tt, refl)
shift_cl Shr size = pair_listed size 0xD2 1 1 Neither (Only 5) no (patterns.ShiftRm Shr by.Cl) (under_at 0xD2 5, lit< tt, refl) (under_at 0xD3 5, lit< tt, refl)
shift_cl Sar size = pair_listed size 0xD2 1 1 Neither (Only 7) no (patterns.ShiftRm Sar by.Cl) (under_at 0xD2 7, lit< tt, refl) (under_at 0xD3 7, lit< tt, refl)

pub bit_test_immediate : (o : BitTest) → Contains rows (bit_test_immediate_row o)
unfolding rows
bit_test_immediate Bt = (escaped_under_at 0xBA 4, lit< tt, refl)
bit_test_immediate Bts = (escaped_under_at 0xBA 5, lit< tt, refl)
bit_test_immediate Btr = (escaped_under_at 0xBA 6, lit< tt, refl)
bit_test_immediate Btc = (escaped_under_at 0xBA 7, lit< tt, refl)

pub bit_test_register : (o : BitTest) → Contains rows (bit_test_register_row o)
unfolding rows
bit_test_register Bt = (escaped_at 0xA3, lit< tt, refl)
bit_test_register Bts = (escaped_at 0xAB, lit< tt, refl)
bit_test_register Btr = (escaped_at 0xB3, lit< tt, refl)
bit_test_register Btc = (escaped_at 0xBB, lit< tt, refl)

pub bit_scan : (o : BitScan) → Contains rows (bit_scan_row o)
unfolding rows
bit_scan Bsf = (escaped_at 0xBC, lit< tt, refl)
bit_scan Bsr = (escaped_at 0xBD, lit< tt, refl)

pub double_shift_immediate : (o : DoubleShift) → Contains rows (double_shift_immediate_row o)
unfolding rows
double_shift_immediate Shld = (escaped_at 0xA4, lit< tt, refl)
double_shift_immediate Shrd = (escaped_at 0xAC, lit< tt, refl)

pub double_shift_cl : (o : DoubleShift) → Contains rows (double_shift_cl_row o)
unfolding rows
double_shift_cl Shld = (escaped_at 0xA5, lit< tt, refl)
double_shift_cl Shrd = (escaped_at 0xAD, lit< tt, refl)

pub transfer_listed : (o : Transfer) (size : Size) → Contains rows (transfer_row o size)
unfolding rows
transfer_listed Movs size = pair_listed size 0xA4 1 1 Rep Absent no (patterns.Transfer Movs) (opcode_at 0xA4, lit< tt, refl) (opcode_at 0xA5, lit< tt, refl)
transfer_listed Stos size = pair_listed size 0xAA 1 1 Rep Absent no (patterns.Transfer Stos) (opcode_at 0xAA, lit< tt, refl) (opcode_at 0xAB, lit< tt, refl)
transfer_listed Lods size = pair_listed size 0xAC 1 1 Rep Absent no (patterns.Transfer Lods) (opcode_at 0xAC, lit< tt, refl) (opcode_at 0xAD, lit< tt, refl)

pub compare_listed : (o : Comparison) (size : Size) → Contains rows (compare_row o size)
unfolding rows
compare_listed Cmps size = pair_listed size 0xA6 1 1 Both Absent no (patterns.Compare Cmps) (opcode_at 0xA6, lit< tt, refl) (opcode_at 0xA7, lit< tt, refl)
compare_listed Scas size = pair_listed size 0xAE 1 1 Both Absent no (patterns.Compare Scas) (opcode_at 0xAE, lit< tt, refl) (opcode_at 0xAF, lit< tt, refl)

pub loop_listed : (o : Loop) → Contains rows (loop_row o)
unfolding rows
loop_listed loops.Loopne = (opcode_at 0xE0, lit< tt, refl)
loop_listed loops.Loope = (opcode_at 0xE1, lit< tt, refl)
loop_listed loops.Loop = (opcode_at 0xE2, lit< tt, refl)
loop_listed loops.Jecxz = (opcode_at 0xE3, lit< tt, refl)

pub plain_listed : (o : Plain) → Contains rows (plain_row o)
unfolding rows
plain_listed Pushad = (opcode_at 0x60, lit< tt, refl)
plain_listed Popad = (opcode_at 0x61, lit< tt, refl)
plain_listed Pushfd = (opcode_at 0x9C, lit< tt, refl)
plain_listed Popfd = (opcode_at 0x9D, lit< tt, refl)
plain_listed Sahf = (opcode_at 0x9E, lit< tt, refl)
plain_listed Lahf = (opcode_at 0x9F, lit< tt, refl)
plain_listed Nop = (opcode_at 0x90, lit< tt, refl)
plain_listed Leave = (opcode_at 0xC9, lit< tt, refl)
plain_listed Int3 = (opcode_at 0xCC, lit< tt, refl)
plain_listed Into = (opcode_at 0xCE, lit< tt, refl)
plain_listed Hlt = (opcode_at 0xF4, lit< tt, refl)
plain_listed Cli = (opcode_at 0xFA, lit< tt, refl)
plain_listed Sti = (opcode_at 0xFB, lit< tt, refl)
plain_listed Cmc = (opcode_at 0xF5, lit< tt, refl)
plain_listed Clc = (opcode_at 0xF8, lit< tt, refl)
plain_listed Stc = (opcode_at 0xF9, lit< tt, refl)
plain_listed Cld = (opcode_at 0xFC, lit< tt, refl)
plain_listed Std = (opcode_at 0xFD, lit< tt, refl)
