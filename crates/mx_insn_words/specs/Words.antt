-- Which word is which: mnemonics, what may be around them, and directives (mnemonics: manual, chapter 17; of
-- the names that the manual has for one condition we take one. `.text`, `.data`, `.bss`, `.data1`, `.data2`,
-- `.data4`, `.ascii` and `.space` are those of MINIX's assembler; `.sep`, `.entry`, `.stack` and `short` are
-- our own).
use Rattle.std.specs.Prelude.{◌&&◌, ℕ, Bool, true, false, nat_lt, List, [], ◌∷◌, ◌++◌, codes}
use Rattle.mx_word.specs.declared.size.Size.{Size}
use Rattle.mx_word.specs.declared.size.Size.TheVariants.{Byte, Word, Dword}
use Rattle.mx_word.specs.declared.names.Arithmetic.{Arithmetic}
use Rattle.mx_word.specs.declared.names.Arithmetic.TheVariants as arithmetic
use Rattle.mx_word.specs.declared.names.Unary.{Unary}
use Rattle.mx_word.specs.declared.names.Unary.TheVariants as unary
use Rattle.mx_word.specs.declared.names.Shift.{Shift}
use Rattle.mx_word.specs.declared.names.Shift.TheVariants as shift
use Rattle.mx_word.specs.declared.names.BitTest.{BitTest}
use Rattle.mx_word.specs.declared.names.BitTest.TheVariants as bit_test
use Rattle.mx_word.specs.declared.names.BitScan.{BitScan}
use Rattle.mx_word.specs.declared.names.BitScan.TheVariants as bit_scan
use Rattle.mx_word.specs.declared.names.DoubleShift.{DoubleShift}
use Rattle.mx_word.specs.declared.names.DoubleShift.TheVariants as double_shift
use Rattle.mx_word.specs.declared.names.Condition.{Condition}
use Rattle.mx_word.specs.declared.names.Condition.TheVariants as condition
use Rattle.mx_insn.specs.declared.insn.Loop.{Loop}
use Rattle.mx_insn.specs.declared.insn.Loop.TheVariants as loop
use Rattle.mx_insn.specs.declared.insn.Product.{Product}
use Rattle.mx_insn.specs.declared.insn.Product.TheVariants as product
use Rattle.mx_insn.specs.declared.insn.Plain.{Plain}
use Rattle.mx_insn.specs.declared.insn.Plain.TheVariants as plain
use Rattle.mx_insn.specs.declared.insn.Transfer.{Transfer}
use Rattle.mx_insn.specs.declared.insn.Transfer.TheVariants.{Movs, Stos, Lods}
use Rattle.mx_insn.specs.declared.insn.Comparison.{Comparison}
use Rattle.mx_insn.specs.declared.insn.Comparison.TheVariants.{Cmps, Scas}
use Rattle.mx_insn_words.specs.declared.mnemonic.Mnemonic.{Mnemonic}
use Rattle.mx_insn_words.specs.declared.mnemonic.Mnemonic.TheVariants as mnemonics
use Rattle.mx_insn_words.specs.declared.start.Prefix.{Prefix}
use Rattle.mx_insn_words.specs.declared.start.Prefix.TheVariants as prefix
use Rattle.mx_insn_words.specs.declared.start.Directive.{Directive}
use Rattle.mx_insn_words.specs.declared.start.Directive.TheVariants as directive
use Rattle.mx_insn_words.specs.declared.start.WordStart.{WordStart}
use Rattle.mx_insn_words.specs.declared.start.WordStart.TheVariants as starts
use Rattle.mx_insn_words.specs.Instructions.{single_word}

-- ---- mnemonics

abbrev pub arithmetic_word : Arithmetic → List ℕ
arithmetic_word arithmetic.Add = codes "add"
arithmetic_word arithmetic.Or = codes "or"
arithmetic_word arithmetic.Adc = codes "adc"
arithmetic_word arithmetic.Sbb = codes "sbb"
arithmetic_word arithmetic.And = codes "and"
arithmetic_word arithmetic.Sub = codes "sub"
arithmetic_word arithmetic.Xor = codes "xor"
arithmetic_word arithmetic.Cmp = codes "cmp"

abbrev pub unary_word : Unary → List ℕ
unary_word unary.Inc = codes "inc"
unary_word unary.Dec = codes "dec"
unary_word unary.Not = codes "not"
unary_word unary.Neg = codes "neg"

abbrev pub shift_word : Shift → List ℕ
shift_word shift.Rol = codes "rol"
shift_word shift.Ror = codes "ror"
shift_word shift.Shl = codes "shl"
shift_word shift.Shr = codes "shr"
shift_word shift.Sar = codes "sar"

abbrev pub double_shift_word : DoubleShift → List ℕ
double_shift_word double_shift.Shld = codes "shld"
double_shift_word double_shift.Shrd = codes "shrd"

abbrev pub bit_test_word : BitTest → List ℕ
bit_test_word bit_test.Bt = codes "bt"
bit_test_word bit_test.Bts = codes "bts"
bit_test_word bit_test.Btr = codes "btr"
bit_test_word bit_test.Btc = codes "btc"

abbrev pub bit_scan_word : BitScan → List ℕ
bit_scan_word bit_scan.Bsf = codes "bsf"
bit_scan_word bit_scan.Bsr = codes "bsr"

abbrev pub loop_word : Loop → List ℕ
loop_word loop.Loopne = codes "loopne"
loop_word loop.Loope = codes "loope"
loop_word loop.Loop = codes "loop"
loop_word loop.Jecxz = codes "jecxz"

abbrev pub product_word : Product → List ℕ
product_word product.Mul = codes "mul"
product_word product.Imul = codes "imul"
product_word product.Div = codes "div"
product_word product.Idiv = codes "idiv"

abbrev pub plain_word : Plain → List ℕ
plain_word plain.Pushad = codes "pushad"
plain_word plain.Popad = codes "popad"
plain_word plain.Pushfd = codes "pushfd"
plain_word plain.Popfd = codes "popfd"
plain_word plain.Sahf = codes "sahf"
plain_word plain.Lahf = codes "lahf"
plain_word plain.Nop = codes "nop"
plain_word plain.Leave = codes "leave"
plain_word plain.Int3 = codes "int3"
plain_word plain.Into = codes "into"
plain_word plain.Hlt = codes "hlt"
plain_word plain.Cli = codes "cli"
plain_word plain.Sti = codes "sti"
plain_word plain.Cmc = codes "cmc"
plain_word plain.Clc = codes "clc"
plain_word plain.Stc = codes "stc"
plain_word plain.Cld = codes "cld"
plain_word plain.Std = codes "std"

abbrev pub condition_word : Condition → List ℕ
condition_word condition.Overflow = codes "o"
condition_word condition.NotOverflow = codes "no"
condition_word condition.Below = codes "b"
condition_word condition.NotBelow = codes "nb"
condition_word condition.Zero = codes "z"
condition_word condition.NotZero = codes "nz"
condition_word condition.BelowOrEqual = codes "be"
condition_word condition.NotBelowOrEqual = codes "nbe"
condition_word condition.Sign = codes "s"
condition_word condition.NotSign = codes "ns"
condition_word condition.Parity = codes "p"
condition_word condition.NotParity = codes "np"
condition_word condition.Less = codes "l"
condition_word condition.NotLess = codes "nl"
condition_word condition.LessOrEqual = codes "le"
condition_word condition.NotLessOrEqual = codes "nle"

abbrev pub size_letter : Size → List ℕ
size_letter Byte = codes "b"
size_letter Word = codes "w"
size_letter Dword = codes "d"

abbrev pub transfer_word : Transfer → List ℕ
transfer_word Movs = codes "movs"
transfer_word Stos = codes "stos"
transfer_word Lods = codes "lods"

abbrev pub comparison_word : Comparison → List ℕ
comparison_word Cmps = codes "cmps"
comparison_word Scas = codes "scas"

-- a mnemonic's word; a condition comes after j or set, a size after the name of a string instruction
abbrev pub word_of : Mnemonic → List ℕ
word_of (mnemonics.Arithmetic x) = arithmetic_word x
word_of (mnemonics.Unary x) = unary_word x
word_of (mnemonics.Product x) = product_word x
word_of (mnemonics.Shift x) = shift_word x
word_of (mnemonics.DoubleShift x) = double_shift_word x
word_of (mnemonics.BitTest x) = bit_test_word x
word_of (mnemonics.BitScan x) = bit_scan_word x
word_of (mnemonics.Loop x) = loop_word x
word_of (mnemonics.Plain x) = plain_word x
word_of (mnemonics.Single x) = single_word x
word_of (mnemonics.JumpIf c) = codes "j" ++ condition_word c
word_of (mnemonics.SetCondition c) = codes "set" ++ condition_word c
word_of (mnemonics.Transfer x s) = transfer_word x ++ size_letter s
word_of (mnemonics.Compare x s) = comparison_word x ++ size_letter s

-- ---- around a mnemonic

abbrev pub prefix_word : Prefix → List ℕ
prefix_word prefix.Rep = codes "rep"
prefix_word prefix.Repe = codes "repe"
prefix_word prefix.Repne = codes "repne"

-- right after JMP or Jcc, what asks for a displacement of 8 bits
abbrev pub short_word : List ℕ
short_word = codes "short"

-- ---- directives

abbrev pub directive_word : Directive → List ℕ
directive_word directive.Text = codes ".text"
directive_word directive.Data = codes ".data"
directive_word directive.Bss = codes ".bss"
directive_word directive.Data1 = codes ".data1"
directive_word directive.Data2 = codes ".data2"
directive_word directive.Data4 = codes ".data4"
directive_word directive.Ascii = codes ".ascii"
directive_word directive.Space = codes ".space"
directive_word directive.Sep = codes ".sep"
directive_word directive.Entry = codes ".entry"
directive_word directive.Stack = codes ".stack"

-- what a statement begins with
abbrev pub start_word : WordStart → List ℕ
start_word (starts.Mnemonic x) = word_of x
start_word (starts.Repeat x) = prefix_word x
start_word (starts.Directive x) = directive_word x

-- an operation's word holds neither a condition nor a size
abbrev pub is_operation : WordStart → Bool
is_operation (starts.Mnemonic (mnemonics.JumpIf c)) = false
is_operation (starts.Mnemonic (mnemonics.SetCondition c)) = false
is_operation (starts.Mnemonic (mnemonics.Transfer x s)) = false
is_operation (starts.Mnemonic (mnemonics.Compare x s)) = false
is_operation (starts.Mnemonic m) = true
is_operation (starts.Repeat x) = false
is_operation (starts.Directive x) = false

-- a word's first letter comes before l
abbrev pub begins_early : List ℕ → Bool
begins_early [] = false
begins_early (c ∷ cs) = nat_lt c 108

-- AN EARLY OPERATION: its word begins with such a letter (our own)
abbrev pub is_early : Mnemonic → Bool
is_early m = is_operation (starts.Mnemonic m) && begins_early (word_of m)
