-- What each instruction is called, and its operands as they are written.
use Rattle.std.specs.Prelude.{ℕ, ◌+◌, ◌%◌, ◌^◌, ◌==◌, if◌then◌else◌, List, [], ◌∷◌, codes}
use Rattle.mx_word.specs.declared.size.Size.{Size}
use Rattle.mx_word.specs.declared.size.Size.TheVariants.{Byte, Word, Dword}
use Rattle.mx_word.specs.declared.names.Register.{Register}
use Rattle.mx_word.specs.declared.names.Register.TheVariants.{Eax, Ecx, Edx}
use Rattle.mx_insn.specs.declared.insn.Operand.{Operand}
use Rattle.mx_insn.specs.declared.insn.Operand.TheVariants as operand
use Rattle.mx_insn.specs.declared.insn.OperandSize.{OperandSize}
use Rattle.mx_insn.specs.declared.insn.OperandSize.TheVariants as operand_sizes
use Rattle.mx_insn.specs.declared.insn.WideImmediate.{WideImmediate}
use Rattle.mx_insn.specs.declared.insn.Operands.{Operands}
use Rattle.mx_insn.specs.declared.insn.Operands.TheVariants as operands
use Rattle.mx_insn.specs.declared.insn.Count.{Count}
use Rattle.mx_insn.specs.declared.insn.Count.TheVariants as counts
use Rattle.mx_insn.specs.declared.insn.Extension.{Extension}
use Rattle.mx_insn.specs.declared.insn.Extension.TheVariants.{ByteToWord, ByteToDword, WordToDword}
use Rattle.mx_insn.specs.declared.insn.Product.TheVariants.{Imul}
use Rattle.mx_insn.specs.declared.insn.Port.{Port}
use Rattle.mx_insn.specs.declared.insn.Port.TheVariants as ports
use Rattle.mx_insn.specs.declared.insn.PortSize.{PortSize}
use Rattle.mx_insn.specs.declared.insn.PortSize.TheVariants as port_sizes
use Rattle.mx_insn.specs.declared.insn.Insn.{Insn}
use Rattle.mx_insn.specs.declared.insn.Insn.TheVariants as insns
use Rattle.mx_insn.specs.Sizes.{size_of_immediate, size_of_operands, value_of_immediate, wide_size, wide_value}
use Rattle.mx_insn_words.specs.declared.mnemonic.Single as single_names
use Rattle.mx_insn_words.specs.declared.mnemonic.Single.TheVariants.{Mov, Test, Xchg, Lea, Movzx, Movsx, Push, Pop, Jmp}
use Rattle.mx_insn_words.specs.declared.mnemonic.Single.TheVariants.{Call, Ret, Int, Cbw, Cwde, Cwd, Cdq, In, Out}
use Rattle.mx_insn_words.specs.declared.mnemonic.Mnemonic.{Mnemonic}
use Rattle.mx_insn_words.specs.declared.mnemonic.Mnemonic.TheVariants.{Arithmetic, Unary, Product, Shift, DoubleShift}
use Rattle.mx_insn_words.specs.declared.mnemonic.Mnemonic.TheVariants.{BitTest, BitScan, Loop, Plain, Single, JumpIf}
use Rattle.mx_insn_words.specs.declared.mnemonic.Mnemonic.TheVariants.{SetCondition, Transfer, Compare}
use Rattle.mx_insn_words.specs.declared.written.Written.{Written}
use Rattle.mx_insn_words.specs.declared.written.Written.TheVariants as written

-- ---- mnemonics

-- those that are the only ones of their kind; `specs/Words` has the families
abbrev pub single_word : single_names.Single → List ℕ
single_word Mov = codes "mov"
single_word Test = codes "test"
single_word Xchg = codes "xchg"
single_word Lea = codes "lea"
single_word Movzx = codes "movzx"
single_word Movsx = codes "movsx"
single_word Push = codes "push"
single_word Pop = codes "pop"
single_word Jmp = codes "jmp"
single_word Call = codes "call"
single_word Ret = codes "ret"
single_word Int = codes "int"
single_word Cbw = codes "cbw"
single_word Cwde = codes "cwde"
single_word Cwd = codes "cwd"
single_word Cdq = codes "cdq"
single_word In = codes "in"
single_word Out = codes "out"

-- CBW and CWDE, CWD and CDQ are one instruction at two sizes
abbrev pub extend_mnemonic : OperandSize → Mnemonic
extend_mnemonic operand_sizes.Word = Single Cbw
extend_mnemonic operand_sizes.Dword = Single Cwde

abbrev pub spread_mnemonic : OperandSize → Mnemonic
spread_mnemonic operand_sizes.Word = Single Cwd
spread_mnemonic operand_sizes.Dword = Single Cdq

abbrev pub mnemonic_of : Insn → Mnemonic
mnemonic_of (insns.Arithmetic o x) = Arithmetic o
mnemonic_of (insns.Move x) = Single Mov
mnemonic_of (insns.Test size x r) = Single Test
mnemonic_of (insns.TestImmediate x n) = Single Test
mnemonic_of (insns.Exchange size x r) = Single Xchg
mnemonic_of (insns.LoadAddress size r m) = Single Lea
mnemonic_of (insns.Unary o size x) = Unary o
mnemonic_of (insns.Product o size x) = Product o
mnemonic_of (insns.Multiply size r x) = Product Imul
mnemonic_of (insns.MultiplyImmediate r x n) = Product Imul
mnemonic_of (insns.Shift o size x n) = Shift o
mnemonic_of (insns.DoubleShift o x r n) = DoubleShift o
mnemonic_of (insns.BitTest o x n) = BitTest o
mnemonic_of (insns.BitTestRegister o r n) = BitTest o
mnemonic_of (insns.BitScan o r x) = BitScan o
mnemonic_of (insns.ZeroExtend e r x) = Single Movzx
mnemonic_of (insns.SignExtend e r x) = Single Movsx
mnemonic_of (insns.SetCondition c x) = SetCondition c
mnemonic_of (insns.Push x) = Single Push
mnemonic_of (insns.PushImmediate n) = Single Push
mnemonic_of (insns.Pop r) = Single Pop
mnemonic_of (insns.JumpIf c n) = JumpIf c
mnemonic_of (insns.Jump n) = Single Jmp
mnemonic_of (insns.Call n) = Single Call
mnemonic_of (insns.JumpTo x) = Single Jmp
mnemonic_of (insns.CallTo x) = Single Call
mnemonic_of (insns.Loop o n) = Loop o
mnemonic_of (insns.Return n) = Single Ret
mnemonic_of (insns.Interrupt n) = Single Int
mnemonic_of (insns.ExtendAccumulator size) = extend_mnemonic size
mnemonic_of (insns.SpreadSign size) = spread_mnemonic size
mnemonic_of (insns.Transfer o size repeated) = Transfer o size
mnemonic_of (insns.Compare o size repeat) = Compare o size
mnemonic_of (insns.In size port) = Single In
mnemonic_of (insns.Out size port) = Single Out
mnemonic_of (insns.Plain o) = Plain o

-- ---- operands, the destination first

abbrev pub written_operand : Size → Operand → Written
written_operand size (operand.Register r) = written.Register size r
written_operand size (operand.Memory m) = written.Memory size m

abbrev pub written_pair : Operands → List Written
written_pair (operands.ToRegister size to from) = written.Register size to ∷ written_operand size from ∷ []
written_pair (operands.ToMemory size to from) = written.Memory size to ∷ written.Register size from ∷ []
written_pair (operands.Immediate to n) =
    written_operand (size_of_immediate n) to ∷ written.Number (value_of_immediate n) ∷ []

-- register, operand and number of an IMUL of three operands
abbrev pub written_product : Register → Operand → WideImmediate → List Written
written_product to from by =
    written.Register (wide_size by) to ∷ written_operand (wide_size by) from ∷ written.Number (wide_value by) ∷ []

-- how far a shift goes: a number, or CL
abbrev pub written_count : Count → Written
written_count counts.Cl = written.Register Byte Ecx
written_count (counts.Immediate n) = written.Number n

-- what MOVZX and MOVSX write and read
abbrev pub written_extension : Extension → Register → Operand → List Written
written_extension ByteToWord to from = written.Register Word to ∷ written_operand Byte from ∷ []
written_extension ByteToDword to from = written.Register Dword to ∷ written_operand Byte from ∷ []
written_extension WordToDword to from = written.Register Dword to ∷ written_operand Word from ∷ []

-- AL or EAX, and the port: DX or a number
abbrev pub written_accumulator : PortSize → Written
written_accumulator port_sizes.Byte = written.Register Byte Eax
written_accumulator port_sizes.Dword = written.Register Dword Eax

abbrev pub written_port : Port → Written
written_port ports.Dx = written.Register Word Edx
written_port (ports.Immediate n) = written.Number n

-- the address that a displacement names: it counts from the next instruction, modulo 2 ^ 32
abbrev pub written_target : ℕ → ℕ → Written
written_target next displacement = written.Number ((next + displacement) % 2 ^ 32)

-- a RET that takes nothing more off the stack has no operand
abbrev pub written_return : ℕ → List Written
written_return n = if n == 0 then [] else written.Number n ∷ []

-- the operands of an instruction, by the address of the next one
abbrev pub written_operands : ℕ → Insn → List Written
written_operands next (insns.Arithmetic o x) = written_pair x
written_operands next (insns.Move x) = written_pair x
written_operands next (insns.Test size x r) = written_operand size x ∷ written.Register size r ∷ []
written_operands next (insns.TestImmediate x n) = written_pair (operands.Immediate x n)
written_operands next (insns.Exchange size x r) = written_operand size x ∷ written.Register size r ∷ []
written_operands next (insns.LoadAddress size r m) = written.Register (size_of_operands size) r ∷ written.Address m ∷ []
written_operands next (insns.Unary o size x) = written_operand size x ∷ []
written_operands next (insns.Product o size x) = written_operand size x ∷ []
written_operands next (insns.Multiply size r x) =
    written.Register (size_of_operands size) r ∷ written_operand (size_of_operands size) x ∷ []
written_operands next (insns.MultiplyImmediate r x n) = written_product r x n
written_operands next (insns.Shift o size x n) = written_operand size x ∷ written_count n ∷ []
written_operands next (insns.DoubleShift o x r n) =
    written_operand Dword x ∷ written.Register Dword r ∷ written_count n ∷ []
written_operands next (insns.BitTest o x n) = written_operand Dword x ∷ written.Number n ∷ []
written_operands next (insns.BitTestRegister o r n) = written.Register Dword r ∷ written.Register Dword n ∷ []
written_operands next (insns.BitScan o r x) = written.Register Dword r ∷ written_operand Dword x ∷ []
written_operands next (insns.ZeroExtend e r x) = written_extension e r x
written_operands next (insns.SignExtend e r x) = written_extension e r x
written_operands next (insns.SetCondition c x) = written_operand Byte x ∷ []
written_operands next (insns.Push x) = written_operand Dword x ∷ []
written_operands next (insns.PushImmediate n) = written.Number n ∷ []
written_operands next (insns.Pop r) = written.Register Dword r ∷ []
written_operands next (insns.JumpIf c n) = written_target next n ∷ []
written_operands next (insns.Jump n) = written_target next n ∷ []
written_operands next (insns.Call n) = written_target next n ∷ []
written_operands next (insns.JumpTo x) = written_operand Dword x ∷ []
written_operands next (insns.CallTo x) = written_operand Dword x ∷ []
written_operands next (insns.Loop o n) = written_target next n ∷ []
written_operands next (insns.Return n) = written_return n
written_operands next (insns.Interrupt n) = written.Number n ∷ []
written_operands next (insns.ExtendAccumulator size) = []
written_operands next (insns.SpreadSign size) = []
written_operands next (insns.Transfer o size repeated) = []
written_operands next (insns.Compare o size repeat) = []
written_operands next (insns.In size port) = written_accumulator size ∷ written_port port ∷ []
written_operands next (insns.Out size port) = written_port port ∷ written_accumulator size ∷ []
written_operands next (insns.Plain o) = []
