-- Jumps, calls and loops (manual, chapter 17: JMP, Jcc, CALL, LOOP; which length is asked for is our own).
use Rattle.std.specs.Prelude.{ℕ, ◌+◌, ◌-◌, ◌%◌, ◌^◌, Bool, true, false, not, ◌&&◌, if◌then◌else◌}
use Rattle.mx_insn.specs.declared.insn.Insn.{Insn}
use Rattle.mx_insn.specs.declared.insn.Insn.TheVariants as insns
use Rattle.mx_encode.specs.declared.Wide.{Wide}
use Rattle.mx_encode.specs.Numbers.{is_short}
use Rattle.mx_asm_statement.specs.declared.branch.JumpLength.{JumpLength}
use Rattle.mx_asm_statement.specs.declared.branch.JumpLength.TheVariants.{Short, Long}
use Rattle.mx_asm_statement.specs.declared.branch.Branch.{Branch}
use Rattle.mx_asm_statement.specs.declared.branch.Branch.TheVariants as branches

abbrev pub is_short_length : JumpLength → Bool
is_short_length Short = true
is_short_length Long = false

-- `short` asks for 8 bits; LOOP and JECXZ have no other form
abbrev pub is_near : Branch → Bool
is_near (branches.Jump length) = is_short_length length
is_near (branches.JumpIf condition length) = is_short_length length
is_near branches.Call = false
is_near (branches.Loop operation) = true

-- with how far it goes
abbrev pub branch_by : Branch → ℕ → Insn
branch_by (branches.Jump length) n = insns.Jump n
branch_by (branches.JumpIf condition length) n = insns.JumpIf condition n
branch_by branches.Call n = insns.Call n
branch_by (branches.Loop operation) n = insns.Loop operation n

-- what isn't to be short is marked wide
abbrev pub branch_marks : Branch → Wide
branch_marks b = record { immediate = false; displacement = not (is_near b) }

-- opcode and 8 bits; opcode, after 0F for Jcc, and 32 bits
abbrev pub far_length : Branch → ℕ
far_length (branches.JumpIf condition length) = 6
far_length _ = 5

abbrev pub branch_length : Branch → ℕ
branch_length b = if is_near b then 2 else far_length b

-- how far a target is from the next instruction, modulo 2^32
abbrev pub distance : ℕ → ℕ → ℕ
distance next target = (target + 2 ^ 32 - next % 2 ^ 32) % 2 ^ 32

-- 8 bits are asked for, and they don't reach
abbrev pub is_too_far : Branch → ℕ → Bool
is_too_far b d = is_near b && not (is_short 32 d)
