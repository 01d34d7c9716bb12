-- Why a step faults with vector 12 or 13 (80386 Programmer's Reference Manual, 9.8).
use Rattle.std.specs.Prelude.{ℕ, ◌==◌, ◌||◌, if◌then◌else◌, drop, Option, Some, None, Result, Ok, Err}
use Rattle.mx_word.specs.declared.size.Size.TheVariants.{Dword}
use Rattle.mx_insn.specs.declared.insn.Insn.{Insn}
use Rattle.mx_insn.specs.declared.insn.Insn.TheVariants as insns
use Rattle.mx_decode.specs.declared.DecodeFault.{DecodeFault}
use Rattle.mx_decode.specs.Decode.{front}
use Rattle.mx_exec.specs.declared.image.Image.{Image}
use Rattle.mx_exec.specs.Image.{code_bytes, dword_sum}
use Rattle.mx_exec.specs.Operands.{value_in}
use Rattle.mx_exec.specs.Stack.{top_of}
use Rattle.mx_look.specs.declared.accesses.Access.{Access}
use Rattle.mx_look.specs.declared.reasons.FaultReason.{FaultReason}
use Rattle.mx_look.specs.declared.reasons.FaultReason.TheVariants.{Outside, CodeEnd, Target, Forbidden, Other}
use Rattle.mx_look.specs.Accesses.{first_outside}

-- ---- where an instruction jumps to

abbrev pub value_found : Result ℕ ℕ → Option ℕ
value_found (Ok v) = Some v
value_found (Err e) = None

-- the target of a jump, call, loop or return, whose next instruction is at `next`
unfoldable pub target_of : Insn → ℕ → Image → Option ℕ
target_of (insns.JumpIf c displacement) next m = Some (dword_sum next displacement)
target_of (insns.Jump displacement) next m = Some (dword_sum next displacement)
target_of (insns.Call displacement) next m = Some (dword_sum next displacement)
target_of (insns.Loop op displacement) next m = Some (dword_sum next displacement)
target_of (insns.JumpTo o) next m = value_found (value_in m o Dword)
target_of (insns.CallTo o) next m = value_found (value_in m o Dword)
target_of (insns.Return k) next m = value_found (top_of m)
target_of _ next m = None

-- ---- THE REASON

-- a jump that faults doesn't stay in the code; what neither accesses nor jumps is for the kernel
abbrev pub reason_by_target : Option ℕ → FaultReason
reason_by_target (Some t) = Target t
reason_by_target None = Forbidden

abbrev pub reason_by_access : Option ℕ → Option Access → FaultReason
reason_by_access target (Some a) = Outside a
reason_by_access target None = reason_by_target target

abbrev pub reason_of_front : Image → Result (Insn × ℕ) DecodeFault → FaultReason
reason_of_front m (Ok p) = reason_by_access (target_of p.0 (dword_sum m.eip p.1) m) (first_outside p.0 m)
reason_of_front m (Err e) = CodeEnd

-- of the step that ends with a fault of this vector
unfoldable pub fault_reason : Image → ℕ → FaultReason
fault_reason m v = if (v == 12) || (v == 13) then reason_of_front m (front (drop m.eip (code_bytes m))) else Other
