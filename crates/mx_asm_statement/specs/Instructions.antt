-- Instructions whose numbers may hold names.
use Rattle.std.specs.Prelude.{◌≡◌, Bool, true, false, is_some, Option, Some, None, refl}
use Rattle.mx_insn.specs.declared.insn.Insn.{Insn}
use Rattle.mx_encode.specs.declared.Wide.{Wide}
use Rattle.mx_encode.specs.Forms.{has_form}
use Rattle.mx_asm_statement.specs.declared.value.Value.{Value}
use Rattle.mx_asm_statement.specs.declared.instruction.Instruction.{Instruction}

-- these parts, if the instruction has a form; no line of a text lacks one, since ESP is refused as an index
-- before, so that the instruction here can be encoded
abbrev pub instruction_if_formed : (insn : Insn) → Option Value → Option Value → (b : Bool) → has_form insn ≡ b
    → Option Instruction
instruction_if_formed insn immediate displacement true e =
    Some (record { insn = insn; immediate = immediate; displacement = displacement; spelled = e })
instruction_if_formed insn immediate displacement false e = None

unfoldable pub instruction_of : Insn → Option Value → Option Value → Option Instruction
instruction_of insn immediate displacement = instruction_if_formed insn immediate displacement (has_form insn) refl

-- a number is marked wide if it has a name
abbrev pub marks : Instruction → Wide
marks i = record { immediate = is_some i.immediate; displacement = is_some i.displacement }
