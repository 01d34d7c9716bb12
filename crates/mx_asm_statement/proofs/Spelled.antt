-- An instruction that has a form is the one of its parts.
use Rattle.std.proofs.Common.{◌≡◌, Bool, true, false, Option, Some, ap}
use Rattle.std.proofs.lemmas.Bool.{both_ways}
use Rattle.mx_insn.specs.declared.insn.Insn.{Insn}
use Rattle.mx_encode.specs.Forms.{has_form}
use Rattle.mx_asm_statement.specs.declared.value.Value.{Value}
use Rattle.mx_asm_statement.specs.Instructions.{instruction_if_formed}
use denote.Struct.Props.{props}

pub given : (insn : Insn) (immediate displacement : Option Value) (e : has_form insn ≡ true) (b : Bool) (q : has_form insn ≡ b)
    → Some (record { insn = insn; immediate = immediate; displacement = displacement; spelled = e }) ≡ instruction_if_formed insn immediate displacement b q
given insn immediate displacement e true q =
    let one : IsProp (has_form insn ≡ true) = hlevel props in
    ap (λ s. Some (record { insn = insn; immediate = immediate; displacement = displacement; spelled = s })) (one e q)
given insn immediate displacement e false q = absurd (both_ways (has_form insn) q e)
