use Rattle.std.proofs.Common.{◌∙◌, IsTrue, ap, sym, List, ℕ}
use Rattle.std.specs.Prelude.{Result, is_ok}
use Rattle.mx_insn.specs.declared.insn.Insn.{Insn}
use Rattle.mx_decode.specs.declared.DecodeFault.{DecodeFault}
use Rattle.mx_decode.specs.Decode.{front}
use Rattle.mx_encode.specs.Forms.{has_form}
use Rattle.mx_vectors_compare.proofs.checking.is_spelled.Goals as goal

pub returns-in-Ok : goal.returns-in-Ok
returns-in-Ok c =
    let spelled = (c.decode.ensures.ok c.in-Ok.insn c.in-Ok.field-0-1).0 c.in-Ok.is in
    let form : IsTrue (has_form c.in-Ok.insn) = c.spelled_has_form.ensures c.in-Ok.insn _ spelled.1 in
    let again = c.is_always_again.ensures form in
    let whole = ap (λ (r : Result (Insn × ℕ) DecodeFault). is_ok r) (sym (c.decode.ensures.value ∙ ap (λ (b : List ℕ). front b) c.as_slice.ensures) ∙ c.in-Ok.is) in
    ((λ _. whole), (λ _. again))
