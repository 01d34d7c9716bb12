use Rattle.std.proofs.Common.{◌∙◌, List, ℕ, subst}
use Rattle.std.specs.Str.{IsUtf8}
use Rattle.mx_asm.specs.Text.{IsAssembled}
use Rattle.mx_app_program.proofs.Telling.{tells_text}
use Rattle.mx_app_program.proofs.assembly.assemble_file.Goals as goal

pub returns-in_ok-write-in-Ok-assemble-clause-file : goal.returns-in_ok-write-in-Ok-assemble-clause-file
returns-in_ok-write-in-Ok-assemble-clause-file c = (
  c.in-Ok-assemble.program,
  subst (λ (t : List ℕ). IsAssembled t c.in-Ok-assemble.program) (c.in-Ok.ensures.cases.0 ∙ c.as_slice.ensures.value) c.in-Ok-assemble.ensures.program,
  c.in_ok-write-in-Ok-assemble.ensures.file,
  c.in_ok-write-in-Ok-assemble.ensures.form,
)

pub returns-in-Err-clause-fault : goal.returns-in-Err-clause-fault
returns-in-Err-clause-fault c =
    tells_text c.args.source.items c.in-Ok.text.now c.in-Err.error c.faulty.result (c.in-Ok.ensures.cases.0 ∙ c.as_slice.ensures.value)
    (subst (λ (t : List ℕ). IsUtf8 t) c.as_slice.ensures.value c.in-Ok.ensures.cases.1) c.in-Err.ensures.fault c.faulty.ensures
