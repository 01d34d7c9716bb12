use Rattle.std.proofs.Common.{◌∙◌, Some, ap, inr, refl}
use Rattle.mx_app_failure.specs.Failure.{problem_of_bytes}
use Rattle.mx_app_start.specs.Asked.{file_given}
use Rattle.mx_app_start.proofs.SetupLemmas.{never}
use Rattle.mx_app_start.proofs.setup.text_of.Goals as goal

pub returns-in-Err-from_utf8-clause-fault : goal.returns-in-Err-from_utf8-clause-fault
returns-in-Err-from_utf8-clause-fault g c = (
  file_given c.args.name.now c.in-Ok.bytes.items,
  c.in-Ok.ensures.given,
  (Some c.of_bytes-problem.result, inr (c.in-Ok.bytes.items, refl, (λ u. never (c.in-Err-from_utf8.ensures.succeeds u)), ap Some (c.of_bytes-problem.ensures ∙ ap problem_of_bytes c.as_slice.ensures.value)), c.of.ensures),
)
