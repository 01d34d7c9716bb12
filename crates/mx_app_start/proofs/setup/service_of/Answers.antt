use Rattle.std.proofs.Common.{List, ℕ, ap, refl}
use Rattle.mx_app_start.specs.Asked.{file_given}
use Rattle.mx_app_start.proofs.SetupLemmas.{program_is}
use Rattle.mx_app_start.proofs.setup.service_of.Goals as goal

pub returns-clause-read : goal.returns-clause-read
returns-clause-read g c = (
  file_given c.as_str.result.now c.in-Ok.bytes.items,
  c.in-Ok.ensures.given,
  (
    c.in-Ok.bytes.items,
    ap (λ (n : List ℕ). file_given n c.in-Ok.bytes.items) c.as_str.ensures,
    record {
      program = program_is c.in-Ok.bytes.items c.as_slice.result.now c.in-Ok-read.program c.as_slice.ensures.value c.in-Ok-read.ensures;
      name = refl;
      terms = refl;
    },
  ),
)
