use Rattle.std.proofs.Common.{ap, string_bytes}
use Rattle.mx_app_failure.proofs.Texts.{misstated_told}
use Rattle.mx_app_failure.proofs.failure.Failure.misstated.Goals as goal

pub returns-in_default : goal.returns-in_default
returns-in_default c =
    misstated_told c.args.error c.args.about (string_bytes c.args.text) c.into_bytes.result (ap (λ v. v.items) c.into_bytes.ensures.value) c.in_default.not-NoMemory
