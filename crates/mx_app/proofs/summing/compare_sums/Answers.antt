use Rattle.std.proofs.Common.{◌∙◌, ap, sym}
use Rattle.mx_app_db.specs.Asked.{file_given}
use Rattle.mx_app.proofs.summing.compare_sums.Goals as goal

pub returns-in-Ok-None : goal.returns-in-Ok-None
returns-in-Ok-None g c =
    let own = c.passed_sums_are_own.ensures c.args.sums.now c.as_slice.result.now (sym c.in-Ok-None.ensures ∙ c.in-Ok-None.field-0-is) in
    (file_given c.args.name.now c.in-Ok.text.items, c.in-Ok.ensures.given, ap (file_given c.args.name.now) (sym c.as_slice.ensures.value ∙ own))
