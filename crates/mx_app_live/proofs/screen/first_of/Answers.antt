use Rattle.std.proofs.Common.{◌∙◌, ◌-◌, ◌<◌, arith, inr, length, sym}
use Rattle.std.proofs.lemmas.Option.{slice_get_within}
use Rattle.mx_app_live.proofs.screen.first_of.Goals as goal

pub returns-in-Some-clause-there : goal.returns-in-Some-clause-there
returns-in-Some-clause-there c =
    let within : c.min-kept.result - 1 < length c.args.console.now.kept = slice_get_within c.args.console.now.kept (c.min-kept.result - 1) _ (sym c.get.ensures ∙ c.in-Some.is) in
    inr (omega (arith, within))
