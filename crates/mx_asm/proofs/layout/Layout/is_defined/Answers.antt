use Rattle.std.proofs.Common.{◌∙◌, ap}
use Rattle.std.specs.Prelude.{is_some}
use Rattle.std.proofs.lemmas.Map.Made.{is_some-lookup}
use Rattle.mx_asm.specs.Layout.{is_same_label}
use Rattle.mx_asm.proofs.layout.Layout.is_defined.Goals as goal

pub returns-in-Some : goal.returns-in-Some
returns-in-Some c = rw c.in-Some.is (c.is_some.ensures ∙ ap is_some c.spot_named.ensures ∙ is_some-lookup (is_same_label c.in-Some.name) c.args.self.now.labels.entries)
