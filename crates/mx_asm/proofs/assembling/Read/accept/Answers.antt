use Rattle.std.proofs.Common.{◌∙◌, refl, sym}
use Rattle.mx_asm.specs.Layout.{seen_of}
use Rattle.mx_asm.specs.View.{above_of}
use Rattle.mx_asm.proofs.Kept.{none_kept, one_kept}
use Rattle.mx_asm.proofs.Seeing.{not_standing}
use Rattle.mx_asm.proofs.assembling.Read.accept.Goals as goal

pub returns-in_ok-push-clause-accepted : goal.returns-in_ok-push-clause-accepted
returns-in_ok-push-clause-accepted c = (
  sym c.reason_of.ensures ∙ c.in-None.is,
  c.in_ok-go_after.ensures.ok,
  one_kept c.args.number c.args.line c.args.self.now.lines.items _ (sym c.says_something.ensures ∙ c.if-says_something.true) c.in_ok-push.ensures.items,
)

pub returns-else-says_something-clause-accepted : goal.returns-else-says_something-clause-accepted
returns-else-says_something-clause-accepted c = (
  sym c.reason_of.ensures ∙ c.in-None.is,
  c.in_ok-go_after.ensures.ok,
  none_kept c.args.number c.args.line c.args.self.now.lines.items _ (sym c.says_something.ensures ∙ c.if-says_something.false) refl,
)

pub go_after-requires-clause-new : goal.go_after-requires-clause-new
go_after-requires-clause-new c = not_standing (seen_of (above_of c.args.self.now.layout)) c.args.line (sym c.reason_of.ensures ∙ c.in-None.is)
