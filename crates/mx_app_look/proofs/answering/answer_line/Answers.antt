use Rattle.std.proofs.Common.{◌∙◌, List, Option, ap, subst, sym}
use Rattle.mx_machine.specs.Service.{Service}
use Rattle.mx_app_look.specs.declared.request.Request.{Request}
use Rattle.mx_app_look.specs.Requests.{request_of}
use Rattle.mx_app_look.specs.Sessions.{IsAnsweredBy}
use Rattle.mx_app_look.specs.Shows.{IsShownBy}
use Rattle.mx_app_look.proofs.answering.answer_line.Goals as goal

pub returns-clause-answered : goal.returns-clause-answered
returns-clause-answered g c =
    let line = c.args.line.now in
    let asked = c.request_of-request.ensures ∙ ap (λ (vs : List Service). request_of vs line) c.services_here.ensures in
    let shown = c.in_ok-sight.ensures.shown in (
      sym c.ends.ensures ∙ c.if-ends.false,
      (
        c.in_ok-sight.text.items,
        shown.0,
        subst (λ (o : Option Request). IsAnsweredBy c.args.sight line o c.in_ok-sight.sight c.in_ok-sight.text.items) asked c.in_ok-sight.ensures.answered,
        subst (λ (o : Option Request). IsShownBy c.args.sight o shown.0) asked shown.2,
        c.in_ok-push_prompt.ensures,
        c.clear.ensures ∙ shown.1,
      ),
    )
