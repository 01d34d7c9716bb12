use Rattle.std.proofs.Common.{◌++◌, ◌∙◌, Option, ap, sym}
use Rattle.std.proofs.lemmas.List.{append-nil}
use Rattle.std.proofs.lemmas.Option.{slice_get_past}
use Rattle.mx_machine.specs.Service.{Service}
use Rattle.mx_why.specs.Checking.{bare_service_by}
use Rattle.mx_why.proofs.checking.push_bare_service.Goals as goal

pub returns-in-None : goal.returns-in-None
returns-in-None c =
    let past = slice_get_past c.args.services.now c.args.slot c.in-None.ensures.lookup.3 in
    sym (ap (λ (o : Option Service). c.args.found.now.items ++ bare_service_by c.args.slot o) past ∙ append-nil c.args.found.now.items)
