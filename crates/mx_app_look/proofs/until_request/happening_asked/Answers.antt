use Rattle.std.proofs.Common.{◌≡◌, ◌∙◌, ℕ, List, codes, ap, sym, arith}
use Rattle.std.proofs.lemmas.Slice.Eq.{text_from_reads}
use Rattle.mx_text.specs.Fields.{fields}
use Rattle.mx_app_look.specs.UntilRequests.{happening_asked}
use Rattle.mx_app_look.proofs.until_request.happening_asked.Goals as goal

pub returns-in-message : goal.returns-in-message
returns-in-message c =
    let first = c.args.first.now in
    let is : first ≡ codes "message" = text_from_reads first (codes "message") (omega arith) (omega arith, (omega arith, (omega arith, (omega arith, (omega arith, (omega arith, (omega arith, tt))))))) in
    c.delivery_asked.ensures ∙ ap (λ (f : List ℕ). happening_asked c.args.services.now f (fields c.args.rest.now)) (sym is)
