use Rattle.std.proofs.Common.{◌∙◌, ◌++◌, Option, ap, sym}
use Rattle.std.proofs.lemmas.List.{append-nil}
use Rattle.std.proofs.lemmas.Option.{slice_get_past}
use Rattle.mx_why.specs.Deaths.{death_by}
use Rattle.mx_why.specs.declared.notes.Note.{Note}
use Rattle.mx_why.proofs.deaths.push_death_at.Goals as goal

pub returns-in-None : goal.returns-in-None
returns-in-None c =
    let past = slice_get_past c.args.notes.now c.args.index c.in-None.ensures.lookup.3 in
    sym (append-nil c.args.deaths.now.items) ∙ ap (λ (o : Option Note). c.args.deaths.now.items ++ death_by c.args.notes.now c.args.index o) (sym past)
