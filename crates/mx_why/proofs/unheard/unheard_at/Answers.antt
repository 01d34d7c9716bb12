use Rattle.std.proofs.Common.{◌∙◌, ℕ, Option, ap, sym}
use Rattle.mx_why.specs.Unheard.{unheard_at, unheard_by, unheard_from}
use Rattle.mx_why.proofs.unheard.unheard_at.Goals as goal

pub returns-in-Some : goal.returns-in-Some
unfolding unheard_at
returns-in-Some c =
    c.unheard_from.ensures ∙ ap (λ (k : ℕ). unheard_from c.args.end.now c.args.notes.now c.in-Some.other k) c.since.ensures
    ∙ ap (λ (o : Option ℕ). unheard_by c.args.end.now c.args.notes.now c.args.slot o) (sym c.in-Some.is ∙ c.receiver.ensures)
