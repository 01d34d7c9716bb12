use Rattle.std.proofs.Common.{◌∙◌, List, filter, ap, sym, arith}
use Rattle.std.proofs.lemmas.List.{take_all}
use Rattle.mx_why.specs.declared.notes.Note.{Note}
use Rattle.mx_why.specs.Deaths.{is_alike}
use Rattle.mx_why.specs.Notes.{last_number}
use Rattle.mx_why.proofs.Lasts.{last_kept, last_passed}
use Rattle.mx_why.proofs.deaths.last_alike.Goals as goal
use Rattle.mx_why.proofs.deaths.last_alike.Goals.{then-is_alike, else-is_alike}

pub loop-other-preserved : goal.loop-other-preserved
loop-other-preserved c =
    let P = is_alike c.args.note.now in
    let here = c.other-item.is in
    let tested = ap (λ (n : Note). P n) (sym here) ∙ sym c.is_alike.ensures in
    elim c.if-is_alike.branch [
      | then-is_alike w ↦ w.number-is ∙ ap (λ (n : Note). n.number) here ∙ last_kept P c.args.notes.now c.loop-other.other-index c.other-item.result c.loop-other-test.true (tested ∙ w.if-is_alike.true)
      | else-is_alike w ↦ w.number-is ∙ last_passed P c.args.notes.now c.loop-other.other-index c.loop-other.number c.other-item.result c.loop-other-test.true (tested ∙ w.if-is_alike.false) c.loop-other.invariant
    ]

pub returns : goal.returns
returns c =
    c.loop-other.invariant ∙ ap (λ (ns : List Note). last_number (filter (is_alike c.args.note.now) ns)) (take_all c.loop-other.other-index c.args.notes.now (omega arith))
