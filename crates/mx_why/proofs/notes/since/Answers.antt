use Rattle.std.proofs.Common.{◌∙◌, List, filter, ap, sym, arith}
use Rattle.std.proofs.lemmas.List.{take_all}
use Rattle.mx_why.specs.declared.notes.Note.{Note}
use Rattle.mx_why.specs.Notes.{is_change_of, last_number, since}
use Rattle.mx_why.proofs.Lasts.{last_kept, last_passed}
use Rattle.mx_why.proofs.notes.since.Goals as goal
use Rattle.mx_why.proofs.notes.since.Goals.{then-is_change_of, else-is_change_of}

pub loop-note-preserved : goal.loop-note-preserved
loop-note-preserved c =
    let P = is_change_of c.args.slot in
    let here = c.note-item.is in
    let tested = ap (λ (n : Note). P n) (sym here) ∙ sym c.is_change_of.ensures in
    elim c.if-is_change_of.branch [
      | then-is_change_of w ↦ w.number-is ∙ ap (λ (n : Note). n.number) here ∙ last_kept P c.args.notes.now c.loop-note.note-index c.note-item.result c.loop-note-test.true (tested ∙ w.if-is_change_of.true)
      | else-is_change_of w ↦ w.number-is ∙ last_passed P c.args.notes.now c.loop-note.note-index c.loop-note.number c.note-item.result c.loop-note-test.true (tested ∙ w.if-is_change_of.false) c.loop-note.invariant
    ]

pub returns : goal.returns
unfolding since
returns c =
    c.loop-note.invariant ∙ ap (λ (ns : List Note). last_number (filter (is_change_of c.args.slot) ns)) (take_all c.loop-note.note-index c.args.notes.now (omega arith))
