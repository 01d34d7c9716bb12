use Rattle.std.proofs.Common.{◌∙◌, List, filter, ap, sym, arith}
use Rattle.std.proofs.lemmas.List.{take_all}
use Rattle.mx_why.specs.declared.notes.Note.{Note}
use Rattle.mx_why.specs.Busy.{computes_since, is_start_of}
use Rattle.mx_why.specs.Notes.{last_number}
use Rattle.mx_why.proofs.Lasts.{last_kept, last_passed}
use Rattle.mx_why.proofs.busy.computes_since.Goals as goal
use Rattle.mx_why.proofs.busy.computes_since.Goals.{then-is_start_of, else-is_start_of}

pub loop-note-preserved : goal.loop-note-preserved
loop-note-preserved c =
    let P = is_start_of c.args.slot in
    let here = c.note-item.is in
    let tested = ap (λ (n : Note). P n) (sym here) ∙ sym c.is_start_of.ensures in
    elim c.if-is_start_of.branch [
      | then-is_start_of w ↦ w.number-is ∙ ap (λ (n : Note). n.number) here ∙ last_kept P c.args.notes.now c.loop-note.note-index c.note-item.result c.loop-note-test.true (tested ∙ w.if-is_start_of.true)
      | else-is_start_of w ↦ w.number-is ∙ last_passed P c.args.notes.now c.loop-note.note-index c.loop-note.number c.note-item.result c.loop-note-test.true (tested ∙ w.if-is_start_of.false) c.loop-note.invariant
    ]

pub returns : goal.returns
unfolding computes_since
returns c =
    c.loop-note.invariant ∙ ap (λ (ns : List Note). last_number (filter (is_start_of c.args.slot) ns)) (take_all c.loop-note.note-index c.args.notes.now (omega arith))
