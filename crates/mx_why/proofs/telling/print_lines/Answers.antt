use Rattle.std.proofs.Common.{◌≡◌, ◌∙◌, List, ℕ, ◌++◌, ap, length, subst}
use Rattle.std.specs.Io.KnownBytes.{Appends}
use Rattle.mx_app_start.specs.Failure.{PrintsFront}
use Rattle.mx_app_start.specs.Machine.{world_of}
use Rattle.mx_app_step.proofs.FrontLemmas.{err_always}
use Rattle.mx_why.specs.declared.outside.LostLine.{LostLine}
use Rattle.mx_why.specs.declared.seats.End.{End}
use Rattle.mx_why.specs.Outside.{lost_lines}
use Rattle.mx_why.specs.Seeing.{end_of}
use Rattle.mx_why.specs.Telling.{lines_text, told_text}
use Rattle.mx_why.proofs.telling.print_lines.Goals as goal

pub returns-in_err-print_text-clause-front : goal.returns-in_err-print_text-clause-front
returns-in_err-print_text-clause-front g c =
    let lines : List LostLine → List ℕ = λ os. lines_text c.args.config.now c.end_of-end.result c.args.notes.now c.args.calls.now os (length c.args.records.now) in
    let told : End → List ℕ = λ e. told_text c.args.config.now e c.args.notes.now c.args.calls.now c.args.records.now c.args.said.now in
    let text : c.as_slice.result.now ≡ told (end_of (world_of c.args.machine.now)) =
    c.as_slice.ensures.value ∙ c.in_ok-push_lines.ensures ∙ ap (λ (t : List ℕ). t ++ lines c.as_slice-lost.result.now) c.new-text.ensures.items
    ∙ ap lines (c.as_slice-lost.ensures.value ∙ c.in_ok-found.ensures) ∙ ap told c.end_of-end.ensures in
    err_always c.from_residual-in_err-print_text.result _
    (subst (λ (t : List ℕ). PrintsFront (λ s. Appends (g.W.Write.contents c.args.out.now) (g.W.Write.contents c.print_text.new.out) s) t) text c.in_err-print_text.ensures.front)
