use Rattle.std.proofs.Common.{◌∙◌, ◌+◌, ◌++◌, [], List, ℕ, ap, refl, subst, sym, take}
use Rattle.std.proofs.KnownBytes.{Appends-nil}
use Rattle.std.proofs.lemmas.List.{append-nil}
use Rattle.std.specs.Io.KnownBytes.{Appends}
use Rattle.std.specs.Prelude.{string_bytes}
use Rattle.mx_app_start.specs.Failure.{PrintsFront}
use Rattle.mx_app_step.specs.Driving.{driven, lines_text, number_text}
use Rattle.mx_app_step.specs.Pieces.{IsPrintedBut}
use Rattle.mx_app_step.proofs.DrivingLemmas.{next_done, next_text}
use Rattle.mx_app_step.proofs.FrontLemmas.{err_always, front_of_lines, front_of_piece, some_lines}
use Rattle.mx_app_step.proofs.PieceLemmas.{next_printed}
use Rattle.mx_app_step.proofs.driving_lines.perform_lines.Goals as goal

pub loop-line-init : goal.loop-line-init
loop-line-init g c = record {
  done = refl;
  printed = ([], Appends-nil _, append-nil (string_bytes c.args.text.now));
  number = refl;
  actors = refl;
}

pub loop-line-preserved : goal.loop-line-preserved
loop-line-preserved g c =
    let inv = c.loop-line.invariant in
    let other = c.args.lines.now.other in
    let does = g.P.Performs.does other in
    let prints = g.P.Performs.prints other in
    let numbered = c.args.lines.now.numbered in
    let lines = c.args.lines.now.lines.now in
    let x = g.W.Write.contents c.args.out.now in
    let y = g.W.Write.contents c.loop-line.out in
    let z = g.W.Write.contents c.print_piece.new.out in
    let first = driven c.args.machine.now c.args.performer.now in
    let d = driven c.loop-line.machine c.loop-line.performer in
    let so_far = string_bytes c.args.text.now ++ lines_text does prints numbered 1 first (take c.loop-line.line-index lines) in
    let end = string_bytes c.loop-line.text in
    let n = c.loop-line.number + 1 in
    let answer = number_text numbered n ++ prints d c.line-item.result in
    record {
      done = next_done does first d (driven c.push_answer.new.machine c.push_answer.new.performer) lines c.loop-line.line-index c.line-item.result c.loop-line-test.true c.line-item.is inv.done c.in-Ok.ensures.done;
      printed = next_printed x y z end (string_bytes c.print_piece.new.text) so_far answer _ inv.printed
          (subst (λ (t : List ℕ). IsPrintedBut y z (string_bytes c.print_piece.new.text) t) c.in-Ok.ensures.text c.in_ok-print_piece-in-Ok.ensures.printed)
          (sym (next_text does prints numbered first d lines c.loop-line.line-index n c.line-item.result (string_bytes c.args.text.now) so_far (so_far ++ answer) (ap (λ k. k + 1) inv.number) c.loop-line-test.true c.line-item.is inv.done refl refl));
      number = ap (λ k. k + 1) inv.number;
      actors = c.push_answer.ensures.actors ∙ inv.actors;
    }

pub returns-in_err-print_piece-in-Ok-clause-front : goal.returns-in_err-print_piece-in-Ok-clause-front
returns-in_err-print_piece-in-Ok-clause-front g c =
    let inv = c.loop-line.invariant in
    let other = c.args.lines.now.other in
    let does = g.P.Performs.does other in
    let prints = g.P.Performs.prints other in
    let numbered = c.args.lines.now.numbered in
    let lines = c.args.lines.now.lines.now in
    let x = g.W.Write.contents c.args.out.now in
    let y = g.W.Write.contents c.loop-line.out in
    let z = g.W.Write.contents c.print_piece.new.out in
    let first = driven c.args.machine.now c.args.performer.now in
    let d = driven c.loop-line.machine c.loop-line.performer in
    let before = string_bytes c.args.text.now in
    let so_far = before ++ lines_text does prints numbered 1 first (take c.loop-line.line-index lines) in
    let end = string_bytes c.loop-line.text in
    let n = c.loop-line.number + 1 in
    let answer = number_text numbered n ++ prints d c.line-item.result in
    let piece = subst (λ (t : List ℕ). PrintsFront (λ s. Appends y z s) t) c.in-Ok.ensures.text c.in_err-print_piece-in-Ok.ensures.front in
    let one_more = next_text does prints numbered first d lines c.loop-line.line-index n c.line-item.result before so_far (so_far ++ answer) (ap (λ k. k + 1) inv.number) c.loop-line-test.true c.line-item.is inv.done refl refl in
    err_always c.from_residual.result _
    (front_of_lines does prints numbered 1 first lines (c.loop-line.line-index + 1) before (λ t. Appends x z t)
    (subst (λ (t : List ℕ). PrintsFront (λ s. Appends x z s) t) one_more (front_of_piece x y z end so_far answer inv.printed piece)))

pub returns-in-Err-clause-some : goal.returns-in-Err-clause-some
returns-in-Err-clause-some g c =
    let inv = c.loop-line.invariant in
    let other = c.args.lines.now.other in
    let does = g.P.Performs.does other in
    let prints = g.P.Performs.prints other in
    let numbered = c.args.lines.now.numbered in
    let lines = c.args.lines.now.lines.now in
    let x = g.W.Write.contents c.args.out.now in
    let y = g.W.Write.contents c.loop-line.out in
    let first = driven c.args.machine.now c.args.performer.now in
    let before = string_bytes c.args.text.now in
    let so_far = before ++ lines_text does prints numbered 1 first (take c.loop-line.line-index lines) in
    some_lines does prints numbered 1 first lines c.loop-line.line-index before (λ t. IsPrintedBut x y (string_bytes c.push_answer.new.text) t)
    (subst (λ (e : List ℕ). IsPrintedBut x y e so_far) (sym c.in-Err.ensures.same) inv.printed)
