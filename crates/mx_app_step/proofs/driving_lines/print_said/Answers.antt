use Rattle.std.proofs.Common.{◌++◌, ℕ, List, subst}
use Rattle.std.specs.Io.KnownBytes.{Appends}
use Rattle.std.specs.Prelude.{string_bytes}
use Rattle.mx_app_start.specs.Failure.{PrintsFront}
use Rattle.mx_app_step.specs.Driving.{driven, lines_text}
use Rattle.mx_app_step.proofs.FrontLemmas.{err_always, err_case, front_all, ok_case, said_begun, said_front}
use Rattle.mx_app_step.proofs.PieceLemmas.{said_printed}
use Rattle.mx_app_step.proofs.driving_lines.print_said.Goals as goal

pub returns-in_err-made-clause-front : goal.returns-in_err-made-clause-front
returns-in_err-made-clause-front g c =
    let other = c.args.lines.now.other in
    let said = lines_text (g.P.Performs.does other) (g.P.Performs.prints other) c.args.lines.now.numbered 1 (driven c.args.machine.now c.args.performer.now) c.args.lines.now.lines.now in
    err_always c.from_residual.result _
    (subst (λ (none : List ℕ). PrintsFront (λ t. Appends (g.W.Write.contents c.args.out.now) (g.W.Write.contents c.perform_lines.new.out) t) (none ++ said)) c.new-text.ensures.bytes c.in_err-made.ensures.front)

pub returns-in_err-print_text-clause-front : goal.returns-in_err-print_text-clause-front
returns-in_err-print_text-clause-front g c =
    let other = c.args.lines.now.other in
    let said = lines_text (g.P.Performs.does other) (g.P.Performs.prints other) c.args.lines.now.numbered 1 (driven c.args.machine.now c.args.performer.now) c.args.lines.now.lines.now in
    err_always c.from_residual-in_err-print_text.result _
    (said_begun (g.W.Write.contents c.args.out.now) (g.W.Write.contents c.perform_lines.new.out) (g.W.Write.contents c.print_text.new.out) (string_bytes c.new-text.result) (string_bytes c.perform_lines.new.text) said c.as_bytes.result.now
    c.in_ok-made.made c.new-text.ensures.bytes c.in_ok-made.ensures.printed c.in_ok-made.ensures.some c.as_bytes.ensures.value c.in_err-print_text.ensures.front)

pub returns-in-Ok-clause-printed : goal.returns-in-Ok-clause-printed
returns-in-Ok-clause-printed g c =
    let other = c.args.lines.now.other in
    said_printed (g.W.Write.contents c.args.out.now) (g.W.Write.contents c.perform_lines.new.out) (g.W.Write.contents c.print_text.new.out) (string_bytes c.new-text.result) (string_bytes c.perform_lines.new.text)
    (lines_text (g.P.Performs.does other) (g.P.Performs.prints other) c.args.lines.now.numbered 1 (driven c.args.machine.now c.args.performer.now) c.args.lines.now.lines.now)
    c.as_bytes.result.now (ok_case c.in_ok-made.made _ _ c.in-Ok.is c.in_ok-made.ensures.printed) c.new-text.ensures.bytes c.in_ok-print_text.ensures.bytes c.as_bytes.ensures.value

pub returns-in-Ok-clause-done : goal.returns-in-Ok-clause-done
returns-in-Ok-clause-done g c = ok_case c.in_ok-made.made _ _ c.in-Ok.is c.in_ok-made.ensures.done

pub returns-clause-front : goal.returns-clause-front
returns-clause-front g c =
    let other = c.args.lines.now.other in
    let said = lines_text (g.P.Performs.does other) (g.P.Performs.prints other) c.args.lines.now.numbered 1 (driven c.args.machine.now c.args.performer.now) c.args.lines.now.lines.now in
    said_front (g.W.Write.contents c.args.out.now) (g.W.Write.contents c.perform_lines.new.out) (g.W.Write.contents c.print_text.new.out) (string_bytes c.new-text.result) (string_bytes c.perform_lines.new.text) said c.as_bytes.result.now
    c.new-text.ensures.bytes (err_case c.in_ok-made.made _ _ c.in-Err.is c.in_ok-made.ensures.some) c.as_bytes.ensures.value (front_all _ _ c.in_ok-print_text.ensures.bytes)
