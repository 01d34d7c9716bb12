use Rattle.std.proofs.Common.{◌≡◌, ◌++◌, take}
use Rattle.std.specs.Prelude.{string_bytes}
use Rattle.mx_app_start.specs.Machine.{world_of}
use Rattle.mx_machine.specs.World.{actors}
use Rattle.mx_app_step.specs.Driving.{driven, lines_done, lines_text}
use Rattle.mx_app_step.specs.Pieces.{IsPrintedBut}
use Rattle.mx_app_step.proofs.driving_lines.perform_lines.Given as goal

-- the lines so far are done, and the answer to each is printed or is in the text
abbrev pub invariant-loop-line : goal.invariant-loop-line
invariant-loop-line g l =
    let does = g.P.Performs.does l.lines.other in
    let prints = g.P.Performs.prints l.lines.other in
    let first = driven l.initial.machine l.initial.performer in
    record {
      done : lines_done does first (take l.line-index l.lines.lines.now) ≡ driven l.machine l.performer;
      printed : IsPrintedBut (g.W.Write.contents l.initial.out) (g.W.Write.contents l.out) (string_bytes l.text)
          (string_bytes l.initial.text ++ lines_text does prints l.lines.numbered 1 first (take l.line-index l.lines.lines.now));
      number : l.number ≡ l.line-index;
      actors : actors (world_of l.machine) ≡ actors (world_of l.initial.machine);
    }
