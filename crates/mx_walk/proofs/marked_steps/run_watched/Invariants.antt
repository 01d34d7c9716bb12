use Rattle.std.proofs.Common.{◌≡◌, ◌≤◌, ◌-◌, length}
use Rattle.mx_walk.specs.Quiet.{AreQuiet}
use Rattle.mx_walk.proofs.Ran.{HasGone}
use Rattle.mx_walk.proofs.marked_steps.run_watched.Given as goal

-- no step so far is marked, and the mark has looked at the process
abbrev pub invariant-loop-made : goal.invariant-loop-made
invariant-loop-made g l = record {
  gone : HasGone (g.M.Mark.marks_step l.initial.mark) (record { slot = l.slot; out = l.initial.out }) l.made l.out;
  few : l.made ≤ l.steps;
  seen : g.M.Mark.HasSeenHeld l.mark (record { slot = l.slot; out = l.out });
  same : g.M.Mark.marks l.mark ≡ g.M.Mark.marks l.initial.mark;
  steps : g.M.Mark.marks_step l.mark ≡ g.M.Mark.marks_step l.initial.mark;
  quiet : AreQuiet l.out.image.code l.places;
  some : length l.places ≡ 64;
}

abbrev pub decreases-loop-made : goal.decreases-loop-made
decreases-loop-made g l = l.steps - l.made
