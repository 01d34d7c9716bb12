use Rattle.std.proofs.Common.{◌≡◌, ◌++◌, ◌-◌}
use Rattle.mx_turns.specs.Ahead.{IsAhead, boot_of}
use Rattle.mx_app_turns.specs.Blocks.{positions_of}
use Rattle.mx_app_turns.specs.Begun.{sweep_of}
use Rattle.mx_app_turns.specs.Sweeping.{run_at}
use Rattle.mx_walk.specs.Parts.{parts_shown}
use Rattle.mx_app_turns.proofs.BlockLemmas.{SweptSoFar}
use Rattle.mx_app_turns.proofs.sweeping.print_more.Given as goal

-- the positions so far are swept, and the blocks before the current one are printed
abbrev pub invariant-loop-position : goal.invariant-loop-position
invariant-loop-position g l = record {
  swept : (let s = sweep_of l.sweep (boot_of l.fn.ahead) in
      SweptSoFar s l.sweep.range.from l.sweep.range.end l.position (g.W.Write.contents l.initial.out) (g.W.Write.contents l.out) (positions_of l.tally.block) l.tally.total (run_at s (l.position - 1)).kernel);
  ahead : IsAhead l.sweep l.ahead;
  there : l.ahead.position ≡ l.position;
  boot : boot_of l.ahead ≡ boot_of l.fn.ahead;
  shown : g.P.Progress.shown l.progress ≡ g.P.Progress.shown l.fn.progress ++ parts_shown (l.sweep.range.end - l.sweep.range.from) (l.position - l.sweep.range.from);
}
