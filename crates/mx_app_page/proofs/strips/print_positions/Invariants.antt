use Rattle.std.proofs.Common.{◌≡◌, ◌++◌, ◌-◌}
use Rattle.mx_turns.specs.Ahead.{IsAhead, boot_of}
use Rattle.mx_walk.specs.Parts.{parts_shown}
use Rattle.mx_app_turns.specs.Begun.{sweep_of}
use Rattle.mx_app_page.proofs.StripLemmas.{PrintedSoFar}
use Rattle.mx_app_page.proofs.strips.print_positions.Given as goal

-- the positions so far are printed, shown and counted, and this is what the last one of them tells
abbrev pub invariant-loop-position : goal.invariant-loop-position
invariant-loop-position g l = record {
  so_far : PrintedSoFar (sweep_of l.sweep (boot_of l.fn.ahead)) l.sweep.range.from l.sweep.range.end l.position (g.W.Write.contents l.fn.out) (g.W.Write.contents l.out)
      l.before.text.items l.before.findings.is_alike l.total;
  ahead : IsAhead l.sweep l.ahead;
  there : l.ahead.position ≡ l.position;
  boot : boot_of l.ahead ≡ boot_of l.fn.ahead;
  shown : g.P.Progress.shown l.progress ≡ g.P.Progress.shown l.fn.progress ++ parts_shown (l.sweep.range.end - l.sweep.range.from) (l.position - l.sweep.range.from);
}
