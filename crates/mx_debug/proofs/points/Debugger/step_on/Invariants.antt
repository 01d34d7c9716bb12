use Rattle.std.proofs.Common.{◌≡◌}
use Rattle.mx_debug.proofs.Halting.{Stepped}
use Rattle.mx_debug.proofs.points.Debugger.step_on.Given as goal

abbrev pub invariant-loop-count : goal.invariant-loop-count
invariant-loop-count g l = record {
  stepped : Stepped l.self l.slot l.count (g.H.Held.out l.fn.held) (g.H.Held.out l.held);
  loan : g.H.Held.loan l.held ≡ g.H.Held.loan l.fn.held;
}
