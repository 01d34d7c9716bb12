use Rattle.std.proofs.Common.{◌≡◌, drop, filter}
use Rattle.mx_debug.specs.declared.points.Breakpoint.{Breakpoint}
use Rattle.mx_app_gdb.specs.Points.{breaks_set}
use Rattle.mx_app_gdb.specs.Threads.{counts}
use Rattle.mx_app_gdb.proofs.points.set_counted_breaks.Given as goal

-- those that are left are set on what is set
abbrev pub invariant-loop-point : goal.invariant-loop-point
invariant-loop-point l = record {
  breakpoints : breaks_set l.some.breakpoints (filter (λ (p : Breakpoint). counts l.counted p.slot) (drop l.point-index l.points.breakpoints))
      ≡ breaks_set l.initial.some.breakpoints (filter (λ (p : Breakpoint). counts l.counted p.slot) l.points.breakpoints);
  watches : l.some.watches ≡ l.initial.some.watches;
}
