use Rattle.std.proofs.Common.{◌≡◌, drop, filter}
use Rattle.mx_app_look.specs.declared.watches.Watch.{Watch}
use Rattle.mx_app_gdb.specs.Points.{watches_set}
use Rattle.mx_app_gdb.specs.Threads.{counts}
use Rattle.mx_app_gdb.proofs.points.set_counted_watches.Given as goal

-- those that are left are set on what is set
abbrev pub invariant-loop-watch : goal.invariant-loop-watch
invariant-loop-watch l = record {
  watches : watches_set l.some.watches (filter (λ (x : Watch). counts l.counted x.slot) (drop l.watch-index l.points.watches))
      ≡ watches_set l.initial.some.watches (filter (λ (x : Watch). counts l.counted x.slot) l.points.watches);
  breakpoints : l.some.breakpoints ≡ l.initial.some.breakpoints;
}
