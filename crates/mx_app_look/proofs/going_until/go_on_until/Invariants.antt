use Rattle.std.proofs.Common.{◌≡◌, ◌++◌, length}
use Rattle.mx_app_look.specs.Until.{met}
use Rattle.mx_walk.specs.Parts.{parts_between}
use Rattle.mx_app_look.proofs.Meeting.{met_from}
use Rattle.mx_app_look.proofs.ShownMore.{On}
use Rattle.mx_app_look.proofs.going_until.go_on_until.Given as goal

-- it happened in none of the records so far, each of which was shown
abbrev pub invariant-loop-earlier : goal.invariant-loop-earlier
invariant-loop-earlier g l = record {
  walker : l.walker ≡ record l.initial.walker { here = l.walker.here };
  none : met_from l.initial.walker l.happening l.earlier ≡ met l.initial.walker l.happening;
  nothing : l.out.items ≡ l.initial.out.items;
  on : On l.initial.walker l.walker l.earlier;
  shown : g.P.Progress.shown l.progress ≡ g.P.Progress.shown l.initial.progress ++ parts_between (length l.initial.walker.records) l.initial.walker.here.records l.earlier;
}
