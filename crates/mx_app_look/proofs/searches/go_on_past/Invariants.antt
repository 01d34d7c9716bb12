use Rattle.std.proofs.Common.{◌≡◌, ◌-◌, ◌++◌, length}
use Rattle.mx_walk.specs.Parts.{walk_between}
use Rattle.mx_walk.specs.Positions.{IsPosition, IsUpTo, events_before}
use Rattle.mx_walk.specs.Seeking.{is_marked}
use Rattle.mx_walk.specs.Walks.{world_here}
use Rattle.mx_app_look.specs.Marks.{changes_watched}
use Rattle.mx_app_look.proofs.Marked.{told_by}
use Rattle.mx_app_look.proofs.Since.{Come, told}
use Rattle.mx_app_look.proofs.searches.go_on_past.Given as goal

-- the walker is right after the first event, or right after one that it was told of; up to there nothing is looked for
abbrev pub invariant-loop-walker : goal.invariant-loop-walker
invariant-loop-walker g l = record {
  walker : l.walker ≡ record l.fn.walker { here = l.walker.here };
  position : IsPosition l.fn.walker.records l.walker.here;
  early : IsUpTo l.walker.here l.fn.walker.last;
  later : IsUpTo l.fn.walker.here l.walker.here;
  come : Come l.fn.walker l.points l.fn.next.position
      (is_marked (changes_watched l.points) (world_here l.fn.walker) (l.fn.next.actor, l.fn.next.event)) l.walker.here;
  told : told_by l.mark ≡ told l.fn.walker l.points l.fn.next.position;
  shown : g.P.Progress.shown l.progress ≡ g.P.Progress.shown l.fn.progress ++ walk_between l.fn.walker.records l.fn.walker.here l.walker.here;
}

abbrev pub decreases-loop-walker : goal.decreases-loop-walker
decreases-loop-walker g l = length (events_before l.fn.walker.records l.fn.walker.last) - length (events_before l.fn.walker.records l.walker.here)
