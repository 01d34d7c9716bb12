use Rattle.std.proofs.Common.{◌≡◌, ◌+◌, ◌-◌, ◌*◌, ◌++◌, List}
use Rattle.mx_walk.specs.declared.progress.Part.{Part as Parts}
use Rattle.mx_explore.specs.Exploring.{ShowsCounts}
use Rattle.mx_explore.proofs.CountLemmas.{HasDeparted, HasTried}
use Rattle.mx_explore.proofs.exploring.Explorer.+schedules.Given as goal

-- how many departures are left; an offer's schedules come before theirs
abbrev pub decreases-explore : goal.decreases-explore
decreases-explore g l = 2 * l.left

abbrev pub decreases-depart : goal.decreases-depart
decreases-depart g l = 2 * l.left + 1

-- the offers so far are tried
abbrev pub invariant-explore-loop-at : goal.invariant-explore-loop-at
invariant-explore-loop-at g l = record {
  tried : HasTried (l.left - 1) (l.at - l.after) l.fn.self l.self;
  services : l.services.items ≡ l.fn.services.items;
  shown : (ps : List Parts) × (g.P.Progress.shown l.progress ≡ g.P.Progress.shown l.fn.progress ++ ps) × ShowsCounts l.fn.self.tally.schedules ps l.self.tally.schedules;
}

-- the waits so far are tried
abbrev pub invariant-depart-loop-waited : goal.invariant-depart-loop-waited
invariant-depart-loop-waited g l = record {
  departed : HasDeparted l.left l.at l.waited l.fn.self l.self;
  services : l.services.items ≡ l.fn.services.items;
  shown : (ps : List Parts) × (g.P.Progress.shown l.progress ≡ g.P.Progress.shown l.fn.progress ++ ps) × ShowsCounts l.fn.self.tally.schedules ps l.self.tally.schedules;
}
