use Rattle.std.proofs.Common.{◌≡◌, ◌<◌, ◌≤◌, ◌-◌, ◌++◌, length}
use Rattle.mx_machine.specs.World.{actors}
use Rattle.mx_machine.specs.Machine.{world_of}
use Rattle.mx_turns.specs.Made.{outside_events}
use Rattle.mx_turns.specs.Shown.{turns_shown}
use Rattle.mx_turns.proofs.TurnLemmas.{StandsAfter}
use Rattle.mx_app_turns.proofs.turning.make_turns_watched.Given as goal

abbrev pub decreases-loop-made : goal.decreases-loop-made
decreases-loop-made g l = l.bound - l.made

-- the machine is after the turns made, each of which was shown, and goes on with those that are left
abbrev pub invariant-loop-made : goal.invariant-loop-made
invariant-loop-made g l = record {
  within : l.made ≤ l.bound;
  stands : StandsAfter l.initial.machine (outside_events l.outside) l.made l.machine;
  other : length (world_of l.machine).cpus < actors (world_of l.machine);
  shown : g.P.Progress.shown l.progress ≡ g.P.Progress.shown l.initial.progress ++ turns_shown l.log l.made (world_of l.initial.machine) (outside_events l.outside);
}
