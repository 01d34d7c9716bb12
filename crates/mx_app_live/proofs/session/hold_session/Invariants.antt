use Rattle.std.proofs.Common.{◌≡◌, ◌<◌, length}
use Rattle.mx_machine.specs.Machine.{world_of}
use Rattle.mx_machine.specs.World.{actors}
use Rattle.mx_app_live.specs.Session.{seat_of}
use Rattle.mx_app_live.proofs.SessionLemmas.{SoFar}
use Rattle.mx_app_live.proofs.session.hold_session.Given as goal

-- so many rounds are made
abbrev pub invariant-loop : goal.invariant-loop
invariant-loop g l = record {
  so : SoFar l.has_clock (seat_of (world_of l.initial.machine) l.initial.session) l.initial.machine l.machine (seat_of (world_of l.machine) l.session) l.counter (g.O.Outside.heard l.initial.outside) (g.O.Outside.heard l.outside)
      (g.O.Outside.told l.initial.outside) (g.O.Outside.told l.outside) (g.W.Write.contents l.initial.screen) (g.W.Write.contents l.screen);
  other : length (world_of l.machine).cpus < actors (world_of l.machine);
  shown : l.session.shown ≡ (world_of l.machine).table.devices.console.count;
}
