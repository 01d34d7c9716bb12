use Rattle.std.proofs.Common.{◌≡◌, Bool, true, false, not, refl, subst}
use Rattle.mx_cpus.specs.Gates.{stops_call}
use Rattle.mx_cpus.proofs.side.FreeSide.ask_stop.Goals as goal

not-not : (b : Bool) → b ≡ not (not b)
not-not true = refl
not-not false = refl

pub returns-clause-called : goal.returns-clause-called
returns-clause-called g c =
    let stops = c.stops-stops in
    subst (λ (b : Bool). g.G.WatchingGate.was_called c.args.door.now.gate.now (stops_call c.args.self.actor b)) (not-not stops.result) stops.ensures
