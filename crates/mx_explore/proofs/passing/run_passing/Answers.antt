use Rattle.std.proofs.Common.{false, refl, true}
use Rattle.mx_machine.specs.Machine.{world_of}
use Rattle.mx_turns.specs.Made.{outside_events}
use Rattle.mx_explore.specs.Passages.{passage, standing}
use Rattle.mx_explore.specs.Passing.{Setting, Standing}
use Rattle.mx_explore.proofs.RunLemmas.{ran_by, starts_so}
use Rattle.mx_explore.proofs.passing.run_passing.Goals as goal

pub returns : goal.returns
returns c =
    let coming = outside_events c.args.outside in
    let t : Setting = record { turns = c.args.bound; boot = world_of c.args.machine; coming = coming } in
    let s : Standing = record { ahead = c.args.departures.now; waits = 0; met = c.new.result.items; after = 0; kept = true } in
    let ran = c.in_ok-ending.ensures in
    ran_by t c.args.departures.now _ ran.0 (standing c.pass_turns.new.schedule) ran.1 (passage c.args.machine coming s false)
    (starts_so c.args.bound coming c.args.departures.now c.args.machine c.new.result.items c.requires.kernel c.new.ensures.items) ran.2 refl refl
