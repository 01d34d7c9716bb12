use Rattle.std.proofs.Common.{◌∙◌, List, ap, refl, subst, sym}
use Rattle.std.proofs.lemmas.Option.{slice_get_read}
use Rattle.mx_machine.specs.History.{BootAndHistory}
use Rattle.mx_machine.specs.Machine.{MachineState}
use Rattle.mx_explore.specs.Exploring.{setting}
use Rattle.mx_explore.specs.Passages.{IsRun}
use Rattle.mx_explore.specs.declared.passing.Departure.{Departure}
use Rattle.mx_explore.proofs.CountLemmas.{boots}
use Rattle.mx_explore.proofs.exploring.Explored.run_first.Goals as goal

pub machine-requires-clause-records : goal.machine-requires-clause-records
machine-requires-clause-records c = c.new-2.ensures.items ∙ sym (ap (λ (k : BootAndHistory). k.history) c.requires.boot.kernel)

pub run_passing-requires-clause-kernel : goal.run_passing-requires-clause-kernel
run_passing-requires-clause-kernel c = (boots c.args.self.now.boot c.in_ok-machine.machine _ c.in_ok-machine.ensures c.requires.boot).0

pub run_passing-requires-clause-room : goal.run_passing-requires-clause-room
run_passing-requires-clause-room c = (boots c.args.self.now.boot c.in_ok-machine.machine _ c.in_ok-machine.ensures c.requires.boot).1

pub returns-clause-ran : goal.returns-clause-ran
returns-clause-ran c =
    let o = c.index.result.now in
    let len = c.args.self.now.tally.outcomes.ok.0 in (
      o,
      slice_get_read c.args.self.now.tally.outcomes.items _ c.args.place o refl c.requires.there c.index.ensures,
      subst (λ (m : MachineState). IsRun (setting c.args.terms m) o.departures.items c.in_ok-ran.ran) c.in_ok-machine.ensures
          (subst (λ (ds : List Departure). IsRun (setting c.args.terms c.in_ok-machine.machine) ds c.in_ok-ran.ran) c.as_slice-departures.ensures.value c.in_ok-ran.ensures),
    )
