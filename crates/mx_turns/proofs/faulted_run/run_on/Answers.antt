use Rattle.std.proofs.Common.{◌<◌, length, subst, sym}
use Rattle.std.proofs.lemmas.List.{append-nil}
use Rattle.mx_app_step.specs.Machine.{world_of}
use Rattle.mx_machine.specs.World.{actors}
use Rattle.mx_turns.proofs.RunLemmas.{run_done}
use Rattle.mx_turns.proofs.faulted_run.run_on.Goals as goal

pub make_turns-ending-requires : goal.make_turns-ending-requires
make_turns-ending-requires c =
    subst (λ n. n < actors (world_of c.perform_fault.new.machine)) (sym c.perform_fault.ensures.cpus)
    (subst (λ n. length (world_of c.args.machine.now).cpus < n) (sym c.perform_fault.ensures.actors) c.requires.alone)

pub returns : goal.returns
returns c = record {
  run =
      run_done c.from-bound.result c.args.sweep.bound c.args.sweep.other c.args.events.now c.args.sweep.fault.now c.args.machine.now c.perform_fault.new.machine c.make_turns-ending.new.machine _
      (record { said = c.in_ok-said.said; ending = c.make_turns-ending.result }) c.from-bound.ensures (append-nil c.args.events.now)
      c.in_ok-said.ensures.said c.in_ok-said.ensures.world c.in_ok-said.ensures.kept c.make_turns-ending.ensures.made c.make_turns-ending.ensures.ending;
}
