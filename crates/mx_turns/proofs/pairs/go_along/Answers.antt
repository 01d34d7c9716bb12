use Rattle.mx_app_step.proofs.AcceptedLemmas.{not_refused}
use Rattle.mx_app_step.specs.Machine.{world_of}
use Rattle.mx_turns.proofs.AlongLemmas.{accepted_between, actors_between, along_on, between, same_boot_on}
use Rattle.mx_turns.proofs.pairs.go_along.Goals as goal

pub perform_records-requires : goal.perform_records-requires
perform_records-requires c =
    actors_between c.args.sweep.records.now c.args.from c.args.to c.requires.later c.args.machine.now c.requires.along c.requires.swept.by_actors

pub unreachable-requires : goal.unreachable-requires
unreachable-requires c =
    let records = c.args.sweep.records.now in
    let from = c.args.from in
    let to = c.args.to in
    not_refused (world_of c.args.machine.now) (between records from to c.requires.later c.args.machine.now c.requires.along) c.in-Err.field-0.0 c.in-Err.field-0.1
    (accepted_between records from to c.requires.later c.args.machine.now c.requires.along c.requires.swept.accepted) c.in-Err.ensures.err

pub returns : goal.returns
returns c =
    let records = c.args.sweep.records.now in
    let m = c.args.machine.now in
    let n = c.perform_records.new.machine in
    record {
      along = along_on records c.args.from c.args.to c.requires.later m c.requires.along n c.in_default.ensures.kept c.requires.swept.accepted c.in_default.ensures.ok.1;
      boot = same_boot_on records c.args.from c.args.to c.requires.later m c.requires.along n c.in_default.ensures.kept;
    }
