use Rattle.std.proofs.Common.{◌+◌, arith, refl, take}
use Rattle.mx_machine.specs.History.{events_of_history}
use Rattle.mx_app_start.specs.Machine.{world_of}
use Rattle.mx_app_step.proofs.RecordLemmas.{is_actor_still, next_accepted, next_world, refused_at}
use Rattle.mx_why.proofs.NoteLemmas.{next_noted, next_failed, all_noted}
use Rattle.mx_why.proofs.telling.note_records.Goals as goal

pub look_record-requires : goal.look_record-requires
look_record-requires c =
    is_actor_still (world_of c.args.machine.now) (world_of c.loop-index.machine) (events_of_history (take c.loop-index.index c.args.records.now)) c.args.records.now c.loop-index.index _
    c.loop-index.invariant.world c.requires.actors c.loop-index-test.true

pub returns-in-Err-clause-noted : goal.returns-in-Err-clause-noted
returns-in-Err-clause-noted c =
    let inv = c.loop-index.invariant in
    let w = world_of c.args.machine.now in
    let i = c.loop-index.index in
    refused_at w (world_of c.loop-index.machine) c.args.records.now i _ c.loop-index-test.true inv.accepted inv.world (i + 1) c.in-Err.refusal refl c.in-Err.ensures.err

pub loop-index-preserved : goal.loop-index-preserved
loop-index-preserved c =
    let inv = c.loop-index.invariant in
    let w = world_of c.args.machine.now in
    let v = world_of c.loop-index.machine in
    let i = c.loop-index.index in
    let done = c.in-Ok.ensures.ok in
    record {
      accepted = next_accepted w v c.args.records.now i _ c.loop-index-test.true inv.accepted inv.world done.0;
      world = next_world w v c.args.records.now i _ c.loop-index-test.true inv.accepted inv.world (world_of c.look_record.new.machine) done.1;
      noted = next_noted w v c.args.records.now i (i + 1) _ c.look_record.new.transition c.loop-index.notes.items c.push_notes.new.notes.items
          c.loop-index-test.true refl inv.world c.in-Ok.ensures.transition inv.noted c.in_ok-push_notes-in-Ok.ensures;
      failed = next_failed w v (world_of c.look_record.new.machine) c.args.records.now i (i + 1) _ c.look_record.new.transition c.loop-index.calls.items c.follow.new.calls.items c.count_all.new.calls.items
          c.loop-index-test.true refl inv.world done.1 c.in-Ok.ensures.transition inv.failed c.in_ok-follow.ensures c.in_ok-count_all-in-Ok.ensures;
    }

pub returns-clause-noted : goal.returns-clause-noted
returns-clause-noted c =
    let inv = c.loop-index.invariant in
    all_noted (world_of c.args.machine.now) (world_of c.loop-index.machine) c.args.records.now c.loop-index.index c.loop-index.notes.items c.loop-index.calls.items (omega arith) inv.accepted inv.world inv.noted inv.failed
