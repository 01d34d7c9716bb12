use Rattle.std.proofs.Common.{ap, get_or, take, ◌+◌}
use Rattle.mx_machine.specs.History.{events_of_history}
use Rattle.mx_app_start.specs.Machine.{world_of}
use Rattle.mx_walk.proofs.Along.{any_record}
use Rattle.mx_app_step.proofs.RecordLemmas.{all_kept, all_made, is_actor_still, next_accepted, next_kept, next_world, record_refused, refused_at}
use Rattle.mx_app_step.proofs.records.perform_records.Goals as goal

pub finish_record-requires-clause-actor : goal.finish_record-requires-clause-actor
finish_record-requires-clause-actor c =
    is_actor_still (world_of c.args.machine.now) (world_of c.loop-entry.machine) (events_of_history (take c.loop-entry.entry-index c.args.records.now)) c.args.records.now c.loop-entry.entry-index _
    c.loop-entry.invariant.world c.requires c.loop-entry-test.true

pub returns-in-Err-clause-err : goal.returns-in-Err-clause-err
returns-in-Err-clause-err c =
    let inv = c.loop-entry.invariant in
    let v = world_of c.loop-entry.machine in
    let x = get_or c.args.records.now c.loop-entry.entry-index any_record in
    let h = c.in-Err.halted in
    let e = c.in-Err.ensures.err in
    refused_at (world_of c.args.machine.now) v c.args.records.now c.loop-entry.entry-index _ c.loop-entry-test.true inv.accepted inv.world c.loop-entry.number h.refusal inv.number
    (record_refused v (world_of c.finish_record.new.machine) x h.refusal h.made e.1 e.2 e.3)

pub loop-entry-preserved : goal.loop-entry-preserved
loop-entry-preserved c =
    let inv = c.loop-entry.invariant in
    let w = world_of c.args.machine.now in
    let v = world_of c.loop-entry.machine in
    let u = world_of c.finish_record.new.machine in
    let x = get_or c.args.records.now c.loop-entry.entry-index any_record in
    let done = all_made v u x c.in_default.ensures.ok in
    record {
      accepted = next_accepted w v c.args.records.now c.loop-entry.entry-index _ c.loop-entry-test.true inv.accepted inv.world done.accepted;
      world = next_world w v c.args.records.now c.loop-entry.entry-index _ c.loop-entry-test.true inv.accepted inv.world u done.world;
      number = ap (λ n. n + 1) inv.number;
      kept = next_kept w v c.args.records.now c.loop-entry.entry-index _ c.loop-entry-test.true inv.accepted inv.world c.args.machine.now.kernel c.loop-entry.machine.kernel c.finish_record.new.machine.kernel inv.kept
          (all_kept c.loop-entry.machine.kernel c.finish_record.new.machine.kernel v x c.in_default.ensures.kept);
    }
