use Rattle.std.proofs.Common.{◌+◌, ◌∙◌, ap, refl, sym, take}
use Rattle.mx_machine.specs.History.{events_of_history}
use Rattle.mx_app_step.specs.Machine.{world_of}
use Rattle.mx_app_step.specs.Glances.{glance_of}
use Rattle.mx_app_step.specs.Transition.{Transition}
use Rattle.mx_app_step.proofs.RecordLemmas.{is_actor_still, next_accepted, next_world, refused_at}
use Rattle.mx_app_draw.proofs.SeenLemmas.{all_seen, next_seen, refused_seen}
use Rattle.mx_app_draw.proofs.seeing.see_records.Goals as goal

pub look_record-requires : goal.look_record-requires
look_record-requires c =
    is_actor_still (world_of c.args.machine.now) (world_of c.loop-index.machine) (events_of_history (take c.loop-index.index c.args.records.now)) c.args.records.now c.loop-index.index _
    c.loop-index.invariant.reached c.requires.actors c.loop-index-test.true

pub returns-in-Err-clause-seen : goal.returns-in-Err-clause-seen
returns-in-Err-clause-seen c =
    let inv = c.loop-index.invariant in
    let w = world_of c.args.machine.now in
    let i = c.loop-index.index in
    refused_seen c.args.from w c.args.records.now i (i + 1) c.in-Err.refusal c.loop-index.transitions.items c.loop-index.world refl
    (refused_at w (world_of c.loop-index.machine) c.args.records.now i _ c.loop-index-test.true inv.accepted inv.reached (i + 1) c.in-Err.refusal refl c.in-Err.ensures.err)
    inv.drawn inv.glanced

pub loop-index-preserved : goal.loop-index-preserved
loop-index-preserved c =
    let inv = c.loop-index.invariant in
    let w = world_of c.args.machine.now in
    let v = world_of c.loop-index.machine in
    let i = c.loop-index.index in
    let done = c.in-Ok.ensures.ok in
    let reached = next_world w v c.args.records.now i _ c.loop-index-test.true inv.accepted inv.reached (world_of c.look_record.new.machine) done.1 in
    record {
      accepted = next_accepted w v c.args.records.now i _ c.loop-index-test.true inv.accepted inv.reached done.0;
      reached = reached;
      glanced = ap (λ (s : Transition). s.after) c.in-Ok.ensures.transition ∙ ap glance_of (sym done.1) ∙ ap glance_of reached;
      drawn = next_seen c.args.from w v c.args.records.now i (i + 1) _ c.look_record.new.transition c.loop-index.transitions.items c.keep_transition.new.transitions.items
          c.loop-index-test.true refl inv.reached c.in-Ok.ensures.transition inv.drawn c.in_ok-keep_transition-in-Ok.ensures;
    }

pub returns-clause-seen : goal.returns-clause-seen
returns-clause-seen c =
    let inv = c.loop-index.invariant in
    all_seen c.args.from (world_of c.args.machine.now) c.args.records.now c.loop-index.index c.loop-index.transitions.items c.loop-index.world
    c.loop-index-test.false inv.accepted inv.drawn inv.glanced
