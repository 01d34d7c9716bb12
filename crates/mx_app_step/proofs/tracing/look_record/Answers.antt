use Rattle.std.proofs.Common.{◌<◌, subst, arith}
use Rattle.std.proofs.lemmas.Result.{err_from_is_err_and}
use Rattle.mx_app_start.specs.Machine.{world_of}
use Rattle.mx_machine.specs.declared.events.Event.{Event}
use Rattle.mx_walk.specs.Positions.{IsRefusedFor, own_event, steps_in}
use Rattle.mx_walk.proofs.Made.{made_as_many}
use Rattle.mx_app_step.proofs.RecordLemmas.{own_refused, steps_refused}
use Rattle.mx_app_step.proofs.TraceLemmas.{look_made, transition_is}
use Rattle.mx_app_step.proofs.tracing.look_record.Goals as goal

pub returns-in-Err-clause-err : goal.returns-in-Err-clause-err
returns-in-Err-clause-err c =
    let h = c.in-Err.ensures.err in
    let few : c.in-Err.halted.made < steps_in c.args.entry.event = omega (arith, h.0, c.steps_in.ensures) in
    steps_refused (world_of c.args.machine.now) (world_of c.make_steps.new.machine) c.args.entry c.in-Err.halted.refusal c.in-Err.halted.made few h.1 h.2

pub returns-in_err-make_event-clause-err : goal.returns-in_err-make_event-clause-err
returns-in_err-make_event-clause-err c =
    let p = err_from_is_err_and c.from_residual.result c.from_residual.ensures.1 in
    let v = world_of c.make_steps.new.machine in
    let r = c.in_err-make_event.field-0.0 in
    let begun = made_as_many (world_of c.args.machine.now) v c.args.entry.actor _ _ c.steps_in.ensures c.in_default.ensures.ok in
    let refused : IsRefusedFor v (c.args.entry.actor, own_event c.args.entry.event) r = subst (λ (e : Event). IsRefusedFor v (c.args.entry.actor, e) r) c.own_event.ensures c.in_err-make_event.ensures.err.0 in
    rw (p.1, p.2) (own_refused (world_of c.args.machine.now) v c.args.entry r begun refused)

pub returns-clause-ok : goal.returns-clause-ok
returns-clause-ok c =
    let done = c.in_ok-make_event.ensures.ok in
    let made = look_made (world_of c.args.machine.now) (world_of c.make_steps.new.machine) (world_of c.make_event.new.machine) c.args.entry c.steps_in.result c.own_event.result
    c.steps_in.ensures c.own_event.ensures c.in_default.ensures.ok done.0 done.1 in
    (made.accepted, made.world)

pub returns-clause-transition : goal.returns-clause-transition
returns-clause-transition c =
    let done = c.in_ok-make_event.ensures.ok in
    let w = world_of c.args.machine.now in
    let v = world_of c.make_steps.new.machine in
    let u = world_of c.make_event.new.machine in
    let begun = made_as_many w v c.args.entry.actor _ _ c.steps_in.ensures c.in_default.ensures.ok in
    let made = look_made w v u c.args.entry c.steps_in.result c.own_event.result c.steps_in.ensures c.own_event.ensures c.in_default.ensures.ok done.0 done.1 in
    transition_is w v u c.args.number c.args.entry c.look.new.self c.look-2.new.self c.look.ensures begun.world c.look-2.ensures made.world
