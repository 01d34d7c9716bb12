use Rattle.std.proofs.Common.{◌∙◌, ◌+◌, List, ap, arith, refl, rules, sym, take}
use Rattle.std.proofs.lemmas.List.{take_all}
use Rattle.mx_machine.specs.History.{events_of_history, world_after_events}
use Rattle.mx_machine.specs.declared.history.Record.{Record}
use Rattle.mx_look.specs.Glances.{glance_of}
use Rattle.mx_look.specs.declared.transition.Transition.{Transition}
use Rattle.mx_app_step.specs.Machine.{world_of}
use Rattle.mx_app_step.proofs.FrontLemmas.{err_always}
use Rattle.mx_app_step.proofs.RecordLemmas.{is_actor_still, next_accepted, next_world, refused_at}
use Rattle.mx_app_page.proofs.PageLemmas.{next_begun, next_rows, some_begun}
use Rattle.mx_app_page.proofs.printing.print_rows.Goals as goal

pub look_record-requires : goal.look_record-requires
look_record-requires g c =
    is_actor_still (world_of c.args.machine.now) (world_of c.loop-index.machine) (events_of_history (take c.loop-index.index c.args.records.now)) c.args.records.now c.loop-index.index _
    c.loop-index.invariant.world c.requires.actors c.loop-index-test.true

pub returns-in-Err-clause-printed : goal.returns-in-Err-clause-printed
returns-in-Err-clause-printed g c =
    let inv = c.loop-index.invariant in
    let w = world_of c.args.machine.now in
    let i = c.loop-index.index in (
      refused_at w (world_of c.loop-index.machine) c.args.records.now i _ c.loop-index-test.true inv.accepted inv.world (i + 1) c.in-Err.refusal refl c.in-Err.ensures.err,
      inv.printed,
    )

pub loop-index-preserved : goal.loop-index-preserved
loop-index-preserved g c =
    let inv = c.loop-index.invariant in
    let w = world_of c.args.machine.now in
    let v = world_of c.loop-index.machine in
    let u = world_of c.look_record.new.machine in
    let i = c.loop-index.index in
    let done = c.in_default.ensures.ok in
    record {
      accepted = next_accepted w v c.args.records.now i _ c.loop-index-test.true inv.accepted inv.world done.0;
      world = next_world w v c.args.records.now i _ c.loop-index-test.true inv.accepted inv.world u done.1;
      shown = search rules;
      printed = next_rows w v u c.args.records.now c.args.above i (c.args.above + i + 1) _ c.look_record.new.transition c.loop-index.before c.show.new.shown c.loop-index-test.true refl inv.world c.in_default.ensures.transition inv.shown (search rules) done.1
          (g.W.Write.contents c.args.out.now) (g.W.Write.contents c.loop-index.out) (g.W.Write.contents c.print_row.new.out) inv.printed c.in_ok-print_row.ensures.bytes;
    }

pub returns-in_err-show-clause-begun : goal.returns-in_err-show-clause-begun
returns-in_err-show-clause-begun g c =
    err_always c.from_residual-in_err-show.result _
    (some_begun (world_of c.args.machine.now) c.args.records.now c.args.above c.loop-index.index (g.W.Write.contents c.args.out.now) (g.W.Write.contents c.loop-index.out) c.loop-index.invariant.accepted c.loop-index.invariant.printed)

pub returns-in_err-print_row-clause-begun : goal.returns-in_err-print_row-clause-begun
returns-in_err-print_row-clause-begun g c =
    let inv = c.loop-index.invariant in
    let w = world_of c.args.machine.now in
    let v = world_of c.loop-index.machine in
    let u = world_of c.look_record.new.machine in
    let i = c.loop-index.index in
    let done = c.in_default.ensures.ok in
    err_always c.from_residual-in_err-print_row.result _
    (next_begun w v u c.args.records.now c.args.above i (c.args.above + i + 1) _ c.look_record.new.transition c.loop-index.before c.show.new.shown c.loop-index-test.true refl inv.world c.in_default.ensures.transition inv.shown (search rules) done.1
    (g.W.Write.contents c.args.out.now) (g.W.Write.contents c.loop-index.out) (g.W.Write.contents c.print_row.new.out) (next_accepted w v c.args.records.now i _ c.loop-index-test.true inv.accepted inv.world done.0) inv.printed c.in_err-print_row.ensures.front)

pub show-requires : goal.show-requires
show-requires g c = ap (λ (x : Transition). x.after) c.in_default.ensures.transition ∙ ap glance_of (sym c.in_default.ensures.ok.1)

pub returns-clause-world : goal.returns-clause-world
returns-clause-world g c none =
    c.loop-index.invariant.world
    ∙ ap (λ (rs : List Record). world_after_events (world_of c.args.machine.now) (events_of_history rs)) (take_all c.loop-index.index c.args.records.now (omega (arith, c.loop-index-test.false)))
