use Rattle.std.proofs.Common.{◌≡◌, ◌∙◌, ◌<◌, sym, ap, subst}
use Rattle.mx_machine.specs.History.{replay}
use Rattle.mx_machine.specs.World.{actors}
use Rattle.mx_machine.specs.KernelState.{recorded_as}
use Rattle.mx_loan.specs.Seats.{SeatView}
use Rattle.mx_spool.proofs.SpoolLemmas.{spool_at_event}
use Rattle.mx_cpus.proofs.WorldLemmas.{actor_there, event_outs, for_all_answer}
use Rattle.mx_cpus.proofs.SeatLemmas.{accepted_by, desk_after_made, known_by, refused_by, seat_of_event, world_seen}
use Rattle.mx_cpus.proofs.locked.Locked.event_here.Goals as goal

pub event-requires-clause-actor : goal.event-requires-clause-actor
event-requires-clause-actor g c =
    let k = c.self.inside.kernel in
    let a = c.note-seat.result.actor in
    let table = ap (λ (x : SeatView). x.table) c.note-seat.ensures.seat ∙ c.requires.table in
    let below : a < g.M.Naming.table.words = subst (λ z. a < z.words) table c.facts.ensures.actor in
    subst (λ i. i < actors (replay k)) (sym c.actor.ensures)
    (actor_there k a g.M.Naming.table.words (c.self.invariant.1 ∙ ap actors (sym c.self.invariant.0)) below)

pub invariant_of-self : goal.invariant_of-self
invariant_of-self g c =
    let k = c.self.inside.kernel in
    let n = c.event.new.self in
    let made = c.in-Ok.ensures.ok.1 in
    let a = c.actor.result in
    let outs = event_outs (replay k) (replay n) a c.args.event c.requires.event made.world in (
      ap (λ m. m.boot) made.recorded ∙ c.self.invariant.0,
      c.self.invariant.1,
      desk_after_made g.M.Naming.table k n c.self.inside.desk c.note-seat.new.self c.record.new.self c.note-seat.result.actor a c.recorded_as.result (recorded_as c.args.event) c.self.invariant.2 c.note-seat.ensures.desk c.record.ensures.desk
          c.actor.ensures c.recorded_as.ensures made.recorded outs,
      spool_at_event k n c.self.inside.spool a c.args.event c.requires.event made.recorded c.self.invariant.3,
    )

pub returns-in-Ok-clause-ok : goal.returns-in-Ok-clause-ok
returns-in-Ok-clause-ok g c =
    let z = g.M.Naming.table in
    let k = c.self.inside.kernel in
    let d = c.self.inside.desk in
    let s = c.args.seat in
    let is = c.self.invariant.2 in
    let ok = c.in-Ok.ensures.ok in
    let known = known_by z k d s is c.note-seat.ensures.known in
    let who = c.actor.ensures ∙ ap (λ (x : SeatView). x.actor) c.note-seat.ensures.seat in
    let now = seat_of_event z k d c.note-seat.new.self c.record.new.self s c.note-seat.result c.record.result c.recorded_as.result (recorded_as c.args.event) is c.note-seat.ensures.seat c.note-seat.ensures.desk c.record.ensures.desk c.record.ensures.seat c.recorded_as.ensures in
    accepted_by g.M.Naming.boot k c.event.new.self s c.record.result c.actor.result (recorded_as c.args.event) s.held (λ w x. (x ≡ c.in-Ok.answer) × (w ≡ replay c.args.self.now)) c.self.invariant.0 known.0 known.1 who
    ok.1.recorded now c.facts-in-Ok.ensures.accepted (for_all_answer (replay k) c.actor.result c.args.event c.requires.event ∙ sym ok.0, ap replay c.self.view_is)

pub returns-in-Err-clause-err : goal.returns-in-Err-clause-err
returns-in-Err-clause-err g c = (
  refused_by g.M.Naming.boot g.M.Naming.table c.self.inside.kernel c.self.inside.desk c.args.seat c.note-seat.result c.actor.result c.args.event c.in-Err.refusal c.self.invariant.0 c.self.invariant.2
      c.note-seat.ensures.known c.note-seat.ensures.seat c.actor.ensures c.facts-2.ensures.accepted c.in-Err.ensures.err.0,
  sym (world_seen g.M.Naming.boot g.M.Naming.table c.self.inside.kernel c.self.inside.desk c.args.seat c.note-seat.result c.self.invariant.0 c.self.invariant.2 c.note-seat.ensures.seat) ∙ ap replay c.self.view_is,
)
