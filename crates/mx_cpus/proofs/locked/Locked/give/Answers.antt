use Rattle.std.proofs.Common.{◌≡◌, ◌∙◌, Some, None, sym, ap, subst}
use Rattle.mx_machine.specs.History.{replay, with_record}
use Rattle.mx_machine.specs.Held.{IsBack}
use Rattle.mx_machine.specs.World.{HeldProcess, held_by}
use Rattle.mx_machine.specs.declared.events.Answer.TheVariants.{Returned}
use Rattle.mx_machine.specs.declared.holding.Out.{Out}
use Rattle.mx_machine.specs.declared.history.Recorded.TheVariants as recorded
use Rattle.mx_loan.specs.Rule.{lent_to}
use Rattle.mx_loan.specs.Seats.{DeskView}
use Rattle.mx_spool.proofs.SpoolLemmas.{behind_at_back}
use Rattle.mx_cpus.specs.Calls.{is_dead, outs_of}
use Rattle.mx_cpus.proofs.WorldLemmas.{back_answered, back_there, lent_there}
use Rattle.mx_cpus.proofs.SeatLemmas.{accepted_by, dead_by, desk_after_give, known_by, seat_of_back}
use Rattle.mx_cpus.proofs.locked.Locked.give.Goals as goal

pub back-requires : goal.back-requires
back-requires g c =
    let w = replay c.self.inside.kernel in
    let a = c.args.seat.actor in
    let p = c.redeem-seat.result.1 in
    subst (λ i. (l : HeldProcess) × (held_by w i ≡ Some l) × IsBack l.out p) (sym c.actor-actor.ensures)
    (back_there w a c.args.loan.lent p (ap (λ (d : DeskView). lent_to d.lent a) (sym c.self.invariant.2) ∙ c.redeem-seat.ensures.start) c.redeem-seat.ensures.run)

pub follow-requires : goal.follow-requires
follow-requires g c =
    behind_at_back c.self.inside.kernel c.back.new.self c.self.inside.spool c.actor-actor.result c.redeem-seat.result.1.count c.back.ensures.recorded c.self.invariant.3

pub invariant_of-self : goal.invariant_of-self
invariant_of-self g c =
    let k = c.self.inside.kernel in
    let w = replay k in
    let a = c.args.seat.actor in
    let who = c.actor-actor.ensures in
    let h = back_there w a c.args.loan.lent c.redeem-seat.result.1 (ap (λ (d : DeskView). lent_to d.lent a) (sym c.self.invariant.2) ∙ c.redeem-seat.ensures.start) c.redeem-seat.ensures.run in (
      ap (λ m. m.boot) c.back.ensures.recorded ∙ c.self.invariant.0,
      c.self.invariant.1,
      desk_after_give g.M.Naming.table k c.back.new.self c.self.inside.desk c.redeem-seat.new.self a c.actor-actor.result c.args.loan.out.count h.0 c.redeem-seat.result.1 c.self.invariant.2 c.redeem-seat.ensures.desk
          who (ap (λ (o : Out). o.count) c.redeem-seat.ensures.out) c.back.ensures.recorded (ap (held_by w) who ∙ h.1) c.back.ensures.world,
      c.follow.ensures,
    )

pub returns-clause-given : goal.returns-clause-given
returns-clause-given g c =
    let z = g.M.Naming.table in
    let k = c.self.inside.kernel in
    let w = replay k in
    let d = c.self.inside.desk in
    let s = c.args.seat in
    let n = c.args.loan.out.count in
    let who = c.actor-actor.ensures in
    let count = ap (λ (o : Out). o.count) c.redeem-seat.ensures.out in
    let known = known_by z k d s c.self.invariant.2 c.redeem-seat.ensures.known in
    let lent = ap (λ (y : DeskView). lent_to y.lent s.actor) (sym c.self.invariant.2) ∙ c.redeem-seat.ensures.start in
    let h = back_there w s.actor c.args.loan.lent c.redeem-seat.result.1 lent c.redeem-seat.ensures.run in
    let none : h.0.out.count ≡ 0 = ap (λ (o : Out). o.count) (lent_there w s.actor c.args.loan.lent h.0 lent h.1) ∙ c.redeem-seat.ensures.fresh.0 in
    accepted_by g.M.Naming.boot k c.back.new.self s c.redeem-seat.result.0 c.actor-actor.result (recorded.Back n) None
    (λ u answer. (answer ≡ Returned n) × (lent_to (outs_of u) s.actor ≡ Some c.args.loan.lent)) c.self.invariant.0
    known.0 known.1 who
    (c.back.ensures.recorded ∙ ap (λ i. with_record k c.actor-actor.result (recorded.Back i)) count)
    (seat_of_back z k d c.redeem-seat.new.self s c.redeem-seat.result.0 n c.self.invariant.2 c.redeem-seat.ensures.desk c.redeem-seat.ensures.seat)
    c.facts.ensures.accepted (back_answered w c.actor-actor.result n h.0 (ap (held_by w) who ∙ h.1) none, lent)

pub returns-clause-died : goal.returns-clause-died
returns-clause-died g c =
    let z = g.M.Naming.table in
    let k = c.self.inside.kernel in
    let s = c.args.seat in
    let n = c.args.loan.out.count in
    let b = c.actor-actor.result in
    let count = ap (λ (o : Out). o.count) c.redeem-seat.ensures.out in
    dead_by g.M.Naming.boot k c.back.new.self s c.redeem-seat.result.0 b n c.is_dead-has_died.result c.self.invariant.0 c.actor-actor.ensures
    (c.back.ensures.recorded ∙ ap (λ i. with_record k b (recorded.Back i)) count)
    (seat_of_back z k c.self.inside.desk c.redeem-seat.new.self s c.redeem-seat.result.0 n c.self.invariant.2 c.redeem-seat.ensures.desk c.redeem-seat.ensures.seat)
    (c.is_dead-has_died.ensures ∙ ap (λ i. is_dead (replay c.back.new.self) i) c.slot_on-slot.ensures)
