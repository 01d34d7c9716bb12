use Rattle.std.proofs.Common.{◌≡◌, ◌∙◌, arith, length, ◌++◌, ◌∷◌, [], Some, sym, ap, subst}
use Rattle.mx_machine.specs.declared.history.Recorded.TheVariants as recorded
use Rattle.mx_machine.specs.declared.events.Event.TheVariants as events
use Rattle.mx_loan.specs.Rule.{lent_to}
use Rattle.mx_loan.specs.Seats.{DeskView, LoanView, SeatView, new_loan, take_record}
use Rattle.mx_machine.specs.History.{BootAndHistory, replay}
use Rattle.mx_spool.specs.Spools.{IsSpoolOf}
use Rattle.mx_spool.proofs.SpoolLemmas.{spool_at_take}
use Rattle.mx_cpus.specs.Calls.{IsAcceptedCall, desk_beside, outs_of}
use Rattle.mx_cpus.proofs.WorldLemmas.{take_below, take_empty, take_fresh, take_outs}
use Rattle.mx_cpus.proofs.SeatLemmas.{accepted_by, desk_after_lend, known_by, lent_by, refused_by, seat_of_take}
use Rattle.mx_cpus.proofs.locked.Locked.take.Goals as goal

pub lend-seat-requires-clause-table : goal.lend-seat-requires-clause-table
lend-seat-requires-clause-table g c =
    ap (λ (x : SeatView). x.table) c.note-seat.ensures.seat ∙ c.requires.table ∙ sym (ap (λ (y : DeskView). y.table) (c.note-seat.ensures.desk ∙ c.self.invariant.2))

pub lend-seat-requires-clause-empty : goal.lend-seat-requires-clause-empty
lend-seat-requires-clause-empty g c =
    let w = replay c.self.inside.kernel in
    let a = c.actor.result in
    let s = c.args.seat in
    let seat = c.note-seat.ensures.seat in
    let who : a ≡ s.actor = c.actor.ensures ∙ ap (λ (x : SeatView). x.actor) seat in
    ap (λ (x : SeatView). x.held) seat ∙ c.note-seat.ensures.known.2 ∙ ap (λ (y : DeskView). lent_to y.lent s.actor) c.self.invariant.2
    ∙ ap (λ i. lent_to (outs_of w) i) (sym who) ∙ take_empty w a c.in-Ok.ensures.ok.accepted

pub lend-seat-requires-clause-place : goal.lend-seat-requires-clause-place
lend-seat-requires-clause-place g c =
    let w = replay c.self.inside.kernel in
    let as_many = ap (λ (y : DeskView). length y.lent) (c.note-seat.ensures.desk ∙ c.self.invariant.2) in
    omega (arith, c.actor.ensures, take_below w c.actor.result c.in-Ok.ensures.ok.accepted, as_many)

pub lend-seat-requires-clause-fresh : goal.lend-seat-requires-clause-fresh
lend-seat-requires-clause-fresh g c =
    take_fresh (replay c.take.new.self) c.actor.result c.in-Ok.out c.facts-in-Ok.ensures.fresh c.in-Ok.ensures.lent

pub invariant_of-self : goal.invariant_of-self
invariant_of-self g c =
    let k = c.self.inside.kernel in
    let n = c.take.new.self in
    let a = c.actor.result in
    let ok = c.in-Ok.ensures.ok in
    let outs = take_outs (replay k) (replay n) a c.in-Ok.out ok.accepted ok.world c.in-Ok.ensures.lent in (
      ap (λ m. m.boot) ok.recorded ∙ c.self.invariant.0,
      c.self.invariant.1,
      desk_after_lend g.M.Naming.table k n c.self.inside.desk c.note-seat.new.self c.lend-seat.new.self c.note-seat.result.actor a c.in-Ok.out c.self.invariant.2 c.note-seat.ensures.desk c.lend-seat.ensures.desk
          c.actor.ensures ok.recorded outs,
      spool_at_take k n c.self.inside.spool a ok.recorded c.self.invariant.3,
    )

pub invariant_of-self-in-Err : goal.invariant_of-self-in-Err
invariant_of-self-in-Err g c =
    let same = c.in-Err.ensures.err.1 in (
      ap (λ m. m.boot) same ∙ c.self.invariant.0,
      c.self.invariant.1,
      c.note-seat.ensures.desk ∙ c.self.invariant.2 ∙ ap (λ k. desk_beside g.M.Naming.table k) (sym same),
      subst (λ (k : BootAndHistory). IsSpoolOf k c.self.inside.spool) (sym same) c.self.invariant.3,
    )

pub returns-in-Ok-clause-ok : goal.returns-in-Ok-clause-ok
returns-in-Ok-clause-ok g c =
    let z = g.M.Naming.table in
    let b = g.M.Naming.boot in
    let k = c.self.inside.kernel in
    let d = c.self.inside.desk in
    let n = c.take.new.self in
    let s = c.args.seat in
    let t = c.lend-seat.result.0 in
    let out = c.in-Ok.out in
    let is = c.self.invariant.2 in
    let ok = c.in-Ok.ensures.ok in
    let seat = c.note-seat.ensures.seat in
    let loan = c.lend-seat.ensures.loan in
    let known = known_by z k d s is c.note-seat.ensures.known in
    let who = c.actor.ensures ∙ ap (λ (x : SeatView). x.actor) seat in
    let now = seat_of_take z k d c.note-seat.new.self c.lend-seat.new.self s c.note-seat.result t out is seat c.note-seat.ensures.desk c.lend-seat.ensures.desk c.lend-seat.ensures.seat in (
      subst (λ o. IsAcceptedCall b s t recorded.Take (Some o) (λ w answer. Unit {0})) (sym (ap (λ (l : LoanView). l.lent) loan))
          (accepted_by b k n s t c.actor.result recorded.Take (Some out) (λ w answer. Unit {0}) c.self.invariant.0 known.0 known.1 who ok.recorded now c.facts-in-Ok.ensures.accepted tt),
      lent_by b n t c.lend-seat.result.1 c.actor.result out (ap (λ m. m.boot) ok.recorded ∙ c.self.invariant.0)
          (ap (λ (x : SeatView). x.seen) now ∙ ap (λ i. k.history ++ take_record i ∷ []) (sym who) ∙ sym (ap (λ m. m.history) ok.recorded))
          (ap (λ (x : SeatView). x.actor) now ∙ sym who)
          (loan ∙ ap (λ i. new_loan i out) (ap (λ (x : SeatView). x.actor) seat ∙ sym who)) c.in-Ok.ensures.lent,
    )

pub returns-in-Err-clause-err : goal.returns-in-Err-clause-err
returns-in-Err-clause-err g c =
    refused_by g.M.Naming.boot g.M.Naming.table c.self.inside.kernel c.self.inside.desk c.args.seat c.note-seat.result c.actor.result events.Take c.in-Err.refusal c.self.invariant.0 c.self.invariant.2
    c.note-seat.ensures.known c.note-seat.ensures.seat c.actor.ensures c.facts.ensures.accepted c.in-Err.ensures.err.0
