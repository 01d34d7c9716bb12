use Rattle.std.proofs.Common.{◌≡◌, ◌∙◌, sym, subst, List, rules, refl, length, vec_len}
use Rattle.std.specs.Prelude.{All}
use Rattle.std.proofs.lemmas.List.Elements.{All-push}
use Rattle.std.proofs.lemmas.List.Folds.{map_fixed}
use Rattle.std.proofs.lemmas.Iterator.Consumers.{YieldsList-end}
use Rattle.std.proofs.lemmas.Iterator.Adapters.{YieldsList-from_vec}
use Rattle.mx_cpus.specs.Seats.{SeatView}
use Rattle.mx_cpus.specs.Calls.{StandsIn}
use Rattle.mx_cpus.proofs.shared.Shared.into_kernel.Goals as goal

pub loop-seat-preserved : goal.loop-seat-preserved
loop-seat-preserved g c =
    let i = c.loop-seat.invariant in
    let k = c.show-seat.ensures.kernel in (
      k ∙ i.0,
      All-push (λ s. StandsIn c.show-seat.new.self.history s) c.loop-seat.yielded c.in-Some.seat
          (rw k i.1)
          (rw k c.show-seat.ensures.stands),
    )

pub returns-clause-stands : goal.returns-clause-stands
returns-clause-stands g c =
    let w = c.into_iter-seat-iterator.ensures.into_iter_gives in
    let n : vec_len c.args.seats ≡ length c.args.seats.items = search rules in
    let t = YieldsList-end (YieldsList-from_vec c.args.seats.items w.0 (w.1 ∙ n)) c.loop-seat.yielded c.loop-seat.seat-iterator c.loop-seat.yielded_by c.next.result c.next.new.self c.in-None.is c.next.ensures.steps in
    let e : c.loop-seat.yielded ≡ c.args.seats.items = sym (map_fixed (λ y. y) c.loop-seat.yielded (λ k d h. refl)) ∙ t.0 in
    subst (λ (l : List SeatView). All (λ s. StandsIn c.into_kernel-kernel.result.history s) l) e (rw c.into_kernel-kernel.ensures.kernel c.loop-seat.invariant.1)
