use Rattle.std.proofs.Common.{◌≡◌, ◌∙◌, ◌<◌, ◌-◌, ◌++◌, ℕ, Bool, All, length, ap, refl, sym, subst, arith}
use Rattle.mx_machine.specs.declared.events.Event.{Event}
use Rattle.mx_machine.specs.declared.history.Record.{Record}
use Rattle.mx_machine.specs.World.{World, actors}
use Rattle.mx_walk.specs.Checkpoints.{IsStock}
use Rattle.mx_walk.specs.Parts.{parts_between}
use Rattle.mx_walk.specs.Positions.{IsAt, IsBefore}
use Rattle.mx_walk.specs.Walks.{IsBootOf}
use Rattle.mx_walk.proofs.Along.{itself, up_trans}
use Rattle.mx_walk.proofs.Next.{up_to_of}
use Rattle.mx_walk.proofs.PartsShown.{none_between}
use Rattle.mx_walk.proofs.Passing.{none_passed}
use Rattle.mx_walk.proofs.Shown.{records_up}
use Rattle.mx_walk.proofs.Stretches.{arrived, at_end_of, fewer_before, is_found, isnt_found, sought, stretch_shown, up_before}
use Rattle.mx_walk.proofs.searching_back.search_stretches.Goals as goal

pub machine_again-requires-clause-booted : goal.machine_again-requires-clause-booted
machine_again-requires-clause-booted g c = subst (λ (w : World). IsBootOf c.args.origin.config.now w) (sym c.loop-earlier.invariant.there.booted) c.requires.booted

pub machine_again-requires-clause-stock : goal.machine_again-requires-clause-stock
machine_again-requires-clause-stock g c = subst (λ (w : World). IsStock w c.args.origin.records.now c.args.origin.stock.now) (sym c.loop-earlier.invariant.there.booted) c.requires.stock

pub seek_last-found-requires-clause-actors : goal.seek_last-found-requires-clause-actors
seek_last-found-requires-clause-actors g c =
    subst (λ n. All (λ (x : Record). x.actor < n) c.args.origin.records.now) (sym (c.in_ok-again.ensures.actors ∙ ap (λ (w : World). actors w) c.loop-earlier.invariant.there.booted)) c.requires.actors

pub seek_last-found-requires-clause-there : goal.seek_last-found-requires-clause-there
seek_last-found-requires-clause-there g c =
    let again = c.in_ok-again.ensures in
    subst (λ (w : World). IsAt w c.args.origin.records.now c.in_ok-again.from c.in_ok-again.again) (sym again.there.booted) again.there

pub seek_last-found-requires-clause-later : goal.seek_last-found-requires-clause-later
seek_last-found-requires-clause-later g c =
    up_to_of c.in_ok-again.from c.loop-earlier.end (up_before c.in_ok-again.from c.in-Some.earlier c.loop-earlier.end c.in_ok-again.ensures.early c.in-Some.ensures.1)

pub seek_last-found-requires-clause-few : goal.seek_last-found-requires-clause-few
seek_last-found-requires-clause-few g c =
    let inv = c.loop-earlier.invariant in
    let few = c.requires.there.position.earlier in
    let so_far = inv.so_far in
    let le = records_up c.loop-earlier.end c.args.here inv.early in
    omega (arith, few, so_far, le)

pub loop-earlier-init : goal.loop-earlier-init
loop-earlier-init g c =
    let s = c.requires.none in
    let none : c.args.here.records - c.args.here.records ≡ 0 = omega arith in
    record {
      there = c.requires.there;
      reached = itself c.args.here;
      position = c.requires.there.position;
      early = itself c.args.here;
      passed = none_passed (g.M.Mark.marks c.args.mark.now) c.args.machine.kernel.boot c.args.origin.records.now c.args.here;
      mark = refl;
      as_many = c.requires.many;
      so_far = s ∙ sym none;
      shown = subst (λ i. g.P.Progress.shown c.args.progress.now ≡ g.P.Progress.shown c.args.progress.now ++ parts_between (length c.args.origin.records.now) 0 i) (sym s) (none_between (length c.args.origin.records.now) 0 (g.P.Progress.shown c.args.progress.now));
    }

pub loop-earlier-preserved : goal.loop-earlier-preserved
loop-earlier-preserved g c =
    let inv = c.loop-earlier.invariant in
    let rs = c.args.origin.records.now in
    let boot = c.args.machine.kernel.boot in
    let end = c.loop-earlier.end in
    let here = c.args.here in
    let from = c.in_ok-again.from in
    let again = c.in_ok-again.ensures in
    let e = c.seek_last-found.ensures in
    let f : World → ℕ × Event → World → Bool = g.M.Mark.marks c.args.mark.now in
    let lt : IsBefore from end = up_before from c.in-Some.earlier end again.early c.in-Some.ensures.1 in
    let same = again.there.booted ∙ inv.there.booted in
    let last = c.requires.early in
    let reached = c.seek_last-found.result.0 in
    let found = sought f boot rs here last.0 last.1 last.2 c.in_ok-again.again c.seek_last-found.new.machine end reached same inv.early e.there e.halted (g.M.Mark.marks c.loop-earlier.mark) from c.seek_last-found.result.1 inv.mark inv.passed e.last in
    record {
      there = at_end_of f boot rs here last.0 last.1 last.2 c.in_ok-again.again c.seek_last-found.new.machine end reached same inv.early e.there e.halted;
      reached = inv.early;
      position = again.there.position;
      early = up_trans from end here (up_to_of from end lt) inv.early;
      passed = isnt_found f boot rs here from end c.seek_last-found.result.1 (sym c.is_some.ensures ∙ c.if-is_some.false) found;
      mark = e.mark ∙ inv.mark;
      as_many = e.actors ∙ again.actors ∙ ap (λ (w : World). actors w) inv.there.booted;
      so_far = refl;
      shown = stretch_shown (length rs) c.loop-earlier.shown here end from reached _ _ _ inv.so_far
          (arrived f boot rs here last.0 last.1 last.2 c.in_ok-again.again c.seek_last-found.new.machine end reached same inv.early e.there e.halted) (up_to_of from end lt) inv.early inv.shown e.shown;
    }

pub loop-earlier-smaller : goal.loop-earlier-smaller
loop-earlier-smaller g c =
    let from = c.in_ok-again.from in
    let end = c.loop-earlier.end in
    let again = c.in_ok-again.ensures in
    fewer_before c.args.origin.records.now from end again.there.position c.loop-earlier.invariant.position (up_before from c.in-Some.earlier end again.early c.in-Some.ensures.1)

pub returns-then-is_some-clause-found : goal.returns-then-is_some-clause-found
returns-then-is_some-clause-found g c =
    let inv = c.loop-earlier.invariant in
    let rs = c.args.origin.records.now in
    let boot = c.args.machine.kernel.boot in
    let end = c.loop-earlier.end in
    let here = c.args.here in
    let from = c.in_ok-again.from in
    let again = c.in_ok-again.ensures in
    let e = c.seek_last-found.ensures in
    let f : World → ℕ × Event → World → Bool = g.M.Mark.marks c.args.mark.now in
    let last = c.requires.early in
    let found = sought f boot rs here last.0 last.1 last.2 c.in_ok-again.again c.seek_last-found.new.machine end c.seek_last-found.result.0 (again.there.booted ∙ inv.there.booted) inv.early e.there e.halted (g.M.Mark.marks c.loop-earlier.mark) from
    c.seek_last-found.result.1 inv.mark inv.passed e.last in
    is_found f boot rs here from end c.seek_last-found.result.1 (sym c.is_some.ensures ∙ c.if-is_some.true) found

pub returns-then-is_some-clause-there : goal.returns-then-is_some-clause-there
returns-then-is_some-clause-there g c =
    let inv = c.loop-earlier.invariant in
    let again = c.in_ok-again.ensures in
    let e = c.seek_last-found.ensures in
    let last = c.requires.early in
    at_end_of (g.M.Mark.marks c.args.mark.now) c.args.machine.kernel.boot c.args.origin.records.now c.args.here last.0 last.1 last.2 c.in_ok-again.again c.seek_last-found.new.machine c.loop-earlier.end c.seek_last-found.result.0
    (again.there.booted ∙ inv.there.booted) inv.early e.there e.halted

pub returns-then-is_some-clause-shown : goal.returns-then-is_some-clause-shown
returns-then-is_some-clause-shown g c =
    let inv = c.loop-earlier.invariant in
    let rs = c.args.origin.records.now in
    let end = c.loop-earlier.end in
    let from = c.in_ok-again.from in
    let again = c.in_ok-again.ensures in
    let e = c.seek_last-found.ensures in
    let last = c.requires.early in
    let reached = c.seek_last-found.result.0 in
    let at = arrived (g.M.Mark.marks c.args.mark.now) c.args.machine.kernel.boot rs c.args.here last.0 last.1 last.2 c.in_ok-again.again c.seek_last-found.new.machine end reached (again.there.booted ∙ inv.there.booted) inv.early e.there e.halted in
    stretch_shown (length rs) c.loop-earlier.shown c.args.here end from reached _ _ _ inv.so_far at (up_to_of from end (up_before from c.in-Some.earlier end again.early c.in-Some.ensures.1)) inv.early inv.shown e.shown
