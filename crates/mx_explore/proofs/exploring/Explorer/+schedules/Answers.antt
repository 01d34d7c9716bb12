use Rattle.std.proofs.Common.{◌≡◌, ◌∙◌, ◌-◌, suc, ap, arith, length, refl, subst, sym}
use Rattle.std.proofs.lemmas.Option.{slice_get_read}
use Rattle.mx_explore.specs.Exploring.{HasCounted, part_of}
use Rattle.mx_explore.specs.Passing.{end_of}
use Rattle.mx_explore.specs.Tree.{below}
use Rattle.mx_explore.specs.declared.outcomes.Tally.{Tally}
use Rattle.mx_explore.proofs.CountLemmas.{after_fits, all_departed, all_tried, asked_tried, at_boot, here, last_departed, met_there, next_departed, none_departed, none_tried, popped, shows_none, shows_same, shows_then, tallied_same, unasked_tried, waits_now}
use Rattle.mx_explore.proofs.exploring.Explorer.+schedules.Goals as goal

-- ---- a schedule and all below it

pub explore-offset_bounds-as_slice-after : goal.explore-offset_bounds-as_slice-after
explore-offset_bounds-as_slice-after g t c =
    let fits = after_fits (here c.args.self.now) c.args.self.now.departures.items c.in_ok-tried.tried.met.items c.in_ok-tried.tried.after c.in_ok-tried.ensures.met c.in_ok-tried.ensures.after in
    let small = c.as_slice.type_inv.1 in
    let many : length c.as_slice.result.now ≡ length c.in_ok-tried.tried.met.items = ap length c.as_slice.ensures.value in
    omega (arith, fits, small, many)

pub explore-slice_bounds-waits_on-count : goal.explore-slice_bounds-waits_on-count
explore-slice_bounds-waits_on-count g t c =
    let fits = after_fits (here c.args.self.now) c.args.self.now.departures.items c.in_ok-tried.tried.met.items c.in_ok-tried.tried.after c.in_ok-tried.ensures.met c.in_ok-tried.ensures.after in
    let len = c.in_ok-tried.tried.met.ok.0 in
    omega (arith, fits, len)

pub explore-slice_bounds-waits_on-start : goal.explore-slice_bounds-waits_on-start
explore-slice_bounds-waits_on-start g t c =
    let fits = after_fits (here c.args.self.now) c.args.self.now.departures.items c.in_ok-tried.tried.met.items c.in_ok-tried.tried.after c.in_ok-tried.ensures.met c.in_ok-tried.ensures.after in
    let len = c.in_ok-tried.tried.met.ok.0 in
    omega (arith, fits, len)

pub explore-slice_bounds-waits_on-end : goal.explore-slice_bounds-waits_on-end
explore-slice_bounds-waits_on-end g t c =
    let fits = after_fits (here c.args.self.now) c.args.self.now.departures.items c.in_ok-tried.tried.met.items c.in_ok-tried.tried.after c.in_ok-tried.ensures.met c.in_ok-tried.ensures.after in
    let len = c.in_ok-tried.tried.met.ok.0 in
    omega (arith, fits, len)

pub explore-returns-then-left-eq0-clause-counted : goal.explore-returns-then-left-eq0-clause-counted
explore-returns-then-left-eq0-clause-counted g t c =
    let a = c.args.self.now in
    subst (λ k. HasCounted a (below (part_of a.terms) (here a) k a.departures.items) c.run.new.self) (sym c.if-left-eq0.true) c.in_ok-tried.ensures.counted

pub explore-returns-then-left-eq0-clause-can_wait : goal.explore-returns-then-left-eq0-clause-can_wait
explore-returns-then-left-eq0-clause-can_wait g t c =
    c.waits_on-can_wait.ensures ∙ waits_now (here c.args.self.now) c.args.self.now.departures.items c.in_ok-tried.tried.met.items c.as_slice.result.now c.in_ok-tried.tried.after c.as_slice.ensures.value c.in_ok-tried.ensures.met c.in_ok-tried.ensures.after

pub explore-loop-at-init : goal.explore-loop-at-init
explore-loop-at-init g t c =
    let a = c.args.self.now in
    let known = tallied_same a c.run.new.self c.know.new.self _ c.in_ok-tried.ensures.same c.in_ok-tried.ensures.counted c.know.ensures.same c.know.ensures.tally in
    record {
      tried = none_tried (c.args.left - 1) _ a c.know.new.self (omega arith) known.0 known.1;
      services = c.in_ok-tried.ensures.services;
      shown = shows_same _ _ _ _ _ (ap (λ (y : Tally). y.schedules) (sym c.know.ensures.tally)) c.in_ok-tried.ensures.shown;
    }

pub explore-depart-requires : goal.explore-depart-requires
explore-depart-requires g t c κs within =
    let a = c.args.self.now in
    let inv = c.loop-at.invariant in
    let len = c.in_ok-tried.tried.met.ok.0 in
    let there = slice_get_read c.in_ok-tried.tried.met.items _ c.loop-at.at c.index.result.now refl (omega (arith, c.loop-at-test.true, len)) c.index.ensures in (
      omega (arith, c.decreases, c.if-left-eq0.false),
      (
        within,
        (
          at_boot a c.loop-at.self c.args.services.items c.loop-at.services.items inv.tried.same inv.services c.requires,
          met_there a c.loop-at.self c.in_ok-tried.tried.met.items c.loop-at.at c.index.result.now inv.tried.same c.in_ok-tried.ensures.met there,
        ),
      ),
    )

pub explore-loop-at-preserved-then-not-is_asked : goal.explore-loop-at-preserved-then-not-is_asked
explore-loop-at-preserved-then-not-is_asked g t c =
    let a = c.args.self.now in
    let inv = c.loop-at.invariant in
    let after = c.in_ok-tried.ensures.after in
    record {
      tried = unasked_tried (c.args.left - 1) _ c.loop-at.at _ a c.loop-at.self inv.tried (omega (arith, after, c.loop-at.auto.at)) (omega (arith, c.loop-at.auto.at)) (sym c.is_asked.ensures ∙ c.if-not-is_asked.true);
      services = inv.services;
      shown = inv.shown;
    }

pub explore-returns-in_err-services-clause-shown : goal.explore-returns-in_err-services-clause-shown
explore-returns-in_err-services-clause-shown g t c = shows_then _ _ _ _ _ _ c.loop-at.invariant.shown c.in_err-services.ensures.shown

pub explore-loop-at-preserved : goal.explore-loop-at-preserved
explore-loop-at-preserved g t c =
    let a = c.args.self.now in
    let inv = c.loop-at.invariant in
    let after = c.in_ok-tried.ensures.after in
    record {
      tried = asked_tried (c.args.left - 1) _ c.loop-at.at _ a c.loop-at.self inv.tried (omega (arith, after, c.loop-at.auto.at)) (omega (arith, c.loop-at.auto.at)) c.depart.new.self
          (sym c.is_asked.ensures ∙ c.if-not-is_asked.false) c.in_ok-services.ensures.same c.in_ok-services.ensures.counted;
      services = c.in_ok-services.ensures.services ∙ inv.services;
      shown = shows_then _ _ _ _ _ _ inv.shown c.in_ok-services.ensures.shown;
    }

pub explore-returns-clause-same : goal.explore-returns-clause-same
explore-returns-clause-same g t c = c.loop-at.invariant.tried.same

pub explore-returns-clause-counted : goal.explore-returns-clause-counted
explore-returns-clause-counted g t c =
    let a = c.args.self.now in
    let ds = a.departures.items in
    let met = c.in_ok-tried.ensures.met in
    let after = c.in_ok-tried.ensures.after in
    let fits = after_fits (here a) ds c.in_ok-tried.tried.met.items c.in_ok-tried.tried.after met after in
    let len = c.in_ok-tried.tried.met.ok.0 in
    let many : length c.in_ok-tried.tried.met.items ≡ length (end_of (here a) ds).met = ap length met in
    let left : c.args.left ≡ suc (c.args.left - 1) = omega (arith, c.if-left-eq0.false) in
    all_tried (c.args.left - 1) _ c.args.left a c.loop-at.self c.loop-at.invariant.tried left (omega (arith, many, len, after, fits, c.loop-at-test.false, c.loop-at.auto.at, c.loop-at.auto.at-end))

pub explore-returns-clause-services : goal.explore-returns-clause-services
explore-returns-clause-services g t c = c.loop-at.invariant.services

pub explore-returns-clause-can_wait : goal.explore-returns-clause-can_wait
explore-returns-clause-can_wait g t c =
    c.waits_on-can_wait.ensures ∙ waits_now (here c.args.self.now) c.args.self.now.departures.items c.in_ok-tried.tried.met.items c.as_slice.result.now c.in_ok-tried.tried.after c.as_slice.ensures.value c.in_ok-tried.ensures.met c.in_ok-tried.ensures.after

pub explore-returns-clause-shown : goal.explore-returns-clause-shown
explore-returns-clause-shown g t c = c.loop-at.invariant.shown

-- ---- an offer at which it departs

pub depart-loop-waited-init : goal.depart-loop-waited-init
depart-loop-waited-init g t c = record {
  departed = none_departed c.args.left c.args.at 0 c.args.self.now refl;
  services = refl;
  shown = shows_none _ _ _ _ refl refl;
}

pub depart-returns-in_default-clause-shown : goal.depart-returns-in_default-clause-shown
depart-returns-in_default-clause-shown g t c = c.loop-waited.invariant.shown

pub depart-explore-requires : goal.depart-explore-requires
depart-explore-requires g t c κs within =
    let inv = c.loop-waited.invariant in
    (omega (arith, c.decreases), (within, at_boot c.args.self.now c.loop-waited.self c.args.services.items c.loop-waited.services.items inv.departed.same inv.services c.requires.boot))

pub depart-returns-in_err-back-clause-shown : goal.depart-returns-in_err-back-clause-shown
depart-returns-in_err-back-clause-shown g t c = shows_then _ _ _ _ _ _ c.loop-waited.invariant.shown c.in_err-back.ensures.shown

pub depart-returns-then-not-goes_on-clause-same : goal.depart-returns-then-not-goes_on-clause-same
depart-returns-then-not-goes_on-clause-same g t c =
    let b = c.loop-waited.self in
    let ok = c.in_ok-back.ensures in
    let back = popped b.departures.items c.pop.new.self.items c.explore.new.self.departures.items _ _ (ok.same.departures ∙ c.in-Ok.ensures.items) (omega (arith, c.explore.new.self.departures.ok.0)) c.pop.ensures.rest in
    (last_departed c.args.left c.args.at c.loop-waited.waited c.args.self.now b (record c.explore.new.self { departures = c.pop.new.self }) _ c.explore.new.self c.loop-waited.invariant.departed c.loop-waited-test.true refl refl refl c.in-Ok.ensures.items ok.same ok.counted refl refl refl back
    c.args.met c.in_ok-back.can_wait c.goes_on.result c.requires.met ok.can_wait c.goes_on.ensures c.if-not-goes_on.true).0

pub depart-returns-then-not-goes_on-clause-counted : goal.depart-returns-then-not-goes_on-clause-counted
depart-returns-then-not-goes_on-clause-counted g t c =
    let b = c.loop-waited.self in
    let ok = c.in_ok-back.ensures in
    let back = popped b.departures.items c.pop.new.self.items c.explore.new.self.departures.items _ _ (ok.same.departures ∙ c.in-Ok.ensures.items) (omega (arith, c.explore.new.self.departures.ok.0)) c.pop.ensures.rest in
    (last_departed c.args.left c.args.at c.loop-waited.waited c.args.self.now b (record c.explore.new.self { departures = c.pop.new.self }) _ c.explore.new.self c.loop-waited.invariant.departed c.loop-waited-test.true refl refl refl c.in-Ok.ensures.items ok.same ok.counted refl refl refl back
    c.args.met c.in_ok-back.can_wait c.goes_on.result c.requires.met ok.can_wait c.goes_on.ensures c.if-not-goes_on.true).1

pub depart-returns-then-not-goes_on-clause-services : goal.depart-returns-then-not-goes_on-clause-services
depart-returns-then-not-goes_on-clause-services g t c = c.in_ok-back.ensures.services ∙ c.loop-waited.invariant.services

pub depart-returns-then-not-goes_on-clause-shown : goal.depart-returns-then-not-goes_on-clause-shown
depart-returns-then-not-goes_on-clause-shown g t c = shows_then _ _ _ _ _ _ c.loop-waited.invariant.shown c.in_ok-back.ensures.shown

pub depart-loop-waited-preserved : goal.depart-loop-waited-preserved
depart-loop-waited-preserved g t c =
    let b = c.loop-waited.self in
    let inv = c.loop-waited.invariant in
    let ok = c.in_ok-back.ensures in
    let back = popped b.departures.items c.pop.new.self.items c.explore.new.self.departures.items _ _ (ok.same.departures ∙ c.in-Ok.ensures.items) (omega (arith, c.explore.new.self.departures.ok.0)) c.pop.ensures.rest in
    record {
      departed = next_departed c.args.left c.args.at c.loop-waited.waited c.args.self.now b _ _ c.explore.new.self inv.departed c.loop-waited-test.true refl refl refl c.in-Ok.ensures.items ok.same ok.counted refl refl refl back
          c.args.met c.in_ok-back.can_wait c.goes_on.result c.requires.met ok.can_wait c.goes_on.ensures c.if-not-goes_on.false;
      services = ok.services ∙ inv.services;
      shown = shows_then _ _ _ _ _ _ inv.shown ok.shown;
    }

pub depart-returns-clause-same : goal.depart-returns-clause-same
depart-returns-clause-same g t c = c.loop-waited.invariant.departed.same

pub depart-returns-clause-counted : goal.depart-returns-clause-counted
depart-returns-clause-counted g t c = all_departed c.args.left c.args.at c.loop-waited.waited c.args.self.now c.loop-waited.self c.loop-waited.invariant.departed c.loop-waited-test.false

pub depart-returns-clause-services : goal.depart-returns-clause-services
depart-returns-clause-services g t c = c.loop-waited.invariant.services

pub depart-returns-clause-shown : goal.depart-returns-clause-shown
depart-returns-clause-shown g t c = c.loop-waited.invariant.shown
