use Rattle.std.proofs.Common.{◌≡◌, ◌≤◌, ◌∙◌, ◌+◌, ◌++◌, List, length, refl, ap, subst, sym, inl, arith}
use Rattle.mx_machine.specs.World.{World, actors}
use Rattle.mx_walk.specs.declared.positions.Position.{Position}
use Rattle.mx_walk.specs.declared.progress.Part.{Part}
use Rattle.mx_walk.specs.Parts.{parts_between, parts_shown, walk_between}
use Rattle.mx_walk.specs.Positions.{HasHalted, IsAt, IsUpTo}
use Rattle.mx_walk.proofs.Along.{any_record, at, is_next, same_position, up_over}
use Rattle.mx_walk.proofs.PartsShown.{after_place, all_between, none_between, then_between}
use Rattle.mx_walk.proofs.Passing.{not_one}
use Rattle.mx_walk.proofs.Walking.{halted_before, stored_by}
use Rattle.mx_walk.proofs.first_walk.walk_first.Goals as goal

pub loop-earlier-init : goal.loop-earlier-init
loop-earlier-init g c = record {
  place = refl;
  there = c.requires.there;
  as_many = refl;
  stored = c.requires.stored;
  few = c.requires.few;
  most = refl;
  shown = none_between (length c.args.records.now) 0 (g.P.Progress.shown c.args.progress.now);
}

pub go_on-at-requires-clause-to : goal.go_on-at-requires-clause-to
go_on-at-requires-clause-to g c = is_next c.args.records.now c.loop-earlier.earlier any_record c.loop-earlier-test.true

pub go_on-at-requires-clause-later : goal.go_on-at-requires-clause-later
go_on-at-requires-clause-later g c = subst (λ (p : Position). IsUpTo p (at (c.loop-earlier.earlier + 1) 0)) (sym c.loop-earlier.invariant.place) (up_over c.loop-earlier.earlier 0)

pub pass-requires : goal.pass-requires
pass-requires g c =
    let inv = c.loop-earlier.invariant in
    let rs = c.args.records.now in
    let e = c.go_on-at.ensures in
    let booted = e.there.booted ∙ inv.there.booted in
    record {
      there = subst (λ (w : World). IsAt w rs c.go_on-at.result c.go_on-at.new.machine) (sym e.there.booted) e.there;
      actors = e.actors ∙ inv.as_many ∙ c.requires.many ∙ ap (λ (w : World). actors w) (sym booted);
      stored = stored_by c.args.machine.now.kernel.boot _ rs _ c.loop-earlier.checkpoints.taken.items _ booted refl refl inv.stored;
      few = inv.few;
    }

pub loop-earlier-preserved : goal.loop-earlier-preserved
loop-earlier-preserved g c =
    let inv = c.loop-earlier.invariant in
    let k = c.loop-earlier.earlier in
    let rs = c.args.records.now in
    let e = c.go_on-at.ensures in
    let there : c.go_on-at.result ≡ at (k + 1) 0 = same_position c.go_on-at.result (at (k + 1) 0) c.if-ne.ensures in
    let booted = e.there.booted ∙ inv.there.booted in
    let now = g.P.Progress.shown c.loop-earlier.progress in
    let more : g.P.Progress.shown c.go_on-at.new.progress ≡ now ++ parts_between (length rs) k (k + 1) =
    e.shown ∙ ap (λ (p : Position). now ++ walk_between rs p c.go_on-at.result) inv.place ∙ ap (λ (p : Position). now ++ walk_between rs (at k 0) p) there in
    record {
      place = there;
      there = subst (λ (w : World). IsAt w rs c.go_on-at.result c.go_on-at.new.machine) inv.there.booted e.there;
      as_many = e.actors ∙ inv.as_many;
      stored = stored_by c.go_on-at.new.machine.kernel.boot _ rs _ c.pass.new.self.taken.items _ (sym booted) refl refl c.pass.ensures.stored;
      few = c.pass.ensures.few;
      most = c.pass.ensures.most ∙ inv.most;
      shown = then_between (length rs) 0 k (k + 1) (g.P.Progress.shown c.args.progress.now) now (g.P.Progress.shown c.go_on-at.new.progress) (omega arith) (omega arith) inv.shown more;
    }

pub returns-then-ne-clause-there : goal.returns-then-ne-clause-there
returns-then-ne-clause-there g c = subst (λ (w : World). IsAt w c.args.records.now c.go_on-at.result c.go_on-at.new.machine) c.loop-earlier.invariant.there.booted c.go_on-at.ensures.there

pub returns-then-ne-clause-halted : goal.returns-then-ne-clause-halted
returns-then-ne-clause-halted g c =
    let rs = c.args.records.now in
    let k = c.loop-earlier.earlier in
    let halted : HasHalted c.args.machine.now.kernel.boot rs (at (k + 1) 0) c.go_on-at.result =
    subst (λ (w : World). HasHalted w rs (at (k + 1) 0) c.go_on-at.result) c.loop-earlier.invariant.there.booted c.go_on-at.ensures.halted in
    halted_before c.args.machine.now.kernel.boot rs k c.go_on-at.result c.loop-earlier-test.true (not_one c.go_on-at.result (at (k + 1) 0) c.if-ne.ensures) halted

pub returns-then-ne-clause-shown : goal.returns-then-ne-clause-shown
returns-then-ne-clause-shown g c =
    let inv = c.loop-earlier.invariant in
    let k = c.loop-earlier.earlier in
    let rs = c.args.records.now in
    let p = c.go_on-at.result in
    let e = c.go_on-at.ensures in
    let before = g.P.Progress.shown c.args.progress.now in
    let now = g.P.Progress.shown c.loop-earlier.progress in
    let le : k ≤ p.records = after_place (at k 0) p p.records (subst (λ (q : Position). IsUpTo q p) inv.place e.later) refl in
    let more : g.P.Progress.shown c.go_on-at.new.progress ≡ now ++ parts_between (length rs) k p.records = e.shown ∙ ap (λ (q : Position). now ++ walk_between rs q p) inv.place in
    then_between (length rs) 0 k p.records before now (g.P.Progress.shown c.go_on-at.new.progress) (omega arith) le inv.shown more
    ∙ ap (λ (ps : List Part). before ++ ps) (all_between (length rs) p.records)

pub returns-clause-halted : goal.returns-clause-halted
returns-clause-halted g c =
    let rs = c.args.records.now in
    let inv = c.loop-earlier.invariant in
    let n = c.loop-earlier.earlier in
    let few : n ≤ length rs = subst (λ (p : Position). p.records ≤ length rs) inv.place inv.there.position.earlier in
    let all : n ≡ length rs = omega (arith, few, c.loop-earlier-test.false) in
    inl (inv.place ∙ ap (λ i. at i 0) all)

pub returns-clause-shown : goal.returns-clause-shown
returns-clause-shown g c =
    let inv = c.loop-earlier.invariant in
    let rs = c.args.records.now in
    let before = g.P.Progress.shown c.args.progress.now in
    inv.shown ∙ ap (λ (ps : List Part). before ++ ps) (all_between (length rs) c.loop-earlier.earlier)
    ∙ ap (λ (p : Position). before ++ parts_shown (length rs) p.records) (sym inv.place)
