use Rattle.std.proofs.Common.{◌≡◌, ◌∙◌, ◌<◌, ◌+◌, ℕ, suc, Bool, true, false, ap, sym, subst, refl, arith}
use Rattle.mx_exec.specs.declared.image.Code.{Code}
use Rattle.mx_machine.specs.declared.holding.Out.{Out}
use Rattle.mx_machine.specs.Held.{held_run}
use Rattle.mx_machine.specs.World.{HeldProcess}
use Rattle.mx_walk.specs.Quiet.{AreQuiet}
use Rattle.mx_walk.specs.Running.{HasRun, NoneMarkedOf, out_after_steps, steps_to_mark, with_out}
use Rattle.mx_walk.proofs.KeptMemory.{code_kept, no_places}
use Rattle.mx_walk.proofs.Ran.{begun, few_made, gone_far, last_is, met_left, met_run, mid, mid_is, short_left, short_run, spent_left, spent_run}
use Rattle.mx_walk.proofs.marked_steps.run_watched.Goals as goal

abbrev Marks : Type 0
Marks = HeldProcess → Out → Bool

abbrev at : ℕ → Out → HeldProcess
at slot o = record { slot = slot; out = o }

pub loop-made-init : goal.loop-made-init
loop-made-init g c = record {
  gone = begun (g.M.Mark.marks_step c.look_at.new.self) (at c.args.slot c.args.out.now);
  few = omega arith;
  seen = c.look_at.ensures.seen;
  same = refl;
  steps = refl;
  quiet = no_places c.args.out.now.image.code 64;
  some = refl;
}

pub overflow_add-made : goal.overflow_add-made
overflow_add-made g c =
    let a = few_made (c.min-quiet.result + 1) c.loop-made.out c.run-few.result.0 c.run-few.result.1 c.run-few.new.self c.run-few.ensures.ran in
    let b = c.loop-made-test.true in
    let e = c.min-quiet.ensures in
    let f = c.ranges.steps.fits in
    omega (arith, a, b, e, f)

pub returns-then-few-quiet-clause-ran : goal.returns-then-few-quiet-clause-ran
returns-then-few-quiet-clause-ran g c =
    let l = at c.args.slot c.args.out.now in
    let run = c.run-few in
    let inv = c.loop-made.invariant in
    let q = c.min-quiet.result in
    let b = c.loop-made-test.true in
    let e = c.min-quiet.ensures in
    let t = c.if-few-quiet.true in
    let ahead : NoneMarkedOf (g.M.Mark.marks_step c.look_at.new.self) (at c.args.slot c.loop-made.out) c.unmarked_ahead.result =
    subst (λ (f : Marks). NoneMarkedOf f (at c.args.slot c.loop-made.out) c.unmarked_ahead.result) inv.steps c.unmarked_ahead.ensures.ahead.0 in
    subst (λ (f : Marks). (held_run (steps_to_mark f c.args.steps l) l.out).1 ≡ run.new.self) c.look_at.ensures.steps
    (short_left (g.M.Mark.marks_step c.look_at.new.self) l c.loop-made.made c.loop-made.out inv.gone q run.result.0 run.result.1 run.new.self run.ensures.ran
    (λ j lt. ahead j (omega (arith, lt, e))) c.args.steps t (omega (arith, t, e, b)))

pub returns-then-few-quiet-clause-searched : goal.returns-then-few-quiet-clause-searched
returns-then-few-quiet-clause-searched g c =
    let l = at c.args.slot c.args.out.now in
    let run = c.run-few in
    let inv = c.loop-made.invariant in
    let q = c.min-quiet.result in
    let b = c.loop-made-test.true in
    let e = c.min-quiet.ensures in
    let t = c.if-few-quiet.true in
    let ahead : NoneMarkedOf (g.M.Mark.marks_step c.look_at.new.self) (at c.args.slot c.loop-made.out) c.unmarked_ahead.result =
    subst (λ (f : Marks). NoneMarkedOf f (at c.args.slot c.loop-made.out) c.unmarked_ahead.result) inv.steps c.unmarked_ahead.ensures.ahead.0 in
    subst (λ (f : Marks). HasRun f c.args.steps l (c.loop-made.made + run.result.0) false) c.look_at.ensures.steps
    (short_run (g.M.Mark.marks_step c.look_at.new.self) l c.loop-made.made c.loop-made.out inv.gone q run.result.0 run.result.1 run.new.self run.ensures.ran
    (λ j lt. ahead j (omega (arith, lt, e))) c.args.steps t (omega (arith, t, e, b)))

pub returns-then-look_again-clause-ran : goal.returns-then-look_again-clause-ran
returns-then-look_again-clause-ran g c =
    let l = at c.args.slot c.args.out.now in
    let o = c.loop-made.out in
    let run = c.run-few in
    let n = run.result.0 in
    let inv = c.loop-made.invariant in
    let q = c.min-quiet.result in
    let b = c.loop-made-test.true in
    let e = c.min-quiet.ensures in
    let most = few_made (q + 1) o n run.result.1 run.new.self run.ensures.ran in
    let all : q < n = let t = c.if-few-quiet.false in omega (arith, t) in
    let f' = g.M.Mark.marks_step c.look_at.new.self in
    let ahead : NoneMarkedOf f' (at c.args.slot o) c.unmarked_ahead.result = subst (λ (f : Marks). NoneMarkedOf f (at c.args.slot o) c.unmarked_ahead.result) inv.steps c.unmarked_ahead.ensures.ahead.0 in
    let none : NoneMarkedOf f' (at c.args.slot o) q = λ j lt. ahead j (omega (arith, lt, e)) in
    let before = at c.args.slot (out_after_steps q o) in
    let seen : g.M.Mark.HasSeenHeld c.loop-made.mark before = c.unmarked_ahead.ensures.ahead.1 q (omega (arith, e)) inv.seen in
    let met : f' before run.new.self ≡ true = sym (ap (λ (f : Marks). f before run.new.self) inv.steps) ∙ sym (c.look_again.ensures.met before seen refl) ∙ c.if-look_again.true in
    let marked : f' (with_out l (mid f' l c.loop-made.made o inv.gone q n run.result.1 run.new.self run.ensures.ran none)) run.new.self ≡ true =
    subst (λ (p : Out). f' (with_out l p) run.new.self ≡ true) (sym (mid_is f' l c.loop-made.made o inv.gone q n run.result.1 run.new.self run.ensures.ran none all)) met in
    subst (λ (f : Marks). (held_run (steps_to_mark f c.args.steps l) l.out).1 ≡ run.new.self) c.look_at.ensures.steps
    (met_left f' l c.loop-made.made o inv.gone q n run.result.1 run.new.self run.ensures.ran none all c.args.steps (omega (arith, most, e, b)) marked)

pub returns-then-look_again-clause-searched : goal.returns-then-look_again-clause-searched
returns-then-look_again-clause-searched g c =
    let l = at c.args.slot c.args.out.now in
    let o = c.loop-made.out in
    let run = c.run-few in
    let n = run.result.0 in
    let inv = c.loop-made.invariant in
    let q = c.min-quiet.result in
    let b = c.loop-made-test.true in
    let e = c.min-quiet.ensures in
    let most = few_made (q + 1) o n run.result.1 run.new.self run.ensures.ran in
    let all : q < n = let t = c.if-few-quiet.false in omega (arith, t) in
    let f' = g.M.Mark.marks_step c.look_at.new.self in
    let ahead : NoneMarkedOf f' (at c.args.slot o) c.unmarked_ahead.result = subst (λ (f : Marks). NoneMarkedOf f (at c.args.slot o) c.unmarked_ahead.result) inv.steps c.unmarked_ahead.ensures.ahead.0 in
    let none : NoneMarkedOf f' (at c.args.slot o) q = λ j lt. ahead j (omega (arith, lt, e)) in
    let before = at c.args.slot (out_after_steps q o) in
    let seen : g.M.Mark.HasSeenHeld c.loop-made.mark before = c.unmarked_ahead.ensures.ahead.1 q (omega (arith, e)) inv.seen in
    let met : f' before run.new.self ≡ true = sym (ap (λ (f : Marks). f before run.new.self) inv.steps) ∙ sym (c.look_again.ensures.met before seen refl) ∙ c.if-look_again.true in
    let marked : f' (with_out l (mid f' l c.loop-made.made o inv.gone q n run.result.1 run.new.self run.ensures.ran none)) run.new.self ≡ true =
    subst (λ (p : Out). f' (with_out l p) run.new.self ≡ true) (sym (mid_is f' l c.loop-made.made o inv.gone q n run.result.1 run.new.self run.ensures.ran none all)) met in
    subst (λ (f : Marks). HasRun f c.args.steps l (c.loop-made.made + n) true) c.look_at.ensures.steps
    (met_run f' l c.loop-made.made o inv.gone q n run.result.1 run.new.self run.ensures.ran none all c.args.steps (omega (arith, most, e, b)) marked)

pub loop-made-preserved : goal.loop-made-preserved
loop-made-preserved g c =
    let l = at c.args.slot c.args.out.now in
    let o = c.loop-made.out in
    let run = c.run-few in
    let n = run.result.0 in
    let inv = c.loop-made.invariant in
    let q = c.min-quiet.result in
    let b = c.loop-made-test.true in
    let e = c.min-quiet.ensures in
    let most = few_made (q + 1) o n run.result.1 run.new.self run.ensures.ran in
    let all : q < n = let t = c.if-few-quiet.false in omega (arith, t) in
    let f' = g.M.Mark.marks_step c.look_at.new.self in
    let ahead : NoneMarkedOf f' (at c.args.slot o) c.unmarked_ahead.result = subst (λ (f : Marks). NoneMarkedOf f (at c.args.slot o) c.unmarked_ahead.result) inv.steps c.unmarked_ahead.ensures.ahead.0 in
    let none : NoneMarkedOf f' (at c.args.slot o) q = λ j lt. ahead j (omega (arith, lt, e)) in
    let before = at c.args.slot (out_after_steps q o) in
    let seen : g.M.Mark.HasSeenHeld c.loop-made.mark before = c.unmarked_ahead.ensures.ahead.1 q (omega (arith, e)) inv.seen in
    let unmet : f' before run.new.self ≡ false = sym (ap (λ (f : Marks). f before run.new.self) inv.steps) ∙ sym (c.look_again.ensures.met before seen refl) ∙ c.if-look_again.false in
    let unmarked : f' (with_out l (mid f' l c.loop-made.made o inv.gone q n run.result.1 run.new.self run.ensures.ran none)) run.new.self ≡ false =
    subst (λ (p : Out). f' (with_out l p) run.new.self ≡ false) (sym (mid_is f' l c.loop-made.made o inv.gone q n run.result.1 run.new.self run.ensures.ran none all)) unmet in
    let code : o.image.code ≡ run.new.self.image.code =
    sym (ap (λ (p : Out). p.image.code) (last_is f' l c.loop-made.made o inv.gone q n run.result.1 run.new.self run.ensures.ran none all) ∙ code_kept (suc q) o) in
    record {
      gone = gone_far f' l c.loop-made.made o inv.gone q n run.result.1 run.new.self run.ensures.ran none all unmarked;
      few = omega (arith, most, e, b);
      seen = c.look_again.ensures.seen c.if-look_again.false;
      same = c.look_again.ensures.same ∙ inv.same;
      steps = c.look_again.ensures.steps ∙ inv.steps;
      quiet = subst (λ (x : Code). AreQuiet x c.unmarked_ahead.new.places) code c.unmarked_ahead.ensures.quiet;
      some = c.unmarked_ahead.ensures.some;
    }

pub returns-clause-ran : goal.returns-clause-ran
returns-clause-ran g c =
    let l = at c.args.slot c.args.out.now in
    let all : c.loop-made.made ≡ c.args.steps = let a = c.loop-made-test.false in let b = c.loop-made.invariant.few in omega (arith, a, b) in
    subst (λ (f : Marks). (held_run (steps_to_mark f c.args.steps l) l.out).1 ≡ c.loop-made.out) c.look_at.ensures.steps
    (spent_left (g.M.Mark.marks_step c.look_at.new.self) l c.args.steps c.loop-made.made c.loop-made.out all c.loop-made.invariant.gone)

pub returns-clause-searched : goal.returns-clause-searched
returns-clause-searched g c =
    let l = at c.args.slot c.args.out.now in
    let all : c.loop-made.made ≡ c.args.steps = let a = c.loop-made-test.false in let b = c.loop-made.invariant.few in omega (arith, a, b) in
    subst (λ (f : Marks). HasRun f c.args.steps l c.loop-made.made false) c.look_at.ensures.steps
    (subst (λ m. HasRun (g.M.Mark.marks_step c.look_at.new.self) c.args.steps l m false) (sym all)
    (spent_run (g.M.Mark.marks_step c.look_at.new.self) l c.args.steps c.loop-made.made c.loop-made.out all c.loop-made.invariant.gone))
