-- Runs as steps of a processor.
use Rattle.std.proofs.Common.{◌≡◌, ◌∙◌, ℕ, zero, suc, ◌+◌, ◌-◌, ◌≤◌, ◌<◌, min, List, [], ◌∷◌, length, Option, Some, None, get_or, slice_set, get_or-set_same, refl, ap, sym, subst, arith}
use Rattle.std.proofs.lemmas.Bool.{lt-leb}
use Rattle.mx_image.specs.Image.{Image}
use Rattle.mx_image.specs.Outcome.{Outcome}
use Rattle.mx_image.specs.Outcome.TheVariants.{Go, Trap, Fault}
use Rattle.mx_image.specs.Step.{one_step}
use Rattle.mx_image.specs.declared.runs.Stop.{Stop}
use Rattle.mx_image.specs.declared.runs.Stop.TheVariants as stop
use Rattle.mx_image.specs.Run.{run_of, RunEnd, run_end_from}
use Rattle.mx_machine.specs.declared.events.Event.TheVariants.{Step}
use Rattle.mx_machine.specs.declared.holding.Out.{Out}
use Rattle.mx_machine.specs.Held.{held_run, run_by_stop, out_after_step, stop_of_outcome}
use Rattle.mx_machine.specs.History.{AreAccepted, world_after_events}
use Rattle.mx_machine.specs.Move.{event_refusal, world_after_event, world_after_step, step_refusal, with_held}
use Rattle.mx_machine.specs.Steps.{steps_of, StepsTo}
use Rattle.mx_machine.specs.World.{World, HeldProcess, held_by}

-- ---- lists

pub holds_in : {X : Type 0} (xs : List (Option X)) (a : ℕ) (x : X) → get_or xs a None ≡ Some x → a < length xs
holds_in [] a x e = cc
holds_in (y ∷ ys) zero x e = omega arith
holds_in (y ∷ ys) (suc a) x e = let h = holds_in ys a x e in omega arith

pub set-own : {X : Type 0} (xs : List X) (i : ℕ) (d y : X) → get_or xs i d ≡ y → slice_set xs i y ≡ xs
set-own [] i d y e = refl
set-own (x ∷ xs) zero d y e = ap (λ z. z ∷ xs) (sym e)
set-own (x ∷ xs) (suc i) d y e = ap (λ l. x ∷ l) (set-own xs i d y e)

pub set_twice : {X : Type 0} (xs : List X) (i : ℕ) (y z : X) → slice_set (slice_set xs i y) i z ≡ slice_set xs i z
set_twice [] i y z = refl
set_twice (x ∷ xs) zero y z = refl
set_twice (x ∷ xs) (suc i) y z = ap (λ l. x ∷ l) (set_twice xs i y z)

-- ---- one step

-- what is lent, in another state
abbrev with_out : HeldProcess → Image → ℕ → Stop → HeldProcess
with_out l m n s = record l { out = record l.out { image = m; count = n; stop = s } }

step-accepted : (w : World) (a : ℕ) (l : HeldProcess) → held_by w a ≡ Some l → l.out.stop ≡ stop.Spent → l.out.count < l.out.budget → event_refusal w a Step ≡ None
unfolding event_refusal
step-accepted w a l h s b = ap step_refusal h ∙ rw (s, lt-leb l.out.budget l.out.count b) refl

step-after : (w : World) (a : ℕ) (l : HeldProcess) (o : Outcome) (m : Image) → held_by w a ≡ Some l → one_step l.out.image ≡ (o, m) → world_after_event w a Step ≡ with_held w a (Some (with_out l m (l.out.count + 1) (stop_of_outcome o)))
unfolding world_after_event out_after_step
step-after w a l o m h e = ap (world_after_step w a) h
    ∙ ap (λ (p : Outcome × Image). with_held w a (Some (with_out l p.1 (l.out.count + 1) (stop_of_outcome p.0)))) e

-- no steps
none_made : (w : World) (a : ℕ) (l : HeldProcess) → held_by w a ≡ Some l → l.out.stop ≡ stop.Spent → l.out.count ≤ l.out.budget → StepsTo w a 0 l (record l.out { image = l.out.image; count = l.out.count + 0; stop = stop.Spent })
none_made w a l h s b =
    let n : l.out.count ≡ l.out.count + 0 = omega arith in
    record {
      accepted = tt;
      after = ap (λ c. let x : World = record w { cpus = c } in x) (sym (set-own w.cpus a None (Some l) h))
          ∙ ap (λ (k : ℕ). with_held w a (Some (with_out l l.out.image k l.out.stop))) n
          ∙ ap (λ (t : Stop). with_held w a (Some (with_out l l.out.image (l.out.count + 0) t))) s;
      count = refl;
      within = omega (arith, b);
      budget = refl;
    }

-- one step, which stops
one_made : (w : World) (a : ℕ) (l : HeldProcess) (o : Outcome) (m : Image) → held_by w a ≡ Some l → l.out.stop ≡ stop.Spent → l.out.count < l.out.budget → one_step l.out.image ≡ (o, m)
    → StepsTo w a 1 l (record l.out { image = m; count = l.out.count + 1; stop = stop_of_outcome o })
one_made w a l o m h s b e = record { accepted = (step-accepted w a l h s b, tt); after = step-after w a l o m h e; count = refl; within = omega (arith, b); budget = refl }

-- a step that goes on, and then others
more_made : (w : World) (a n : ℕ) (l : HeldProcess) (m i : Image) (t : Stop) → held_by w a ≡ Some l → l.out.stop ≡ stop.Spent → l.out.count < l.out.budget → one_step l.out.image ≡ (Go, m)
    → ((v : World) → held_by v a ≡ Some (with_out l m (l.out.count + 1) stop.Spent) → StepsTo v a n (with_out l m (l.out.count + 1) stop.Spent) (record l.out { image = i; count = l.out.count + 1 + n; stop = t }))
    → StepsTo w a (1 + n) l (record l.out { image = i; count = l.out.count + (1 + n); stop = t })
more_made w a n l m i t h s b e rest =
    let x : HeldProcess = with_out l m (l.out.count + 1) stop.Spent in
    let v : World = with_held w a (Some x) in
    let first : world_after_event w a Step ≡ v = step-after w a l Go m h e in
    let r = rest v (get_or-set_same w.cpus a (Some x) None (holds_in w.cpus a l h)) in
    let k : l.out.count + 1 + n ≡ l.out.count + (1 + n) = omega arith in
    let q : suc n ≡ 1 + n = omega arith in
    subst (λ (j : ℕ). StepsTo w a j l (record l.out { image = i; count = l.out.count + (1 + n); stop = t })) q (record {
      accepted = (step-accepted w a l h s b, subst (λ (u : World). AreAccepted u (steps_of a n)) (sym first) r.accepted);
      after = ap (λ (u : World). world_after_events u (steps_of a n)) first ∙ r.after
          ∙ ap (λ c. let u : World = record w { cpus = c } in u) (set_twice w.cpus a (Some x) (Some (with_out l i (l.out.count + 1 + n) t)))
          ∙ ap (λ (j : ℕ). with_held w a (Some (with_out l i j t))) k;
      count = let z : l.out.count + (1 + n) ≡ l.out.count + suc n = omega arith in z;
      within = omega (arith, r.within);
      budget = refl;
    })

-- ---- a run

-- what a run leaves
abbrev left_by : Out → RunEnd → Out
left_by o r = record o { image = r.image; count = o.count + r.count; stop = r.stop }

-- what is to be shown of n steps
abbrev Made : ℕ → Type 0
Made n = (w : World) (a : ℕ) (l : HeldProcess) → held_by w a ≡ Some l → l.out.stop ≡ stop.Spent → l.out.count + n ≤ l.out.budget → StepsTo w a (run_of n l.out.image).count l (left_by l.out (run_of n l.out.image))

went_made : (n : ℕ) → Made n → (w : World) (a : ℕ) (l : HeldProcess) (o : Outcome) (m : Image) → held_by w a ≡ Some l → l.out.stop ≡ stop.Spent → l.out.count + suc n ≤ l.out.budget → one_step l.out.image ≡ (o, m)
    → StepsTo w a (run_end_from (run_of n) (o, m)).count l (left_by l.out (run_end_from (run_of n) (o, m)))
went_made n again w a l Go m h s b e = more_made w a (run_of n m).count l m (run_of n m).image (run_of n m).stop h s (omega (arith, b)) e
    (λ v g. again v a (with_out l m (l.out.count + 1) stop.Spent) g refl (omega (arith, b)))
went_made n again w a l Trap m h s b e = one_made w a l Trap m h s (omega (arith, b)) e
went_made n again w a l (Fault v) m h s b e = one_made w a l (Fault v) m h s (omega (arith, b)) e

run_made : (n : ℕ) → Made n
run_made zero w a l h s b = none_made w a l h s (omega (arith, b))
run_made (suc n) w a l h s b = went_made n (run_made n) w a l (one_step l.out.image).0 (one_step l.out.image).1 h s b refl

by_stop : (k : ℕ) (o : Out) (s : Stop) → o.stop ≡ s → held_run k o ≡ run_by_stop s k o
unfolding held_run
by_stop k o s e = ap (λ (x : Stop). run_by_stop x k o) e

-- no step after a stop
held_made : (w : World) (a k : ℕ) (l : HeldProcess) (s : Stop) → l.out.stop ≡ s → held_by w a ≡ Some l → l.out.count ≤ l.out.budget → StepsTo w a (run_by_stop s k l.out).0.0 l (run_by_stop s k l.out).1
held_made w a k l stop.Spent e h b = run_made (min k (l.out.budget - l.out.count)) w a l h e (omega (arith, b))
held_made w a k l stop.Trap e h b = record { accepted = tt; after = ap (λ c. let x : World = record w { cpus = c } in x) (sym (set-own w.cpus a None (Some l) h)); count = let z : l.out.count ≡ l.out.count + 0 = omega arith in z; within = b; budget = refl }
held_made w a k l (stop.Fault v) e h b = record { accepted = tt; after = ap (λ c. let x : World = record w { cpus = c } in x) (sym (set-own w.cpus a None (Some l) h)); count = let z : l.out.count ≡ l.out.count + 0 = omega arith in z; within = b; budget = refl }

pub held-steps : (w : World) (a k : ℕ) (l : HeldProcess) → held_by w a ≡ Some l → l.out.count ≤ l.out.budget → StepsTo w a (held_run k l.out).0.0 l (held_run k l.out).1
held-steps w a k l h b = subst (λ (x : (ℕ × Stop) × Out). StepsTo w a x.0.0 l x.1) (sym (by_stop k l.out l.out.stop refl)) (held_made w a k l l.out.stop refl h b)
