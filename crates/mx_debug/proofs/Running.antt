-- What a run of what is held makes.
use Rattle.std.proofs.Common.{◌≡◌, ◌∙◌, ℕ, zero, suc, ◌+◌, ◌-◌, ◌<◌, ◌≤◌, ◌⊎◌, inl, inr, Bool, true, false, min, refl, ap, sym, subst, arith}
use Rattle.std.specs.Prelude.{nat_le, ◌||◌}
use Rattle.std.proofs.lemmas.Bool.{cases_lt}
use Rattle.std.proofs.lemmas.Bool.Decides.{leb_tells}
use Rattle.mx_exec.specs.declared.image.Image.{Image}
use Rattle.mx_exec.specs.declared.image.Outcome.{Outcome}
use Rattle.mx_exec.specs.declared.image.Outcome.TheVariants.{Go, Trap, Fault}
use Rattle.mx_exec.specs.Step.{one_step}
use Rattle.mx_image.specs.declared.runs.Stop.{Stop}
use Rattle.mx_image.specs.declared.runs.Stop.TheVariants as stop
use Rattle.mx_image.specs.Run.{run_of, RunEnd, run_end_from}
use Rattle.mx_machine.specs.declared.holding.Out.{Out}
use Rattle.mx_machine.specs.Held.{held_run, then_held, run_by_stop, out_after_run}
use Rattle.mx_machine.proofs.JoinLemmas.{held_runs_join}
use Rattle.mx_debug.specs.Halts.{held_after, has_stopped, is_over}

-- ---- an image's run

went_count : (k : ℕ) (o : Outcome) (m : Image) → ((m : Image) → (run_of k m).count ≤ k) → (run_end_from (run_of k) (o, m)).count ≤ suc k
went_count k Go m f = let h = f m in omega arith
went_count k Trap m f = omega arith
went_count k (Fault v) m f = omega arith

ran_count : (k : ℕ) (m : Image) → (run_of k m).count ≤ k
ran_count zero m = omega arith
ran_count (suc k) m = went_count k (one_step m).0 (one_step m).1 (ran_count k)

went_spent : (k : ℕ) (o : Outcome) (m : Image) → ((m : Image) → (run_of k m).stop ≡ stop.Spent → (run_of k m).count ≡ k) → (run_end_from (run_of k) (o, m)).stop ≡ stop.Spent → (run_end_from (run_of k) (o, m)).count ≡ suc k
went_spent k Go m f e = let h = f m e in omega arith
went_spent k Trap m f e = cc
went_spent k (Fault v) m f e = cc

ran_spent : (k : ℕ) (m : Image) → (run_of k m).stop ≡ stop.Spent → (run_of k m).count ≡ k
ran_spent zero m e = refl
ran_spent (suc k) m e = went_spent k (one_step m).0 (one_step m).1 (ran_spent k) e

went_none : (k : ℕ) (o : Outcome) (m : Image) → (run_end_from (run_of k) (o, m)).count ≡ 0 → ⊥
went_none k Go m e = omega (arith, e)
went_none k Trap m e = omega (arith, e)
went_none k (Fault v) m e = omega (arith, e)

-- a run that makes no step may make none
ran_none : (k : ℕ) (m : Image) → (run_of k m).count ≡ 0 → k ≡ 0
ran_none zero m e = refl
ran_none (suc k) m e = absurd (went_none k (one_step m).0 (one_step m).1 e)

-- ---- a run of what is held

by_stop : (k : ℕ) (o : Out) (s : Stop) → o.stop ≡ s → held_run k o ≡ run_by_stop s k o
unfolding held_run
by_stop k o s e = ap (λ (x : Stop). run_by_stop x k o) e

count_by : (k : ℕ) (o : Out) (s : Stop) → o.stop ≡ s → (held_run k o).0.0 ≤ k
count_by k o stop.Spent e = let f = ap (λ (x : (ℕ × Stop) × Out). x.0.0) (by_stop k o stop.Spent e) in let n = ran_count (min k (o.budget - o.count)) o.image in omega (arith, f)
count_by k o stop.Trap e = let f = ap (λ (x : (ℕ × Stop) × Out). x.0.0) (by_stop k o stop.Trap e) in omega (arith, f)
count_by k o (stop.Fault v) e = let f = ap (λ (x : (ℕ × Stop) × Out). x.0.0) (by_stop k o (stop.Fault v) e) in omega (arith, f)

-- no more steps than it may make
pub run_count : (k : ℕ) (o : Out) → (held_run k o).0.0 ≤ k
run_count k o = count_by k o o.stop refl

stop_by : (k : ℕ) (o : Out) (s : Stop) → o.stop ≡ s → (held_run k o).0.1 ≡ (held_run k o).1.stop
stop_by k o stop.Spent e = let f = by_stop k o stop.Spent e in ap (λ (x : (ℕ × Stop) × Out). x.0.1) f ∙ sym (ap (λ (x : (ℕ × Stop) × Out). x.1.stop) f)
stop_by k o stop.Trap e = let f = by_stop k o stop.Trap e in ap (λ (x : (ℕ × Stop) × Out). x.0.1) f ∙ sym e ∙ sym (ap (λ (x : (ℕ × Stop) × Out). x.1.stop) f)
stop_by k o (stop.Fault v) e = let f = by_stop k o (stop.Fault v) e in ap (λ (x : (ℕ × Stop) × Out). x.0.1) f ∙ sym e ∙ sym (ap (λ (x : (ℕ × Stop) × Out). x.1.stop) f)

-- the stop that it answers is the one that is left
pub run_stop : (k : ℕ) (o : Out) → (held_run k o).0.1 ≡ (held_run k o).1.stop
run_stop k o = stop_by k o o.stop refl

or_true : (a b : Bool) → a ≡ true → (a || b) ≡ true
or_true a b e = ap (λ (x : Bool). x || b) e

or_true_right : (a b : Bool) → b ≡ true → (a || b) ≡ true
or_true_right true b e = refl
or_true_right false b e = e

stopped_is_over : (o : Out) → has_stopped o.stop ≡ true → is_over o ≡ true
stopped_is_over o e = or_true (has_stopped o.stop) (nat_le o.budget o.count) e

spent_is_over : (o : Out) → o.budget ≤ o.count → is_over o ≡ true
spent_is_over o e = or_true_right (has_stopped o.stop) (nat_le o.budget o.count) (by_case (leb_tells o.budget o.count))
  where
    by_case : ((nat_le o.budget o.count ≡ true) × (o.budget ≤ o.count)) ⊎ ((nat_le o.budget o.count ≡ false) × (o.count < o.budget)) → nat_le o.budget o.count ≡ true
    by_case (inl p) = p.0
    by_case (inr p) = absurd (omega (arith, p.1))

left_by : (k : ℕ) (o : Out) (r : RunEnd) (s : Stop) → r.stop ≡ s → (s ≡ stop.Spent → r.count ≡ min k (o.budget - o.count)) → (r.count ≡ k) ⊎ (is_over (out_after_run o r).1 ≡ true)
left_by k o r stop.Trap e n = inr (stopped_is_over (out_after_run o r).1 (ap has_stopped e))
left_by k o r (stop.Fault v) e n = inr (stopped_is_over (out_after_run o r).1 (ap has_stopped e))
left_by k o r stop.Spent e n = by_order (cases_lt (o.budget - o.count) k)
  where
    by_order : (o.budget - o.count < k) ⊎ (k ≤ o.budget - o.count) → (r.count ≡ k) ⊎ (is_over (out_after_run o r).1 ≡ true)
    by_order (inl l) = let c : r.count ≡ min k (o.budget - o.count) = n refl in inr (spent_is_over (out_after_run o r).1 (omega (arith, c)))
    by_order (inr l) = let c : r.count ≡ min k (o.budget - o.count) = n refl in inl (omega (arith, c))

all_by : (k : ℕ) (o : Out) (s : Stop) → o.stop ≡ s → ((held_run k o).0.0 ≡ k) ⊎ (is_over (held_after k o) ≡ true)
all_by k o stop.Spent e =
    let r = run_of (min k (o.budget - o.count)) o.image in
    subst (λ (x : (ℕ × Stop) × Out). (x.0.0 ≡ k) ⊎ (is_over x.1 ≡ true)) (sym (by_stop k o stop.Spent e)) (left_by k o r r.stop refl (ran_spent (min k (o.budget - o.count)) o.image))
all_by k o stop.Trap e = inr (subst (λ (x : (ℕ × Stop) × Out). is_over x.1 ≡ true) (sym (by_stop k o stop.Trap e)) (stopped_is_over o (ap has_stopped e)))
all_by k o (stop.Fault v) e = inr (subst (λ (x : (ℕ × Stop) × Out). is_over x.1 ≡ true) (sym (by_stop k o (stop.Fault v) e)) (stopped_is_over o (ap has_stopped e)))

-- all steps that it may make, or no further one can be made
pub run_all : (k : ℕ) (o : Out) → ((held_run k o).0.0 ≡ k) ⊎ (is_over (held_after k o) ≡ true)
run_all k o = all_by k o o.stop refl

or_left : (a b : Bool) → a ≡ false → (a || b) ≡ true → b ≡ true
or_left a b e h = sym (ap (λ (x : Bool). x || b) e) ∙ h

over_by : (k : ℕ) (o : Out) (s : Stop) → o.stop ≡ s → is_over o ≡ true → (held_run k o).0.0 ≡ 0
over_by k o stop.Trap e h = ap (λ (x : (ℕ × Stop) × Out). x.0.0) (by_stop k o stop.Trap e)
over_by k o (stop.Fault v) e h = ap (λ (x : (ℕ × Stop) × Out). x.0.0) (by_stop k o (stop.Fault v) e)
over_by k o stop.Spent e h =
    let t : nat_le o.budget o.count ≡ true = or_left (has_stopped o.stop) (nat_le o.budget o.count) (ap has_stopped e) h in
    let l : o.budget ≤ o.count = by_case (leb_tells o.budget o.count) t in
    let n = ran_count (min k (o.budget - o.count)) o.image in
    let f = ap (λ (x : (ℕ × Stop) × Out). x.0.0) (by_stop k o stop.Spent e) in
    omega (arith, f, n, l)
  where
    by_case : ((nat_le o.budget o.count ≡ true) × (o.budget ≤ o.count)) ⊎ ((nat_le o.budget o.count ≡ false) × (o.count < o.budget)) → nat_le o.budget o.count ≡ true → o.budget ≤ o.count
    by_case (inl p) t = p.1
    by_case (inr p) t = let f : true ≡ false = sym t ∙ p.0 in cc

-- where no further step can be made, none is
pub over_none : (k : ℕ) (o : Out) → is_over o ≡ true → (held_run k o).0.0 ≡ 0
over_none k o h = over_by k o o.stop refl h

same_out : (o : Out) (n : ℕ) → n ≡ 0 → o.stop ≡ stop.Spent → (out_after_run o (run_of n o.image)).1 ≡ o
same_out o zero e h = let n : o.count + 0 ≡ o.count = omega arith in
    ap (λ (k : ℕ). let z : Out = record o { image = o.image; count = k; stop = stop.Spent } in z) n ∙ ap (λ (s : Stop). let z : Out = record o { stop = s } in z) (sym h)
same_out o (suc n) e h = absurd (omega (arith, e))

none_by : (k : ℕ) (o : Out) (s : Stop) → o.stop ≡ s → (held_run k o).0.0 ≡ 0 → held_after k o ≡ o
none_by k o stop.Trap e h = ap (λ (x : (ℕ × Stop) × Out). x.1) (by_stop k o stop.Trap e)
none_by k o (stop.Fault v) e h = ap (λ (x : (ℕ × Stop) × Out). x.1) (by_stop k o (stop.Fault v) e)
none_by k o stop.Spent e h =
    let n = min k (o.budget - o.count) in
    let f = by_stop k o stop.Spent e in
    let c : (run_of n o.image).count ≡ 0 = sym (ap (λ (x : (ℕ × Stop) × Out). x.0.0) f) ∙ h in
    ap (λ (x : (ℕ × Stop) × Out). x.1) f ∙ same_out o n (ran_none n o.image c) e

-- a run that makes no step changes nothing
pub none_same : (k : ℕ) (o : Out) → (held_run k o).0.0 ≡ 0 → held_after k o ≡ o
none_same k o h = none_by k o o.stop refl h

-- ---- a run's front

-- before its last step more can be made
pub before_over : (k i : ℕ) (o : Out) → i < (held_run k o).0.0 → is_over (held_after i o) ≡ true → ⊥
before_over k i o less over =
    let c : (held_run k o).0.0 ≤ k = run_count k o in
    let n : k ≡ i + (k - i) = omega arith in
    let j : held_run k o ≡ then_held (held_run i o) (k - i) = ap (λ (x : ℕ). held_run x o) n ∙ held_runs_join i (k - i) o in
    let d : (held_run k o).0.0 ≡ (held_run i o).0.0 + (held_run (k - i) (held_after i o)).0.0 = ap (λ (x : (ℕ × Stop) × Out). x.0.0) j in
    let e : (held_run (k - i) (held_after i o)).0.0 ≡ 0 = over_none (k - i) (held_after i o) over in
    let f : (held_run i o).0.0 ≤ i = run_count i o in
    omega (arith, d, e, f, less)

-- a run of as many steps as were made is the same
pub record IsFront (n : ℕ) (o left : Out) : Type 0 where
  pub made : (held_run n o).0.0 ≡ n
  pub left_is : held_after n o ≡ left

pub run_front : (k : ℕ) (o : Out) → IsFront (held_run k o).0.0 o (held_after k o)
run_front k o = by_all (run_all n o)
  where
    n : ℕ
    n = (held_run k o).0.0

    within : n ≤ k
    within = run_count k o

    joined : held_run k o ≡ then_held (held_run n o) (k - n)
    joined = let e : k ≡ n + (k - n) = omega (arith, within) in ap (λ (x : ℕ). held_run x o) e ∙ held_runs_join n (k - n) o

    sum : n ≡ (held_run n o).0.0 + (held_run (k - n) (held_after n o)).0.0
    sum = ap (λ (x : (ℕ × Stop) × Out). x.0.0) joined

    rest : held_after k o ≡ held_after (k - n) (held_after n o)
    rest = ap (λ (x : (ℕ × Stop) × Out). x.1) joined

    by_none : (held_run (k - n) (held_after n o)).0.0 ≡ 0 → IsFront n o (held_after k o)
    by_none e = record { made = omega (arith, sum, e); left_is = sym (rest ∙ none_same (k - n) (held_after n o) e) }

    by_all : ((held_run n o).0.0 ≡ n) ⊎ (is_over (held_after n o) ≡ true) → IsFront n o (held_after k o)
    by_all (inl e) = by_none (omega (arith, sum, e))
    by_all (inr e) = by_none (over_none (k - n) (held_after n o) e)
