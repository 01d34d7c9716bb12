-- What was lent, and what a run has made of it.
use Rattle.std.proofs.Common.{◌≡◌, ◌∙◌, ◌≤◌, ℕ, zero, suc, ◌+◌, ◌-◌, min, refl, sym, ap, arith}
use Rattle.mx_image.specs.Lasting.{lasting}
use Rattle.mx_image.specs.Image.{Image}
use Rattle.mx_image.specs.Outcome.{Outcome}
use Rattle.mx_image.specs.Outcome.TheVariants.{Go, Trap, Fault}
use Rattle.mx_image.specs.Step.{one_step}
use Rattle.mx_image.specs.Run.{run_of, run_end_from, run_end_after}
use Rattle.mx_image.specs.declared.runs.Stop.{Stop}
use Rattle.mx_image.specs.declared.runs.Stop.TheVariants as stop
use Rattle.mx_image.proofs.RunLemmas.{run_lasts}
use Rattle.mx_machine.specs.declared.holding.Out.{Out}
use Rattle.mx_machine.specs.Held.{IsBack, IsRunOf, out_after_run, held_run, run_by_stop}
use Rattle.mx_machine.proofs.WorldRunLemmas.{ran_count}
use Rattle.mx_machine.proofs.JoinLemmas.{held_runs_join}

-- ---- counts

-- that many steps as a run made are that run
went_again : (k : ℕ) (x : Outcome × Image) → ((m : Image) → run_of (run_of k m).count m ≡ run_of k m) → (n : ℕ) → suc n ≡ (run_end_from (run_of k) x).count → run_end_from (run_of n) x ≡ run_end_from (run_of k) x
went_again k (Go, m) f n e = let i : n ≡ (run_of k m).count = omega arith in ap (run_end_after 1) (ap (λ j. run_of j m) i ∙ f m)
went_again k (Trap, m) f n e = refl
went_again k (Fault v, m) f n e = refl

some_steps : (k : ℕ) (x : Outcome × Image) → (n : ℕ) × (suc n ≡ (run_end_from (run_of k) x).count)
some_steps k (Go, m) = ((run_of k m).count, omega arith)
some_steps k (Trap, m) = (0, omega arith)
some_steps k (Fault v, m) = (0, omega arith)

ran_again : (k : ℕ) (m : Image) → run_of (run_of k m).count m ≡ run_of k m
ran_again zero m = refl
ran_again (suc k) m = let n = some_steps k (one_step m) in ap (λ j. run_of j m) (sym n.1) ∙ went_again k (one_step m) (ran_again k) n.0 n.1

again_by : (s : Stop) (j : ℕ) (o : Out) → (run_by_stop s (run_by_stop s j o).0.0 o).1 ≡ (run_by_stop s j o).1
again_by stop.Spent j o =
    let left = o.budget - o.count in
    let n = (run_of (min j left) o.image).count in
    let few : min n left ≡ n = omega (arith, ran_count (min j left) o.image) in
    ap (λ i. (out_after_run o (run_of i o.image)).1) few ∙ ap (λ r. (out_after_run o r).1) (ran_again (min j left) o.image)
again_by stop.Trap j o = refl
again_by (stop.Fault v) j o = refl

again : (j : ℕ) (o : Out) → (held_run (held_run j o).0.0 o).1 ≡ (held_run j o).1
unfolding held_run
again j o = again_by o.stop j o

-- What a run does to the numbers.
record Counts (o : Out) (j n : ℕ) (p : Out) : Type 0 where
  count : p.count ≡ o.count + n
  budget : p.budget ≡ o.budget
  few : n ≤ o.budget - o.count

counts_by : (s : Stop) (j : ℕ) (o : Out) → Counts o j (run_by_stop s j o).0.0 (run_by_stop s j o).1
counts_by stop.Spent j o = record { count = refl; budget = refl; few = omega (arith, ran_count (min j (o.budget - o.count)) o.image) }
counts_by stop.Trap j o = record { count = omega arith; budget = refl; few = omega arith }
counts_by (stop.Fault v) j o = record { count = omega arith; budget = refl; few = omega arith }

run_counts : (j : ℕ) (o : Out) → Counts o j (held_run j o).0.0 (held_run j o).1
unfolding held_run
run_counts j o = counts_by o.stop j o

-- ---- what is left of what was lent

-- a run leaves its budget
pub run_budget : (lent o : Out) → IsRunOf lent o → o.budget ≡ lent.budget
run_budget lent o h = ap (λ (x : Out). x.budget) (sym h.back.run) ∙ (run_counts o.count lent).budget

-- a run more
pub run_more : (lent o p : Out) (j : ℕ) → IsRunOf lent o → p ≡ (held_run j o).1 → IsRunOf lent p
run_more lent o p j h is =
    let n = (held_run j o).0.0 in
    let c = run_counts j o in
    let count : p.count ≡ o.count + n = ap (λ (x : Out). x.count) is ∙ c.count in
    let budget : p.budget ≡ o.budget = ap (λ (x : Out). x.budget) is ∙ c.budget in
    record {
      back = record { run = ap (λ i. (held_run i lent).1) count ∙ ap (λ r. r.1) (held_runs_join o.count n lent) ∙ ap (λ x. (held_run n x).1) h.back.run ∙ again j o ∙ sym is };
      within = let w : o.count ≤ o.budget = h.within in omega (arith, c.few);
    }

none_by : (s : Stop) (o : Out) → o.stop ≡ s → s ≡ stop.Spent → (run_by_stop s 0 o).1 ≡ o
none_by stop.Spent o h e =
    let none : min 0 (o.budget - o.count) ≡ 0 = omega arith in
    let same : o.count + 0 ≡ o.count = omega arith in
    ap (λ i. (out_after_run o (run_of i o.image)).1) none
    ∙ ap (λ n. let x : Out = record o { count = n; stop = stop.Spent } in x) same
    ∙ ap (λ (s : Stop). let x : Out = record o { stop = s } in x) (sym h)
none_by stop.Trap o h e = cc
none_by (stop.Fault v) o h e = cc

-- what was lent just now
pub run_none : (lent out : Out) → lent ≡ out → lent.count ≡ 0 → lent.stop ≡ stop.Spent → IsRunOf lent out
unfolding held_run
run_none lent out e zero_count spent =
    let count : out.count ≡ 0 = ap (λ (x : Out). x.count) (sym e) ∙ zero_count in
    record {
      back = record { run = ap (λ i. (held_run i lent).1) count ∙ none_by lent.stop lent refl spent ∙ e };
      within = omega (arith, count);
    }

-- ---- what no step changes

lasts_by : (s : Stop) (k : ℕ) (o : Out) → lasting (run_by_stop s k o).1.image ≡ lasting o.image
lasts_by stop.Spent k o = run_lasts (min k (o.budget - o.count)) o.image
lasts_by stop.Trap k o = refl
lasts_by (stop.Fault v) k o = refl

held_lasts : (k : ℕ) (o : Out) → lasting (held_run k o).1.image ≡ lasting o.image
unfolding held_run
held_lasts k o = lasts_by o.stop k o

-- what comes back has it as it was
pub back_lasts : (lent out : Out) → IsBack lent out → lasting out.image ≡ lasting lent.image
back_lasts lent out h = ap (λ (x : Out). lasting x.image) (sym h.run) ∙ held_lasts out.count lent
