-- Runs of what is held, one after another.
use Rattle.std.proofs.Common.{◌≡◌, ◌∙◌, ℕ, ◌+◌, ◌-◌, min, refl, ap, sym, arith}
use Rattle.mx_image.specs.declared.runs.Stop.{Stop}
use Rattle.mx_image.specs.declared.runs.Stop.TheVariants as stop
use Rattle.mx_image.specs.Run.{run_of, RunEnd, run_end_after, on_with}
use Rattle.mx_image.proofs.Joining.{runs_join}
use Rattle.mx_machine.specs.declared.holding.Out.{Out}
use Rattle.mx_machine.specs.Held.{held_run, then_held, run_by_stop, out_after_run}
use Rattle.mx_machine.proofs.WorldRunLemmas.{ran_spent}

by_stop : (k : ℕ) (o : Out) (s : Stop) → o.stop ≡ s → held_run k o ≡ run_by_stop s k o
unfolding held_run
by_stop k o s e = ap (λ (x : Stop). run_by_stop x k o) e

-- after a stop nothing more is done
stopped : (a b : ℕ) (o : Out) (s : Stop) → ((k : ℕ) → held_run k o ≡ ((0, s), o)) → held_run (a + b) o ≡ then_held (held_run a o) b
stopped a b o s h = h (a + b)
    ∙ sym (ap (λ (x : (ℕ × Stop) × Out). then_held x b) (h a) ∙ ap (λ (y : (ℕ × Stop) × Out). let z : (ℕ × Stop) × Out = ((0 + y.0.0, y.0.1), y.1) in z) (h b))

-- a run that stopped stays so
ended : (o : Out) (r : RunEnd) (b : ℕ) (s : Stop) → held_run b (out_after_run o r).1 ≡ ((0, s), (out_after_run o r).1) → r.stop ≡ s → out_after_run o r ≡ then_held (out_after_run o r) b
ended o r b s h e =
    let n : r.count ≡ r.count + 0 = omega arith in
    sym (ap (λ (y : (ℕ × Stop) × Out). let z : (ℕ × Stop) × Out = ((r.count + y.0.0, y.0.1), y.1) in z) h
    ∙ ap (λ (k : ℕ). let z : (ℕ × Stop) × Out = ((k, s), (out_after_run o r).1) in z) (sym n)
    ∙ ap (λ (t : Stop). let z : (ℕ × Stop) × Out = ((r.count, t), (out_after_run o r).1) in z) (sym e))

-- a run that went on goes on
went_on : (o : Out) (r q : RunEnd) (b : ℕ) → held_run b (out_after_run o r).1 ≡ out_after_run (out_after_run o r).1 q → out_after_run o (run_end_after r.count q) ≡ then_held (out_after_run o r) b
went_on o r q b h =
    let n : o.count + (r.count + q.count) ≡ o.count + r.count + q.count = omega arith in
    ap (λ (k : ℕ). let z : (ℕ × Stop) × Out = ((r.count + q.count, q.stop), record o { image = q.image; count = k; stop = q.stop }) in z) n
    ∙ sym (ap (λ (y : (ℕ × Stop) × Out). let z : (ℕ × Stop) × Out = ((r.count + y.0.0, y.0.1), y.1) in z) h)

joined_by : (a b left : ℕ) (o : Out) (r : RunEnd) (s : Stop) → r.stop ≡ s → left ≡ o.budget - o.count → (s ≡ stop.Spent → r.count ≡ min a left) → out_after_run o (on_with s r (min (a + b) left - min a left)) ≡ then_held (out_after_run o r) b
joined_by a b left o r stop.Spent e l n =
    let c : r.count ≡ min a left = n refl in
    let m : min (a + b) left - min a left ≡ min b (o.budget - (o.count + r.count)) = omega (arith, c, l) in
    ap (λ (k : ℕ). out_after_run o (run_end_after r.count (run_of k r.image))) m
    ∙ went_on o r (run_of (min b (o.budget - (o.count + r.count))) r.image) b (by_stop b (out_after_run o r).1 stop.Spent e)
joined_by a b left o r stop.Trap e l n = ended o r b stop.Trap (by_stop b (out_after_run o r).1 stop.Trap e) e
joined_by a b left o r (stop.Fault v) e l n = ended o r b (stop.Fault v) (by_stop b (out_after_run o r).1 (stop.Fault v) e) e

joined : (a b : ℕ) (o : Out) (s : Stop) → o.stop ≡ s → held_run (a + b) o ≡ then_held (held_run a o) b
joined a b o stop.Trap e = stopped a b o stop.Trap (λ k. by_stop k o stop.Trap e)
joined a b o (stop.Fault v) e = stopped a b o (stop.Fault v) (λ k. by_stop k o (stop.Fault v) e)
joined a b o stop.Spent e =
    let left = o.budget - o.count in
    let r = run_of (min a left) o.image in
    let n : min (a + b) left ≡ min a left + (min (a + b) left - min a left) = omega arith in
    by_stop (a + b) o stop.Spent e
    ∙ ap (λ (k : ℕ). out_after_run o (run_of k o.image)) n
    ∙ ap (out_after_run o) (runs_join (min a left) (min (a + b) left - min a left) o.image)
    ∙ joined_by a b left o r r.stop refl refl (ran_spent (min a left) o.image)
    ∙ sym (ap (λ (x : (ℕ × Stop) × Out). then_held x b) (by_stop a o stop.Spent e))

-- A run of at most `a` steps, and after it a run of at most `b` steps, are together one run of at most `a + b`
-- steps. This holds for every process that a processor can hold.
pub held_runs_join : (a b : ℕ) (o : Out) → held_run (a + b) o ≡ then_held (held_run a o) b
held_runs_join a b o = joined a b o o.stop refl
