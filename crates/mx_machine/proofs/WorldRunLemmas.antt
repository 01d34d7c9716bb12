-- Runs, counted.
use Rattle.std.proofs.Common.{◌≡◌, ℕ, zero, suc, ◌+◌, ◌-◌, ◌≤◌, min, refl, arith}
use Rattle.mx_image.specs.Image.{Image}
use Rattle.mx_image.specs.Outcome.{Outcome}
use Rattle.mx_image.specs.Outcome.TheVariants.{Go, Trap, Fault}
use Rattle.mx_image.specs.Step.{one_step}
use Rattle.mx_image.specs.declared.runs.Stop.TheVariants as stop
use Rattle.mx_image.specs.Run.{run_of, run_end_from}

went_count : (k : ℕ) (o : Outcome) (m : Image) → ((m : Image) → (run_of k m).count ≤ k) → (run_end_from (run_of k) (o, m)).count ≤ suc k
went_count k Go m f = let h = f m in omega arith
went_count k Trap m f = omega arith
went_count k (Fault v) m f = omega arith

-- a run makes at most as many steps as it may
pub ran_count : (k : ℕ) (m : Image) → (run_of k m).count ≤ k
ran_count zero m = omega arith
ran_count (suc k) m = went_count k (one_step m).0 (one_step m).1 (ran_count k)

went_spent : (k : ℕ) (o : Outcome) (m : Image) → ((m : Image) → (run_of k m).stop ≡ stop.Spent → (run_of k m).count ≡ k) → (run_end_from (run_of k) (o, m)).stop ≡ stop.Spent → (run_end_from (run_of k) (o, m)).count ≡ suc k
went_spent k Go m f e = let h = f m e in omega arith
went_spent k Trap m f e = cc
went_spent k (Fault v) m f e = cc

-- and all of them where nothing stopped it
pub ran_spent : (k : ℕ) (m : Image) → (run_of k m).stop ≡ stop.Spent → (run_of k m).count ≡ k
ran_spent zero m e = refl
ran_spent (suc k) m e = went_spent k (one_step m).0 (one_step m).1 (ran_spent k) e

-- a run within a budget stays within it
pub ran_within : (k budget count : ℕ) (m : Image) → count ≤ budget → count + (run_of (min k (budget - count)) m).count ≤ budget
ran_within k budget count m h = let e = ran_count (min k (budget - count)) m in omega (arith, h)
