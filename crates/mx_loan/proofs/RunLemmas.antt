-- What a loan was lent, and what has become of it.
use Rattle.std.proofs.Common.{◌≡◌, ◌∙◌, ◌+◌, ◌-◌, ℕ, refl, sym, ap, arith, min}
use Rattle.mx_image.specs.Run.{run_of}
use Rattle.mx_machine.specs.Stop.{Stop}
use Rattle.mx_machine.specs.Stop.TheVariants.{Spent}
use Rattle.mx_machine.specs.declared.holding.Out.{Out}
use Rattle.mx_machine.specs.Held.{IsRunOf, held_run, out_after_run, run_by_stop}
use Rattle.mx_machine.proofs.LentLemmas.{run_none}
use Rattle.mx_loan.specs.Seats.{HasMadeNoStep, IsAdvanced}

-- it is a run of no steps
pub run_of_nothing : (o : Out) → o.count ≡ 0 → o.stop ≡ Spent → IsRunOf o o
run_of_nothing o none spent = run_none o o refl none spent

-- a run of what had made no step is a run of its image
ran : (lent : Out) (k : ℕ) → lent.stop ≡ Spent → (held_run k lent).1 ≡ (out_after_run lent (run_of (min k (lent.budget - lent.count)) lent.image)).1
unfolding held_run
ran lent k spent = ap (λ (s : Stop). (run_by_stop s k lent).1) spent

pub advanced : (lent out : Out) → IsRunOf lent out → HasMadeNoStep lent → IsAdvanced lent out
advanced lent out run fresh =
    let m = min out.count (lent.budget - lent.count) in
    let is : out ≡ (out_after_run lent (run_of m lent.image)).1 = sym run.back.run ∙ ran lent out.count fresh.1 in
    let budget : out.budget ≡ lent.budget = ap (λ (o : Out). o.budget) is in
    let all : m ≡ out.count = omega (arith, run.within, budget, fresh.0) in
    let here : out ≡ (out_after_run lent (run_of out.count lent.image)).1 = is ∙ ap (λ i. (out_after_run lent (run_of i lent.image)).1) all in
    let count : out.count ≡ lent.count + (run_of out.count lent.image).count = ap (λ (o : Out). o.count) here in
    record {
      image = ap (λ (o : Out). o.image) here;
      count = omega (arith, count, fresh.0);
      stop = ap (λ (o : Out). o.stop) here;
    }
