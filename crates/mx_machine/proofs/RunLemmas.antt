-- Runs of what a processor holds.
use Rattle.std.proofs.Common.{◌≡◌, ◌≢◌, ◌∙◌, ◌<◌, ℕ, ◌-◌, ◌||◌, nat_le, min, false, List, length, Option, None, slice_set, get_or, inl, inr, refl, sym, ap, subst, arith}
use Rattle.std.proofs.lemmas.Bool.{cases_eq, cases_lt, le-leb}
use Rattle.std.proofs.lemmas.List.{get_or-set_other, get_or-set_same}
use Rattle.mx_exec.specs.declared.image.Image.{Image}
use Rattle.mx_exec.specs.declared.image.Outcome.{Outcome}
use Rattle.mx_exec.specs.declared.image.Outcome.TheVariants.{Go, Trap, Fault}
use Rattle.mx_exec.specs.Step.{one_step}
use Rattle.mx_machine.specs.Run.{run_of, run_end_from}
use Rattle.mx_machine.specs.Stop.{Stop}
use Rattle.mx_machine.specs.Stop.TheVariants as stop
use Rattle.mx_machine.specs.declared.holding.Out.{Out}
use Rattle.mx_machine.specs.Held.{out_after_run, out_after_outcome, held_run, run_by_stop, out_after_step}
use Rattle.mx_machine.specs.Move.{at_stop, is_stop}
use Rattle.mx_machine.specs.World.{HeldProcess}
use Rattle.mx_machine.specs.Machine.{IsHeld}

-- ---- a step

one_went : (o : Out) (x : Outcome × Image) → (out_after_run o (run_end_from (run_of 0) x)).1 ≡ out_after_outcome o x
one_went o (Go, m) = refl
one_went o (Trap, m) = refl
one_went o (Fault v, m) = refl

one_by : (s : Stop) (o : Out) → (is_stop s || nat_le o.budget o.count) ≡ false → (run_by_stop s 1 o).1 ≡ out_after_outcome o (one_step o.image)
one_by stop.Spent o h =
    let left : min 1 (o.budget - o.count) ≡ 1 = elim (cases_lt o.count o.budget) [
      | inl lt ↦ omega arith
      | inr ge ↦ let y = le-leb o.budget o.count ge in cc
    ] in
    ap (λ i. (out_after_run o (run_of i o.image)).1) left ∙ one_went o (one_step o.image)
one_by stop.Trap o h = cc
one_by (stop.Fault v) o h = cc

-- a step is a run of one step
pub stepped-run : (o : Out) → at_stop o ≡ false → out_after_step o ≡ (held_run 1 o).1
unfolding held_run out_after_step
stepped-run o h = sym (one_by o.stop o h)

-- ---- what each processor holds

-- one place is another, and the others stay
pub held-set : (ls ms : List (Option HeldProcess)) (os : List (Option Out)) (a : ℕ) (y : Option Out) → a < length os → ((b : ℕ) → b ≢ a → get_or ms b None ≡ get_or ls b None) → IsHeld (get_or ms a None) y
    → ((b : ℕ) → IsHeld (get_or ls b None) (get_or os b None)) → (b : ℕ) → IsHeld (get_or ms b None) (get_or (slice_set os a y) b None)
held-set ls ms os a y below others here all b = elim (cases_eq b a) [
  | inl e ↦ subst (λ i. IsHeld (get_or ms i None) (get_or (slice_set os a y) i None)) (sym e) (subst (IsHeld (get_or ms a None)) (sym (get_or-set_same os a y None below)) here)
  | inr n ↦ subst (λ (x : Option HeldProcess). IsHeld x (get_or (slice_set os a y) b None)) (sym (others b n)) (subst (IsHeld (get_or ls b None)) (sym (get_or-set_other os a b y None n)) (all b))
]
