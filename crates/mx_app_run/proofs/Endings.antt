-- What the endings of a run mean.
use Rattle.std.proofs.Common.{◌≡◌, ◌&&◌, ℕ, Bool, true, false, List, [], ◌∷◌, refl, sym, subst, if◌then◌else◌}
use Rattle.mx_machine.specs.History.{BootAndHistory}
use Rattle.mx_machine.specs.World.{World}
use Rattle.mx_cpus.specs.declared.outside.OutsideCall.{OutsideCall}
use Rattle.mx_cpus.specs.Gates.{GateCall}
use Rattle.mx_cpus.specs.Seats.{SeatView}
use Rattle.mx_cpus.specs.Outsiders.{AreEach, AreWholeWith, IsWholeIf, role_of}
use Rattle.mx_app_run.specs.declared.run_by_threads.RunEnding.{RunEnding}
use Rattle.mx_app_run.specs.declared.run_by_threads.RunEnding.TheVariants.{Full, Rest, Stopped}
use Rattle.mx_app_run.specs.Run.{has_rested, is_full, run_ending}

both_left : (a b : Bool) → true ≡ (a && b) → a ≡ true
both_left true b e = refl
both_left false b e = sym e

both_right : (a b : Bool) → true ≡ (a && b) → b ≡ true
both_right true b e = sym e
both_right false b e = let no : true ≡ false = e in absurd cc

-- if all is whole, each loop is: of the outsider, each call was made
pub each_whole : (boot : World) (WasCalled : GateCall → Type 0) (cpus : ℕ) (xs : List OutsideCall) (ss ts : List SeatView) → AreWholeWith boot WasCalled cpus xs ss ts true
    → AreEach (λ s t. IsWholeIf (role_of s.actor cpus xs) boot WasCalled xs s t true) ss ts
each_whole boot WasCalled cpus xs [] [] p = tt
each_whole boot WasCalled cpus xs (s ∷ ss) (t ∷ ts) p = (
  subst (λ b. IsWholeIf (role_of s.actor cpus xs) boot WasCalled xs s t b) (both_left p.0 p.1 p.2) p.3,
  each_whole boot WasCalled cpus xs ss ts (subst (λ b. AreWholeWith boot WasCalled cpus xs ss ts b) (both_right p.0 p.1 p.2) p.4),
)
each_whole boot WasCalled cpus xs [] (t ∷ ts) p = absurd p
each_whole boot WasCalled cpus xs (s ∷ ss) [] p = absurd p

by_cases : (w r f : Bool) → (if w && r then Rest else if f then Full else Stopped) ≡ Rest → (w ≡ true) × (r ≡ true)
by_cases true true f e = (refl, refl)
by_cases true false true e = let no : Full ≡ Rest = e in absurd cc
by_cases true false false e = let no : Stopped ≡ Rest = e in absurd cc
by_cases false r true e = let no : Full ≡ Rest = e in absurd cc
by_cases false r false e = let no : Stopped ≡ Rest = e in absurd cc

full_by_cases : (w r f : Bool) → (if w && r then Rest else if f then Full else Stopped) ≡ Full → f ≡ true
full_by_cases true true f e = let no : Rest ≡ Full = e in absurd cc
full_by_cases w r true e = refl
full_by_cases true false false e = let no : Stopped ≡ Full = e in absurd cc
full_by_cases false r false e = let no : Stopped ≡ Full = e in absurd cc

pub rest_means : (log ticks : ℕ) (xs : List OutsideCall) (whole : Bool) (k : BootAndHistory) → run_ending log ticks xs whole k ≡ Rest → (whole ≡ true) × (has_rested ticks xs k ≡ true)
rest_means log ticks xs whole k e = by_cases whole (has_rested ticks xs k) (is_full log k) e

pub full_means : (log ticks : ℕ) (xs : List OutsideCall) (whole : Bool) (k : BootAndHistory) → run_ending log ticks xs whole k ≡ Full → is_full log k ≡ true
full_means log ticks xs whole k e = full_by_cases whole (has_rested ticks xs k) (is_full log k) e
