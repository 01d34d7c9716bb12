-- The line of a fault without its number and its end.
use Rattle.std.proofs.Common.{◌≡◌, ◌∙◌, ◌-◌, ◌<◌, ◌≤◌, ℕ, List, [], ◌++◌, Option, Some, None, length, take, ap, arith, length-append, refl, subst}
use Rattle.std.specs.Prelude.{codes, slice_range}
use Rattle.std.proofs.Math.Seq.{take-append_seam}
use Rattle.std.proofs.lemmas.Fmt.{decimal_digit}
use Rattle.mx_machine.specs.declared.history.Recorded.{Recorded}
use Rattle.mx_machine.specs.declared.history.Recorded.TheVariants.{Back}
use Rattle.mx_look.specs.FaultLines.{fault_line, fault_line_by, fault_text, faulted, faulted_if}
use Rattle.mx_look.specs.Numbers.{margin}
use Rattle.mx_look.specs.Transition.{fault_in}
use Rattle.mx_look.specs.declared.faults.FaultGlance.{FaultGlance}
use Rattle.mx_look.specs.declared.transition.Transition.{Transition}
use Rattle.mx_why.specs.Noting.{fault_at, fault_place, fault_place_by}

-- from the third byte on, but for the last one
place_in : (t : List ℕ) (n : ℕ) → n ≡ length (codes "0   " ++ codes "at " ++ t ++ codes "\n") - 1
    → slice_range (codes "0   " ++ codes "at " ++ t ++ codes "\n") 3 n ≡ codes " at " ++ t
place_in t n e =
    let long : n - 3 ≡ length (codes " at " ++ t) = omega (arith, e, length-append t (codes "\n")) in
    ap (λ k. take k ((codes " at " ++ t) ++ codes "\n")) long ∙ take-append_seam (codes " at " ++ t) (codes "\n")

no_line : (line : List ℕ) → line ≡ [] → 3 < length line → ⊥
no_line line e long = let none : 3 < 0 = subst (λ (l : List ℕ). 3 < length l) e long in omega (arith, none)

zero_line : (x : Transition) (f : FaultGlance) → faulted (record x { number = 0 }) f ≡ codes "0   " ++ codes "at " ++ fault_text f ++ codes "\n"
unfolding faulted margin
zero_line x f = ap (λ (ds : List ℕ). ds ++ codes "   " ++ codes "at " ++ fault_text f ++ codes "\n") (decimal_digit 0 (omega arith))

fault_placed : (x : Transition) (f : Option FaultGlance) (line : List ℕ) (n : ℕ) → line ≡ faulted_if (record x { number = 0 }) f → 3 < length line → n ≡ length line - 1 → slice_range line 3 n ≡ fault_at f
fault_placed x None line n e long end = absurd (no_line line e long)
fault_placed x (Some f) line n e long end =
    let is = e ∙ zero_line x f in
    ap (λ (l : List ℕ). slice_range l 3 n) is ∙ place_in (fault_text f) n (end ∙ ap (λ (l : List ℕ). length l - 1) is)

event_placed : (x : Transition) (r : Recorded) (line : List ℕ) (n : ℕ) → line ≡ fault_line_by (record x { number = 0 }) r → 3 < length line → n ≡ length line - 1 → slice_range line 3 n ≡ fault_place_by x r
event_placed x (Back k) line n e long end = fault_placed x (fault_in x.before x.actor) line n e long end
event_placed x r line n e long end = absurd (no_line line e long)

-- the line of a record without a number has the place of its fault
pub placed : (x : Transition) (line : List ℕ) (n : ℕ) → line ≡ fault_line (record x { number = 0 }) → 3 < length line → n ≡ length line - 1 → slice_range line 3 n ≡ fault_place x
unfolding fault_line
placed x line n e long end = event_placed x x.event line n e long end

fault_unplaced : (x : Transition) (f : Option FaultGlance) (line : List ℕ) → line ≡ faulted_if (record x { number = 0 }) f → length line ≤ 3 → fault_at f ≡ []
fault_unplaced x None line e short = refl
fault_unplaced x (Some f) line e short =
    let long : length line ≡ length (codes "0   " ++ codes "at " ++ fault_text f ++ codes "\n") = ap length (e ∙ zero_line x f) in
    absurd (omega (arith, long, short, length-append (fault_text f) (codes "\n")))

event_unplaced : (x : Transition) (r : Recorded) (line : List ℕ) → line ≡ fault_line_by (record x { number = 0 }) r → length line ≤ 3 → fault_place_by x r ≡ []
event_unplaced x (Back k) line e short = fault_unplaced x (fault_in x.before x.actor) line e short
event_unplaced x r line e short = refl

-- or there is no fault
pub unplaced : (x : Transition) (line : List ℕ) → line ≡ fault_line (record x { number = 0 }) → length line ≤ 3 → fault_place x ≡ []
unfolding fault_line
unplaced x line e short = event_unplaced x x.event line e short
