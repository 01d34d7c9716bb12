-- Places of other slots than a process's.
use Rattle.std.proofs.Common.{◌≡◌, ◌∙◌, ℕ, ◌==◌, ◌||◌, ◌&&◌, not, nat_eq, Bool, true, false, List, [], ◌∷◌, Some, refl, ap, sym, inl, inr}
use Rattle.std.specs.List.{list_any}
use Rattle.std.proofs.lemmas.Bool.{eq-eqb}
use Rattle.std.proofs.lemmas.Bool.Decides.{eqb_tells}
use Rattle.mx_machine.specs.Move.{at_stop}
use Rattle.mx_machine.specs.World.{HeldProcess}
use Rattle.mx_walk.specs.declared.stopping.CodePlace.{CodePlace}
use Rattle.mx_walk.specs.Stopping.{stands_at, stands_at_any}

-- whether one of these is of a slot
abbrev pub has_slot_of : ℕ → List CodePlace → Bool
has_slot_of slot ps = list_any (λ (p : CodePlace). p.slot == slot) ps

pub not_true : (b : Bool) → not b ≡ true → b ≡ false
not_true true e = absurd cc
not_true false e = refl

or_left : (a b : Bool) → a || b ≡ false → a ≡ false
or_left true b e = e
or_left false b e = refl

or_right : (a b : Bool) → a || b ≡ false → b ≡ false
or_right true b e = let no : true ≡ false = e in absurd cc
or_right false b e = e

other_slot : (p : CodePlace) (slot : ℕ) (l : HeldProcess) → l.slot ≡ slot → nat_eq p.slot slot ≡ false → stands_at (Some l) p ≡ false
other_slot p slot l same other = elim (eqb_tells l.slot p.slot) [
  | inl it ↦ let yes : nat_eq p.slot slot ≡ true = eq-eqb p.slot slot (sym it.1 ∙ same) in let both : true ≡ false = sym yes ∙ other in absurd cc
  | inr it ↦ ap (λ b. (b && (nat_eq l.out.image.eip p.address)) && not (at_stop l.out)) it.0
]

pub stands_elsewhere : (ps : List CodePlace) (slot : ℕ) (l : HeldProcess) → l.slot ≡ slot → has_slot_of slot ps ≡ false → stands_at_any (Some l) ps ≡ false
stands_elsewhere [] slot l same other = refl
stands_elsewhere (p ∷ ps) slot l same other =
    ap (λ b. b || stands_at_any (Some l) ps) (other_slot p slot l same (or_left (nat_eq p.slot slot) (has_slot_of slot ps) other))
    ∙ stands_elsewhere ps slot l same (or_right (nat_eq p.slot slot) (has_slot_of slot ps) other)
