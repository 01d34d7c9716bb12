-- The lines of a configuration up to the service of a name.
use Rattle.std.proofs.Common.{◌≡◌, ◌∙◌, ◌+◌, ℕ, Bool, true, false, List, ◌∷◌, Some, refl, ap, sym}
use Rattle.std.specs.Prelude.{◌&&◌, if◌then◌else◌, nat_lt}
use Rattle.mx_boot.specs.Items.{said_in}
use Rattle.mx_app_explain.specs.MaskNames.{has_name, is_service, service_bit}

-- of three: a service's line that is the name's, another service's, and any other
module _ {X : Type 0} (a b c : X) where
  abbrev of_three : Bool → Bool → Bool → X
  of_three service named low = if service && low then (if named then a else b) else c

  first : (service named low : Bool) → ((service && named) && low) ≡ true → of_three service named low ≡ a
  first true true true e = refl
  first true true false e = cc
  first true false low e = cc
  first false named low e = cc

  second : (service named low : Bool) → ((service && named) && low) ≡ false → (service && low) ≡ true → of_three service named low ≡ b
  second true true true e f = cc
  second true true false e f = cc
  second true false true e f = refl
  second true false false e f = cc
  second false named low e f = cc

  third : (service named low : Bool) → (service && low) ≡ false → of_three service named low ≡ c
  third true named true f = cc
  third true named false f = refl
  third false named low f = refl

module _ (line : List ℕ) (ls : List (List ℕ)) (slot : ℕ) (name : List ℕ) (it service : Bool) (is_it : it ≡ (is_service (said_in line) && has_name name (said_in line)))
    (is : service ≡ is_service (said_in line)) where
  pub found : (it && nat_lt slot 32) ≡ true → service_bit (line ∷ ls) slot name ≡ Some slot
  found e =
      first (Some slot) (service_bit ls (slot + 1) name) (service_bit ls slot name) (is_service (said_in line)) (has_name name (said_in line)) (nat_lt slot 32)
      (ap (λ (b : Bool). b && nat_lt slot 32) (sym is_it) ∙ e)

  pub passed : (it && nat_lt slot 32) ≡ false → (service && nat_lt slot 32) ≡ true → service_bit (line ∷ ls) slot name ≡ service_bit ls (slot + 1) name
  passed e f =
      second (Some slot) (service_bit ls (slot + 1) name) (service_bit ls slot name) (is_service (said_in line)) (has_name name (said_in line)) (nat_lt slot 32)
      (ap (λ (b : Bool). b && nat_lt slot 32) (sym is_it) ∙ e) (ap (λ (b : Bool). b && nat_lt slot 32) (sym is) ∙ f)

  pub left : (service && nat_lt slot 32) ≡ false → service_bit (line ∷ ls) slot name ≡ service_bit ls slot name
  left f =
      third (Some slot) (service_bit ls (slot + 1) name) (service_bit ls slot name) (is_service (said_in line)) (has_name name (said_in line)) (nat_lt slot 32)
      (ap (λ (b : Bool). b && nat_lt slot 32) (sym is) ∙ f)
