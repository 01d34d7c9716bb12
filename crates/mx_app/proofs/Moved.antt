-- Help that is asked for by its own word: the word is moved to the end.
use Rattle.std.proofs.Common.{◌≡◌, ◌∙◌, ◌++◌, ℕ, Bool, true, false, List, [], ◌∷◌, ap, map, sym, refl}
use Rattle.std.proofs.lemmas.List.{map-append}
use Rattle.std.specs.Prelude.{codes, if◌then◌else◌, remove}
use Rattle.mx_app.specs.Asking.{begin_with, help_last}

pub moved : {A : Type 0} (f : A → List ℕ) (ts left more : List A) (t : A) → begin_with (codes "help") (map f ts) ≡ true
    → left ≡ remove ts 1 → more ≡ left ++ t ∷ [] → f t ≡ codes "--help" → map f more ≡ help_last (map f ts)
moved f [] left more t asked r e h = cc
moved f (own ∷ []) left more t asked r e h = cc
moved f (own ∷ first ∷ rest) left more t asked r e h =
    ap (map f) (e ∙ (λ k. r k ++ t ∷ [])) ∙ ((λ k. f own ∷ map-append f rest (t ∷ []) k) ∙ ((λ k. f own ∷ map f rest ++ h k ∷ [])
    ∙ sym (ap (λ (b : Bool). if b then f own ∷ map f rest ++ codes "--help" ∷ [] else f own ∷ f first ∷ map f rest) asked)))

pub unmoved : {A : Type 0} (f : A → List ℕ) (ts : List A) → begin_with (codes "help") (map f ts) ≡ false → map f ts ≡ help_last (map f ts)
unmoved f [] asked = refl
unmoved f (own ∷ []) asked = refl
unmoved f (own ∷ first ∷ rest) asked =
    sym (ap (λ (b : Bool). if b then f own ∷ map f rest ++ codes "--help" ∷ [] else f own ∷ f first ∷ map f rest) asked)
