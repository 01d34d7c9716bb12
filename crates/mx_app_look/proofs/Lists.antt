-- Lists that grow by one element, or by what is left.
use Rattle.std.proofs.Common.{◌≡◌, ◌∙◌, ◌<◌, ◌+◌, ℕ, List, [], ◌∷◌, ◌++◌, add-one, append-nil, append_assoc, get_or, length, map, take, refl, ap, sym}
use Rattle.std.proofs.Math.Seq.{take-suc}
use Rattle.std.proofs.lemmas.Grind.{flat_map-append}
use Rattle.std.proofs.lemmas.List.{map-append, take_more}
use Rattle.std.specs.List.{flat_map}

-- a list whose elements represent those of another, after some before
pub placed_more : {A X : Type 0} (f : A → X) (before ws : List X) (i : ℕ) (d : X) (ts more : List A) (t : A)
    → i < length ws → more ≡ ts ++ t ∷ [] → f t ≡ get_or ws i d → map f ts ≡ before ++ take i ws → map f more ≡ before ++ take (i + 1) ws
placed_more f before ws i d ts more t lt e here front =
    ap (map f) e ∙ map-append f ts (t ∷ []) ∙ ap (λ xs. xs ++ f t ∷ []) front ∙ append_assoc before (take i ws) (f t ∷ [])
    ∙ ap (λ x. before ++ (take i ws ++ x ∷ [])) here ∙ ap (λ xs. before ++ xs) (sym (take_more ws i d lt))

-- a list whose elements represent what a function has of those of another
pub mapped_more : {A B X : Type 0} (f : A → X) (g : B → X) (ws : List B) (i : ℕ) (d : B) (ts more : List A) (t : A)
    → i < length ws → more ≡ ts ++ t ∷ [] → f t ≡ g (get_or ws i d) → map f ts ≡ map g (take i ws) → map f more ≡ map g (take (i + 1) ws)
mapped_more f g ws i d ts more t lt e here front =
    ap (map f) e ∙ map-append f ts (t ∷ []) ∙ ap (λ xs. xs ++ f t ∷ []) front
    ∙ ap (λ x. map g (take i ws) ++ x ∷ []) here
    ∙ sym (map-append g (take i ws) (get_or ws i d ∷ [])) ∙ ap (map g) (sym (take_more ws i d lt))

flat_more : {X Y : Type 0} (f : X → List Y) (xs : List X) (i : ℕ) (d : X) → i < length xs → flat_map f (take (i + 1) xs) ≡ flat_map f (take i xs) ++ f (get_or xs i d)
flat_more f xs i d lt =
    rw (add-one, take-suc xs i d) (flat_map-append f (take i xs) (get_or xs i d ∷ []) ∙ ap (λ z. flat_map f (take i xs) ++ z) (append-nil (f (get_or xs i d))))

-- several elements for each of another list
pub spread_more : {X Y : Type 0} (f : X → List Y) (xs : List X) (i : ℕ) (d : X) (so_far more here : List Y)
    → i < length xs → so_far ≡ flat_map f (take i xs) → here ≡ f (get_or xs i d) → more ≡ so_far ++ here → more ≡ flat_map f (take (i + 1) xs)
spread_more f xs i d so_far more here lt front e now =
    now ∙ ap (λ ys. ys ++ here) front ∙ ap (λ ys. flat_map f (take i xs) ++ ys) e ∙ sym (flat_more f xs i d lt)

-- what one function has of what another has of each
pub map_both : {X Y Z : Type 0} (f : X → Y) (g : Y → Z) (h : X → Z) (xs : List X) → ((x : X) → h x ≡ g (f x)) → map h xs ≡ map g (map f xs)
map_both f g h [] same = refl
map_both f g h (x ∷ xs) same = ap (λ z. z ∷ map h xs) (same x) ∙ ap (λ zs. g (f x) ∷ zs) (map_both f g h xs same)

-- what two lists have after the same elements
pub same_rest : {X : Type 0} (xs ys zs : List X) → xs ++ ys ≡ xs ++ zs → ys ≡ zs
same_rest [] ys zs e = e
same_rest (x ∷ xs) ys zs e = let t : xs ++ ys ≡ xs ++ zs = cc in same_rest xs ys zs t
