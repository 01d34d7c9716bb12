-- Texts of words, one by one.
use Rattle.std.proofs.Common.{◌≡◌, ◌∙◌, ◌+◌, ◌++◌, ◌<◌, ℕ, List, [], ◌∷◌, ap, length, map, sym, take}
use Rattle.std.proofs.Math.ListN.{get_or}
use Rattle.std.proofs.lemmas.List.{map-append, take_more}

-- a list that grows by the next of another one
pub texts_next : {A B X : Type 0} (f : A → X) (g : B → X) (ws : List B) (i : ℕ) (w : B) (ts more : List A) (t : A)
    → i < length ws → w ≡ get_or ws i w → more ≡ ts ++ t ∷ [] → map f ts ≡ map g (take i ws) → f t ≡ g w → map f more ≡ map g (take (i + 1) ws)
texts_next f g ws i w ts more t below is e front here =
    ap (map f) e ∙ (map-append f ts (t ∷ []) ∙ ((λ k. front k ++ (here ∙ ap g is) k ∷ [])
    ∙ (sym (map-append g (take i ws) (get_or ws i w ∷ [])) ∙ ap (map g) (sym (take_more ws i w below)))))
