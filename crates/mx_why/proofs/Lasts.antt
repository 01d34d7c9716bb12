-- The last of the notes that pass a test, one note more.
use Rattle.std.proofs.Common.{◌≡◌, ◌∙◌, ◌<◌, ℕ, ◌+◌, Bool, true, false, cond, List, [], ◌∷◌, ◌++◌, length, get_or, take, filter, refl, ap, sym}
use Rattle.std.proofs.lemmas.List.{append-nil}
use Rattle.std.proofs.lemmas.List.Elements.{filter_more}
use Rattle.mx_why.specs.declared.notes.Note.{Note}
use Rattle.mx_why.specs.Notes.{last_from, last_number}

last_of_more : (k : ℕ) (ns : List Note) (n : Note) → last_from k (ns ++ n ∷ []) ≡ n.number
last_of_more k [] n = refl
last_of_more k (m ∷ ms) n = last_of_more m.number ms n

-- it passes
pub last_kept : (P : Note → Bool) (ns : List Note) (i : ℕ) (d : Note) → i < length ns → P (get_or ns i d) ≡ true
    → (get_or ns i d).number ≡ last_number (filter P (take (i + 1) ns))
last_kept P ns i d within e =
    sym (ap (λ (v : List Note). last_number v) (filter_more P ns i d within ∙ ap (λ b. filter P (take i ns) ++ cond b (get_or ns i d ∷ []) []) e)
    ∙ last_of_more 0 (filter P (take i ns)) (get_or ns i d))

-- it doesn't
pub last_passed : (P : Note → Bool) (ns : List Note) (i k : ℕ) (d : Note) → i < length ns → P (get_or ns i d) ≡ false → k ≡ last_number (filter P (take i ns))
    → k ≡ last_number (filter P (take (i + 1) ns))
last_passed P ns i k d within e h =
    h ∙ sym (ap (λ (v : List Note). last_number v) (filter_more P ns i d within ∙ ap (λ b. filter P (take i ns) ++ cond b (get_or ns i d ∷ []) []) e ∙ append-nil (filter P (take i ns))))
