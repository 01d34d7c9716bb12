-- The numbers of lines at fault.
use Rattle.std.proofs.Common.{◌≡◌, ◌≤◌, ℕ, suc, ◌+◌, List, [], ◌∷◌, length, inl, inr, ap, ◌∙◌, arith, length-append}
use Rattle.std.proofs.lemmas.Bool.{cases_Bool}
use Rattle.std.specs.Prelude.{◌==◌, Option}
use Rattle.mx_text.specs.Lines.{lines, begun_by}
use Rattle.mx_boot.specs.Reading.{IsFirstUnread}

begun-count : (b : ℕ) (ls : List (List ℕ)) → length (begun_by b ls) ≤ suc (length ls)
begun-count b [] = omega arith
begun-count b (l ∷ ls) = omega arith

-- a text has no more lines than bytes
lines_few : (t : List ℕ) → length (lines t) ≤ length t
lines_few [] = omega arith
lines_few (b ∷ bs) = elim (cases_Bool (b == 10)) [
  | inl y ↦ rw y (let h = lines_few bs in omega (arith, h))
  | inr n ↦ rw n (let h = lines_few bs in let g = begun-count b (lines bs) in omega (arith, h, g))
]

pub unread_few : {T : Type 0} (says : List ℕ → Option T) (t : List ℕ) (n : ℕ) → IsFirstUnread says (lines t) n → n ≤ length t
unread_few says t n f =
    let all : length (lines t) ≡ length f.0 + suc (length f.1) = ap length f.4 ∙ length-append f.0 (f.2 ∷ f.1) in
    omega (arith, all, f.7, lines_few t)
