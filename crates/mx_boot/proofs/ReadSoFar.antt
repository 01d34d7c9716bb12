-- How far the lines of a text are read.
use Rattle.std.proofs.Common.{◌≡◌, ◌∙◌, ℕ, ◌+◌, ◌<◌, ◌≤◌, Bool, true, false, List, [], ◌∷◌, ◌++◌, length, Option, Some, refl, sym, ap, arith, append_assoc, length-append}
use Rattle.std.proofs.lemmas.List.{map-append}
use Rattle.std.specs.Prelude.{map, ◌||◌}
use Rattle.mx_text.specs.Lines.{lines}

-- what the lines above are read as is what was found, unless memory ran out
pub record ReadSoFar {T : Type 0} (says : List ℕ → Option T) (text rest : List ℕ) (found : List T) (is_wanting : Bool) (number : ℕ) : Type 0 where
  pub above : List (List ℕ)
  pub said : List T
  pub whole : lines text ≡ above ++ lines rest
  pub read : map says above ≡ map Some said
  pub kept : is_wanting ≡ false → found ≡ said
  pub counted : number ≡ length above + 1
  pub few : number + length rest ≤ length text + 1

false_left : (x y : Bool) → (x || y) ≡ false → x ≡ false
false_left true y h = cc
false_left false y h = refl

false_right : (x y : Bool) → (x || y) ≡ false → y ≡ false
false_right true y h = cc
false_right false y h = h

-- one line more
pub more : {T : Type 0} (says : List ℕ → Option T) (text rest below line : List ℕ) (found now : List T) (x : T) (w v : Bool) (n : ℕ)
    → ReadSoFar says text rest found w n → lines rest ≡ line ∷ lines below → says line ≡ Some x → (v ≡ false → now ≡ found ++ x ∷ []) → length below < length rest
    → ReadSoFar says text below now (w || v) (n + 1)
more {T} says text rest below line found now x w v n before next here kept shorter = record {
  above = before.above ++ line ∷ [];
  said = before.said ++ x ∷ [];
  whole = before.whole ∙ ap (λ (ls : List (List ℕ)). before.above ++ ls) next ∙ sym (append_assoc before.above (line ∷ []) (lines below));
  read = map-append says before.above (line ∷ []) ∙ ap (λ (os : List (Option T)). os ++ says line ∷ []) before.read ∙ ap (λ (o : Option T). map Some before.said ++ o ∷ []) here ∙ sym (map-append Some before.said (x ∷ []));
  kept = λ e. kept (false_right w v e) ∙ ap (λ (xs : List T). xs ++ x ∷ []) (before.kept (false_left w v e));
  counted = let longer = length-append before.above (line ∷ []) in omega (arith, longer, before.counted);
  few = omega (arith, before.few, shorter);
}
