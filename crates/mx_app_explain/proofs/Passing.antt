-- A text of sums, and the part that it hasn't.
use Rattle.std.proofs.Common.{◌≡◌, ◌∙◌, ℕ, Bool, true, false, List, [], ◌∷◌, ◌++◌, Option, Some, None, length, take, drop, ap, ap₂, refl, sym}
use Rattle.std.specs.Prelude.{if◌then◌else◌}
use Rattle.std.specs.Option.{option_map_or}
use Rattle.std.specs.Str.{bytes_eq}
use Rattle.std.proofs.Math.Seq.{drop-append_seam, take-append_seam}
use Rattle.std.proofs.lemmas.List.{take-append-drop}
use Rattle.std.proofs.lemmas.Slice.Eq.{bytes_eq-Decides}
use Rattle.mx_app_explain.specs.Sums.{after_line, first_other, sum_line, sums_text}
use Rattle.mx_app_explain.specs.declared.sums.MachinePart.{MachinePart}
use Rattle.mx_app_explain.specs.declared.sums.PartSum.{PartSum}

-- a text that begins with a line has the rest after it
after_own : (line rest : List ℕ) → after_line line (line ++ rest) ≡ Some rest
after_own line rest =
    ap (λ (b : Bool). if b then Some (drop (length line) (line ++ rest)) else None) ((bytes_eq-Decides (take (length line) (line ++ rest)) line).1 (take-append_seam line rest))
    ∙ ap Some (drop-append_seam line rest)

after_is : (line text rest : List ℕ) → after_line line text ≡ Some rest → text ≡ line ++ rest
after_is line text rest e = by (bytes_eq (take (length line) text) line) refl e
  where
    by : (b : Bool) → bytes_eq (take (length line) text) line ≡ b → (if b then Some (drop (length line) text) else None) ≡ Some rest → text ≡ line ++ rest
    by true is h =
        let left : drop (length line) text ≡ rest = cc in
        sym (take-append-drop (length line) text)
        ∙ ap₂ (λ (a b : List ℕ). a ++ b) ((bytes_eq-Decides (take (length line) text) line).0 is) left
    by false is h = cc

pub own_pass : (sums : List PartSum) → first_other sums (sums_text sums) ≡ None
own_pass [] = refl
own_pass (s ∷ ss) = ap (λ (o : Option (List ℕ)). option_map_or (first_other ss) o (Some s.part)) (after_own (sum_line s) (sums_text ss)) ∙ own_pass ss

pub passed_own : (sums : List PartSum) (text : List ℕ) → first_other sums text ≡ None → text ≡ sums_text sums
passed_own [] [] e = refl
passed_own [] (b ∷ bs) e = cc
passed_own (s ∷ ss) text e = by (after_line (sum_line s) text) refl e (λ rest. passed_own ss rest)
  where
    by : (o : Option (List ℕ)) → after_line (sum_line s) text ≡ o → option_map_or (first_other ss) o (Some s.part) ≡ None
        → ((rest : List ℕ) → first_other ss rest ≡ None → rest ≡ sums_text ss) → text ≡ sum_line s ++ sums_text ss
    by None h e below = cc
    by (Some rest) h e below = after_is (sum_line s) text rest h ∙ ap (λ (r : List ℕ). sum_line s ++ r) (below rest e)
