-- Listings from front to back.
use Rattle.std.proofs.Common.{◌≡◌, ℕ, ◌+◌, arith, refl, sym, ◌∙◌, ap, subst, List, [], ◌∷◌, ◌++◌, append_assoc, drop, length}
use Rattle.std.proofs.lemmas.List.{append-nil}
use Rattle.mx_dis.specs.declared.part.Part.{Part}
use Rattle.mx_dis.specs.Parting.{IsParting, part_size, total_size}
use Rattle.mx_dis.specs.Listing.{listing_line, lines_of, IsListing}

-- the lines of two lists of parts, one after the other, are the first's lines and then the second's, from the address on
-- at which the first ends
pub lines_join : (at : ℕ) (front back : List Part) → lines_of at (front ++ back) ≡ lines_of at front ++ lines_of (at + total_size front) back
lines_join at [] back = let e : at ≡ at + 0 = omega arith in ap (λ (n : ℕ). lines_of n back) e
lines_join at (p ∷ front) back =
    let e : at + part_size p + total_size front ≡ at + (part_size p + total_size front) = omega arith in
    let rest = lines_join (at + part_size p) front back in
    ap (λ (w : List ℕ). listing_line at p ++ w) (rest ∙ ap (λ (n : ℕ). lines_of (at + part_size p) front ++ lines_of n back) e)
    ∙ sym (append_assoc (listing_line at p) (lines_of (at + part_size p) front) (lines_of (at + (part_size p + total_size front)) back))

-- the first part's line is before the listing of the rest
pub one_more : (at : ℕ) (bytes : List ℕ) (p : Part) (text : List ℕ)
    → ((rest : List Part) → IsParting (drop (part_size p) bytes) rest → IsParting bytes (p ∷ rest))
    → IsListing (at + part_size p) (drop (part_size p) bytes) text → IsListing at bytes (listing_line at p ++ text)
one_more at bytes p text parting (parts, x, e) = (p ∷ parts, parting parts x, ap (λ (w : List ℕ). listing_line at p ++ w) e)

-- one more line after the lines so far
pub more_lines : (at : ℕ) (bytes t : List ℕ) (p : Part) (out new : List ℕ)
    → ((rest : List Part) → IsParting (drop (part_size p) bytes) rest → IsParting bytes (p ∷ rest))
    → ((text : List ℕ) → IsListing at bytes text → IsListing 0 t (out ++ text))
    → new ≡ out ++ listing_line at p
    → (text : List ℕ) → IsListing (at + part_size p) (drop (part_size p) bytes) text → IsListing 0 t (new ++ text)
more_lines at bytes t p out new parting before e text listed =
    let more = before (listing_line at p ++ text) (one_more at bytes p text parting listed) in
    subst (λ (w : List ℕ). IsListing 0 t w) (sym (append_assoc out (listing_line at p) text) ∙ ap (λ (w : List ℕ). w ++ text) (sym e)) more

-- nothing is left to list
pub whole : (at : ℕ) (bytes t out : List ℕ) → length bytes ≡ 0
    → ((text : List ℕ) → IsListing at bytes text → IsListing 0 t (out ++ text)) → IsListing 0 t out
whole at [] t out none before = subst (λ (w : List ℕ). IsListing 0 t w) (append-nil out) (before [] ([], refl, refl))
whole at (b ∷ bytes) t out none before = absurd (omega arith)
