-- Lines without a fault, one more at a time.
use Rattle.std.proofs.Common.{◌≡◌, ℕ, ◌+◌, ◌*◌, ◌<◌, ◌^◌, List, ◌∷◌, length, get_or, drop, refl, sym, ◌∙◌, ap, arith, Option, Some, None}
use Rattle.std.proofs.lemmas.List.{drop_more}
use Rattle.mx_asm_statement.specs.declared.line.Line.{Line}
use Rattle.mx_asm.specs.declared.sizes.SectionSizes.{SectionSizes}
use Rattle.mx_asm.specs.declared.fault.Problem.{Problem}
use Rattle.mx_asm.specs.declared.fault.Fault.{Fault}
use Rattle.mx_asm.specs.Lengths.{statement_length}
use Rattle.mx_asm.specs.Layout.{LinesAbove, section_offset_of, sizes_after, address_of_offset, statement_said, SizesWithin, GrowsWithin}
use Rattle.mx_asm.specs.Faults.{problem_at, first_problem, fault_or}

pub neither : (p : Option Problem) (n : ℕ) (f : Option Fault) → fault_or p n f ≡ None → (p ≡ None) × (f ≡ None)
neither None n f h = (refl, h)
neither (Some p) n f h = cc

pub next_item : (i : ℕ) (ls : List Line) (l : Line) → i < length ls → l ≡ get_or ls i l → drop i ls ≡ l ∷ drop (i + 1) ls
next_item i ls l h e = drop_more ls i l h ∙ ap (λ (x : Line). x ∷ drop (i + 1) ls) (sym e)

pub sizes_more : (s r : SectionSizes) (n m : ℕ) → SizesWithin s (n * 2 ^ 64) → GrowsWithin s r (2 ^ 64) → m ≡ n + 1 → SizesWithin r (m * 2 ^ 64)
sizes_more s r n m (x, y, z) (u, v, w) e = (omega arith, omega arith, omega arith)

-- the next line has no fault
pub clean_here : (a : LinesAbove) (s : SectionSizes) (n i : ℕ) (ls : List Line) (l : Line) → drop i ls ≡ l ∷ drop (i + 1) ls → first_problem a s n (drop i ls) ≡ None
    → problem_at a (address_of_offset a (section_offset_of s)) (statement_said l) ≡ None
clean_here a s n i ls l next e =
    let rest : Option Fault = first_problem a (sizes_after s (statement_said l) (statement_length (statement_said l))) (n + 1) (drop (i + 1) ls) in
    (neither (problem_at a (address_of_offset a (section_offset_of s)) (statement_said l)) n rest (sym (ap (first_problem a s n) next) ∙ e)).0

pub clean_on : (a : LinesAbove) (s r : SectionSizes) (n i : ℕ) (ls : List Line) (l : Line) → drop i ls ≡ l ∷ drop (i + 1) ls → first_problem a s n (drop i ls) ≡ None
    → r ≡ sizes_after s (statement_said l) (statement_length (statement_said l))
    → first_problem a r (n + 1) (drop (i + 1) ls) ≡ None
clean_on a s r n i ls l next e same =
    let step = ap (first_problem a s n) next in
    let rest : Option Fault = first_problem a (sizes_after s (statement_said l) (statement_length (statement_said l))) (n + 1) (drop (i + 1) ls) in
    let both = neither (problem_at a (address_of_offset a (section_offset_of s)) (statement_said l)) n rest (sym step ∙ e) in
    ap (λ (x : SectionSizes). first_problem a x (n + 1) (drop (i + 1) ls)) same ∙ both.1
