-- What the lines add up to.
use Rattle.std.proofs.Common.{◌≡◌, ℕ, ◌+◌, ◌*◌, ◌<◌, ◌≤◌, ◌^◌, Bool, true, false, List, ◌∷◌, length, get_or, drop, refl, sym, ◌∙◌, ap, arith, Option, Some, None, cond}
use Rattle.std.specs.Prelude.{◌||◌, is_some, nat_lt, unwrap_or}
use Rattle.std.proofs.lemmas.Bool.{ltb-true, ltb-false}
use Rattle.std.proofs.lemmas.List.{drop_more}
use Rattle.mx_aout.specs.Limits.{rounded_to_pages}
use Rattle.mx_asm_statement.specs.declared.line.Line.{Line}
use Rattle.mx_asm.specs.declared.sizes.SectionSizes.{SectionSizes}
use Rattle.mx_asm.specs.declared.fault.Problem.{Problem}
use Rattle.mx_asm.specs.declared.fault.Fault.{Fault}
use Rattle.mx_asm.specs.Lengths.{statement_length}
use Rattle.mx_asm.specs.Layout.{LinesAbove, section_offset_of, sizes_after, address_of_offset, statement_said, SizesWithin, GrowsWithin}
use Rattle.mx_asm.specs.Faults.{problem_at, first_problem, fault_or, bytes_used, at_least, total_of, is_program_too_large}

pub none_of : {A : Type 0} (o : Option A) → is_some o ≡ false → o ≡ None
none_of None h = refl
none_of (Some a) h = cc

-- ---- one line more

pub next_item : (i : ℕ) (ls : List Line) (l : Line) → i < length ls → l ≡ get_or ls i l → drop i ls ≡ l ∷ drop (i + 1) ls
next_item i ls l h e = drop_more ls i l h ∙ ap (λ (x : Line). x ∷ drop (i + 1) ls) (sym e)

pub sizes_more : (s r : SectionSizes) (i : ℕ) → SizesWithin s (i * 2 ^ 64) → GrowsWithin s r (2 ^ 64) → SizesWithin r ((i + 1) * 2 ^ 64)
sizes_more s r i (x, y, z) (u, v, w) = (omega arith, omega arith, omega arith)

-- where the next line has no fault, the first problem is one after it
pub problem_on : (a : LinesAbove) (s r : SectionSizes) (n i : ℕ) (ls : List Line) (l : Line) → drop i ls ≡ l ∷ drop (i + 1) ls → problem_at a (address_of_offset a (section_offset_of s)) (statement_said l) ≡ None
    → r ≡ sizes_after s (statement_said l) (statement_length (statement_said l)) → first_problem a s n (drop i ls) ≡ first_problem a r (n + 1) (drop (i + 1) ls)
problem_on a s r n i ls l next none same =
    let rest : Option Fault = first_problem a (sizes_after s (statement_said l) (statement_length (statement_said l))) (n + 1) (drop (i + 1) ls) in
    ap (first_problem a s n) next ∙ ap (λ (p : Option Problem). fault_or p n rest) none ∙ ap (λ (x : SectionSizes). first_problem a x (n + 1) (drop (i + 1) ls)) (sym same)

-- ---- the total

small_pages : (n : ℕ) → nat_lt 4194304 (at_least 4096 (rounded_to_pages n)) ≡ false → n ≤ 4194304
small_pages n h = by_case (nat_lt (rounded_to_pages n) 4096) refl h
  where
    by_case : (b : Bool) → nat_lt (rounded_to_pages n) 4096 ≡ b → nat_lt 4194304 (cond b 4096 (rounded_to_pages n)) ≡ false → n ≤ 4194304
    by_case true e h = let less : rounded_to_pages n < 4096 = ltb-true (rounded_to_pages n) 4096 e in omega (arith, less)
    by_case false e h = let most : rounded_to_pages n ≤ 4194304 = ltb-false 4194304 (rounded_to_pages n) h in omega (arith, most)

or_left : (b c : Bool) → (b || c) ≡ false → b ≡ false
or_left true c h = cc
or_left false c h = refl

or_right : (b c : Bool) → (b || c) ≡ false → c ≡ false
or_right true c h = cc
or_right false c h = h

-- what a file may hold is small
pub small_sizes : (a : LinesAbove) → is_program_too_large a ≡ false → SizesWithin a.sizes (2 ^ 126)
small_sizes a h =
    let texts = or_left (nat_lt 1048576 a.sizes.text || nat_lt 262144 (length a.labels * 16)) (nat_lt 4194304 (total_of a)) h in
    let total = or_right (nat_lt 1048576 a.sizes.text || nat_lt 262144 (length a.labels * 16)) (nat_lt 4194304 (total_of a)) h in
    let text : a.sizes.text ≤ 1048576 = ltb-false 1048576 a.sizes.text (or_left (nat_lt 1048576 a.sizes.text) (nat_lt 262144 (length a.labels * 16)) texts) in
    let used : bytes_used a + unwrap_or a.stack 2048 ≤ 4194304 = small_pages (bytes_used a + unwrap_or a.stack 2048) total in
    (omega (arith, text), omega (arith, used), omega (arith, used))
