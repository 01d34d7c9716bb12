-- The lines of a text, one more at a time.
use Rattle.std.proofs.Common.{◌≡◌, ℕ, ◌+◌, ◌*◌, ◌≤◌, ◌^◌, inr, List, [], ◌∷◌, ◌++◌, length, refl, sym, ◌∙◌, ap, subst, arith, append_assoc, length-append}
use Rattle.std.proofs.lemmas.List.{append-nil}
use Rattle.mx_asm_statement.specs.declared.line.Line.{Line}
use Rattle.mx_asm.specs.declared.sizes.SectionSizes.{SectionSizes}
use Rattle.mx_asm.specs.declared.fault.Fault.{Fault}
use Rattle.mx_asm.specs.Lengths.{statement_length}
use Rattle.mx_asm.specs.Layout.{LinesAbove, Seen, no_lines_above, unseen, seen_of, seen_with, above_with, statement_said, laid_by, SizesWithin}
use Rattle.mx_asm.specs.declared.numbered.NumberedLine.{NumberedLine}
use Rattle.mx_asm.specs.Kept.{AreKept, line_kept}
use Rattle.mx_asm.proofs.Kept.{kept_more}
use Rattle.mx_asm.proofs.Seeing.{seen_after}
use Rattle.mx_asm.specs.declared.fault.AsmError.{AsmError}
use Rattle.mx_asm.specs.declared.fault.AsmError.TheVariants.{At, NoMemory}
use Rattle.mx_asm_statement.specs.Lines.{IsLine}
use Rattle.mx_asm.specs.Text.{IsLineTaken, AreLinesTaken, on_after, TakesLine, IsFirstLineWrong, TellsRefusal, TellsLineWrong}

-- one line more is seen
seen_on : (a b : LinesAbove) (l : Line) → b ≡ on_after a l → seen_of b ≡ seen_with (seen_of a) l
seen_on a b l same = ap seen_of same ∙ seen_after a l (statement_length (statement_said l))

-- whatever goes on from here goes on from the start
abbrev pub TakesOn : LinesAbove → List (List ℕ) → List (List ℕ) → List Line → Type 0
TakesOn a left all found = (ls : List Line) → AreLinesTaken (seen_of a) left ls → AreLinesTaken unseen all (found ++ ls)

abbrev pub WrongsOn : LinesAbove → ℕ → List (List ℕ) → List (List ℕ) → Type 0
WrongsOn a n left all = (f : Fault) → IsFirstLineWrong (seen_of a) n left f → IsFirstLineWrong unseen 1 all f

pub takes_more : (a b : LinesAbove) (t : List ℕ) (left more all : List (List ℕ)) (found : List Line) (l : Line) → TakesOn a left all found → left ≡ t ∷ more → IsLineTaken (seen_of a) t l → b ≡ on_after a l
    → TakesOn b more all (found ++ l ∷ [])
takes_more a b t left more all found l before next taken same ls rest =
    let rest' : AreLinesTaken (seen_with (seen_of a) l) more ls = subst (λ (x : Seen). AreLinesTaken x more ls) (seen_on a b l same) rest in
    let whole : AreLinesTaken (seen_of a) left (l ∷ ls) = subst (λ (x : List (List ℕ)). AreLinesTaken (seen_of a) x (l ∷ ls)) (sym next) (taken, rest') in
    subst (λ (x : List Line). AreLinesTaken unseen all x) (sym (append_assoc found (l ∷ []) ls)) (before (l ∷ ls) whole)

pub wrongs_more : (a b : LinesAbove) (n m : ℕ) (t : List ℕ) (left more all : List (List ℕ)) (l : Line) → WrongsOn a n left all → left ≡ t ∷ more → IsLineTaken (seen_of a) t l → b ≡ on_after a l → m ≡ n + 1
    → WrongsOn b m more all
wrongs_more a b n m t left more all l before next taken same one f rest =
    let rest' : IsFirstLineWrong (seen_with (seen_of a) l) (n + 1) more f =
    subst (λ (x : Seen). IsFirstLineWrong x (n + 1) more f) (seen_on a b l same) (subst (λ (x : ℕ). IsFirstLineWrong (seen_of b) x more f) one rest) in
    before f (subst (λ (x : List (List ℕ)). IsFirstLineWrong (seen_of a) n x f) (sym next) (inr (l, taken, rest')))

-- the lines so far, of which some are kept
pub record ReadSoFar (a : LinesAbove) (n : ℕ) (left all : List (List ℕ)) (kept : List NumberedLine) (count : ℕ) : Type 0 where
  pub found : List Line
  pub are_kept : AreKept found kept count
  pub takes : TakesOn a left all found
  pub wrongs : WrongsOn a n left all
  pub laid : a ≡ laid_by no_lines_above found

laid_snoc : (a : LinesAbove) (found : List Line) (l : Line) → laid_by a (found ++ l ∷ []) ≡ on_after (laid_by a found) l
laid_snoc a [] l = refl
laid_snoc a (k ∷ found) l = laid_snoc (above_with a k (statement_length (statement_said k))) found l

pub laid_more : (a b : LinesAbove) (found : List Line) (l : Line) → a ≡ laid_by no_lines_above found → b ≡ on_after a l → b ≡ laid_by no_lines_above (found ++ l ∷ [])
laid_more a b found l laid same = same ∙ ap (λ (x : LinesAbove). on_after x l) laid ∙ sym (laid_snoc no_lines_above found l)

pub one_longer : (found : List Line) (l : Line) → length (found ++ l ∷ []) ≡ length found + 1
one_longer found l = length-append found (l ∷ [])

pub read_more : (a b : LinesAbove) (n m count counted : ℕ) (t : List ℕ) (left more all : List (List ℕ)) (old new : List NumberedLine) → ReadSoFar a n left all old count → left ≡ t ∷ more → TakesLine a b n t old new
    → n ≡ count + 1 → m ≡ n + 1 → counted ≡ count + 1 → ReadSoFar b m more all new counted
read_more a b n m count counted t left more all old new before next step here one longer =
    let l = step.line in
    let at : n ≡ 1 + length before.found = omega (arith, here, before.are_kept.1) in
    let many : counted ≡ length (before.found ++ l ∷ []) = omega (arith, longer, before.are_kept.1, one_longer before.found l) in
    record {
      found = before.found ++ l ∷ [];
      are_kept = (step.lines_are ∙ ap (λ (x : List NumberedLine). x ++ line_kept n l) before.are_kept.0 ∙ sym (kept_more 1 n before.found l at), many);
      takes = takes_more a b t left more all before.found l before.takes next step.taken step.following_is;
      wrongs = wrongs_more a b n m t left more all l before.wrongs next step.taken step.following_is one;
      laid = laid_more a b before.found l before.laid step.following_is;
    }

-- with no line left all are read
pub read_all : (a : LinesAbove) (n : ℕ) (left all : List (List ℕ)) (kept : List NumberedLine) (count : ℕ) → ReadSoFar a n left all kept count → left ≡ []
    → (ls : List Line) × AreLinesTaken unseen all ls × AreKept ls kept count × (a ≡ laid_by no_lines_above ls)
read_all a n left all kept count so_far over =
    let whole = so_far.takes [] (subst (λ (x : List (List ℕ)). AreLinesTaken (seen_of a) x []) (sym over) tt) in
    (so_far.found, subst (λ (x : List Line). AreLinesTaken unseen all x) (append-nil so_far.found) whole, so_far.are_kept, so_far.laid)

-- that many lines fit in memory
pub sizes_few : (s : SectionSizes) (n : ℕ) → SizesWithin s (n * 2 ^ 64) → n ≤ 2 ^ 62 → SizesWithin s (2 ^ 126)
sizes_few s n (x, y, z) h = (omega arith, omega arith, omega arith)

-- a line that is refused is wrong
pub told_refusal : (s : Seen) (n : ℕ) (t : List ℕ) (l : Line) (e : AsmError) → IsLine t l → TellsRefusal s n l e → TellsLineWrong s n t e
told_refusal s n t l NoMemory line h = tt
told_refusal s n t l (At f) line (at, (r, stands, is)) = (at, inr (l, r, line, stands, is))
