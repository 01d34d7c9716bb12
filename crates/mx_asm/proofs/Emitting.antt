-- What the bytes of the lines add up to.
use Rattle.std.proofs.Common.{Bool, true, false, ◌||◌, add-one, drop-cons, ◌≡◌, ℕ, ◌+◌, ◌<◌, ◌≤◌, List, [], ◌∷◌, ◌++◌, length, get_or, drop, take, map, refl, sym, ◌∙◌, ap, subst, Option, Some, None, append_assoc, replicate}
use Rattle.std.specs.Prelude.{is_some, not}
use Rattle.std.specs.List.{flat_map, list_any}
use Rattle.std.proofs.lemmas.List.{append-nil, drop_all, take_all, take_more, map-append}
use Rattle.std.proofs.lemmas.Grind.{flat_map-append}
use Rattle.mx_asm_statement.specs.declared.value.Value.{Value}
use Rattle.mx_asm_statement.specs.declared.statement.Section.{Section}
use Rattle.mx_asm_statement.specs.declared.statement.Section.TheVariants.{Text, Data, Bss}
use Rattle.mx_asm_statement.specs.declared.statement.Statement.{Statement}
use Rattle.mx_asm_statement.specs.declared.line.Line.{Line}
use Rattle.mx_asm.specs.declared.sizes.SectionSizes.{SectionSizes}
use Rattle.mx_asm.specs.Lengths.{statement_length}
use Rattle.mx_asm.specs.Faults.{is_undefined}
use Rattle.mx_asm.specs.Layout.{LinesAbove, value_under, no_lines_above, section_offset_of, sizes_after, address_of_offset, left_by, laid_by, above_with, statement_said}
use Rattle.mx_asm.specs.Bytes.{AllStand, AreParts, BytesOf, StandsIn, Pushes, PutsOut, contents, put_into}
use Rattle.mx_asm.proofs.Lengths.{stands_length}

-- with any bytes for the lines that are left, from here on, there are bytes for all
abbrev pub Completes : LinesAbove → List Line → ℕ → SectionSizes → List ℕ → List ℕ → Type 0
Completes a ls i s text init =
    (rest : List (List ℕ)) → AllStand a s (drop i ls) rest →
    AreParts a no_lines_above.sizes ls (text ++ contents Text s (drop i ls) rest) (init ++ contents Data s (drop i ls) rest)

-- one line more
pub completes_more : (a : LinesAbove) (ls : List Line) (i : ℕ) (s r : SectionSizes) (text init : List ℕ) (l : Line) (b : List ℕ) → Completes a ls i s text init
    → drop i ls ≡ l ∷ drop (i + 1) ls → StandsIn s.section a (address_of_offset a (section_offset_of s)) (statement_said l) b → r ≡ sizes_after s (statement_said l) (statement_length (statement_said l))
    → Completes a ls (i + 1) r (text ++ put_into Text s.section b) (init ++ put_into Data s.section b)
completes_more a ls i s r text init l b before next right same rest stand =
    let n : length b ≡ statement_length (statement_said l) = stands_length s.section a (address_of_offset a (section_offset_of s)) (statement_said l) b right in
    let e : r ≡ sizes_after s (statement_said l) (length b) = same ∙ ap (sizes_after s (statement_said l)) (sym n) in
    let stand' : AllStand a (sizes_after s (statement_said l) (length b)) (drop (i + 1) ls) rest = subst (λ (x : SectionSizes). AllStand a x (drop (i + 1) ls) rest) e stand in
    let whole : AllStand a s (drop i ls) (b ∷ rest) = subst (λ (x : List Line). AllStand a s x (b ∷ rest)) (sym next) (right, stand') in
    let parts = before (b ∷ rest) whole in
    let t : contents Text s (drop i ls) (b ∷ rest) ≡ put_into Text s.section b ++ contents Text r (drop (i + 1) ls) rest =
    ap (λ (x : List Line). contents Text s x (b ∷ rest)) next ∙ ap (λ (x : SectionSizes). put_into Text s.section b ++ contents Text x (drop (i + 1) ls) rest) (sym e) in
    let u : contents Data s (drop i ls) (b ∷ rest) ≡ put_into Data s.section b ++ contents Data r (drop (i + 1) ls) rest =
    ap (λ (x : List Line). contents Data s x (b ∷ rest)) next ∙ ap (λ (x : SectionSizes). put_into Data s.section b ++ contents Data x (drop (i + 1) ls) rest) (sym e) in
    record {
      bytes = parts.bytes;
      stand = parts.stand;
      text_is = append_assoc text (put_into Text s.section b) (contents Text r (drop (i + 1) ls) rest) ∙ ap (λ (x : List ℕ). text ++ x) (sym t) ∙ parts.text_is;
      init_is = append_assoc init (put_into Data s.section b) (contents Data r (drop (i + 1) ls) rest) ∙ ap (λ (x : List ℕ). init ++ x) (sym u) ∙ parts.init_is;
    }

-- lengths by the bytes are the statements' own
pub lengths_same : (a b : LinesAbove) (s : SectionSizes) (ls : List Line) (bs : List (List ℕ)) → AllStand a s ls bs → left_by b ls (map length bs) ≡ laid_by b ls
lengths_same a b s [] [] h = refl
lengths_same a b s [] (x ∷ bs) h = absurd h
lengths_same a b s (l ∷ ls) [] h = absurd h
lengths_same a b s (l ∷ ls) (x ∷ bs) (right, more) =
    let n : length x ≡ statement_length (statement_said l) = stands_length s.section a (address_of_offset a (section_offset_of s)) (statement_said l) x right in
    ap (λ (m : ℕ). left_by (above_with b l m) ls (map length bs)) n ∙ lengths_same a (above_with b l (statement_length (statement_said l))) (sizes_after s (statement_said l) (length x)) ls bs more

pub put_text : (a : LinesAbove) (s : SectionSizes) (at : ℕ) (t : Statement) (text init text' init' : List ℕ) → s.section ≡ Text → at ≡ address_of_offset a (section_offset_of s)
    → Pushes a at t text text' → init' ≡ init → PutsOut a s t text init text' init'
put_text a s at t text init text' init' here place (b, right, new) same = record {
  bytes = b;
  stand = subst (λ (v : Section). StandsIn v a (address_of_offset a (section_offset_of s)) t b) (sym here) (subst (λ (v : ℕ). BytesOf a v t b) place right);
  text_is = new ∙ ap (λ (v : Section). text ++ put_into Text v b) (sym here);
  init_is = same ∙ sym (append-nil init) ∙ ap (λ (v : Section). init ++ put_into Data v b) (sym here);
}

pub put_init : (a : LinesAbove) (s : SectionSizes) (at : ℕ) (t : Statement) (text init text' init' : List ℕ) → s.section ≡ Data → at ≡ address_of_offset a (section_offset_of s)
    → Pushes a at t init init' → text' ≡ text → PutsOut a s t text init text' init'
put_init a s at t text init text' init' here place (b, right, new) same = record {
  bytes = b;
  stand = subst (λ (v : Section). StandsIn v a (address_of_offset a (section_offset_of s)) t b) (sym here) (subst (λ (v : ℕ). BytesOf a v t b) place right);
  text_is = same ∙ sym (append-nil text) ∙ ap (λ (v : Section). text ++ put_into Text v b) (sym here);
  init_is = new ∙ ap (λ (v : Section). init ++ put_into Data v b) (sym here);
}

pub put_bss : (a : LinesAbove) (s : SectionSizes) (t : Statement) (text init text' init' : List ℕ) → s.section ≡ Bss → text' ≡ text → init' ≡ init → PutsOut a s t text init text' init'
put_bss a s t text init text' init' here same same' = record {
  bytes = replicate (statement_length t) 0;
  stand = subst (λ (v : Section). StandsIn v a (address_of_offset a (section_offset_of s)) t (replicate (statement_length t) 0)) (sym here) refl;
  text_is = same ∙ sym (append-nil text) ∙ ap (λ (v : Section). text ++ put_into Text v (replicate (statement_length t) 0)) (sym here);
  init_is = same' ∙ sym (append-nil init) ∙ ap (λ (v : Section). init ++ put_into Data v (replicate (statement_length t) 0)) (sym here);
}

pub completes_put : (a : LinesAbove) (ls : List Line) (i : ℕ) (s r : SectionSizes) (text init text' init' : List ℕ) (l : Line) → drop i ls ≡ l ∷ drop (i + 1) ls
    → Completes a ls i s text init → PutsOut a s (statement_said l) text init text' init' → r ≡ sizes_after s (statement_said l) (statement_length (statement_said l)) → Completes a ls (i + 1) r text' init'
completes_put a ls i s r text init text' init' l next before put same =
    let more = completes_more a ls i s r text init l put.bytes before next put.stand same in
    subst (λ (v : List ℕ). Completes a ls (i + 1) r v init') (sym put.text_is)
    (subst (λ (v : List ℕ). Completes a ls (i + 1) r (text ++ put_into Text s.section put.bytes) v) (sym put.init_is) more)

-- with no line left the bytes are whole
pub completed : (a : LinesAbove) (ls : List Line) (i : ℕ) (s : SectionSizes) (text init : List ℕ) → length ls ≤ i → Completes a ls i s text init → AreParts a no_lines_above.sizes ls text init
completed a ls i s text init h before =
    let over : drop i ls ≡ [] = drop_all i ls h in
    let parts = before [] (subst (λ (v : List Line). AllStand a s v []) (sym over) tt) in record {
      bytes = parts.bytes;
      stand = parts.stand;
      text_is = sym (append-nil text) ∙ ap (λ (v : List Line). text ++ contents Text s v []) (sym over) ∙ parts.text_is;
      init_is = sym (append-nil init) ∙ ap (λ (v : List Line). init ++ contents Data s v []) (sym over) ∙ parts.init_is;
    }

pub begun : (a : LinesAbove) (ls : List Line) → Completes a ls 0 no_lines_above.sizes [] []
begun a ls rest stand = record { bytes = rest; stand = stand; text_is = refl; init_is = refl }

-- ---- the values of a line

pub values_more : (f : Value → Option ℕ) (g : ℕ → List ℕ) (vs : List Value) (i : ℕ) (v : Value) (number : ℕ) (old out new : List ℕ) → i < length vs
    → f (get_or vs i v) ≡ Some number → (ns : List ℕ) × (map f (take i vs) ≡ map Some ns) × (out ≡ old ++ flat_map g ns) → new ≡ out ++ g number
    → (ns : List ℕ) × (map f (take (i + 1) vs) ≡ map Some ns) × (new ≡ old ++ flat_map g ns)
values_more f g vs i v number old out new h there (ns, each, e) same = (
  ns ++ number ∷ [],
  ap (map f) (take_more vs i v h) ∙ map-append f (take i vs) (get_or vs i v ∷ []) ∙ ap (λ (x : List (Option ℕ)). x ++ f (get_or vs i v) ∷ []) each ∙ ap (λ (x : Option ℕ). map Some ns ++ x ∷ []) there ∙ sym (map-append Some ns (number ∷ [])),
  same ∙ ap (λ (x : List ℕ). x ++ g number) e ∙ append_assoc old (flat_map g ns) (g number) ∙ ap (λ (x : List ℕ). old ++ (flat_map g ns ++ x)) (sym (append-nil (g number))) ∙ ap (λ (x : List ℕ). old ++ x) (sym (flat_map-append g ns (number ∷ []))),
)

-- where no value from here on is undefined, the first of them has a number, and none after it is undefined
pub none_on : (a : LinesAbove) (vs : List Value) (i : ℕ) (v : Value) (r : Option ℕ) → r ≡ value_under a (get_or vs i v) → i < length vs → list_any (is_undefined a) (drop i vs) ≡ false
    → (is_some r ≡ true) × (list_any (is_undefined a) (drop (i + 1) vs) ≡ false)
none_on a vs i v r e h none =
    let next : drop i vs ≡ get_or vs i v ∷ drop (i + 1) vs = rw add-one (drop-cons vs i v h) in
    rw e (parted (is_some (value_under a (get_or vs i v))) (list_any (is_undefined a) (drop (i + 1) vs)) (sym (ap (list_any (is_undefined a)) next) ∙ none))
  where
    parted : (x y : Bool) → (not x || y) ≡ false → (x ≡ true) × (y ≡ false)
    parted true y e = (refl, e)
    parted false y e = cc

pub some_is_not_none : (r : Option ℕ) → is_some r ≡ true → r ≡ None → ⊥
some_is_not_none None some none = cc
some_is_not_none (Some n) some none = cc

-- with no value left all have their numbers
pub values_all : (f : Value → Option ℕ) (g : ℕ → List ℕ) (vs : List Value) (i : ℕ) (old out : List ℕ) → length vs ≤ i
    → (ns : List ℕ) × (map f (take i vs) ≡ map Some ns) × (out ≡ old ++ flat_map g ns)
    → (b : List ℕ) × ((ns : List ℕ) × (map f vs ≡ map Some ns) × (b ≡ flat_map g ns)) × (out ≡ old ++ b)
values_all f g vs i old out h (ns, each, e) = (flat_map g ns, (ns, ap (map f) (sym (take_all i vs h)) ∙ each, refl), e)
