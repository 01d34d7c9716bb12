-- What partings have in common.
use Rattle.std.proofs.Common.{◌≡◌, ℕ, zero, suc, ◌<◌, ◌≤◌, get_or, arith, refl, sym, ◌∙◌, ap, subst, List, [], ◌∷◌, ◌++◌, length, take, drop, length-append, length-take, length-drop}
use Rattle.std.proofs.lemmas.List.{take-append-drop, drop-drop}
use Rattle.std.proofs.lemmas.List.Elements.{All-drop}
use Rattle.std.proofs.Math.Seq.{take-append_seam, drop-append_seam}
use Rattle.std.specs.Prelude.{◌↔◌, Result, Ok, Err}
use Rattle.mx_insn.specs.declared.insn.Insn.{Insn}
use Rattle.mx_insn.specs.Spelling.{Spells, AreBytes}
use Rattle.mx_decode.specs.declared.DecodeFault.{DecodeFault}
use Rattle.mx_decode.specs.declared.DecodeFault.TheVariants.{NotInTable, Short}
use Rattle.mx_decode.specs.Decode.{SpellsFirst, NoneFirst, front}
use Rattle.mx_decode.proofs.Laws.{one_spelling}
use Rattle.mx_decode.proofs.Front.{spelled_bytes, front_ok, front_not_in_table, front_short, front_takes}
use Rattle.mx_dis.specs.declared.part.Part.{Part}
use Rattle.mx_dis.specs.declared.part.Part.TheVariants.{Instruction, Byte}
use Rattle.mx_dis.specs.Parting.{IsParting, BeginsWith, total_size}

-- a spelling is of bytes, so decoding finds it, and what decoding finds takes a byte
pub takes_bytes : (t : List ℕ) (k : ℕ) (i : Insn) → SpellsFirst t k i → 1 ≤ k
takes_bytes t zero i x =
    let b : AreBytes [] = spelled_bytes [] i x.1 in
    let first : SpellsFirst [] 0 i = (omega arith, x.1) in
    (front_takes [] i 0 b ((front_ok [] i 0 b).1 first)).least
takes_bytes t (suc k) i x = omega arith

-- a text that begins with a spelling begins with no other
pub same_first : (t : List ℕ) (k l : ℕ) (i j : Insn) → SpellsFirst t k i → SpellsFirst t l j → (k ≡ l) × (i ≡ j)
same_first t k l i j x y =
    let same = one_spelling (take k t) (take l t) (drop k t) (drop l t) i j x.1 y.1 (take-append-drop k t ∙ sym (take-append-drop l t)) in
    (omega (arith, x.0, y.0, length-take k t, length-take l t, ap length same.0), same.1)

pub first : (t : List ℕ) (k : ℕ) (i : Insn) (parts : List Part) → SpellsFirst t k i → IsParting t parts → BeginsWith i k (drop k t) parts
first t k i [] x e = absurd (omega (arith, x.0, takes_bytes t k i x, ap length e))
first t k i (Byte b ∷ parts) x (rest, e, none, more) = absurd (none k i x)
first t k i (Instruction j l ∷ parts) x (y, more) =
    let same = same_first t l k j i y x in
    let others : IsParting (drop k t) parts = subst (λ (n : ℕ). IsParting (drop n t) parts) same.0 more in
    let line : Instruction j l ∷ parts ≡ Instruction i k ∷ parts = let p = same.0 in let q = same.1 in cc in
    (parts, line, others)

pub spelled : (b rest : List ℕ) (i : Insn) (parts : List Part) → Spells b i → IsParting (b ++ rest) parts → BeginsWith i (length b) rest parts
spelled b rest i parts x p =
    let at_front : SpellsFirst (b ++ rest) (length b) i = (omega (arith, length-append b rest), subst (λ (w : List ℕ). Spells w i) (sym (take-append_seam b rest)) x) in
    let found = first (b ++ rest) (length b) i parts at_front p in
    (found.0, found.1, subst (λ (w : List ℕ). IsParting w found.0) (drop-append_seam b rest) found.2)

pub later : (t : List ℕ) (front_parts back : List Part) → IsParting t (front_parts ++ back) → IsParting (drop (total_size front_parts) t) back
later t [] back p = p
later t (Instruction i k ∷ parts) back (x, more) =
    subst (λ (w : List ℕ). IsParting w back) (drop-drop (total_size parts) k t) (later (drop k t) parts back more)
later t (Byte b ∷ parts) back (rest, e, none, more) =
    let behind : rest ≡ drop 1 t = sym (ap (drop 1) e) in
    let there : IsParting (drop (total_size parts) (drop 1 t)) back = subst (λ (w : List ℕ). IsParting (drop (total_size parts) w) back) behind (later rest parts back more) in
    subst (λ (w : List ℕ). IsParting w back) (drop-drop (total_size parts) 1 t) there

nil_cons : (x : ℕ) (t rest : List ℕ) → t ≡ [] → t ≡ x ∷ rest → ⊥
nil_cons x t rest e f = let g = sym e ∙ f in cc

same_rest : (x y : ℕ) (t xs ys : List ℕ) → t ≡ x ∷ xs → t ≡ y ∷ ys → (x ≡ y) × (ys ≡ xs)
same_rest x y t xs ys e f = (cc, cc)

pub one_parting : (t : List ℕ) (a b : List Part) → IsParting t a → IsParting t b → a ≡ b
one_parting t [] [] e f = refl
one_parting t [] (Byte y ∷ b) e (rest, f, none, more) = absurd (nil_cons y t rest e f)
one_parting t [] (Instruction j l ∷ b) e (y, more) = absurd (omega (arith, y.0, takes_bytes t l j y, ap length e))
one_parting t (Byte x ∷ a) [] (rest, e, none, more) f = absurd (nil_cons x t rest f e)
one_parting t (Byte x ∷ a) (Byte y ∷ b) (rest, e, none, more) (others, f, nothing, behind) =
    let same = same_rest x y t rest others e f in
    let p = same.0 in
    let tails = one_parting rest a b more (subst (λ (w : List ℕ). IsParting w b) same.1 behind) in
    cc
one_parting t (Byte x ∷ a) (Instruction j l ∷ b) (rest, e, none, more) (y, behind) = absurd (none l j y)
one_parting t (Instruction i k ∷ a) b (x, more) f =
    let found = first t k i b x f in
    let tails = one_parting (drop k t) a found.0 more found.2 in
    let line = found.1 in
    cc

-- the fault that decoding answers says that nothing spells
pub none_first : {A B N : Type 0} (d : DecodeFault) → ◌≡◌ {A = Result (Insn × ℕ) DecodeFault} (Err d) (Err NotInTable) ↔ (N × A) → ◌≡◌ {A = Result (Insn × ℕ) DecodeFault} (Err d) (Err Short) ↔ (N × B) → N
none_first NotInTable x y = (x.0 refl).0
none_first Short x y = (y.0 refl).0

-- a text's first byte and the rest
pub cut_one : (t : List ℕ) → 0 < length t → t ≡ get_or t 0 0 ∷ drop 1 t
cut_one [] lt = absurd (omega arith)
cut_one (x ∷ xs) lt = refl

abbrev pub SomeParting : List ℕ → Type 0
SomeParting t = (parts : List Part) × IsParting t parts

byte_first : (t : List ℕ) → 0 < length t → NoneFirst t → SomeParting (drop 1 t) → SomeParting t
byte_first t lt none (parts, p) = (Byte (get_or t 0 0) ∷ parts, (drop 1 t, cut_one t lt, none, p))

-- the first part, by what decoding answers, and a parting of what is after it
first_and_rest : (t : List ℕ) → AreBytes t → 0 < length t
    → (r : Result (Insn × ℕ) DecodeFault) → front t ≡ r → ((k : ℕ) → 1 ≤ k → SomeParting (drop k t)) → SomeParting t
first_and_rest t b lt (Ok (i, k)) e rest =
    let x = (front_ok t i k b).0 e in
    let more = rest k (takes_bytes t k i x) in
    (Instruction i k ∷ more.0, (x, more.1))
first_and_rest t b lt (Err NotInTable) e rest = byte_first t lt ((front_not_in_table t b).0 e).0 (rest 1 (omega arith))
first_and_rest t b lt (Err Short) e rest = byte_first t lt ((front_short t b).0 e).0 (rest 1 (omega arith))

-- a list of at most n bytes has a parting
pub some_parting : (n : ℕ) (t : List ℕ) → length t ≤ n → AreBytes t → SomeParting t
some_parting n [] le b = ([], refl)
some_parting zero (x ∷ t) le b = absurd (omega arith)
some_parting (suc n) (x ∷ t) le b =
    first_and_rest (x ∷ t) b (omega arith) (front (x ∷ t)) refl
    (λ k one. some_parting n (drop k (x ∷ t)) (omega (arith, length-drop k (x ∷ t))) (All-drop (λ b. b < 256) k (x ∷ t) b))
