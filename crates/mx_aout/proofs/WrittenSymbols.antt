-- What is written of symbols reads as these symbols.
use Rattle.std.proofs.Common.{◌≡◌, ◌<◌, ◌≤◌, ◌+◌, ◌*◌, ℕ, zero, suc, List, [], ◌∷◌, ◌++◌, length, length-append, take, ap, ap₂, sym, ◌∙◌, refl, arith, get_or, add-one, append_assoc, append-nil}
use Rattle.std.specs.List.{AllByRecursion, flat_map}
use Rattle.std.proofs.Math.Seq.{take-suc}
use Rattle.std.proofs.lemmas.List.{get_or-append-add, get_or_append_left}
use Rattle.std.proofs.lemmas.Grind.{flat_map-append}
use Rattle.mx_word.specs.Word.{value_at}
use Rattle.mx_aout.specs.declared.program.Symbol.{Symbol}
use Rattle.mx_aout.specs.File.{bytes_at, symbol_at, symbols_from}
use Rattle.mx_aout.specs.Written.{symbol_bytes}

-- a symbol's bytes have it
abbrev pub IsKept : Symbol → Type 0
IsKept s = symbol_at (symbol_bytes s) 0 ≡ s

abbrev pub no_symbol : Symbol
no_symbol = record { name = []; value = 0; class = 0; auxiliary = 0; kind = 0 }

all_and_one : (xs : List Symbol) (y : Symbol) → AllByRecursion IsKept xs → IsKept y → AllByRecursion IsKept (xs ++ y ∷ [])
all_and_one [] y h k = (k, tt)
all_and_one (x ∷ xs) y h k = (h.0, all_and_one xs y h.1 k)

pub kept_more : (xs : List Symbol) (i : ℕ) → i < length xs → AllByRecursion IsKept (take i xs) → IsKept (get_or xs i no_symbol) → AllByRecursion IsKept (take (i + 1) xs)
kept_more xs i lt h k = rw (add-one, take-suc xs i no_symbol) (all_and_one (take i xs) (get_or xs i no_symbol) h k)

-- one element more
pub flat_map_more : {X : Type 0} (f : X → List ℕ) (xs : List X) (i : ℕ) (d : X) → i < length xs → flat_map f (take (i + 1) xs) ≡ flat_map f (take i xs) ++ f (get_or xs i d)
flat_map_more f xs i d lt =
    rw (add-one, take-suc xs i d) (flat_map-append f (take i xs) (get_or xs i d ∷ []) ∙ ap (λ (z : List ℕ). flat_map f (take i xs) ++ z) (append-nil (f (get_or xs i d))))

-- ---- bytes in the middle

byte_inside : (pre x rest : List ℕ) (n i : ℕ) → n ≡ length pre + i → i < length x → get_or (pre ++ (x ++ rest)) n 0 ≡ get_or x i 0
byte_inside pre x rest n i e lt = ap (λ (m : ℕ). get_or (pre ++ (x ++ rest)) m 0) e ∙ get_or-append-add pre (x ++ rest) i 0 ∙ get_or_append_left x rest 0 i lt

value_inside : (k : ℕ) (pre x rest : List ℕ) (n i : ℕ) → n ≡ length pre + i → i + k ≤ length x → value_at (pre ++ (x ++ rest)) n k ≡ value_at x i k
value_inside zero pre x rest n i e le = refl
value_inside (suc k) pre x rest n i e le =
    ap₂ (λ (a b : ℕ). a + 256 * b) (byte_inside pre x rest n i e (omega arith)) (value_inside k pre x rest (suc n) (suc i) (omega arith) (omega arith))

bytes_inside : (k : ℕ) (pre x rest : List ℕ) (n i : ℕ) → n ≡ length pre + i → i + k ≤ length x → bytes_at (pre ++ (x ++ rest)) n k ≡ bytes_at x i k
bytes_inside zero pre x rest n i e le = refl
bytes_inside (suc k) pre x rest n i e le =
    ap₂ (λ (a : ℕ) (b : List ℕ). a ∷ b) (byte_inside pre x rest n i e (omega arith)) (bytes_inside k pre x rest (suc n) (suc i) (omega arith) (omega arith))

abbrev symbol_of : List ℕ → ℕ → ℕ → ℕ → ℕ → Symbol
symbol_of n v c a k = record { name = n; value = v; class = c; auxiliary = a; kind = k }

same_symbol : (n m : List ℕ) (v w c d a b k l : ℕ) → n ≡ m → v ≡ w → c ≡ d → a ≡ b → k ≡ l
    → symbol_of n v c a k ≡ symbol_of m w d b l
same_symbol n m v w c d a b k l e f g h i = cc

-- sixteen bytes in the middle are read as they are alone
symbol_inside : (pre x rest : List ℕ) (at : ℕ) → at ≡ length pre → length x ≡ 16 → symbol_at (pre ++ (x ++ rest)) at ≡ symbol_at x 0
symbol_inside pre x rest at e long =
    same_symbol _ _ _ _ _ _ _ _ _ _
    (bytes_inside 8 pre x rest at 0 (omega arith) (omega arith))
    (value_inside 4 pre x rest (at + 8) 8 (omega arith) (omega arith))
    (byte_inside pre x rest (at + 12) 12 (omega arith) (omega arith))
    (byte_inside pre x rest (at + 13) 13 (omega arith) (omega arith))
    (value_inside 2 pre x rest (at + 14) 14 (omega arith) (omega arith))

-- a symbol's bytes are sixteen where it has a name of eight
pub symbol_length : (s : Symbol) → IsKept s → length (symbol_bytes s) ≡ 16
symbol_length s k =
    let name : length s.name ≡ 8 = ap (λ (t : Symbol). length t.name) (sym k) in
    omega (arith, length-append {A = ℕ})

pub symbols_length : (xs : List Symbol) → AllByRecursion IsKept xs → length (flat_map symbol_bytes xs) ≡ length xs * 16
symbols_length [] h = refl
symbols_length (x ∷ xs) h =
    let here = symbol_length x h.0 in
    let rest = symbols_length xs h.1 in
    length-append (symbol_bytes x) (flat_map symbol_bytes xs) ∙ omega arith

pub symbols_again : (xs : List Symbol) (pre : List ℕ) (at : ℕ) → at ≡ length pre → AllByRecursion IsKept xs → symbols_from (pre ++ flat_map symbol_bytes xs) at (length xs) ≡ xs
symbols_again [] pre at e h = refl
symbols_again (x ∷ xs) pre at e h =
    let bytes = symbol_bytes x in
    let rest = flat_map symbol_bytes xs in
    let long : length bytes ≡ 16 = symbol_length x h.0 in
    let here : symbol_at (pre ++ (bytes ++ rest)) at ≡ x =
    symbol_inside pre bytes rest at e long ∙ h.0 in
    let further : symbols_from ((pre ++ bytes) ++ rest) (at + 16) (length xs) ≡ xs =
    symbols_again xs (pre ++ bytes) (at + 16) (omega (arith, length-append pre bytes)) h.1 in
    ap₂ (λ (y : Symbol) (ys : List Symbol). y ∷ ys) here
    (ap (λ (b : List ℕ). symbols_from b (at + 16) (length xs)) (sym (append_assoc pre bytes rest)) ∙ further)
