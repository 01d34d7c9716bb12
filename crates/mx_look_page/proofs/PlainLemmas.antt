-- What the data are made of stands in a line, and none of it is markup.
use Rattle.std.proofs.Common.{◌≡◌, ◌∙◌, ◌++◌, ◌<◌, ◌≤◌, ◌≢◌, ◌||◌, ◌==◌, ◌/◌, ◌%◌, ℕ, ℤ, pos, negsuc, zero, suc, ◌+◌, Bool, true, false, cond, List, [], ◌∷◌, inl, inr, refl, sym, ap, arith, decimal, drop, get_or, append_assoc, ◌⊎◌}
use Rattle.std.specs.Prelude.{codes, nat_lt, not}
use Rattle.std.specs.Fmt.{digit_glyph, digits_onto, digits, signed_decimal}
use Rattle.std.specs.List.{flat_map, list_all}
use Rattle.std.proofs.lemmas.Bool.{and_from, and_parts, cases_lt, ne_eqb, lt-ltb, ltb-true}
use Rattle.std.proofs.lemmas.List.Folds.{list_all-append}
use Rattle.std.proofs.Math.Nat.{mod-lt}
use Rattle.mx_print_report.specs.Numbers.{two_digits}
use Rattle.mx_look_page.specs.Json.{ArePlain, IsPlainLine, escaped, is_coded, is_plain, text, numbered, list_of, member}

-- ---- bytes

plain_byte : (b : ℕ) → 31 < b → b < 127 → b ≢ 60 → is_plain b ≡ true
plain_byte b low high other = and_from _ _ (lt-ltb 31 b low) (and_from _ _ (lt-ltb b 127 high) (ap not (ne_eqb b 60 other)))

or_right : (p q : Bool) → q ≡ true → (p || q) ≡ true
or_right true q e = refl
or_right false q e = e

or_left : (p q : Bool) → p ≡ true → (p || q) ≡ true
or_left p q e = ap (λ b. b || q) e

-- a byte that isn't coded is plain
not_coded : (b : ℕ) → is_coded b ≡ false → is_plain b ≡ true
not_coded b e =
    plain_byte b (above (cases_lt b 32)) (below (cases_lt 126 b)) other
  where
    clash : is_coded b ≡ true → false ≡ true
    clash t = sym e ∙ t

    above : (b < 32) ⊎ (32 ≤ b) → 31 < b
    above (inl less) = absurd (let f = clash (or_left (nat_lt b 32) _ (lt-ltb b 32 less)) in cc)
    above (inr more) = omega (arith, more)

    below : (126 < b) ⊎ (b ≤ 126) → b < 127
    below (inl more) = absurd (let f = clash (or_right (nat_lt b 32) _ (or_right (b == 60) _ (lt-ltb 126 b more))) in cc)
    below (inr less) = omega (arith, less)

    other : b ≢ 60
    other is = absurd (let f = clash (or_right (nat_lt b 32) _ (or_left (b == 60) _ (ap (λ n. n == 60) is))) in cc)

-- ---- lists of them

pub both : (s t : List ℕ) → ArePlain s → ArePlain t → ArePlain (s ++ t)
both s t p q = list_all-append is_plain s t ∙ and_from _ _ p q

pub each : {X : Type 0} (f : X → List ℕ) → ((x : X) → ArePlain (f x)) → (xs : List X) → ArePlain (flat_map f xs)
each f h [] = refl
each f h (x ∷ xs) = both (f x) (flat_map f xs) (h x) (each f h xs)

pub either : (c : Bool) (s t : List ℕ) → ArePlain s → ArePlain t → ArePlain (cond c s t)
either true s t p q = p
either false s t p q = q

tail : (s : List ℕ) → ArePlain s → ArePlain (drop 1 s)
tail [] h = refl
tail (b ∷ s) h = (and_parts (is_plain b) (list_all is_plain s) h).1

-- ---- numbers

digit : (upper : Bool) (d : ℕ) → d < 10 → is_plain (digit_glyph upper d) ≡ true
digit upper d few = ap (λ b. is_plain (cond b (48 + d) (cond upper (55 + d) (87 + d)))) (lt-ltb d 10 few) ∙ plain_byte (48 + d) (omega (arith, few)) (omega (arith, few)) (λ e. omega (arith, few, e))

onto : (k n : ℕ) (acc : List ℕ) → ArePlain acc → ArePlain (digits_onto k 10 false n acc)
onto zero n acc h = h
onto (suc k) n acc h =
    let d = digit_glyph false (n % 10) in
    let more : ArePlain (d ∷ acc) = and_from _ _ (digit false (n % 10) (mod-lt n (omega arith))) h in
    either (n / 10 == 0) (d ∷ acc) (digits_onto k 10 false (n / 10) (d ∷ acc)) more (onto k (n / 10) (d ∷ acc) more)

pub plain_number : (n : ℕ) → ArePlain (decimal n)
unfolding digits
plain_number n = onto 64 n [] refl

pub plain_signed : (z : ℤ) → ArePlain (signed_decimal z)
plain_signed (pos n) = plain_number n
plain_signed (negsuc n) = both (45 ∷ []) (decimal (suc n)) refl (plain_number (suc n))

pub plain_numbered : (n : ℕ) → ArePlain (numbered n)
plain_numbered n = both (codes ",") (decimal n) refl (plain_number n)

-- ---- texts

hex : (d : ℕ) → d < 16 → is_plain (digit_glyph false d) ≡ true
hex d few = elim (cases_lt d 10) [
  | inl less ↦ digit false d less
  | inr more ↦ (let no : nat_lt d 10 ≡ false = not_less d more in
      ap (λ b. is_plain (cond b (48 + d) (87 + d))) no ∙ plain_byte (87 + d) (omega (arith, few)) (omega (arith, few)) (λ e. omega (arith, more, e)))
]
  where
    not_less : (d : ℕ) → 10 ≤ d → nat_lt d 10 ≡ false
    not_less d more = by (nat_lt d 10) refl
      where
        by : (b : Bool) → nat_lt d 10 ≡ b → b ≡ false
        by true e = absurd (omega (arith, more, ltb-true d 10 e))
        by false e = refl

plain_escaped : (b : ℕ) → b < 256 → ArePlain (escaped b)
unfolding escaped
plain_escaped b small =
    either (b == 34) (codes "\\\"") _ refl
    (either (b == 92) (codes "\\\\") _ refl
    (either (b == 10) (codes "\\n") _ refl (last (is_coded b) refl)))
  where
    last : (c : Bool) → is_coded b ≡ c → ArePlain (cond c (codes "\\u00" ++ two_digits b) (b ∷ []))
    last true e = both (codes "\\u00") (two_digits b) refl (and_from _ _ (hex (b / 16) (omega (arith, small))) (and_from _ _ (hex (b % 16) (mod-lt b (omega arith))) refl))
    last false e = and_from _ _ (not_coded b e) refl

all_escaped : (bytes : List ℕ) → ((i : ℕ) → get_or bytes i 0 < 256) → ArePlain (flat_map escaped bytes)
all_escaped [] small = refl
all_escaped (b ∷ bytes) small = both (escaped b) (flat_map escaped bytes) (plain_escaped b (small 0)) (all_escaped bytes (λ i. small (suc i)))

pub plain_text : (bytes : List ℕ) → ((i : ℕ) → get_or bytes i 0 < 256) → ArePlain (text bytes)
unfolding text
plain_text bytes small = both (codes "\"") (flat_map escaped bytes ++ codes "\"") refl (both (flat_map escaped bytes) (codes "\"") (all_escaped bytes small) refl)

-- ---- members and lists

pub plain_member : (name : List ℕ) → ArePlain name → ArePlain (member name)
plain_member name h = both (codes ",\"") (name ++ codes "\":") refl (both name (codes "\":") h refl)

pub plain_list : (items : List ℕ) → ArePlain items → ArePlain (list_of items)
plain_list items h = both (codes "[") (drop 1 items ++ codes "]") refl (both (drop 1 items) (codes "]") (tail items h) refl)

-- ---- lines

pub plain_line : (s t : List ℕ) → ArePlain s → t ≡ s ++ codes "}\n" → IsPlainLine t
plain_line s t h e = (s ++ codes "}", e ∙ sym (append_assoc s (codes "}") (codes "\n")), both s (codes "}") h refl)
