-- Masks that are written with names: a bit more, and a name more.
use Rattle.std.proofs.Common.{◌≡◌, ◌≢◌, ◌∙◌, ◌<◌, ◌≤◌, ◌+◌, ◌-◌, ◌*◌, ◌%◌, ◌^◌, ◌⊎◌, inl, inr, ℕ, Bool, true, false, List, [], ◌∷◌, Option, Some, None, length, drop, take, max, refl, ap, sym, arith, length-drop, length-take, take_all}
use Rattle.std.specs.Prelude.{◌==◌, cond, not, bit_or, if◌then◌else◌, nat_lt, position}
use Rattle.std.specs.Int.{bit_at}
use Rattle.std.specs.Option.{option_map}
use Rattle.std.specs.Str.{bytes_eq}
use Rattle.std.specs.List.{before_first, onto_first, position_or_len, slice_split}
use Rattle.std.proofs.lemmas.Bool.{cases_eq, cond-false, cond-true, le-ltb, lt-ltb, ltb-true}
use Rattle.std.proofs.lemmas.Bool.Decides.{eqb_tells}
use Rattle.std.proofs.lemmas.List.Splits.{length-slice_split, slice_split-cons_no, slice_split_first}
use Rattle.std.proofs.lemmas.List.Sums.{prefix_len-le-length}
use Rattle.std.proofs.lemmas.Nat.{one_shl, or_disjoint}
use Rattle.std.proofs.lemmas.Nat.Bits.{and_pow, bit_at-lt, bit_at-pow_other, bit_at_or, same_from_bits}
use Rattle.mx_kcall.specs.Rows.{calls, first_call, name_of}
use Rattle.mx_look.specs.KernelCalls.{request_type}
use Rattle.mx_text.specs.Fields.{◌>>=◌}
use Rattle.mx_app_explain.specs.MaskNames.{bit_named, is_plus, mask_of_names, names_in, with_bit, with_names}
use Rattle.mx_app_explain.specs.declared.config_field.Key.{Key}

-- ---- a bit

there : (mask bit : ℕ) → bit_at mask bit ≡ 1 → bit_or mask (2 ^ bit) ≡ mask
there mask bit is = same_from_bits _ _ (λ i. bit_at_or mask (2 ^ bit) i ∙ by i (cases_eq i bit))
  where
    by : (i : ℕ) → (i ≡ bit) ⊎ (i ≢ bit) → max (bit_at mask i) (bit_at (2 ^ bit) i) ≡ bit_at mask i
    by i (inl e) = omega (arith, ap (bit_at mask) e, is, bit_at-lt (2 ^ bit) i)
    by i (inr other) = omega (arith, bit_at-pow_other bit i other)

new : (mask bit : ℕ) → bit_at mask bit ≢ 1 → bit_or mask (2 ^ bit) ≡ mask + 2 ^ bit
new mask bit off =
    let none : bit_at mask bit ≡ 0 = omega (arith, off, bit_at-lt mask bit) in
    let nothing : 0 * 2 ^ bit ≡ 0 = omega arith in
    or_disjoint mask (2 ^ bit) (and_pow mask bit ∙ ap (λ b. b * 2 ^ bit) none ∙ nothing)

pub bit_set : (mask bit : ℕ) → bit < 32 → bit_or mask (1 * 2 ^ bit % 2 ^ 32) ≡ with_bit mask bit
bit_set mask bit low = ap (bit_or mask) (one_shl bit 32 low) ∙ by (eqb_tells (bit_at mask bit) 1)
  where
    by : (((bit_at mask bit == 1) ≡ true) × (bit_at mask bit ≡ 1)) ⊎ (((bit_at mask bit == 1) ≡ false) × (bit_at mask bit ≢ 1)) → bit_or mask (2 ^ bit) ≡ with_bit mask bit
    by (inl h) = there mask bit h.1 ∙ sym (ap (λ (b : Bool). if b then mask else mask + 2 ^ bit) h.0)
    by (inr h) = new mask bit h.1 ∙ sym (ap (λ (b : Bool). if b then mask else mask + 2 ^ bit) h.0)

-- ---- a name

-- no plus is there
whole : (xs : List ℕ) → position_or_len is_plus xs ≡ length xs → names_in xs ≡ xs ∷ []
whole [] e = refl
whole (x ∷ xs) e = by (is_plus x) refl e (λ h. whole xs h)
  where
    by : (b : Bool) → is_plus x ≡ b → cond (not b) (1 + position_or_len is_plus xs) 0 ≡ length (x ∷ xs) → (position_or_len is_plus xs ≡ length xs → names_in xs ≡ xs ∷ []) → names_in (x ∷ xs) ≡ (x ∷ xs) ∷ []
    by true is same below = absurd (omega (arith, same))
    by false is same below = slice_split-cons_no is_plus x xs is ∙ ap (onto_first x) (below (omega (arith, same)))

within : (xs : List ℕ) → position_or_len is_plus xs ≤ length xs
within = prefix_len-le-length (λ x. not (is_plus x))

pub name_last : (rest name : List ℕ) → name ≡ before_first is_plus rest → length name ≡ length rest → names_in rest ≡ name ∷ []
name_last rest name is same =
    let all : position_or_len is_plus rest ≡ length rest = omega (arith, ap length is, same, length-take (position_or_len is_plus rest) rest, within rest) in
    whole rest all ∙ ap (λ (n : List ℕ). n ∷ []) (sym (is ∙ take_all (position_or_len is_plus rest) rest (omega (arith, all))))

pub name_more : (rest name : List ℕ) → name ≡ before_first is_plus rest → length name ≢ length rest → names_in rest ≡ name ∷ names_in (drop (length name + 1) rest)
name_more rest name is other =
    let at : length name ≡ position_or_len is_plus rest = omega (arith, ap length is, length-take (position_or_len is_plus rest) rest, within rest) in
    let inside : position_or_len is_plus rest < length rest = omega (arith, at, other, within rest) in
    slice_split_first is_plus rest 0 inside ∙ (λ k. sym is k ∷ names_in (drop (sym at k + 1) rest))

-- a slice up to the end
pub to_end : (n : ℕ) (xs : List ℕ) → take (length xs - n) (drop n xs) ≡ drop n xs
to_end n xs = take_all (length xs - n) (drop n xs) (omega (arith, length-drop n xs))

pub some_name : (rest : List ℕ) → 0 < length (names_in rest)
some_name rest = omega (arith, length-slice_split is_plus rest)

-- ---- the names of a mask

module _ (ls : List (List ℕ)) (key : Key) (mask : ℕ) (rest name : List ℕ) (is : name ≡ before_first is_plus rest) where
  pub one_more : (bit : ℕ) → length name ≢ length rest → bit_named ls key name ≡ Some bit
      → with_names ls key mask (names_in rest) ≡ with_names ls key (with_bit mask bit) (names_in (drop (length name + 1) rest))
  one_more bit other named =
      ap (with_names ls key mask) (name_more rest name is other)
      ∙ ap (λ (o : Option ℕ). o >>= (λ b. with_names ls key (with_bit mask b) (names_in (drop (length name + 1) rest)))) named

  pub last_one : (bit : ℕ) → length name ≡ length rest → bit_named ls key name ≡ Some bit → with_names ls key mask (names_in rest) ≡ Some (with_bit mask bit)
  last_one bit same named =
      ap (with_names ls key mask) (name_last rest name is same)
      ∙ ap (λ (o : Option ℕ). o >>= (λ b. with_names ls key (with_bit mask b) [])) named

  pub no_bit : bit_named ls key name ≡ None → with_names ls key mask (names_in rest) ≡ None
  no_bit named = by (cases_eq (length name) (length rest))
    where
      by : (length name ≡ length rest) ⊎ (length name ≢ length rest) → with_names ls key mask (names_in rest) ≡ None
      by (inl same) =
          ap (with_names ls key mask) (name_last rest name is same)
          ∙ ap (λ (o : Option ℕ). o >>= (λ b. with_names ls key (with_bit mask b) [])) named
      by (inr other) =
          ap (with_names ls key mask) (name_more rest name is other)
          ∙ ap (λ (o : Option ℕ). o >>= (λ b. with_names ls key (with_bit mask b) (names_in (drop (length name + 1) rest)))) named

  pub one_name : length name ≡ length rest → length (names_in rest) ≡ 1
  one_name same = ap length (name_last rest name is same)

  pub names_less : length name ≢ length rest → length (names_in rest) ≡ length (names_in (drop (length name + 1) rest)) + 1
  names_less other = omega (arith, ap length (name_more rest name is other))

module _ (ls : List (List ℕ)) (key : Key) (word : List ℕ) where
  -- at most 32 names
  pub few : (r : Option ℕ) → with_names ls key 0 (names_in word) ≡ r → length (names_in word) ≤ 32 → r ≡ mask_of_names ls key word
  few r e within = sym (cond-false (nat_lt 32 (length (names_in word))) None (with_names ls key 0 (names_in word)) (le-ltb 32 (length (names_in word)) within) ∙ e)

  pub many : 32 < length (names_in word) → None ≡ mask_of_names ls key word
  many more = sym (cond-true (nat_lt 32 (length (names_in word))) None (with_names ls key 0 (names_in word)) (lt-ltb 32 (length (names_in word)) more))

  pub unnamed : with_names ls key 0 (names_in word) ≡ None → None ≡ mask_of_names ls key word
  unnamed e = by (nat_lt 32 (length (names_in word)))
    where
      by : (b : Bool) → None ≡ cond b None (with_names ls key 0 (names_in word))
      by true = refl
      by false = sym e

-- ---- a call

place_low : {X : Type 0} (p : X → Bool) (xs : List X) (n : ℕ) → position p xs ≡ Some n → n < length xs
place_low p xs n e = by (nat_lt (position_or_len p xs) (length xs)) refl e
  where
    by : (b : Bool) → nat_lt (position_or_len p xs) (length xs) ≡ b → cond b (Some (position_or_len p xs)) None ≡ Some n → n < length xs
    by true is h =
        let same : position_or_len p xs ≡ n = cc in
        omega (arith, same, ltb-true (position_or_len p xs) (length xs) is)
    by false is h = absurd cc

pub call_low : (name : List ℕ) (kind : ℕ) → request_type name ≡ Some kind → (1536 ≤ kind) × (kind < 1568)
call_low name kind e = by (position (λ row. bytes_eq name (name_of row)) calls) refl e
  where
    by : (o : Option ℕ) → position (λ row. bytes_eq name (name_of row)) calls ≡ o → option_map (λ n. first_call + n) o ≡ Some kind → (1536 ≤ kind) × (kind < 1568)
    by None is h = absurd cc
    by (Some n) is h =
        let same : first_call + n ≡ kind = cc in
        let size : length calls ≤ 32 = omega arith in
        (omega (arith, same), omega (arith, same, size, place_low (λ row. bytes_eq name (name_of row)) calls n is))
