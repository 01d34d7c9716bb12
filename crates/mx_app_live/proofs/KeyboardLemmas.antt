-- The lines of a byte, one after another.
use Rattle.std.proofs.Common.{◌≡◌, ◌∙◌, ◌+◌, ◌≤◌, ◌++◌, ◌∷◌, [], if◌then◌else◌, ℕ, zero, suc, Bool, true, false, List, Some, map, drop, refl, ap, arith, append_assoc}
use Rattle.std.specs.List.{filter, range_with_len}
use Rattle.std.proofs.lemmas.List.{map-append}
use Rattle.std.proofs.lemmas.List.Elements.{filter-append}
use Rattle.mx_machine.specs.declared.events.Event.{Event}
use Rattle.mx_machine.specs.declared.events.Event.TheVariants.{Line}
use Rattle.mx_turns.proofs.OfferLemmas.{range_more}
use Rattle.mx_word.specs.Bits.{has_bit}
use Rattle.mx_typist.specs.declared.typist.Raise.{Raise}
use Rattle.mx_keyboard.specs.Keyboard.{raise_events}

-- the lines of some bits
abbrev pub lines_of : ℕ → List ℕ → List ℕ
lines_of b bits = map (λ k. 8 + k) (filter (has_bit b) bits)

abbrev pub events_of : ℕ → List ℕ → List (ℕ × Event)
events_of a ls = map (λ l. let x : ℕ × Event = (a, Line l) in x) ls

-- the events of the lines of the first n bits
abbrev pub first_events : ℕ → ℕ → ℕ → List (ℕ × Event)
first_events a b n = events_of a (lines_of b (range_with_len 0 n))

events_joined : (a b : ℕ) (xs ys : List ℕ) → events_of a (lines_of b (xs ++ ys)) ≡ events_of a (lines_of b xs) ++ events_of a (lines_of b ys)
events_joined a b xs ys =
    ap (λ (l : List ℕ). events_of a (map (λ k. 8 + k) l)) (filter-append (has_bit b) xs ys)
    ∙ ap (events_of a) (map-append (λ k. 8 + k) (filter (has_bit b) xs) (filter (has_bit b) ys))
    ∙ map-append (λ l. let x : ℕ × Event = (a, Line l) in x) (lines_of b xs) (lines_of b ys)

one_of : (a b n : ℕ) (t : Bool) → has_bit b n ≡ t → events_of a (lines_of b (n ∷ [])) ≡ (if t then (a, Line (8 + n)) ∷ [] else [])
one_of a b n true is = rw is refl
one_of a b n false is = rw is refl

pub first_more : (a b n : ℕ) (t : Bool) → has_bit b n ≡ t → first_events a b (n + 1) ≡ first_events a b n ++ (if t then (a, Line (8 + n)) ∷ [] else [])
first_more a b n t is =
    let same : 0 + n ≡ n = omega arith in
    ap (λ (l : List ℕ). events_of a (lines_of b l)) (range_more 0 n ∙ ap (λ k. range_with_len 0 n ++ k ∷ []) same)
    ∙ events_joined a b (range_with_len 0 n) (n ∷ [])
    ∙ ap (λ (l : List (ℕ × Event)). first_events a b n ++ l) (one_of a b n t is)

nil_after : {A : Type 0} (xs : List A) → xs ++ [] ≡ xs
nil_after [] = refl
nil_after (x ∷ xs) = ap (λ l. x ∷ l) (nil_after xs)

-- a bit that is 0 has no line
pub first_same : (a b n : ℕ) → has_bit b n ≡ false → first_events a b (n + 1) ≡ first_events a b n
first_same a b n is = first_more a b n false is ∙ nil_after (first_events a b n)

range_part : (n : ℕ) → n ≤ 8 → range_with_len 0 8 ≡ range_with_len 0 n ++ drop n (range_with_len 0 8)
range_part zero h = refl
range_part (suc zero) h = refl
range_part (suc (suc zero)) h = refl
range_part (suc (suc (suc zero))) h = refl
range_part (suc (suc (suc (suc zero)))) h = refl
range_part (suc (suc (suc (suc (suc zero))))) h = refl
range_part (suc (suc (suc (suc (suc (suc zero)))))) h = refl
range_part (suc (suc (suc (suc (suc (suc (suc zero))))))) h = refl
range_part (suc (suc (suc (suc (suc (suc (suc (suc zero)))))))) h = refl
range_part (suc (suc (suc (suc (suc (suc (suc (suc (suc n))))))))) h = absurd (omega (arith, h))

-- all events of a byte
pub raised : (a : ℕ) (r : Raise) → raise_events a (Some r) ≡ first_events a r.byte 8 ++ (a, Line 7) ∷ []
raised a r = map-append (λ l. let x : ℕ × Event = (a, Line l) in x) (lines_of r.byte (range_with_len 0 8)) (7 ∷ [])

-- the first of them, and the rest
pub raised_part : (a : ℕ) (r : Raise) (n : ℕ) → n ≤ 8
    → raise_events a (Some r) ≡ first_events a r.byte n ++ (events_of a (lines_of r.byte (drop n (range_with_len 0 8))) ++ (a, Line 7) ∷ [])
raised_part a r n h =
    raised a r
    ∙ ap (λ (l : List ℕ). events_of a (lines_of r.byte l) ++ (a, Line 7) ∷ []) (range_part n h)
    ∙ ap (λ (l : List (ℕ × Event)). l ++ (a, Line 7) ∷ []) (events_joined a r.byte (range_with_len 0 n) (drop n (range_with_len 0 8)))
    ∙ append_assoc (first_events a r.byte n) (events_of a (lines_of r.byte (drop n (range_with_len 0 8)))) ((a, Line 7) ∷ [])
