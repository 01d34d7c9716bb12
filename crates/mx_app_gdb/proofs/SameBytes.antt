-- Bytes that are watched change if, and only if, a watch that has changed is found.
use Rattle.std.proofs.Common.{◌≡◌, ◌∙◌, ◌⊎◌, ◌+◌, ◌^◌, ◌||◌, ℕ, zero, suc, Bool, true, false, cond, not, nat_eq, nat_lt, List, [], ◌∷◌, ◌++◌, map, Option, Some, None, slice_get, refl, ap, sym, inl, inr, arith}
use Rattle.std.specs.Cmp.Lexicographic.{pointwise}
use Rattle.std.specs.List.{flat_map, range_with_len}
use Rattle.std.proofs.lemmas.Bool.{eq-eqb, eqb-true}
use Rattle.std.proofs.lemmas.Slice.Eq.{bytes_eq-Decides}
use Rattle.mx_machine.specs.declared.events.Event.{Event}
use Rattle.mx_machine.specs.Proc.TableState.{memory_at}
use Rattle.mx_machine.specs.World.{HeldProcess, World, held_by}
use Rattle.mx_walk.specs.declared.watching.BytePlace.{BytePlace}
use Rattle.mx_walk.specs.Several.{any_marks}
use Rattle.mx_walk.specs.Watching.{byte_by, byte_in, byte_of_held, byte_on, or_else, same_byte}
use Rattle.mx_app_look.specs.Changes.{bytes_of, first_change, listed_byte, listed_bytes, seen_in}
use Rattle.mx_app_look.specs.Marks.{changes, changes_bytes}
use Rattle.mx_app_look.specs.Watches.{place_at, places_of}
use Rattle.mx_app_look.specs.declared.watches.Watch.{Watch}

abbrev pub SameBytes : List BytePlace → World → World → Type 0
SameBytes [] w u = Unit {0}
SameBytes (b ∷ bs) w u = (byte_in w b ≡ byte_in u b) × SameBytes bs w u

-- ---- the bytes of a slot's process are those of one memory

abbrev place : ℕ → ℕ → BytePlace
place s a = record { slot = s; address = a }

abbrev IsMemory : List ℕ → World → ℕ → Type 0
IsMemory m w s = (a : ℕ) → byte_in w (place s a) ≡ slice_get m a

abbrev HeldIn : Option HeldProcess → ℕ → Type 0
HeldIn h s = ((a : ℕ) → byte_of_held h (place s a) ≡ None) ⊎ ((m : List ℕ) × ((a : ℕ) → byte_of_held h (place s a) ≡ Some (slice_get m a)))

held_by_test : (l : HeldProcess) (s : ℕ) (c : Bool) → nat_eq l.slot s ≡ c → HeldIn (Some l) s
held_by_test l s true e = inr (l.out.image.memory, λ a. ap (λ b. let o : Option (Option ℕ) = cond b (Some (slice_get l.out.image.memory a)) None in o) e)
held_by_test l s false e = inl (λ a. ap (λ b. let o : Option (Option ℕ) = cond b (Some (slice_get l.out.image.memory a)) None in o) e)

held_in : (h : Option HeldProcess) (s : ℕ) → HeldIn h s
held_in None s = inl (λ a. refl)
held_in (Some l) s = held_by_test l s (nat_eq l.slot s) refl

abbrev OnIn : World → ℕ → List ℕ → Type 0
OnIn w s cs = ((a : ℕ) → byte_on w (place s a) cs ≡ None) ⊎ ((m : List ℕ) × ((a : ℕ) → byte_on w (place s a) cs ≡ Some (slice_get m a)))

on_next : (w : World) (s c : ℕ) (cs : List ℕ) → HeldIn (held_by w c) s → OnIn w s cs → OnIn w s (c ∷ cs)
on_next w s c cs (inr m) later = inr (m.0, λ a. ap (λ (o : Option (Option ℕ)). or_else o (byte_on w (place s a) cs)) (m.1 a))
on_next w s c cs (inl n) (inl more) = inl (λ a. ap (λ (o : Option (Option ℕ)). or_else o (byte_on w (place s a) cs)) (n a) ∙ more a)
on_next w s c cs (inl n) (inr m) = inr (m.0, λ a. ap (λ (o : Option (Option ℕ)). or_else o (byte_on w (place s a) cs)) (n a) ∙ m.1 a)

on_in : (w : World) (s : ℕ) (cs : List ℕ) → OnIn w s cs
on_in w s [] = inl (λ a. refl)
on_in w s (c ∷ cs) = on_next w s c cs (held_in (held_by w c) s) (on_in w s cs)

memory_by : (w : World) (s : ℕ) → OnIn w s (range_with_len 0 8) → (m : List ℕ) × IsMemory m w s
unfolding byte_in
memory_by w s (inl n) = (memory_at w.table s, λ a. ap (λ (o : Option (Option ℕ)). byte_by o (slice_get (memory_at w.table s) a)) (n a))
memory_by w s (inr m) = (m.0, λ a. ap (λ (o : Option (Option ℕ)). byte_by o (slice_get (memory_at w.table s) a)) (m.1 a))

memory_of : (w : World) (s : ℕ) → (m : List ℕ) × IsMemory m w s
memory_of w s = memory_by w s (on_in w s (range_with_len 0 8))

ended : (m : List ℕ) (a : ℕ) → slice_get m a ≡ None → slice_get m (a + 1) ≡ None
ended [] a e = refl
ended (x ∷ xs) zero e = let no : Some x ≡ None = e in absurd cc
ended (x ∷ xs) (suc a) e = let next : suc a + 1 ≡ suc (a + 1) = omega arith in ap (slice_get (x ∷ xs)) next ∙ ended xs a e

-- after a place outside, all are
pub none_next : (w : World) (s a : ℕ) → byte_in w (place s a) ≡ None → byte_in w (place s (a + 1)) ≡ None
none_next w s a e = let m = memory_of w s in m.1 (a + 1) ∙ ended m.0 a (sym (m.1 a) ∙ e)

-- ---- the bytes of a watch tell each of them

abbrev from : ℕ → ℕ → ℕ → List BytePlace
from s a n = flat_map (place_at s) (range_with_len a n)

-- with the first place, or without
abbrev with_first : ℕ → ℕ → ℕ → Bool → List BytePlace
with_first s a n c = cond c (place s a ∷ []) [] ++ from s (a + 1) n

none_by_test : (w : World) (s a n : ℕ) (c : Bool) → byte_in w (place s a) ≡ None → listed_bytes w (from s (a + 1) n) ≡ [] → listed_bytes w (with_first s a n c) ≡ []
none_by_test w s a n true e none = ap (λ (o : Option ℕ). listed_byte o ++ listed_bytes w (from s (a + 1) n)) e ∙ none
none_by_test w s a n false e none = none

none_listed : (w : World) (s n a : ℕ) → byte_in w (place s a) ≡ None → listed_bytes w (from s a n) ≡ []
none_listed w s zero a e = refl
none_listed w s (suc n) a e = none_by_test w s a n (nat_lt a (2 ^ 32)) e (none_listed w s n (a + 1) (none_next w s a e))

abbrev Told : World → World → List BytePlace → Type 0
Told w u bs = listed_bytes w bs ≡ listed_bytes u bs → SameBytes bs w u

told_first : (w u : World) (s a n : ℕ) (o p : Option ℕ) → byte_in w (place s a) ≡ o → byte_in u (place s a) ≡ p → Told w u (from s (a + 1) n)
    → listed_byte o ++ listed_bytes w (from s (a + 1) n) ≡ listed_byte p ++ listed_bytes u (from s (a + 1) n) → SameBytes (place s a ∷ from s (a + 1) n) w u
told_first w u s a n (Some x) (Some y) h g again e =
    let all : x ∷ listed_bytes w (from s (a + 1) n) ≡ y ∷ listed_bytes u (from s (a + 1) n) = e in
    let one : x ≡ y = cc in
    let rest : listed_bytes w (from s (a + 1) n) ≡ listed_bytes u (from s (a + 1) n) = cc in
    (h ∙ ap (λ z. Some z) one ∙ sym g, again rest)
told_first w u s a n None None h g again e = (h ∙ sym g, again e)
told_first w u s a n (Some x) None h g again e =
    let all : x ∷ listed_bytes w (from s (a + 1) n) ≡ [] = e ∙ none_listed u s n (a + 1) (none_next u s a g) in absurd cc
told_first w u s a n None (Some y) h g again e =
    let all : [] ≡ y ∷ listed_bytes u (from s (a + 1) n) = sym (none_listed w s n (a + 1) (none_next w s a h)) ∙ e in absurd cc

told_by_test : (w u : World) (s a n : ℕ) (c : Bool) → Told w u (from s (a + 1) n) → Told w u (with_first s a n c)
told_by_test w u s a n true again e = told_first w u s a n (byte_in w (place s a)) (byte_in u (place s a)) refl refl again e
told_by_test w u s a n false again e = again e

told : (w u : World) (s n a : ℕ) → Told w u (from s a n)
told w u s zero a e = tt
told w u s (suc n) a e = told_by_test w u s a n (nat_lt a (2 ^ 32)) (told w u s n (a + 1)) e

-- ---- several watches

both_same : (bs cs : List BytePlace) (w u : World) → SameBytes bs w u → SameBytes cs w u → SameBytes (bs ++ cs) w u
both_same [] cs w u h g = g
both_same (b ∷ bs) cs w u h g = (h.0, both_same bs cs w u h.1 g)

front_same : (bs cs : List BytePlace) (w u : World) → SameBytes (bs ++ cs) w u → SameBytes bs w u
front_same [] cs w u h = tt
front_same (b ∷ bs) cs w u h = (h.0, front_same bs cs w u h.1)

rest_same : (bs cs : List BytePlace) (w u : World) → SameBytes (bs ++ cs) w u → SameBytes cs w u
rest_same [] cs w u h = h
rest_same (b ∷ bs) cs w u h = rest_same bs cs w u h.1

listed_same : (bs : List BytePlace) (w u : World) → SameBytes bs w u → listed_bytes w bs ≡ listed_bytes u bs
listed_same [] w u h = refl
listed_same (b ∷ bs) w u h = ap (λ o. listed_byte o ++ listed_bytes w bs) h.0 ∙ ap (λ xs. listed_byte (byte_in u b) ++ xs) (listed_same bs w u h.1)

pub none_first : (w u : World) (ws : List Watch) → SameBytes (flat_map places_of ws) w u → first_change u (map (seen_in w) ws) ≡ None
none_first w u [] h = refl
none_first w u (x ∷ ws) h =
    let bytes : bytes_of w x ≡ bytes_of u x = listed_same (places_of x) w u (front_same (places_of x) (flat_map places_of ws) w u h) in
    let same : pointwise nat_eq (bytes_of w x) (bytes_of u x) ≡ true = (bytes_eq-Decides (bytes_of w x) (bytes_of u x)).1 bytes in
    ap (λ c. cond c (first_change u (map (seen_in w) ws)) (Some x)) same ∙ none_first w u ws (rest_same (places_of x) (flat_map places_of ws) w u h)

same_by_test : (w u : World) (x : Watch) (ws : List Watch) (c : Bool) → pointwise nat_eq (bytes_of w x) (bytes_of u x) ≡ c
    → (first_change u (map (seen_in w) ws) ≡ None → SameBytes (flat_map places_of ws) w u)
    → cond c (first_change u (map (seen_in w) ws)) (Some x) ≡ None → SameBytes (flat_map places_of (x ∷ ws)) w u
same_by_test w u x ws true is again e =
    both_same (places_of x) (flat_map places_of ws) w u (told w u x.slot x.count x.address ((bytes_eq-Decides (bytes_of w x) (bytes_of u x)).0 is)) (again e)
same_by_test w u x ws false is again e = absurd cc

pub same_first : (w u : World) (ws : List Watch) → first_change u (map (seen_in w) ws) ≡ None → SameBytes (flat_map places_of ws) w u
same_first w u [] e = tt
same_first w u (x ∷ ws) e = same_by_test w u x ws (pointwise nat_eq (bytes_of w x) (bytes_of u x)) refl (same_first w u ws) e

-- what was seen is what was there, if nothing has changed
seen_by_test : (w : World) (s : Watch × List ℕ) (ss : List (Watch × List ℕ)) (c : Bool) → pointwise nat_eq s.1 (bytes_of w s.0) ≡ c
    → (first_change w ss ≡ None → ss ≡ map (seen_in w) (map (λ (t : Watch × List ℕ). t.0) ss))
    → cond c (first_change w ss) (Some s.0) ≡ None → s ∷ ss ≡ map (seen_in w) (map (λ (t : Watch × List ℕ). t.0) (s ∷ ss))
seen_by_test w s ss true is again e =
    let bytes : s.1 ≡ bytes_of w s.0 = (bytes_eq-Decides s.1 (bytes_of w s.0)).0 is in
    ap (λ (bs : List ℕ). let t : Watch × List ℕ = (s.0, bs) in t ∷ ss) bytes
    ∙ ap (λ (ts : List (Watch × List ℕ)). seen_in w s.0 ∷ ts) (again e)
seen_by_test w s ss false is again e = absurd cc

pub seen_is : (w : World) (ss : List (Watch × List ℕ)) → first_change w ss ≡ None → ss ≡ map (seen_in w) (map (λ (t : Watch × List ℕ). t.0) ss)
seen_is w [] e = refl
seen_is w (s ∷ ss) e = seen_by_test w s ss (pointwise nat_eq s.1 (bytes_of w s.0)) refl (seen_is w ss) e

-- ---- events that change none of them

abbrev pub changed : List BytePlace → World → ℕ × Event → World → Bool
changed bs w x u = any_marks (map changes bs) w x u

-- some of all watches' bytes
either_more : (a b c : Bool) → (a || b) || c ≡ a || (b || c)
either_more true b c = refl
either_more false b c = refl

changed_both : (bs cs : List BytePlace) (w : World) (x : ℕ × Event) (u : World) → changed (bs ++ cs) w x u ≡ changed bs w x u || changed cs w x u
changed_both [] cs w x u = refl
changed_both (b ∷ bs) cs w x u = ap (λ c. changes b w x u || c) (changed_both bs cs w x u) ∙ sym (either_more (changes b w x u) (changed bs w x u) (changed cs w x u))

pub changed_of_all : (ws : List Watch) (w : World) (x : ℕ × Event) (u : World) → any_marks (map changes_bytes ws) w x u ≡ changed (flat_map places_of ws) w x u
changed_of_all [] w x u = refl
changed_of_all (y ∷ ws) w x u =
    ap (λ c. changes_bytes y w x u || c) (changed_of_all ws w x u) ∙ sym (changed_both (places_of y) (flat_map places_of ws) w x u)

not_not : (b : Bool) → not b ≡ false → b ≡ true
not_not true e = refl
not_not false e = absurd cc

same_by : (o p : Option ℕ) → not (same_byte o p) ≡ false → o ≡ p
same_by (Some x) (Some y) e = ap (λ n. Some n) (eqb-true x y (not_not (nat_eq x y) e))
same_by None None e = refl
same_by (Some x) None e = absurd cc
same_by None (Some y) e = absurd cc

itself_same : (o : Option ℕ) → not (same_byte o o) ≡ false
itself_same (Some x) = ap not (eq-eqb x x refl)
itself_same None = refl

pub or_left : (a b : Bool) → a || b ≡ false → a ≡ false
or_left true b e = e
or_left false b e = refl

pub or_right : (a b : Bool) → a || b ≡ false → b ≡ false
or_right true b e = let no : true ≡ false = e in absurd cc
or_right false b e = e

pub both_false : (a b : Bool) → a ≡ false → b ≡ false → a || b ≡ false
both_false a b e h = ap (λ c. c || b) e ∙ h

pub unchanged : (bs : List BytePlace) (w u : World) (x : ℕ × Event) → changed bs w x u ≡ false → SameBytes bs w u
unchanged [] w u x e = tt
unchanged (b ∷ bs) w u x e = (same_by (byte_in w b) (byte_in u b) (or_left (changes b w x u) (changed bs w x u) e), unchanged bs w u x (or_right (changes b w x u) (changed bs w x u) e))

pub not_changed : (bs : List BytePlace) (w u : World) (x : ℕ × Event) → SameBytes bs w u → changed bs w x u ≡ false
not_changed [] w u x h = refl
not_changed (b ∷ bs) w u x h =
    both_false (changes b w x u) (changed bs w x u) (ap (λ (o : Option ℕ). not (same_byte (byte_in w b) o)) (sym h.0) ∙ itself_same (byte_in w b)) (not_changed bs w u x h.1)

pub same_trans : (bs : List BytePlace) (w v u : World) → SameBytes bs w v → SameBytes bs v u → SameBytes bs w u
same_trans [] w v u a b = tt
same_trans (p ∷ bs) w v u a b = (a.0 ∙ b.0, same_trans bs w v u a.1 b.1)

pub same_itself : (bs : List BytePlace) (w : World) → SameBytes bs w w
same_itself [] w = tt
same_itself (b ∷ bs) w = (refl, same_itself bs w)
