-- The bytes of a watch, at once and one by one.
use Rattle.std.proofs.Common.{◌≡◌, ◌∙◌, ◌<◌, ◌≤◌, ◌+◌, ◌*◌, ◌-◌, ◌^◌, ◌||◌, ◌&&◌, ℕ, zero, suc, Bool, true, false, cond, not, nat_eq, nat_lt, List, [], ◌∷◌, ◌++◌, drop, get_or-drop, get_or-take, length, length-drop, map, min, take, Option, Some, None, slice_get, refl, ap, subst, sym, inl, inr, arith}
use Rattle.std.specs.Bool.{Decides}
use Rattle.std.specs.Prelude.{bytes_eq, slice_index, slice_index_or, unwrap_or}
use Rattle.std.specs.List.{flat_map, list_any, range_with_len}
use Rattle.std.specs.Option.{option_or}
use Rattle.std.proofs.lemmas.Bool.{eq-eqb, ltb-false, ltb-true}
use Rattle.std.proofs.lemmas.Bool.Decides.{eqb_tells}
use Rattle.std.proofs.lemmas.List.{take_more}
use Rattle.std.proofs.lemmas.Slice.Eq.{bytes_eq-Decides}
use Rattle.mx_exec.specs.declared.image.Image.{Image}
use Rattle.mx_machine.specs.declared.events.Event.{Event}
use Rattle.mx_machine.specs.declared.events.Event.TheVariants as events
use Rattle.mx_machine.specs.declared.holding.Out.{Out}
use Rattle.mx_machine.specs.Move.{with_held}
use Rattle.mx_machine.specs.Proc.TableState.{memory_at}
use Rattle.mx_machine.specs.World.{HeldProcess, World, held_by}
use Rattle.mx_print_answers.specs.Slots.{image_at_home, image_in, image_of_held, image_on}
use Rattle.mx_proc.specs.declared.process.Process.{Process}
use Rattle.mx_proc.specs.TableState.{nobody, process_at}
use Rattle.mx_word.specs.Word.{value_at}
use Rattle.mx_walk.specs.declared.watching.BytePlace.{BytePlace}
use Rattle.mx_walk.specs.Running.{IsAlone, with_out}
use Rattle.mx_walk.specs.Several.{any_marks}
use Rattle.mx_walk.specs.Watching.{byte_by, byte_in, byte_of_held, byte_on, is_changed_by_step, or_else, same_byte}
use Rattle.mx_walk.proofs.Changed.{changed_by_step}
use Rattle.mx_app_look.specs.declared.watches.Watch.{Watch}
use Rattle.mx_app_look.specs.Marks.{changes, changes_bytes}
use Rattle.mx_app_look.specs.Ranges.{memory_in, memory_of, range_in, span}
use Rattle.mx_app_look.specs.Watches.{place_at, places_of}

-- ---- a byte is one of the memory of its slot's process

abbrev place : ℕ → ℕ → BytePlace
place s a = record { slot = s; address = a }

-- a byte of a process, if there is one
abbrev byte_of : ℕ → Option Image → Option (Option ℕ)
byte_of a None = None
byte_of a (Some m) = Some (slice_get m.memory a)

held_by_test : (l : HeldProcess) (a : ℕ) (c : Bool) → cond c (Some (slice_get l.out.image.memory a)) None ≡ byte_of a (cond c (Some l.out.image) None)
held_by_test l a true = refl
held_by_test l a false = refl

held_same : (h : Option HeldProcess) (s a : ℕ) → byte_of_held h (place s a) ≡ byte_of a (image_of_held h s)
held_same None s a = refl
held_same (Some l) s a = held_by_test l a (nat_eq l.slot s)

first_same : (o p : Option Image) (a : ℕ) → or_else (byte_of a o) (byte_of a p) ≡ byte_of a (option_or o p)
first_same (Some m) p a = refl
first_same None p a = refl

on_same : (w : World) (s a : ℕ) (cs : List ℕ) → byte_on w (place s a) cs ≡ byte_of a (image_on w s cs)
on_same w s a [] = refl
on_same w s a (c ∷ cs) =
    ap (λ (o : Option (Option ℕ)). or_else o (byte_on w (place s a) cs)) (held_same (held_by w c) s a)
    ∙ ap (λ (o : Option (Option ℕ)). or_else (byte_of a (image_of_held (held_by w c) s)) o) (on_same w s a cs)
    ∙ first_same (image_of_held (held_by w c) s) (image_on w s cs) a

-- a slot that isn't there has no memory
nobody_past : (ps : List Process) (s : ℕ) → length ps ≤ s → slice_index_or ps s nobody ≡ nobody
nobody_past [] s le = refl
nobody_past (p ∷ ps) zero le = absurd (omega (arith, le))
nobody_past (p ∷ ps) (suc s) le = nobody_past ps s (omega (arith, le))

home_by_test : (w : World) (s a : ℕ) (c : Bool) → nat_lt s (length w.table.slots) ≡ c → slice_get (memory_at w.table s) a ≡ slice_get (memory_of (cond c (Some (process_at w.table s).image) None)) a
home_by_test w s a true e = refl
home_by_test w s a false e = ap (λ (p : Process). slice_get p.image.memory a) (nobody_past w.table.slots s (ltb-false s (length w.table.slots) e))

by_first : (w : World) (s a : ℕ) (o : Option Image) → byte_by (byte_of a o) (slice_get (memory_at w.table s) a) ≡ slice_get (memory_of (option_or o (image_at_home w s))) a
by_first w s a (Some m) = refl
by_first w s a None = home_by_test w s a (nat_lt s (length w.table.slots)) refl

pub byte_is : (w : World) (s a : ℕ) → byte_in w (place s a) ≡ slice_get (memory_in w s) a
unfolding byte_in image_in
byte_is w s a =
    ap (λ (o : Option (Option ℕ)). byte_by o (slice_get (memory_at w.table s) a)) (on_same w s a (range_with_len 0 8))
    ∙ by_first w s a (image_on w s (range_with_len 0 8))

-- ---- a byte more

first_some : (m : List ℕ) (a c b : ℕ) → slice_get m a ≡ Some b → take (suc c) (drop a m) ≡ b ∷ take c (drop (a + 1) m)
first_some [] a c b e = cc
first_some (x ∷ xs) zero c b e = let h : x ≡ b = cc in ap (λ z. z ∷ take c xs) h
first_some (x ∷ xs) (suc a) c b e =
    let next : suc (a + 1) ≡ suc a + 1 = omega arith in
    first_some xs a c b e ∙ ap (λ n. b ∷ take c (drop n (x ∷ xs))) next

drop_none : (n : ℕ) → drop {A = ℕ} n [] ≡ []
drop_none zero = refl
drop_none (suc n) = refl

none_left : (m : List ℕ) (a : ℕ) → slice_get m a ≡ None → drop a m ≡ []
none_left [] zero e = refl
none_left [] (suc a) e = refl
none_left (x ∷ xs) zero e = cc
none_left (x ∷ xs) (suc a) e = none_left xs a e

none_after : (m : List ℕ) (a : ℕ) → slice_get m a ≡ None → drop (a + 1) m ≡ []
none_after [] a e = drop_none (a + 1)
none_after (x ∷ xs) zero e = cc
none_after (x ∷ xs) (suc a) e = let next : suc a + 1 ≡ suc (a + 1) = omega arith in ap (λ n. drop n (x ∷ xs)) next ∙ none_after xs a e

take_none : (c : ℕ) → take {A = ℕ} c [] ≡ []
take_none zero = refl
take_none (suc c) = refl

-- no memory, no bytes
pub range_none : (y : Watch) → range_in [] y ≡ []
range_none y = ap (take (span y)) (drop_none y.address) ∙ take_none (span y)

either_not : (b c : Bool) → not b || not c ≡ not (b && c)
either_not true c = refl
either_not false c = refl

-- whether the bytes from a place on are others
abbrev differ : ℕ → ℕ → List ℕ → List ℕ → Bool
differ c a m k = not (bytes_eq (take c (drop a m)) (take c (drop a k)))

one_more : (m k : List ℕ) (a c : ℕ) (o p : Option ℕ) → slice_get m a ≡ o → slice_get k a ≡ p → not (same_byte o p) || differ c (a + 1) m k ≡ differ (suc c) a m k
one_more m k a c (Some x) (Some y) e f =
    either_not (nat_eq x y) (bytes_eq (take c (drop (a + 1) m)) (take c (drop (a + 1) k)))
    ∙ ap (λ zs. not (bytes_eq zs (y ∷ take c (drop (a + 1) k)))) (sym (first_some m a c x e))
    ∙ ap (λ zs. not (bytes_eq (take (suc c) (drop a m)) zs)) (sym (first_some k a c y f))
one_more m k a c (Some x) None e f =
    ap (λ zs. not (bytes_eq zs (take (suc c) []))) (sym (first_some m a c x e))
    ∙ ap (λ zs. not (bytes_eq (take (suc c) (drop a m)) (take (suc c) zs))) (sym (none_left k a f))
one_more m k a c None (Some y) e f =
    ap (λ zs. not (bytes_eq (take (suc c) []) zs)) (sym (first_some k a c y f))
    ∙ ap (λ zs. not (bytes_eq (take (suc c) zs) (take (suc c) (drop a k)))) (sym (none_left m a e))
one_more m k a c None None e f =
    ap (λ zs. not (bytes_eq (take c zs) (take c (drop (a + 1) k)))) (none_after m a e)
    ∙ ap (λ zs. not (bytes_eq (take c []) (take c zs))) (none_after k a f)
    ∙ ap (λ zs. not (bytes_eq zs zs)) (take_none c)
    ∙ ap (λ zs. not (bytes_eq (take (suc c) zs) (take (suc c) []))) (sym (none_left m a e))
    ∙ ap (λ zs. not (bytes_eq (take (suc c) (drop a m)) (take (suc c) zs))) (sym (none_left k a f))

-- ---- bytes at the places of a watch

abbrev from : ℕ → ℕ → ℕ → List BytePlace
from s a n = flat_map (place_at s) (range_with_len a n)

abbrev left : ℕ → ℕ → ℕ
left n a = min n (2 ^ 32 - a)

module _ (f : BytePlace → Bool) (m k : List ℕ) (s : ℕ) (is : (a : ℕ) → f (place s a) ≡ not (same_byte (slice_get m a) (slice_get k a))) where
  by_test : (n a : ℕ) (c : Bool) → nat_lt a (2 ^ 32) ≡ c → list_any f (from s (a + 1) n) ≡ differ (left n (a + 1)) (a + 1) m k
      → list_any f (cond c (place s a ∷ []) [] ++ from s (a + 1) n) ≡ differ (left (suc n) a) a m k
  by_test n a true e again =
      let lt = ltb-true a (2 ^ 32) e in
      let more : suc (left n (a + 1)) ≡ left (suc n) a = omega (arith, lt) in
      ap (λ b. b || list_any f (from s (a + 1) n)) (is a) ∙ ap (λ b. not (same_byte (slice_get m a) (slice_get k a)) || b) again
      ∙ one_more m k a (left n (a + 1)) (slice_get m a) (slice_get k a) refl refl ∙ ap (λ c. differ c a m k) more
  by_test n a false e again =
      let ge = ltb-false a (2 ^ 32) e in
      let none : left n (a + 1) ≡ 0 = omega (arith, ge) in
      let none_yet : 0 ≡ left (suc n) a = omega (arith, ge) in
      again ∙ ap (λ c. differ c (a + 1) m k) none ∙ ap (λ c. differ c a m k) none_yet

  pub range_is : (n a : ℕ) → list_any f (from s a n) ≡ differ (left n a) a m k
  range_is zero a = let none : 0 ≡ left 0 a = omega arith in ap (λ c. differ c a m k) none
  range_is (suc n) a = by_test n a (nat_lt a (2 ^ 32)) refl (range_is n (a + 1))

module _ (f : BytePlace → Bool) (s : ℕ) (is : (a : ℕ) → f (place s a) ≡ false) where
  none_by_test : (n a : ℕ) (c : Bool) → list_any f (from s (a + 1) n) ≡ false → list_any f (cond c (place s a ∷ []) [] ++ from s (a + 1) n) ≡ false
  none_by_test n a true again = ap (λ b. b || list_any f (from s (a + 1) n)) (is a) ∙ again
  none_by_test n a false again = again

  pub range_isnt : (n a : ℕ) → list_any f (from s a n) ≡ false
  range_isnt zero a = refl
  range_isnt (suc n) a = none_by_test n a (nat_lt a (2 ^ 32)) (range_isnt n (a + 1))

-- ---- what marks an event, and a step

any_is : (bs : List BytePlace) (w : World) (x : ℕ × Event) (u : World) → any_marks (map changes bs) w x u ≡ list_any (λ b. changes b w x u) bs
any_is [] w x u = refl
any_is (b ∷ bs) w x u = ap (λ c. changes b w x u || c) (any_is bs w x u)

-- an event changes some of them
pub changed_is : (y : Watch) (w : World) (x : ℕ × Event) (u : World) → changes_bytes y w x u ≡ not (bytes_eq (range_in (memory_in w y.slot) y) (range_in (memory_in u y.slot) y))
changed_is y w x u =
    any_is (places_of y) w x u
    ∙ range_is (λ b. changes b w x u) (memory_in w y.slot) (memory_in u y.slot) y.slot
    (λ a. ap (λ (o : Option ℕ). not (same_byte o (byte_in u (place y.slot a)))) (byte_is w y.slot a)
    ∙ ap (λ (o : Option ℕ). not (same_byte (slice_get (memory_in w y.slot) a) o)) (byte_is u y.slot a))
    y.count y.address

-- a step of its slot's process does
pub step_is : (y : Watch) (l : HeldProcess) (o : Out) → l.slot ≡ y.slot → list_any (λ b. is_changed_by_step b l o) (places_of y) ≡ not (bytes_eq (range_in l.out.image.memory y) (range_in o.image.memory y))
step_is y l o same =
    range_is (λ b. is_changed_by_step b l o) l.out.image.memory o.image.memory y.slot
    (λ a. ap (λ c. c && not (same_byte (slice_get l.out.image.memory a) (slice_get o.image.memory a))) (eq-eqb l.slot y.slot same))
    y.count y.address

-- a step of another process doesn't
pub step_isnt : (y : Watch) (l : HeldProcess) (o : Out) → nat_eq l.slot y.slot ≡ false → list_any (λ b. is_changed_by_step b l o) (places_of y) ≡ false
step_isnt y l o other =
    range_isnt (λ b. is_changed_by_step b l o) y.slot
    (λ a. ap (λ c. c && not (same_byte (slice_get l.out.image.memory a) (slice_get o.image.memory a))) other)
    y.count y.address

-- one that leaves memory as it is doesn't
pub step_quiet : (y : Watch) (l : HeldProcess) (o : Out) → o.image.memory ≡ l.out.image.memory → list_any (λ b. is_changed_by_step b l o) (places_of y) ≡ false
step_quiet y l o same = elim (eqb_tells l.slot y.slot) [
  | inl it ↦
      step_is y l o it.1 ∙ ap (λ m. not (bytes_eq (range_in l.out.image.memory y) (range_in m y))) same
      ∙ ap not ((bytes_eq-Decides (range_in l.out.image.memory y) (range_in l.out.image.memory y)).1 refl)
  | inr it ↦ step_isnt y l o it.0
]

-- the one is the other, if no other processor has the process
pub step_law : (bs : List BytePlace) (w : World) (a : ℕ) (l : HeldProcess) (o : Out) → IsAlone w a l
    → any_marks (map changes bs) w (a, events.Step) (with_held w a (Some (with_out l o))) ≡ list_any (λ b. is_changed_by_step b l o) bs
step_law [] w a l o h = refl
step_law (b ∷ bs) w a l o h =
    ap (λ c. c || any_marks (map changes bs) w (a, events.Step) (with_held w a (Some (with_out l o)))) (changed_by_step b w a l o h)
    ∙ ap (λ c. is_changed_by_step b l o || c) (step_law bs w a l o h)

-- ---- a byte that isn't inside is 0

pub got_or_zero : (xs : List ℕ) (i : ℕ) → unwrap_or (slice_get xs i) 0 ≡ slice_index xs i
got_or_zero [] i = refl
got_or_zero (x ∷ xs) zero = refl
got_or_zero (x ∷ xs) (suc i) = got_or_zero xs i

-- ---- eight bytes at once

-- the same number is of the same bytes
pub bytes_of_same : (k a b : ℕ) (xs ys : List ℕ) → ((i : ℕ) → slice_index xs i < 256) → ((i : ℕ) → slice_index ys i < 256) → value_at xs a k ≡ value_at ys b k
    → (i : ℕ) → i < k → slice_index xs (a + i) ≡ slice_index ys (b + i)
bytes_of_same zero a b xs ys low low' e i lt = absurd (omega (arith, lt))
bytes_of_same (suc k) a b xs ys low low' e zero lt =
    let x = low a in
    let y = low' b in
    let here : a + 0 ≡ a = omega arith in
    let there : b ≡ b + 0 = omega arith in
    let same : slice_index xs a ≡ slice_index ys b = omega (arith, x, y, e) in
    ap (slice_index xs) here ∙ same ∙ ap (slice_index ys) there
bytes_of_same (suc k) a b xs ys low low' e (suc i) lt =
    let x = low a in
    let y = low' b in
    let here : a + suc i ≡ suc a + i = omega arith in
    let there : suc b + i ≡ b + suc i = omega arith in
    let rest : value_at xs (suc a) k ≡ value_at ys (suc b) k = omega (arith, x, y, e) in
    ap (slice_index xs) here ∙ bytes_of_same k (suc a) (suc b) xs ys low low' rest i (omega (arith, lt)) ∙ ap (slice_index ys) there

-- and the same bytes are the same number
value_of_same : (k a b : ℕ) (xs ys : List ℕ) → ((i : ℕ) → i < k → slice_index xs (a + i) ≡ slice_index ys (b + i)) → value_at xs a k ≡ value_at ys b k
value_of_same zero a b xs ys h = refl
value_of_same (suc k) a b xs ys h =
    let here : a ≡ a + 0 = omega arith in
    let there : b + 0 ≡ b = omega arith in
    let first : slice_index xs a ≡ slice_index ys b = ap (slice_index xs) here ∙ h 0 (omega arith) ∙ ap (slice_index ys) there in
    let rest : value_at xs (suc a) k ≡ value_at ys (suc b) k =
    value_of_same k (suc a) (suc b) xs ys
    (λ i lt.
    let on : suc a + i ≡ a + suc i = omega arith in
    let on' : b + suc i ≡ suc b + i = omega arith in
    ap (slice_index xs) on ∙ h (suc i) (omega (arith, lt)) ∙ ap (slice_index ys) on') in
    ap (λ n. n + 256 * value_at xs (suc a) k) first ∙ ap (λ n. slice_index ys b + 256 * n) rest

-- ---- bytes of a memory, from an address on, that are the first ones of another

module _ (xs ys : List ℕ) (a n : ℕ) (inside : n ≤ length xs - a) (there : n ≤ length ys) where
  pub more : (i k : ℕ) → i + k ≤ n → take i ys ≡ take i (drop a xs) → ((j : ℕ) → j < k → slice_index xs (a + i + j) ≡ slice_index ys (i + j)) → take (i + k) ys ≡ take (i + k) (drop a xs)
  more i zero le e h =
      let same : i ≡ i + 0 = omega arith in ap (λ c. take c ys) (sym same) ∙ e ∙ ap (λ c. take c (drop a xs)) same
  more i (suc k) le e h =
      let on : i + suc k ≡ i + k + 1 = omega arith in
      let in_ys : i + k < length ys = omega (arith, le, there) in
      let long : length (drop a xs) ≡ length xs - a = length-drop a xs in
      let in_xs : i + k < length (drop a xs) = omega (arith, le, inside, long) in
      let sum : a + (i + k) ≡ a + i + k = omega arith in
      let byte : slice_index ys (i + k) ≡ slice_index (drop a xs) (i + k) =
      sym (h k (omega arith)) ∙ ap (slice_index xs) (sym sum) ∙ sym (get_or-drop a xs (i + k) 0) in
      ap (λ c. take c ys) on ∙ take_more ys (i + k) 0 in_ys
      ∙ ap (λ zs. zs ++ slice_index ys (i + k) ∷ []) (more i k (omega (arith, le)) e (λ j lt. h j (omega (arith, lt))))
      ∙ ap (λ b. take (i + k) (drop a xs) ++ b ∷ []) byte
      ∙ sym (take_more (drop a xs) (i + k) 0 in_xs) ∙ ap (λ c. take c (drop a xs)) (sym on)

  byte_at : take n ys ≡ take n (drop a xs) → (i : ℕ) → i < n → slice_index xs (a + i) ≡ slice_index ys i
  byte_at e i lt =
      sym (get_or-drop a xs i 0) ∙ sym (get_or-take n (drop a xs) i 0 lt) ∙ ap (λ zs. slice_index zs i) (sym e) ∙ get_or-take n ys i 0 lt

  others : (take n ys ≡ take n (drop a xs) → ⊥) → false ≡ bytes_eq (take n ys) (take n (drop a xs))
  others isnt = by_answer (bytes_eq (take n ys) (take n (drop a xs))) (bytes_eq-Decides (take n ys) (take n (drop a xs)))
    where
      by_answer : (r : Bool) → Decides r (take n ys ≡ take n (drop a xs)) → false ≡ r
      by_answer true d = absurd (isnt (d.0 refl))
      by_answer false d = refl

  pub other_number : (i k : ℕ) → i + k ≤ n → (value_at xs (a + i) k ≡ value_at ys i k → ⊥) → false ≡ bytes_eq (take n ys) (take n (drop a xs))
  other_number i k le isnt =
      others (λ e. isnt (value_of_same k (a + i) i xs ys (λ j lt. let sum : a + i + j ≡ a + (i + j) = omega arith in ap (slice_index xs) sum ∙ byte_at e (i + j) (omega (arith, le, lt)))))

  pub other_byte : (i : ℕ) → i < n → (slice_index xs (a + i) ≡ slice_index ys i → ⊥) → false ≡ bytes_eq (take n ys) (take n (drop a xs))
  other_byte i lt isnt = others (λ e. isnt (byte_at e i lt))

  pub all_same : (i : ℕ) → n ≤ i → i ≤ n → take i ys ≡ take i (drop a xs) → true ≡ bytes_eq (take n ys) (take n (drop a xs))
  all_same i ge le e =
      let same : i ≡ n = omega (arith, ge, le) in
      sym ((bytes_eq-Decides (take n ys) (take n (drop a xs))).1 (subst (λ c. take c ys ≡ take c (drop a xs)) same e))
