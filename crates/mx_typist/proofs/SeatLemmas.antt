-- What always holds of who types and of a keyboard that keeps the rule.
use Rattle.std.proofs.Common.{◌≡◌, ◌==◌, ◌∙◌, ◌+◌, ◌<◌, ◌≤◌, ◌++◌, ◌∷◌, [], ◌⊎◌, inl, inr, if◌then◌else◌, ℕ, zero, suc, Bool, true, false, List, Option, Some, None, length, take, drop, get_or, slice_get, refl, ap, sym, subst, arith, length-append}
use Rattle.std.specs.Prelude.{not}
use Rattle.std.proofs.Math.Seq.{take-suc}
use Rattle.std.proofs.lemmas.Bool.{eq-eqb, eqb-true}
use Rattle.std.proofs.lemmas.List.{drop-append-le, drop-drop, get_or_append_left, length-take, take-append-le}
use Rattle.std.proofs.lemmas.Option.{get_or_from_slice_get, slice_get-get_or, slice_get_within}
use Rattle.mx_typist.specs.Typing.{Typing, raise_for, with_raise}
use Rattle.mx_typist.specs.Protocol.{Happening, IsFrontStored, Keyboard, Seat, after, after_all, first_seat, hears}
use Rattle.mx_typist.specs.Protocol.Happening.{Dies, Looks, Stores, Types}

-- how many are stored, by what is in flight and what is heard
Fits : Option ℕ → Option ℕ → Bool → List ℕ → ℕ → List ℕ → Type 0
Fits None None dead typed taken stored = length stored ≡ taken
Fits None (Some b) dead typed taken stored = ⊥
Fits (Some e) (Some b) true typed taken stored = ⊥
Fits (Some e) (Some b) false typed taken stored = (length stored ≡ taken) × (slice_get typed taken ≡ Some b)
Fits (Some e) None true typed taken stored = (length stored ≡ taken) ⊎ (length stored ≡ taken + 1)
Fits (Some e) None false typed taken stored = length stored ≡ taken + 1

abbrev seat : List ℕ → List ℕ → ℕ → Option ℕ → List ℕ → Option ℕ → Bool → Seat
seat typed waiting taken flight stored hearing dead = record {
  typed = typed;
  typing = (let t : Typing = record { waiting = waiting; taken = taken; flight = flight } in t);
  keyboard = (let k : Keyboard = record { stored = stored; hearing = hearing; dead = dead } in k);
}

abbrev Front : List ℕ → List ℕ → Type 0
Front typed stored = stored ≡ take (length stored) typed

-- what waits is all that was typed after what is taken
abbrev Waits : List ℕ → ℕ → List ℕ → Type 0
Waits typed taken waiting = (taken ≤ length typed) × (waiting ≡ drop taken typed)

abbrev Holds : Seat → Type 0
Holds x = Fits x.typing.flight x.keyboard.hearing x.keyboard.dead x.typed x.typing.taken x.keyboard.stored × (Front x.typed x.keyboard.stored × Waits x.typed x.typing.taken x.typing.waiting)

-- ---- a byte is typed

short : (typed stored : List ℕ) → Front typed stored → length stored ≤ length typed
short typed stored front = let n : length stored ≡ length (take (length stored) typed) = ap length front in omega (arith, n, length-take (length stored) typed)

front_typed : (typed stored : List ℕ) (b : ℕ) → Front typed stored → Front (typed ++ b ∷ []) stored
front_typed typed stored b front = front ∙ sym (take-append-le (length stored) typed (b ∷ []) (short typed stored front))

get_typed : (typed : List ℕ) (k b c : ℕ) → slice_get typed k ≡ Some b → slice_get (typed ++ c ∷ []) k ≡ Some b
get_typed typed k b c e =
    let within = slice_get_within typed k b e in
    let longer : k < length (typed ++ c ∷ []) = grind (arith, length-append, within) in
    slice_get-get_or (typed ++ c ∷ []) k b longer ∙ ap Some (get_or_append_left typed (c ∷ []) b k within ∙ get_or_from_slice_get typed k b b e)

fits_typed : (flight hearing : Option ℕ) (dead : Bool) (typed : List ℕ) (taken : ℕ) (stored : List ℕ) (c : ℕ) → Fits flight hearing dead typed taken stored → Fits flight hearing dead (typed ++ c ∷ []) taken stored
unfolding Fits
fits_typed None None dead typed taken stored c h = h
fits_typed None (Some b) dead typed taken stored c h = h
fits_typed (Some e) (Some b) true typed taken stored c h = h
fits_typed (Some e) (Some b) false typed taken stored c h = (h.0, get_typed typed taken b c h.1)
fits_typed (Some e) None true typed taken stored c h = h
fits_typed (Some e) None false typed taken stored c h = h

waits_typed : (typed : List ℕ) (taken : ℕ) (waiting : List ℕ) (b : ℕ) → Waits typed taken waiting → Waits (typed ++ b ∷ []) taken (waiting ++ b ∷ [])
waits_typed typed taken waiting b w =
    let longer : length (typed ++ b ∷ []) ≡ suc (length typed) = grind (arith, length-append) in
    (omega (arith, w.0, longer), ap (λ xs. xs ++ b ∷ []) w.1 ∙ sym (drop-append-le taken typed (b ∷ []) w.0))

-- ---- the byte that is heard is stored

front_stored : (typed stored : List ℕ) (b : ℕ) → Front typed stored → slice_get typed (length stored) ≡ Some b → Front typed (stored ++ b ∷ [])
front_stored typed stored b front e =
    let within = slice_get_within typed (length stored) b e in
    let longer : length (stored ++ b ∷ []) ≡ suc (length stored) = grind (arith, length-append) in
    sym (ap (λ n. take n typed) longer ∙ take-suc typed (length stored) b within ∙ ap (λ c. take (length stored) typed ++ c ∷ []) (get_or_from_slice_get typed (length stored) b b e)
    ∙ ap (λ xs. xs ++ b ∷ []) (sym front))

one_more : (stored : List ℕ) (b taken : ℕ) → length stored ≡ taken → length (stored ++ b ∷ []) ≡ taken + 1
one_more stored b taken e = grind (arith, length-append, e)

stored_holds : (typed waiting : List ℕ) (taken : ℕ) (flight : Option ℕ) (stored : List ℕ) (hearing : Option ℕ) (dead : Bool) → Holds (seat typed waiting taken flight stored hearing dead)
    → Holds (after (seat typed waiting taken flight stored hearing dead) Stores)
unfolding Fits
stored_holds typed waiting taken flight stored None dead h = h
stored_holds typed waiting taken None stored (Some b) dead h = absurd h.0
stored_holds typed waiting taken (Some e) stored (Some b) true h = absurd h.0
stored_holds typed waiting taken (Some e) stored (Some b) false h =
    (one_more stored b taken h.0.0, (front_stored typed stored b h.1.0 (ap (slice_get typed) h.0.0 ∙ h.0.1), h.1.1))

-- ---- the driver dies

dead_holds : (typed waiting : List ℕ) (taken : ℕ) (flight : Option ℕ) (stored : List ℕ) (hearing : Option ℕ) (dead : Bool) → Holds (seat typed waiting taken flight stored hearing dead)
    → Holds (after (seat typed waiting taken flight stored hearing dead) Dies)
unfolding Fits
dead_holds typed waiting taken None stored None true h = h
dead_holds typed waiting taken None stored None false h = h
dead_holds typed waiting taken None stored (Some b) dead h = absurd h.0
dead_holds typed waiting taken (Some e) stored None true h = h
dead_holds typed waiting taken (Some e) stored None false h = (inr h.0, h.1)
dead_holds typed waiting taken (Some e) stored (Some b) true h = absurd h.0
dead_holds typed waiting taken (Some e) stored (Some b) false h = (inl h.0.0, h.1)

-- ---- a look

abbrev raised : List ℕ → List ℕ → ℕ → List ℕ → Bool → Option ℕ → Bool → Option ℕ → Seat
raised typed waiting taken stored dead driver same next = record {
  typed = typed;
  typing = with_raise (if same then raise_for driver next else None) (let t : Typing = record { waiting = waiting; taken = taken; flight = None } in t);
  keyboard = hears (let k : Keyboard = record { stored = stored; hearing = None; dead = dead } in k) (if same then raise_for driver next else None);
}

-- with nothing in flight the next byte may be raised
raised_holds : (typed waiting : List ℕ) (taken : ℕ) (stored : List ℕ) (dead : Bool) (driver : Option ℕ) (same : Bool) (next : Option ℕ) → slice_get typed taken ≡ next → length stored ≡ taken
    → Front typed stored × Waits typed taken waiting → Holds (raised typed waiting taken stored dead driver same next)
unfolding Fits
raised_holds typed waiting taken stored dead driver false next is e h = (e, h)
raised_holds typed waiting taken stored dead None true next is e h = (e, h)
raised_holds typed waiting taken stored dead (Some d) true None is e h = (e, h)
raised_holds typed waiting taken stored dead (Some d) true (Some b) is e h = ((e, is), h)

first_after : (typed : List ℕ) (n : ℕ) → slice_get (drop n typed) 0 ≡ slice_get typed n
first_after xs zero = refl
first_after [] (suc n) = refl
first_after (x ∷ xs) (suc n) = first_after xs n

first_waits : (typed : List ℕ) (taken : ℕ) (waiting : List ℕ) → Waits typed taken waiting → slice_get typed taken ≡ slice_get waiting 0
first_waits typed taken waiting w = sym (ap (λ (l : List ℕ). slice_get l 0) w.1 ∙ first_after typed taken)

-- the first of those that wait is counted
one_taken : (typed : List ℕ) (taken : ℕ) (waiting stored : List ℕ) → length stored ≡ taken + 1 → Front typed stored × Waits typed taken waiting
    → Front typed stored × Waits typed (taken + 1) (drop 1 waiting)
one_taken typed taken waiting stored e h =
    let within = short typed stored h.0 in
    (h.0, (omega (arith, e, within), ap (λ (l : List ℕ). drop 1 l) h.1.1 ∙ drop-drop 1 taken typed))

-- the last byte isn't counted, and its driver died: it may be raised again
uncounted : (stored : List ℕ) (taken : ℕ) → (length stored ≡ taken) ⊎ (length stored ≡ taken + 1) → (length stored == taken + 1) ≡ false → length stored ≡ taken
uncounted stored taken (inl e) other = e
uncounted stored taken (inr e) other = let both : true ≡ false = sym (eq-eqb (length stored) (taken + 1) e) ∙ other in cc

counted_once : (stored : List ℕ) (taken : ℕ) → length stored ≡ taken → (length stored == taken + 1) ≡ true → ⊥
counted_once stored taken e is = let more = eqb-true (length stored) (taken + 1) is in omega (arith, e, more)

-- the byte is counted, and the next one may be raised
counted_holds : (typed waiting : List ℕ) (taken : ℕ) (stored : List ℕ) (dead : Bool) (driver : Option ℕ) → (length stored == taken + 1) ≡ true → Front typed stored × Waits typed taken waiting
    → Holds (raised typed (drop 1 waiting) (taken + 1) stored dead driver (length stored == taken + 1) (slice_get (drop 1 waiting) 0))
counted_holds typed waiting taken stored dead driver is h =
    let e = eqb-true (length stored) (taken + 1) is in
    let all = one_taken typed taken waiting stored e h in
    raised_holds typed (drop 1 waiting) (taken + 1) stored dead driver (length stored == taken + 1) (slice_get (drop 1 waiting) 0) (first_waits typed (taken + 1) (drop 1 waiting) all.1) e all

-- nothing is counted since, and the first of those that wait may be raised
same_holds : (typed waiting : List ℕ) (taken : ℕ) (stored : List ℕ) (dead : Bool) (driver : Option ℕ) → length stored ≡ taken → Front typed stored × Waits typed taken waiting
    → Holds (raised typed waiting taken stored dead driver (length stored == taken) (slice_get waiting 0))
same_holds typed waiting taken stored dead driver e h =
    raised_holds typed waiting taken stored dead driver (length stored == taken) (slice_get waiting 0) (first_waits typed taken waiting h.1) e h

looked_by : (typed waiting : List ℕ) (taken e : ℕ) (stored : List ℕ) (hearing : Option ℕ) (dead : Bool) (driver : Option ℕ) (counted : Bool) → Holds (seat typed waiting taken (Some e) stored hearing dead)
    → (length stored == taken + 1) ≡ counted → Holds (after (seat typed waiting taken (Some e) stored hearing dead) (Looks driver))
unfolding Fits
looked_by typed waiting taken e stored (Some b) true driver counted h is = absurd h.0
looked_by typed waiting taken e stored (Some b) false driver true h is = absurd (counted_once stored taken h.0.0 is)
looked_by typed waiting taken e stored (Some b) false driver false h is = rw is h
looked_by typed waiting taken e stored None false driver false h is = rw is h
looked_by typed waiting taken e stored None false driver true h is = rw is (counted_holds typed waiting taken stored false driver is h.1)
looked_by typed waiting taken e stored None true driver true h is = rw is (counted_holds typed waiting taken stored true driver is h.1)
looked_by typed waiting taken e stored None true driver false h is = rw is (same_holds typed waiting taken stored true driver (uncounted stored taken h.0 is) h.1)

looked_holds : (typed waiting : List ℕ) (taken : ℕ) (flight : Option ℕ) (stored : List ℕ) (hearing : Option ℕ) (dead : Bool) (driver : Option ℕ)
    → Holds (seat typed waiting taken flight stored hearing dead) → Holds (after (seat typed waiting taken flight stored hearing dead) (Looks driver))
unfolding Fits
looked_holds typed waiting taken (Some e) stored hearing dead driver h = looked_by typed waiting taken e stored hearing dead driver (length stored == taken + 1) h refl
looked_holds typed waiting taken None stored (Some b) dead driver h = absurd h.0
looked_holds typed waiting taken None stored None true driver h = same_holds typed waiting taken stored true driver h.0 h.1
looked_holds typed waiting taken None stored None false driver h = same_holds typed waiting taken stored false driver h.0 h.1

-- ---- all of it

holds_after : (x : Seat) (a : Happening) → Holds x → Holds (after x a)
holds_after x (Types b) h = (
  fits_typed x.typing.flight x.keyboard.hearing x.keyboard.dead x.typed x.typing.taken x.keyboard.stored b h.0,
  (front_typed x.typed x.keyboard.stored b h.1.0, waits_typed x.typed x.typing.taken x.typing.waiting b h.1.1),
)
holds_after x Stores h = stored_holds x.typed x.typing.waiting x.typing.taken x.typing.flight x.keyboard.stored x.keyboard.hearing x.keyboard.dead h
holds_after x Dies h = dead_holds x.typed x.typing.waiting x.typing.taken x.typing.flight x.keyboard.stored x.keyboard.hearing x.keyboard.dead h
holds_after x (Looks d) h = looked_holds x.typed x.typing.waiting x.typing.taken x.typing.flight x.keyboard.stored x.keyboard.hearing x.keyboard.dead d h

front_after : (x : Seat) (hs : List Happening) → Holds x → IsFrontStored (after_all x hs)
front_after x [] h = h.1.0
front_after x (a ∷ hs) h = front_after (after x a) hs (holds_after x a h)

pub stored_once : (hs : List Happening) → IsFrontStored (after_all first_seat hs)
unfolding Fits
stored_once hs = front_after first_seat hs (refl, (refl, (omega arith, refl)))
