-- Right after an event with nothing changed before it, a move halts if, and only if, the event is one after which it does.
use Rattle.std.proofs.Common.{◌≡◌, ◌∙◌, ◌<◌, ◌≤◌, ◌+◌, ◌&&◌, ◌||◌, ℕ, zero, suc, Bool, true, false, cond, List, [], ◌∷◌, get_or, is_some, length, map, nat_eq, Option, Some, None, slice_get, refl, ap, sym, inl, inr, arith}
use Rattle.std.specs.List.{flat_map}
use Rattle.std.proofs.lemmas.Bool.{cases_lt, ne_eqb}
use Rattle.mx_machine.specs.declared.events.Event.{Event}
use Rattle.mx_machine.specs.declared.history.Record.{Record}
use Rattle.mx_machine.specs.declared.history.Recorded.{Recorded}
use Rattle.mx_machine.specs.declared.history.Recorded.TheVariants as recorded
use Rattle.mx_machine.specs.World.{HeldProcess, World, held_by}
use Rattle.mx_walk.specs.declared.positions.Position.{Position}
use Rattle.mx_walk.specs.declared.watching.BytePlace.{BytePlace}
use Rattle.mx_walk.specs.Positions.{IsPosition, event_in, next_event, next_position, own_event, steps_in}
use Rattle.mx_walk.specs.Seeking.{is_marked}
use Rattle.mx_walk.specs.Stopping.{is_step}
use Rattle.mx_walk.specs.Walks.{Walk, world_here}
use Rattle.mx_walk.proofs.Along.{any_record, below_here, step_there}
use Rattle.mx_walk.proofs.Along.{at as placed}
use Rattle.mx_walk.proofs.Next.{below_end, next_inside, next_over, own_there, world_next}
use Rattle.mx_app_look.specs.Changes.{as_seen, first_change, seen_in}
use Rattle.mx_app_look.specs.Marks.{changes_watched}
use Rattle.mx_app_look.specs.Watches.{places_of}
use Rattle.mx_app_look.specs.declared.changes.Seen.{Seen}
use Rattle.mx_app_look.specs.declared.watches.Watch.{Watch}
use Rattle.mx_app_gdb.specs.declared.halts.Halted.{Halted}
use Rattle.mx_app_gdb.specs.declared.halts.Halted.TheVariants.{Changed}
use Rattle.mx_app_gdb.specs.declared.halts.Halts.{Halts}
use Rattle.mx_app_gdb.specs.declared.threads.Counted.{Counted}
use Rattle.mx_app_gdb.specs.Halts.{IsUnchanged, fault_at, fault_by, fault_held, fault_here, halted_by, halted_here, halts_after}
use Rattle.mx_app_gdb.specs.Marks.{fault_of, faults, is_at_fault}
use Rattle.mx_app_gdb.specs.Moves.{at}
use Rattle.mx_app_gdb.proofs.SameBytes.{SameBytes, changed_of_all, none_first, not_changed, same_first, seen_is, unchanged}

-- ---- faults

found_fault : (s : ℕ) (v : Option ℕ) → is_some (fault_at s v) ≡ is_some v
found_fault s None = refl
found_fault s (Some v) = refl

held_fault : (c : Counted) (o : Option HeldProcess) → is_some (fault_held c o) ≡ is_at_fault c o
held_fault c None = refl
held_fault c (Some l) = found_fault l.slot (fault_of c l.slot l.out)

own_isnt : (x : Recorded) → is_step (own_event x) ≡ false
own_isnt recorded.Take = refl
own_isnt (recorded.Back n) = refl
own_isnt (recorded.Line l) = refl
own_isnt recorded.Tick = refl
own_isnt (recorded.Kill e) = refl
own_isnt (recorded.Respawn s) = refl

pub read_here : (records : List Record) (n : ℕ) → n < length records → slice_get records n ≡ Some (get_or records n any_record)
read_here [] n lt = absurd (omega (arith, lt))
read_here (y ∷ ys) zero lt = refl
read_here (y ∷ ys) (suc n) lt = read_here ys n (omega (arith, lt))

-- the event after a position
module _ (records : List Record) (p : Position) (x : ℕ × Event) (e : next_event records p ≡ Some x) where
  abbrev pub entry : Record
  entry = get_or records p.records any_record

  pub inside : p.records < length records
  inside = below_end records p x e

  pub event_is : x ≡ event_in p.steps entry
  event_is = let same : Some x ≡ Some (event_in p.steps entry) = sym e ∙ below_here records p.records any_record inside p.steps in cc

  pub by_entry : x.0 ≡ entry.actor
  by_entry = ap (λ (y : ℕ × Event). y.0) event_is

  -- it is a step of the record, or the record's own
  pub step_is : p.steps < steps_in entry.event → (is_step x.1 ≡ true) × (next_position records p ≡ placed p.records (p.steps + 1))
  step_is lt = (ap (λ (y : ℕ × Event). is_step y.1) (event_is ∙ step_there records p.records any_record inside p.steps lt), next_inside records p.records inside p.steps lt)

  pub own_is : steps_in entry.event ≤ p.steps → (is_step x.1 ≡ false) × (next_position records p ≡ placed (p.records + 1) 0)
  own_is ge = (ap (λ (y : ℕ × Event). is_step y.1) (event_is ∙ own_there records p.records inside p.steps ge) ∙ own_isnt entry.event, next_over records p.records inside p.steps ge)

  module _ (c : Counted) (k : Walk) (same : k.records ≡ records) where
    abbrev q : Position
    q = next_position records p

    fault_step : p.steps < steps_in entry.event → fault_here c (at k q) ≡ cond (is_step x.1) (fault_held c (held_by (world_here (at k q)) x.0)) None
    fault_step lt =
        let is = step_is lt in
        let u = world_here (at k q) in
        let some : nat_eq q.steps 0 ≡ false = ap (λ (r : Position). nat_eq r.steps 0) is.1 ∙ ne_eqb (p.steps + 1) 0 (λ z. omega (arith, z)) in
        let records_at : slice_get k.records q.records ≡ Some entry = ap (λ (rs : List Record). slice_get rs q.records) same ∙ ap (λ (r : Position). slice_get records r.records) is.1 ∙ read_here records p.records inside in
        let fault : Option Halted = fault_by c u (slice_get k.records q.records) in
        let made : Option Halted = fault_held c (held_by u x.0) in
        ap (λ b. let o : Option Halted = cond b None (fault_by c u (slice_get k.records q.records)) in o) some
        ∙ ap (λ (o : Option Record). fault_by c u o) records_at
        ∙ ap (λ a. fault_held c (held_by u a)) (sym by_entry)
        ∙ sym (ap (λ b. let o : Option Halted = cond b (fault_held c (held_by u x.0)) None in o) is.0)

    fault_own : steps_in entry.event ≤ p.steps → fault_here c (at k q) ≡ cond (is_step x.1) (fault_held c (held_by (world_here (at k q)) x.0)) None
    fault_own ge =
        let is = own_is ge in
        let u = world_here (at k q) in
        let none : nat_eq q.steps 0 ≡ true = ap (λ (r : Position). nat_eq r.steps 0) is.1 in
        ap (λ b. let o : Option Halted = cond b None (fault_by c u (slice_get k.records q.records)) in o) none
        ∙ sym (ap (λ b. let o : Option Halted = cond b (fault_held c (held_by u x.0)) None in o) is.0)

    fault_is : fault_here c (at k q) ≡ cond (is_step x.1) (fault_held c (held_by (world_here (at k q)) x.0)) None
    fault_is = elim (cases_lt p.steps (steps_in entry.event)) [
      | inl lt ↦ fault_step lt
      | inr ge ↦ fault_own ge
    ]

    some_if : (b : Bool) (o : Option Halted) (r : Bool) → is_some o ≡ r → is_some (cond b o None) ≡ b && r
    some_if true o r e = e
    some_if false o r e = refl

    pub is_fault : (w : World) → is_some (fault_here c (at k q)) ≡ faults c w x (world_here (at k q))
    is_fault w =
        let u = world_here (at k q) in
        ap (λ (o : Option Halted). is_some o) fault_is ∙ some_if (is_step x.1) (fault_held c (held_by u x.0)) (is_at_fault c (held_by u x.0)) (held_fault c (held_by u x.0))

-- ---- bytes

watches_of : (ss : List Seen) → map (λ (t : Watch × List ℕ). t.0) (map as_seen ss) ≡ map (λ (s : Seen). s.watch) ss
watches_of [] = refl
watches_of (s ∷ ss) = ap (λ ws. s.watch ∷ ws) (watches_of ss)

abbrev pub watched : Halts → List BytePlace
watched h = flat_map places_of h.points.watches

module _ (k : Walk) (h : Halts) (still : IsUnchanged k h) where
  -- what was seen is there
  pub seen_there : map as_seen h.seen.items ≡ map (seen_in (world_here k)) h.points.watches
  seen_there =
      seen_is (world_here k) (map as_seen h.seen.items) still.same
      ∙ ap (λ (ws : List Watch). map (seen_in (world_here k)) ws) (watches_of h.seen.items ∙ still.watched)

  pub found_none : (u : World) → SameBytes (watched h) (world_here k) u → first_change u (map as_seen h.seen.items) ≡ None
  found_none u same = ap (λ (ss : List (Watch × List ℕ)). first_change u ss) seen_there ∙ none_first (world_here k) u h.points.watches same

  pub same_bytes : (u : World) → first_change u (map as_seen h.seen.items) ≡ None → SameBytes (watched h) (world_here k) u
  same_bytes u e = same_first (world_here k) u h.points.watches (sym (ap (λ (ss : List (Watch × List ℕ)). first_change u ss) seen_there) ∙ e)

  -- with the same bytes it is unchanged somewhere else
  pub still_there : (p : Position) → SameBytes (watched h) (world_here k) (world_here (at k p)) → IsUnchanged (at k p) h
  still_there p same = record { watched = still.watched; same = found_none (world_here (at k p)) same }

  found_changes : (o : Option Watch) (u : World) (x : ℕ × Event) → first_change u (map as_seen h.seen.items) ≡ o → is_some o ≡ changes_watched h.points (world_here k) x u
  found_changes None u x e = sym (changed_of_all h.points.watches (world_here k) x u ∙ not_changed (watched h) (world_here k) u x (same_bytes u e))
  found_changes (Some y) u x e = by_test (changes_watched h.points (world_here k) x u) refl
    where
      by_test : (b : Bool) → changes_watched h.points (world_here k) x u ≡ b → true ≡ b
      by_test true is = refl
      by_test false is = let no : None ≡ Some y = sym (found_none u (unchanged (watched h) (world_here k) u x (sym (changed_of_all h.points.watches (world_here k) x u) ∙ is))) ∙ e in absurd cc

  -- whether a watch has changed
  pub is_change : (u : World) (x : ℕ × Event) → is_some (first_change u (map as_seen h.seen.items)) ≡ changes_watched h.points (world_here k) x u
  is_change u x = found_changes (first_change u (map as_seen h.seen.items)) u x refl

-- ---- both

either_is : (o : Option Watch) (f : Option Halted) → is_some (halted_by o f) ≡ is_some o || is_some f
either_is None f = refl
either_is (Some x) f = refl

-- after the event after a position up to which nothing has changed
module _ (k : Walk) (h : Halts) (p : Position) (still : IsUnchanged (at k p) h) (x : ℕ × Event) (position : IsPosition k.records p) (e : next_event k.records p ≡ Some x) where
  abbrev next : Position
  next = next_position k.records p

  halts_there : is_some (halted_here (at k next) h) ≡ halts_after h (world_here (at k p)) x (world_here (at k next))
  halts_there =
      let w = world_here (at k p) in
      let u = world_here (at k next) in
      either_is (first_change u (map as_seen h.seen.items)) (fault_here h.counted (at k next))
      ∙ ap (λ b. b || is_some (fault_here h.counted (at k next))) (is_change (at k p) h still u x)
      ∙ ap (λ b. changes_watched h.points w x u || b) (is_fault k.records p x e h.counted k refl w)

  pub halts_is : is_some (halted_here (at k next) h) ≡ is_marked (halts_after h) (world_here (at k p)) x
  halts_is = halts_there ∙ ap (λ (u : World). halts_after h (world_here (at k p)) x u) (world_next k.records p x position e k.boot)

-- a move that goes on from there: nothing has changed
pub none_halts : (k : Walk) (h : Halts) → map (λ (s : Seen). s.watch) h.seen.items ≡ h.points.watches → halted_here k h ≡ None → IsUnchanged k h
none_halts k h named e = record { watched = named; same = by_change (first_change (world_here k) (map as_seen h.seen.items)) refl }
  where
    by_change : (o : Option Watch) → first_change (world_here k) (map as_seen h.seen.items) ≡ o → first_change (world_here k) (map as_seen h.seen.items) ≡ None
    by_change None is = is
    by_change (Some y) is = let no : Some (Changed y) ≡ None = sym (ap (λ (o : Option Watch). halted_by o (fault_here h.counted k)) is) ∙ e in absurd cc
