-- Watched bytes stay as they were up to the event that changes them, so a search on can tell what that changed.
use Rattle.std.proofs.Common.{◌≡◌, ◌∙◌, ◌⊎◌, ◌<◌, ◌+◌, ◌-◌, ℕ, Bool, true, false, cond, not, ◌||◌, ◌&&◌, nat_eq, List, [], ◌∷◌, ◌++◌, append_assoc, length, length-append, map, Option, Some, None, refl, ap, sym, subst, inl, inr, arith}
use Rattle.std.specs.List.{flat_map}
use Rattle.std.proofs.lemmas.Bool.{eqb-true}
use Rattle.mx_machine.specs.declared.events.Event.{Event}
use Rattle.mx_machine.specs.declared.history.Record.{Record}
use Rattle.mx_machine.specs.History.{world_after_events}
use Rattle.mx_machine.specs.Move.{world_after_event}
use Rattle.mx_machine.specs.World.{World, held_by}
use Rattle.mx_walk.specs.declared.halting.Halt.{Halt}
use Rattle.mx_walk.specs.declared.positions.Position.{Position}
use Rattle.mx_walk.specs.declared.stopping.CodePlace.{CodePlace}
use Rattle.mx_walk.specs.declared.watching.BytePlace.{BytePlace}
use Rattle.mx_walk.specs.Halting.{HaltsAt, is_left_next}
use Rattle.mx_walk.specs.Positions.{IsBefore, IsPosition, IsUpTo, events_before, next_event, next_position, position_before, world_at}
use Rattle.mx_walk.specs.Seeking.{IsFirstMarked, IsPassed, NoneMarked, is_marked}
use Rattle.mx_walk.specs.Several.{any_marks}
use Rattle.mx_walk.specs.Stopping.{comes_any, is_step, leaves_any, stands_at, stands_at_any}
use Rattle.mx_walk.specs.Walks.{Walk, world_here}
use Rattle.mx_walk.specs.Watching.{byte_in, same_byte}
use Rattle.mx_walk.proofs.Along.{any_record, is_few}
use Rattle.mx_walk.proofs.Arriving.{begins}
use Rattle.mx_walk.proofs.Made.{after_both}
use Rattle.mx_walk.proofs.Meeting.{above_first, snoc_same}
use Rattle.mx_walk.proofs.Next.{above_inside_too, above_it, back_next, has_event, is_position_too, next_up_to, not_itself, up_to_of, world_next}
use Rattle.mx_walk.proofs.Passing.{found, found_more, none_passed, passed_more}
use Rattle.mx_app_look.specs.declared.points.Points.{Points}
use Rattle.mx_app_look.specs.declared.watches.Watch.{Watch}
use Rattle.mx_app_look.specs.Changes.{bytes_of, change_line, change_text, changes_since, listed_byte, listed_bytes, seen_in}
use Rattle.mx_app_look.specs.Marks.{changes, changes_bytes, changes_watched, code_place, is_looked_for, leaves_breakpoint, leaving}
use Rattle.mx_app_look.specs.Searches.{IsHalt, IsHaltAfter, changes_from, halt_by, is_break, not_met}
use Rattle.mx_app_look.specs.Watches.{places_of}
use Rattle.mx_app_look.proofs.Coming.{gone}
use Rattle.mx_app_look.proofs.Lists.{same_rest}

-- ---- bytes at places

abbrev pub SameBytes : List BytePlace → World → World → Type 0
SameBytes [] w u = Unit {0}
SameBytes (b ∷ bs) w u = (byte_in w b ≡ byte_in u b) × SameBytes bs w u

same_by : (o p : Option ℕ) → not (same_byte o p) ≡ false → o ≡ p
same_by (Some x) (Some y) e = ap (λ n. Some n) (eqb-true x y (not_not (nat_eq x y) e))
  where
    not_not : (b : Bool) → not b ≡ false → b ≡ true
    not_not true e = refl
    not_not false e = absurd cc
same_by None None e = refl
same_by (Some x) None e = absurd cc
same_by None (Some y) e = absurd cc

or_left : (a b : Bool) → a || b ≡ false → a ≡ false
or_left true b e = e
or_left false b e = refl

or_right : (a b : Bool) → a || b ≡ false → b ≡ false
or_right true b e = let no : true ≡ false = e in absurd cc
or_right false b e = e

pub or_true : (a : Bool) → a || true ≡ true
or_true true = refl
or_true false = refl

both_false : (a b : Bool) → a ≡ false → b ≡ false → a || b ≡ false
both_false a b e h = ap (λ c. c || b) e ∙ h

abbrev changed : List BytePlace → World → ℕ × Event → World → Bool
changed bs w x u = any_marks (map changes bs) w x u

unchanged : (bs : List BytePlace) (w u : World) (x : ℕ × Event) → changed bs w x u ≡ false → SameBytes bs w u
unchanged [] w u x e = tt
unchanged (b ∷ bs) w u x e = (same_by (byte_in w b) (byte_in u b) (or_left (changes b w x u) (changed bs w x u) e), unchanged bs w u x (or_right (changes b w x u) (changed bs w x u) e))

-- bytes of two lists of places
either_more : (a b c : Bool) → (a || b) || c ≡ a || (b || c)
either_more true b c = refl
either_more false b c = refl

changed_both : (bs cs : List BytePlace) (w : World) (x : ℕ × Event) (u : World) → changed (bs ++ cs) w x u ≡ changed bs w x u || changed cs w x u
changed_both [] cs w x u = refl
changed_both (b ∷ bs) cs w x u = ap (λ c. changes b w x u || c) (changed_both bs cs w x u) ∙ sym (either_more (changes b w x u) (changed bs w x u) (changed cs w x u))

-- some of all watches' bytes
pub changed_of_all : (ws : List Watch) (w : World) (x : ℕ × Event) (u : World) → any_marks (map changes_bytes ws) w x u ≡ changed (flat_map places_of ws) w x u
changed_of_all [] w x u = refl
changed_of_all (y ∷ ws) w x u =
    ap (λ c. changes_bytes y w x u || c) (changed_of_all ws w x u) ∙ sym (changed_both (places_of y) (flat_map places_of ws) w x u)

same_trans : (bs : List BytePlace) (w v u : World) → SameBytes bs w v → SameBytes bs v u → SameBytes bs w u
same_trans [] w v u a b = tt
same_trans (p ∷ bs) w v u a b = (a.0 ∙ b.0, same_trans bs w v u a.1 b.1)

-- whether an event changes them is told by any world that has the same bytes
changed_as : (bs : List BytePlace) (w v u : World) (x y : ℕ × Event) → SameBytes bs w v → changed bs v x u ≡ changed bs w y u
changed_as [] w v u x y h = refl
changed_as (b ∷ bs) w v u x y h =
    ap (λ o. not (same_byte o (byte_in u b)) || changed bs v x u) (sym h.0) ∙ ap (λ c. changes b w y u || c) (changed_as bs w v u x y h.1)

same_along : (bs : List BytePlace) (w : World) (xs : List (ℕ × Event)) → NoneMarked (changed bs) w xs → SameBytes bs w (world_after_events w xs)
same_along bs w [] h = itself bs w
  where
    itself : (bs : List BytePlace) (w : World) → SameBytes bs w w
    itself [] w = tt
    itself (b ∷ bs) w = (refl, itself bs w)
same_along bs w (x ∷ xs) h =
    let v = world_after_event w x.0 x.1 in
    same_trans bs w v (world_after_events v xs) (unchanged bs w v x h.0) (same_along bs v xs h.1)

-- ---- and their texts

front_same : (bs cs : List BytePlace) (w u : World) → SameBytes (bs ++ cs) w u → SameBytes bs w u
front_same [] cs w u h = tt
front_same (b ∷ bs) cs w u h = (h.0, front_same bs cs w u h.1)

rest_same : (bs cs : List BytePlace) (w u : World) → SameBytes (bs ++ cs) w u → SameBytes cs w u
rest_same [] cs w u h = h
rest_same (b ∷ bs) cs w u h = rest_same bs cs w u h.1

listed_same : (bs : List BytePlace) (w u : World) → SameBytes bs w u → listed_bytes w bs ≡ listed_bytes u bs
listed_same [] w u h = refl
listed_same (b ∷ bs) w u h = ap (λ o. listed_byte o ++ listed_bytes w bs) h.0 ∙ ap (λ xs. listed_byte (byte_in u b) ++ xs) (listed_same bs w u h.1)

text_same : (ws : List Watch) (w v u : World) → SameBytes (flat_map places_of ws) w v → changes_since u (map (seen_in w) ws) ≡ changes_since u (map (seen_in v) ws)
text_same [] w v u h = refl
text_same (x ∷ ws) w v u h =
    ap (λ bytes. change_line x bytes (bytes_of u x) ++ changes_since u (map (seen_in w) ws)) (listed_same (places_of x) w v (front_same (places_of x) (flat_map places_of ws) w v h))
    ∙ ap (λ more. change_line x (bytes_of v x) (bytes_of u x) ++ more) (text_same ws w v u (rest_same (places_of x) (flat_map places_of ws) w v h))

-- ---- a step at a breakpoint leaves a place

leaves_by : (ps : List CodePlace) (w : World) (x : ℕ × Event) (u : World) (b : Bool) → is_step x.1 ≡ b → any_marks (map leaving ps) w x u ≡ (b && stands_at_any (held_by w x.0) ps)
leaves_by [] w x u true e = refl
leaves_by [] w x u false e = refl
leaves_by (p ∷ ps) w x u true e =
    ap (λ b. (b && stands_at (held_by w x.0) p) || any_marks (map leaving ps) w x u) e ∙ ap (λ c. stands_at (held_by w x.0) p || c) (leaves_by ps w x u true e)
leaves_by (p ∷ ps) w x u false e =
    ap (λ b. (b && stands_at (held_by w x.0) p) || any_marks (map leaving ps) w x u) e ∙ leaves_by ps w x u false e

pub leaves_same : (s : Points) (w : World) (x : ℕ × Event) (u : World) → leaves_breakpoint s w x u ≡ leaves_any (map code_place s.breakpoints) w x u
leaves_same s w x u = leaves_by (map code_place s.breakpoints) w x u (is_step x.1) refl

-- ---- back from the next position

before_next : (records : List Record) (q to : Position) → IsPosition records q → IsPosition records to → IsBefore q to → position_before records (next_position records q) ≡ q
before_next records q to h t lt =
    let b = above_inside_too records q to t lt in
    back_next records q.records b q.steps (is_few records q.records any_record b q.steps h)

-- ---- a search on, after the event that it makes first

module _ (k : Walk) (s : Points) (from : Position) where
  abbrev Marks : Type 0
  Marks = World → ℕ × Event → World → Bool

  abbrev bytes : List BytePlace
  bytes = flat_map places_of s.watches

  abbrev places : List CodePlace
  places = map code_place s.breakpoints

  abbrev f : Marks
  f = is_looked_for s

  -- what it is told of: a change, or what comes to a breakpoint
  abbrev pub told : Marks
  told w x u = changes_watched s w x u || comes_any places w x u

  abbrev w : Position → World
  w p = world_at k.boot k.records p

  -- where it has looked up to: nothing that is looked for was on the way, and the bytes are as they were before it
  abbrev pub Looked : Position → Type 0
  Looked q = IsPassed f k.boot k.records from q × SameBytes bytes (world_here k) (w q)

  -- where it has come to: right after the first event, or after an event that it is told of
  abbrev pub Come : Bool → Position → Type 0
  Come b q = (q ≡ from) ⊎ ((b ≡ false) × (p : Position) × Looked p × IsPassed (leaves_any places) k.boot k.records p q × IsFirstMarked told k.boot k.records p q)

  none_changed : (v : World) (xs : List (ℕ × Event)) → NoneMarked told v xs → NoneMarked (changes_watched s) v xs
  none_changed v [] h = tt
  none_changed v (x ∷ xs) h =
      let u = world_after_event v x.0 x.1 in
      (or_left (changes_watched s v x u) (comes_any places v x u) h.0, none_changed u xs h.1)

  -- some of all bytes
  of_all : (v : World) (x : ℕ × Event) (u : World) → changes_watched s v x u ≡ changed bytes v x u
  of_all v x u = changed_of_all s.watches v x u

  none_of_all : (v : World) (xs : List (ℕ × Event)) → NoneMarked (changes_watched s) v xs → NoneMarked (changed bytes) v xs
  none_of_all v [] h = tt
  none_of_all v (x ∷ xs) h = let u = world_after_event v x.0 x.1 in (sym (of_all v x u) ∙ h.0, none_of_all u xs h.1)

  none_looked : (v : World) (xs : List (ℕ × Event)) → NoneMarked (changes_watched s) v xs → NoneMarked (leaves_any places) v xs → NoneMarked f v xs
  none_looked v [] h l = tt
  none_looked v (x ∷ xs) h l =
      let u = world_after_event v x.0 x.1 in
      (both_false (changes_watched s v x u) (leaves_breakpoint s v x u) h.0 (leaves_same s v x u ∙ l.0), none_looked u xs h.1 l.1)

  front : (g : Marks) (v : World) (xs : List (ℕ × Event)) (y : ℕ × Event) → NoneMarked g v (xs ++ y ∷ []) → NoneMarked g v xs × (is_marked g (world_after_events v xs) y ≡ false)
  front g v [] y h = (tt, h.0)
  front g v (x ∷ xs) y h = let r = front g (world_after_event v x.0 x.1) xs y h.1 in ((h.0, r.0), r.1)

  none_then : (g : Marks) (v : World) (xs : List (ℕ × Event)) (y : ℕ × Event) → NoneMarked g v xs → is_marked g (world_after_events v xs) y ≡ false → NoneMarked g v (xs ++ y ∷ [])
  none_then g v [] y h e = (e, tt)
  none_then g v (x ∷ xs) y h e = (h.0, none_then g (world_after_event v x.0 x.1) xs y h.1 e)

  -- none on the way
  pub passed_both : (p q : Position) → IsPassed told k.boot k.records p q → IsPassed (leaves_any places) k.boot k.records p q → IsPassed f k.boot k.records p q
  passed_both p q a b =
      let same : b.0 ≡ a.0 = same_rest (events_before k.records p) b.0 a.0 (sym b.1 ∙ a.1) in
      let left : NoneMarked (leaves_any places) (w p) a.0 = subst (λ (es : List (ℕ × Event)). NoneMarked (leaves_any places) (w p) es) same b.2 in
      (a.0, a.1, none_looked (w p) a.0 (none_changed (w p) a.0 a.2) left)

  -- the event right before q
  module _ (p q : Position) (looked : Looked p) (unleft : IsPassed (leaves_any places) k.boot k.records p q) (found : IsFirstMarked told k.boot k.records p q) where
    abbrev between : List (ℕ × Event)
    between = found.0

    abbrev x : ℕ × Event
    x = found.1

    abbrev v : World
    v = world_after_events (w p) between

    abbrev u : World
    u = world_after_event v x.0 x.1

    left : NoneMarked (leaves_any places) (w p) (between ++ x ∷ [])
    left =
        let same : unleft.0 ≡ between ++ x ∷ [] = same_rest (events_before k.records p) unleft.0 (between ++ x ∷ []) (sym unleft.1 ∙ found.2) in
        subst (λ (es : List (ℕ × Event)). NoneMarked (leaves_any places) (w p) es) same unleft.2

    none : NoneMarked f (w p) between
    none = none_looked (w p) between (none_changed (w p) between found.3) (front (leaves_any places) (w p) between x left).0

    x_unleft : leaves_breakpoint s v x u ≡ false
    x_unleft = leaves_same s v x u ∙ (front (leaves_any places) (w p) between x left).1

    same_before : SameBytes bytes (world_here k) v
    same_before = same_trans bytes (world_here k) (w p) v looked.1 (same_along bytes (w p) between (none_of_all (w p) between (none_changed (w p) between found.3)))

    there : w q ≡ u
    there = ap (λ (es : List (ℕ × Event)). world_after_events k.boot es) found.2 ∙ after_both k.boot (events_before k.records p) (between ++ x ∷ []) ∙ after_both (w p) between (x ∷ [])

    as_before : (y : ℕ × Event) → changes_watched s v x u ≡ changes_watched s (world_here k) y (w q)
    as_before y = of_all v x u ∙ changed_as bytes (world_here k) v u x y same_before ∙ sym (of_all (world_here k) y u) ∙ ap (λ (z : World). changes_watched s (world_here k) y z) (sym there)

    -- it changed none of them
    pub looked_on : (y : ℕ × Event) → changes_watched s (world_here k) y (w q) ≡ false → Looked q
    looked_on y isnt =
        let unmarked : is_marked f v x ≡ false = both_false (changes_watched s v x u) (leaves_breakpoint s v x u) (as_before y ∙ isnt) x_unleft in
        let here : IsPassed f k.boot k.records p q = (between ++ x ∷ [], found.2, none_then f (w p) between x none unmarked) in
        (passed_more f k.boot k.records p q from looked.0 here, unchanged bytes (world_here k) (w q) y (sym (of_all (world_here k) y (w q)) ∙ isnt))

    -- it changed one: the search halts after it
    pub halts_changed : (z : ℕ × Event) → IsPosition k.records q → IsUpTo q k.last → changes_watched s (world_here k) z (w q) ≡ true → IsHalt k s from (q, change_text s (world_here k) (w q))
    halts_changed z h early now =
        let marked : is_marked f v x ≡ true = ap (λ c. c || leaves_breakpoint s v x u) (as_before z ∙ now) in
        let first : IsFirstMarked f k.boot k.records p q = (between, x, found.2, none, marked) in
        let b = above_first f k.boot k.records p q h first in
        let e = position_before k.records q in
        let y = has_event k.records e q h b.earlier in
        let ends : events_before k.records q ≡ events_before k.records e ++ y.0 ∷ [] = ap (λ (r : Position). events_before k.records r) (sym b.next) ∙ above_it k.records e y.0 b.position y.1 in
        let fronts : events_before k.records q ≡ (events_before k.records p ++ between) ++ x ∷ [] = found.2 ∙ sym (append_assoc (events_before k.records p) between (x ∷ [])) in
        let same = snoc_same (events_before k.records e) (events_before k.records p ++ between) y.0 x (sym ends ∙ fronts) in
        let world : w e ≡ v = ap (λ (es : List (ℕ × Event)). world_after_events k.boot es) same.0 ∙ after_both k.boot (events_before k.records p) between in
        let event : next_event k.records e ≡ Some x = y.1 ∙ ap (λ (t : ℕ × Event). Some t) same.1 in
        let isnt : is_break k s e (next_event k.records e) ≡ false =
        ap (λ (o : Option (ℕ × Event)). is_break k s e o) event ∙ ap (λ (t : World). leaves_breakpoint s t x t) world ∙ leaves_same s v x v ∙ sym (leaves_same s v x u) ∙ x_unleft in
        let text : changes_from k s e q ≡ change_text s (world_here k) (w q) =
        ap (λ (t : World). change_text s t (w q)) world ∙ sym (text_same s.watches (world_here k) v (w q) same_before) in
        let halt : (q, change_text s (world_here k) (w q)) ≡ halt_by k s e q =
        ap (λ t. (q, t)) (sym text) ∙ sym (ap (λ c. let h : Position × List ℕ = cond c (e, []) (q, changes_from k s e q) in h) isnt) in
        inl (q, h, early, found_more f k.boot k.records p q from looked.0 first, halt)

  -- before the step at a breakpoint
  pub halts_at_break : (p q : Position) → Looked p → IsPassed told k.boot k.records p q → IsPassed (leaves_any places) k.boot k.records p q → is_left_next places (w q) (next_event k.records q) ≡ true
      → IsPosition k.records q → IsPosition k.records k.last → IsBefore q k.last → IsHalt k s from (q, [])
  halts_at_break p q looked passed unleft next h l lt =
      let y = has_event k.records q k.last l lt in
      let x = y.0 in
      let to = next_position k.records q in
      let here : IsPassed f k.boot k.records from q = passed_more f k.boot k.records p q from looked.0 (passed_both p q passed unleft) in
      let leaves : leaves_any places (w q) x (w q) ≡ true = ap (λ (o : Option (ℕ × Event)). is_left_next places (w q) o) (sym y.1) ∙ next in
      let after = world_after_event (w q) x.0 x.1 in
      let marked : is_marked f (w q) x ≡ true = ap (λ c. changes_watched s (w q) x after || c) (leaves_same s (w q) x after ∙ leaves) ∙ or_true (changes_watched s (w q) x after) in
      let first : IsFirstMarked f k.boot k.records from to = found f k.boot k.records q x h y.1 from here marked in
      let back : position_before k.records to ≡ q = before_next k.records q k.last h l lt in
      let is : is_break k s q (next_event k.records q) ≡ true = ap (λ (o : Option (ℕ × Event)). is_break k s q o) y.1 ∙ leaves_same s (w q) x (w q) ∙ leaves in
      let halt : (q, []) ≡ halt_by k s (position_before k.records to) to =
      sym (ap (λ c. let h : Position × List ℕ = cond c (q, []) (to, changes_from k s q to) in h) is) ∙ ap (λ (r : Position). halt_by k s r to) (sym back) in
      inl (to, is_position_too k.records q x h y.1, next_up_to k.records q k.last x h l y.1 (up_to_of q k.last lt) (not_itself q k.last lt), first, halt)

  -- at the last position, where nothing was met
  pub halts_at_last : (p q : Position) → Looked p → IsPassed told k.boot k.records p q → IsPassed (leaves_any places) k.boot k.records p q → q ≡ k.last → IsHalt k s from (q, not_met)
  halts_at_last p q looked passed unleft last =
      let here : IsPassed f k.boot k.records from q = passed_more f k.boot k.records p q from looked.0 (passed_both p q passed unleft) in
      inr (subst (λ (r : Position). IsPassed f k.boot k.records from r) last here, ap (λ (r : Position). (r, not_met)) last)

  -- what it knows where bytes are as they were
  pub looked_at : (b : Bool) (q : Position) (y : ℕ × Event) → b ≡ changes_watched s (world_here k) y (w from) → Come b q → changes_watched s (world_here k) y (w q) ≡ false → (b ≡ false) × Looked q
  looked_at b q y is (inl e) isnt =
      let there : changes_watched s (world_here k) y (w from) ≡ false = ap (λ (r : Position). changes_watched s (world_here k) y (w r)) (sym e) ∙ isnt in
      let here : Looked from = (none_passed f k.boot k.records from, unchanged bytes (world_here k) (w from) y (sym (of_all (world_here k) y (w from)) ∙ there)) in
      (is ∙ there, subst (λ (r : Position). Looked r) (sym e) here)
  looked_at b q y is (inr c) isnt = (c.0, looked_on c.1 q c.2 c.3 c.4 y isnt)

  -- and where they aren't
  pub halts_after : (b : Bool) (q : Position) (y : ℕ × Event) → b ≡ changes_watched s (world_here k) y (w from) → Come b q → changes_watched s (world_here k) y (w q) ≡ true → IsPosition k.records q → IsUpTo q k.last
      → IsHaltAfter k s from b (q, change_text s (world_here k) (w q))
  halts_after b q y is (inl e) now h early =
      let there : changes_watched s (world_here k) y (w from) ≡ true = ap (λ (r : Position). changes_watched s (world_here k) y (w r)) (sym e) ∙ now in
      let at : (q, change_text s (world_here k) (w q)) ≡ (from, changes_from k s k.here from) = ap (λ (r : Position). (r, change_text s (world_here k) (w r))) e in
      subst (λ c. IsHaltAfter k s from c (q, change_text s (world_here k) (w q))) (sym (is ∙ there)) at
  halts_after b q y is (inr c) now h early =
      subst (λ d. IsHaltAfter k s from d (q, change_text s (world_here k) (w q))) (sym c.0) (halts_changed c.1 q c.2 c.3 c.4 y h early now)

  -- fewer events are left after one that it is told of
  pub fewer_found : (p q : Position) → IsPosition k.records q → IsPosition k.records k.last → IsUpTo q k.last → IsFirstMarked told k.boot k.records p q
      → length (events_before k.records k.last) - length (events_before k.records q) < length (events_before k.records k.last) - length (events_before k.records p)
  fewer_found p q h l up found =
      let r = begins k.records q k.last h l up in
      let n : length (events_before k.records k.last) ≡ length (events_before k.records q) + length r.0 = ap (λ (es : List (ℕ × Event)). length es) r.1 ∙ length-append (events_before k.records q) r.0 in
      let m : length (events_before k.records q) ≡ length (events_before k.records p) + length (found.0 ++ found.1 ∷ []) = ap (λ (es : List (ℕ × Event)). length es) found.2 ∙ length-append (events_before k.records p) (found.0 ++ found.1 ∷ []) in
      let o : length (found.0 ++ found.1 ∷ []) ≡ length found.0 + 1 = length-append found.0 (found.1 ∷ []) in
      omega (arith, n, m, o)

  -- ---- what the loop knows of a walker that has gone on

  -- whether the first event changed a byte
  pub first_told : (x : ℕ × Event) → IsPosition k.records k.here → next_event k.records k.here ≡ Some x → from ≡ next_position k.records k.here
      → is_marked (changes_watched s) (world_here k) x ≡ changes_watched s (world_here k) x (w from)
  first_told x h e there =
      let world : w from ≡ world_after_event (world_here k) x.0 x.1 = ap (λ (p : Position). w p) there ∙ world_next k.records k.here x h e k.boot in
      ap (λ (u : World). changes_watched s (world_here k) x u) (sym world)

  -- whether bytes are changed where it is
  pub met_is : (met : Bool) (x : ℕ × Event) (g : Marks) (v u : World) (j : Walk) → met ≡ g v x u → g ≡ changes_watched s → v ≡ world_here k → u ≡ world_here j → j ≡ gone k j.here
      → met ≡ changes_watched s (world_here k) x (w j.here)
  met_is met x g v u j e same here there moved =
      e ∙ ap (λ (i : Marks). i v x u) same ∙ ap (λ (t : World). changes_watched s t x u) here
      ∙ ap (λ (t : World). changes_watched s (world_here k) x t) (there ∙ ap (λ (i : Walk). world_here i) moved)

  pub placed : (j : Walk) (r : Position) → j ≡ gone k j.here → r ≡ j.here → IsPosition j.records r → IsUpTo r j.last → IsPosition k.records j.here × IsUpTo j.here k.last
  placed j r moved here position early = (
    subst (λ (i : Walk). IsPosition i.records j.here) moved (subst (λ (p : Position). IsPosition j.records p) here position),
    subst (λ (i : Walk). IsUpTo j.here i.last) moved (subst (λ (p : Position). IsUpTo p j.last) here early),
  )

  -- what it is told of comes to the breakpoints
  pub told_coming : (g : Marks) (ps : List CodePlace) (v : World) (x : ℕ × Event) (u : World) → g ≡ told → ps ≡ places → comes_any ps v x u ≡ true → g v x u ≡ true
  told_coming g ps v x u same there comes =
      let here : comes_any places v x u ≡ true = ap (λ (qs : List CodePlace). comes_any qs v x u) (sym there) ∙ comes in
      ap (λ (i : Marks). i v x u) same ∙ ap (λ b. changes_watched s v x u || b) here ∙ or_true (changes_watched s v x u)

  -- where it halts, as told
  module _ (g : Marks) (ps : List CodePlace) (j : Walk) (q : Position) (same : g ≡ told) (there : ps ≡ places) (moved : j ≡ gone k j.here) where
    pub halted_as : (h : Halt) → HaltsAt g ps j.boot j.records j.here j.last q h → HaltsAt told places k.boot k.records j.here k.last q h
    halted_as h halts =
        let a : HaltsAt told ps j.boot j.records j.here j.last q h = subst (λ (i : Marks). HaltsAt i ps j.boot j.records j.here j.last q h) same halts in
        let b : HaltsAt told places j.boot j.records j.here j.last q h = subst (λ (xs : List CodePlace). HaltsAt told xs j.boot j.records j.here j.last q h) there a in
        subst (λ (i : Walk). HaltsAt told places i.boot i.records j.here i.last q h) moved b

    pub unleft_as : IsPassed (leaves_any ps) j.boot j.records j.here q → IsPassed (leaves_any places) k.boot k.records j.here q
    unleft_as passed =
        let a : IsPassed (leaves_any places) j.boot j.records j.here q = subst (λ (xs : List CodePlace). IsPassed (leaves_any xs) j.boot j.records j.here q) there passed in
        subst (λ (i : Walk). IsPassed (leaves_any places) i.boot i.records j.here q) moved a

  -- what is printed where the first event changed no byte
  pub halt_here : (b : Bool) (q : Position) (text printed : List ℕ) → b ≡ false → printed ≡ text → IsHalt k s from (q, text) → IsHaltAfter k s from b (q, printed)
  halt_here b q text printed unmet same halt =
      let here : IsHalt k s from (q, printed) = subst (λ (t : List ℕ). IsHalt k s from (q, t)) (sym same) halt in
      subst (λ c. IsHaltAfter k s from c (q, printed)) (sym unmet) here

  -- what is printed of the bytes that it saw before
  pub text_is : (v u : World) (j : Walk) (seen : List (Watch × List ℕ)) (before printed : List ℕ) → seen ≡ map (seen_in v) s.watches → v ≡ world_here k → u ≡ world_here j → j ≡ gone k j.here
      → before ≡ [] → printed ≡ before ++ changes_since u seen → printed ≡ change_text s (world_here k) (w j.here)
  text_is v u j seen before printed saw here there moved none is =
      is ∙ ap (λ (t : List ℕ). t ++ changes_since u seen) none ∙ ap (λ (ss : List (Watch × List ℕ)). changes_since u ss) saw
      ∙ ap (λ (t : World). changes_since u (map (seen_in t) s.watches)) here
      ∙ ap (λ (t : World). changes_since t (map (seen_in (world_here k)) s.watches)) (there ∙ ap (λ (i : Walk). world_here i) moved)
