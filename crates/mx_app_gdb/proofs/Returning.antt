-- Back after a move on.
use Rattle.std.proofs.Common.{◌≡◌, ◌∙◌, ◌⊎◌, ◌||◌, ℕ, Bool, true, false, List, [], ◌∷◌, ◌++◌, append-nil, append_assoc, Option, Some, None, inl, inr, refl, ap, sym, subst}
use Rattle.std.specs.Prelude.{if◌then◌else◌}
use Rattle.mx_machine.specs.declared.events.Event.{Event}
use Rattle.mx_machine.specs.History.{world_after_events}
use Rattle.mx_machine.specs.Move.{world_after_event}
use Rattle.mx_machine.specs.World.{World}
use Rattle.mx_walk.specs.declared.positions.Position.{Position}
use Rattle.mx_walk.specs.Positions.{IsPosition, events_before, first, next_event, next_position, position_before, world_at}
use Rattle.mx_walk.specs.Seeking.{IsFirstMarked, IsLastMarked, IsPassed, NoneMarked, is_marked}
use Rattle.mx_walk.specs.Walks.{Walk, world_here}
use Rattle.mx_walk.proofs.Made.{after_both}
use Rattle.mx_walk.proofs.Meeting.{above_first, meets, snoc_same}
use Rattle.mx_walk.proofs.Naming.{last_is_one}
use Rattle.mx_walk.proofs.Next.{above_it, has_event}
use Rattle.mx_app_look.specs.declared.points.Points.{Points}
use Rattle.mx_app_look.specs.Marks.{changes_watched, is_looked_for, leaves_breakpoint}
use Rattle.mx_app_look.specs.Searches.{next_made}
use Rattle.mx_app_gdb.specs.declared.halts.Halted.{Halted}
use Rattle.mx_app_gdb.specs.declared.halts.Halts.{Halts}
use Rattle.mx_app_gdb.specs.declared.replying.Way.TheVariants.{Back, On}
use Rattle.mx_app_gdb.specs.declared.stub.Stub.{Stub}
use Rattle.mx_app_gdb.specs.declared.threads.Counted.{Counted}
use Rattle.mx_app_gdb.specs.declared.threads.Threads.{Threads}
use Rattle.mx_app_gdb.specs.Laws.{points_of}
use Rattle.mx_app_gdb.specs.Marks.{faults}
use Rattle.mx_app_gdb.specs.Moves.{Halt, IsAfterNext, IsGoneBack, IsHaltFrom, at, is_met}
use Rattle.mx_app_gdb.specs.Points.{counted_points}
use Rattle.mx_app_gdb.specs.Replied.{AreHalts, IsMoved, world_of_stub}
use Rattle.mx_app_gdb.proofs.Passed.{passed_isnt_last}

-- ---- events of which none is looked for

unlooked : (c m l : Bool) → (c || m) || l ≡ false → c || l ≡ false
unlooked true m l e = absurd cc
unlooked false true l e = absurd cc
unlooked false false l e = e

none_sought : (h : Halts) (w : World) (bs : List (ℕ × Event)) → NoneMarked (is_met h) w bs → NoneMarked (is_looked_for h.points) w bs
none_sought h w [] none = tt
none_sought h w (b ∷ bs) none =
    let u = world_after_event w b.0 b.1 in
    (unlooked (changes_watched h.points w b u) (faults h.counted w b u) (leaves_breakpoint h.points w b u) none.0, none_sought h u bs none.1)

none_more : (f : World → ℕ × Event → World → Bool) (w : World) (bs : List (ℕ × Event)) (y : ℕ × Event) → NoneMarked f w bs → is_marked f (world_after_events w bs) y ≡ false → NoneMarked f w (bs ++ y ∷ [])
none_more f w [] y none isnt = (isnt, tt)
none_more f w (b ∷ bs) y none isnt = (none.0, none_more f (world_after_event w b.0 b.1) bs y none.1 isnt)

next_is : (b : Bool) (o : Option (ℕ × Event)) (x : ℕ × Event) → (let r : Option (ℕ × Event) = (if b then None else o) in r ≡ Some x) → o ≡ Some x
next_is true o x e = absurd cc
next_is false o x e = e

either_place : (b : Bool) (q p z : Position) (o c d : Option Halted) → (let r : Halt = (if b then (p, c) else (z, d)) in let t : Halt = (q, o) in t ≡ r) → (q ≡ p) ⊎ (q ≡ z)
either_place true q p z o c d e = inl (ap (λ (t : Halt). t.0) e)
either_place false q p z o c d e = inr (ap (λ (t : Halt). t.0) e)

-- ---- from where a move begins at an event that is looked for

module _ (k : Walk) (h : Halts) (x : ℕ × Event) (position : IsPosition k.records k.here) (made : next_event k.records k.here ≡ Some x)
    (marked : is_marked (is_looked_for h.points) (world_here k) x ≡ true) where
  abbrev f : World → ℕ × Event → World → Bool
  f = is_looked_for h.points

  abbrev next : Position
  next = next_position k.records k.here

  above : events_before k.records next ≡ events_before k.records k.here ++ x ∷ []
  above = above_it k.records k.here x position made

  after_it : world_at k.boot k.records next ≡ world_after_event (world_here k) x.0 x.1
  after_it = ap (λ (es : List (ℕ × Event)). world_after_events k.boot es) above ∙ after_both k.boot (events_before k.records k.here) (x ∷ [])

  -- it is the last one that is looked for
  last_here : (q : Position) (bs : List (ℕ × Event)) → events_before k.records q ≡ events_before k.records next ++ bs → NoneMarked f (world_at k.boot k.records next) bs
      → IsLastMarked f k.boot k.records k.here q
  last_here q bs split none =
      let es = events_before k.records k.here in
      (x, bs, split ∙ ap (λ (ys : List (ℕ × Event)). ys ++ bs) above ∙ append_assoc es (x ∷ []) bs, marked, subst (λ (w : World). NoneMarked f w bs) after_it none)

  back_to : (p q : Position) (g : Halts) (r : Halt) → IsPosition k.records p → IsLastMarked f k.boot k.records p q → g.points ≡ h.points → IsGoneBack (at k q) g r → r.0 ≡ p
  back_to p q g r placed found same (inl b) =
      let too = subst (λ (s : Points). IsLastMarked (is_looked_for s) k.boot k.records b.0 q) same b.2 in
      ap (λ (t : Halt). t.0) b.3 ∙ last_is_one f k.boot k.records b.0 p q b.1 placed too found
  back_to p q g r placed found same (inr b) =
      let passed = subst (λ (s : Points). IsPassed (is_looked_for s) k.boot k.records first q) same b.0 in
      absurd (passed_isnt_last f k.boot k.records p q placed found passed)

  module _ (q : Position) (g : Halts) (r : Halt) (same : g.points ≡ h.points) (back : IsGoneBack (at k q) g r) where
    abbrev Returns : Type 0
    Returns = (r.0 ≡ k.here) ⊎ (r.0 ≡ position_before k.records q)

    to_here : (bs : List (ℕ × Event)) → events_before k.records q ≡ events_before k.records next ++ bs → NoneMarked f (world_at k.boot k.records next) bs → Returns
    to_here bs split none = inl (back_to k.here q g r position (last_here q bs split none) same back)

    -- the halt is right after the event that was met, or right before it
    module _ (z : Position) (placed : IsPosition k.records z) (found : IsFirstMarked (is_met h) k.boot k.records next z) where
      before_met : q ≡ position_before k.records z → Returns
      before_met e =
          let b = above_first (is_met h) k.boot k.records next z placed found in
          let p = position_before k.records z in
          let y = has_event k.records p z placed b.earlier in
          let early = events_before k.records next in
          let one : events_before k.records z ≡ events_before k.records p ++ y.0 ∷ [] =
          ap (λ (s : Position). events_before k.records s) (sym b.next) ∙ above_it k.records p y.0 b.position y.1 in
          let both = snoc_same (events_before k.records p) (early ++ found.0) y.0 found.1 (sym one ∙ found.2 ∙ sym (append_assoc early found.0 (found.1 ∷ []))) in
          to_here found.0 (ap (λ (s : Position). events_before k.records s) e ∙ both.0) (none_sought h (world_at k.boot k.records next) found.0 found.3)

      after_met : (c : Bool) → is_marked f (world_after_events (world_at k.boot k.records next) found.0) found.1 ≡ c → q ≡ z → Returns
      after_met true met e =
          let none = none_sought h (world_at k.boot k.records next) found.0 found.3 in
          let last = meets f k.boot k.records next z placed (found.0, found.1, found.2, none, met) in
          let p = position_before k.records z in
          let b = above_first (is_met h) k.boot k.records next z placed found in
          let there = back_to p q g r b.position (subst (λ (s : Position). IsLastMarked f k.boot k.records p s) (sym e) last) same back in
          inr (there ∙ ap (λ (s : Position). position_before k.records s) (sym e))
      after_met false met e =
          let none = none_sought h (world_at k.boot k.records next) found.0 found.3 in
          to_here (found.0 ++ found.1 ∷ []) (ap (λ (s : Position). events_before k.records s) e ∙ found.2) (none_more f (world_at k.boot k.records next) found.0 found.1 none met)

    by_place : (z : Position) → IsPosition k.records z → IsFirstMarked (is_met h) k.boot k.records next z → (q ≡ position_before k.records z) ⊎ (q ≡ z) → Returns
    by_place z placed found (inl e) = before_met z placed found e
    by_place z placed found (inr e) = after_met z placed found (is_marked f (world_after_events (world_at k.boot k.records next) found.0) found.1) refl e

    by_next : (o : Option Halted) → IsAfterNext k h (IsHaltFrom k h) (Some x) (q, o) → Returns
    by_next o (inl (halts, is)) =
        to_here [] (ap (λ (t : Halt). events_before k.records t.0) is ∙ sym (append-nil (events_before k.records next))) tt
    by_next o (inr (halts, inl (z, placed, up, found, is))) = by_place z placed found (either_place _ q (position_before k.records z) z o _ _ is)
    by_next o (inr (halts, inr (passed, is))) =
        to_here passed.0 (ap (λ (t : Halt). events_before k.records t.0) is ∙ passed.1) (none_sought h (world_at k.boot k.records next) passed.0 passed.2)

-- ---- moves of a stub

counted_of : (s : Stub) (slot : ℕ) (h : Halts) → AreHalts s slot true h → h.points ≡ points_of s
counted_of s slot h are =
    let same : h.counted ≡ record { threads = s.threads; only = None } =
    ap (λ (t : Threads). let c : Counted = record { threads = t; only = h.counted.only } in c) are.threads
    ∙ ap (λ (o : Option ℕ). let c : Counted = record { threads = s.threads; only = o } in c) are.only in
    are.points ∙ ap (λ (c : Counted). counted_points s.sight.points c) same

pub moved_back : (s u v : Stub) (a b : ℕ) (x : ℕ × Event) (told said : List ℕ) → IsPosition s.sight.walker.records s.sight.walker.here → next_made s.sight.walker ≡ Some x
    → is_marked (is_looked_for (points_of s)) (world_of_stub s) x ≡ true → IsMoved On s a true u told → IsMoved Back u b true v said
    → (v.sight.walker.here ≡ s.sight.walker.here) ⊎ (v.sight.walker.here ≡ position_before s.sight.walker.records u.sight.walker.here)
moved_back s u v a b x told said position made marked (h, halts, (q, why, on, e, t)) (g, holds, (p, also, back, i, l)) =
    let k = s.sight.walker in
    let hp = counted_of s a h halts in
    let same_points : points_of u ≡ points_of s = ap points_of e in
    let same : g.points ≡ h.points = counted_of u b g holds ∙ same_points ∙ sym hp in
    let looked = subst (λ (c : Points). is_marked (is_looked_for c) (world_here k) x ≡ true) (sym hp) marked in
    let event : next_event k.records k.here ≡ Some x = next_is _ (next_event k.records k.here) x made in
    let gone = subst (λ (o : Option (ℕ × Event)). IsAfterNext k h (IsHaltFrom k h) o (q, Some why)) made on in
    let here : u.sight.walker ≡ at k q = ap (λ (y : Stub). y.sight.walker) e in
    let r : Halt = (p, Some also) in
    let gone_back = subst (λ (w : Walk). IsGoneBack w g r) here back in
    let place : v.sight.walker.here ≡ p = ap (λ (y : Stub). y.sight.walker.here) i in
    let there : u.sight.walker.here ≡ q = ap (λ (y : Stub). y.sight.walker.here) e in
    subst (λ (y : Position). (v.sight.walker.here ≡ k.here) ⊎ (v.sight.walker.here ≡ position_before k.records y)) (sym there)
    (subst (λ (y : Position). (y ≡ k.here) ⊎ (y ≡ position_before k.records q)) (sym place)
    (by_next k h x position event looked q g r same gone_back (Some why) gone))
