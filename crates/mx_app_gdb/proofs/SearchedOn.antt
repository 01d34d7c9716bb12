-- Where a search on comes to, which is told of what a move halts at, of what comes to a breakpoint, and of what is marked.
use Rattle.std.proofs.Common.{◌≡◌, ◌∙◌, ◌+◌, ◌&&◌, ◌||◌, ℕ, Bool, true, false, cond, List, [], ◌∷◌, ◌++◌, append_assoc, is_some, length, length-append, map, Option, Some, None, refl, ap, sym, subst, inl, inr, arith}
use Rattle.mx_machine.specs.declared.events.Event.{Event}
use Rattle.mx_machine.specs.History.{world_after_events}
use Rattle.mx_machine.specs.Move.{world_after_event}
use Rattle.mx_machine.specs.World.{World, held_by}
use Rattle.mx_walk.specs.declared.positions.Position.{Position}
use Rattle.mx_walk.specs.declared.stopping.CodePlace.{CodePlace}
use Rattle.mx_walk.specs.Halting.{is_left_next}
use Rattle.mx_walk.specs.Positions.{IsBefore, IsPosition, IsUpTo, events_before, next_event, next_position, position_before, world_at}
use Rattle.mx_walk.specs.Seeking.{IsFirstMarked, IsPassed, NoneMarked, is_marked}
use Rattle.mx_walk.specs.Several.{any_marks}
use Rattle.mx_walk.specs.Stopping.{comes_any, is_step, leaves_any, stands_at, stands_at_any}
use Rattle.mx_walk.specs.Walks.{Walk, world_here}
use Rattle.mx_walk.proofs.Meeting.{above_first}
use Rattle.mx_walk.proofs.Next.{above_it, above_to, has_event, is_position_too, next_up_to, not_itself, up_to_of}
use Rattle.mx_walk.proofs.Passing.{found}
use Rattle.mx_walk.proofs.Unleft.{up_by_events}
use Rattle.mx_app_look.specs.declared.points.Points.{Points}
use Rattle.mx_app_look.specs.Marks.{changes_watched, code_place, leaves_breakpoint, leaving}
use Rattle.mx_app_look.specs.Searches.{is_break}
use Rattle.mx_app_gdb.specs.declared.halts.Halted.{Halted}
use Rattle.mx_app_gdb.specs.declared.halts.Halted.TheVariants.{AtBreak, AtEnd}
use Rattle.mx_app_gdb.specs.declared.halts.Halts.{Halts}
use Rattle.mx_app_gdb.specs.Halts.{IsUnchanged, halted_here, halts_after}
use Rattle.mx_app_gdb.specs.Marks.{faults}
use Rattle.mx_app_gdb.specs.Moves.{Halt, IsSearchedOn, IsUnmarked, Marks, at, halt_by, is_met, slot_of_next}
use Rattle.mx_app_gdb.proofs.Onward.{back_from, last_event, last_world, same_rest}
use Rattle.mx_app_gdb.proofs.RightAfter.{halts_is, still_there, watched}
use Rattle.mx_app_gdb.proofs.SameBytes.{SameBytes, changed_of_all, both_false, or_left, or_right, same_itself, same_trans, unchanged}

-- ---- a step at a breakpoint leaves a place

leaves_by : (ps : List CodePlace) (w : World) (x : ℕ × Event) (u : World) (b : Bool) → is_step x.1 ≡ b → any_marks (map leaving ps) w x u ≡ b && stands_at_any (held_by w x.0) ps
leaves_by [] w x u true e = refl
leaves_by [] w x u false e = refl
leaves_by (p ∷ ps) w x u true e =
    ap (λ b. (b && stands_at (held_by w x.0) p) || any_marks (map leaving ps) w x u) e ∙ ap (λ c. stands_at (held_by w x.0) p || c) (leaves_by ps w x u true e)
leaves_by (p ∷ ps) w x u false e =
    ap (λ b. (b && stands_at (held_by w x.0) p) || any_marks (map leaving ps) w x u) e ∙ leaves_by ps w x u false e

pub leaves_same : (s : Points) (w : World) (x : ℕ × Event) (u : World) → leaves_breakpoint s w x u ≡ leaves_any (map code_place s.breakpoints) w x u
leaves_same s w x u = leaves_by (map code_place s.breakpoints) w x u (is_step x.1) refl

-- ---- marks

pub or_true : (a : Bool) → a || true ≡ true
or_true true = refl
or_true false = refl

-- marked by none of two, so not by a third
pub none_by : (f g h : Marks) → ((w : World) (x : ℕ × Event) (u : World) → f w x u ≡ false → g w x u ≡ false → h w x u ≡ false)
    → (w : World) (xs : List (ℕ × Event)) → NoneMarked f w xs → NoneMarked g w xs → NoneMarked h w xs
none_by f g h law w [] a b = tt
none_by f g h law w (x ∷ xs) a b =
    let u = world_after_event w x.0 x.1 in
    (law w x u a.0 b.0, none_by f g h law u xs a.1 b.1)

pub none_also : (f h : Marks) → ((w : World) (x : ℕ × Event) (u : World) → f w x u ≡ false → h w x u ≡ false) → (w : World) (xs : List (ℕ × Event)) → NoneMarked f w xs → NoneMarked h w xs
none_also f h law w xs a = none_by f f h (λ w x u a b. law w x u a) w xs a a

pub front : (g : Marks) (v : World) (xs : List (ℕ × Event)) (y : ℕ × Event) → NoneMarked g v (xs ++ y ∷ []) → NoneMarked g v xs × (is_marked g (world_after_events v xs) y ≡ false)
front g v [] y h = (tt, h.0)
front g v (x ∷ xs) y h = let r = front g (world_after_event v x.0 x.1) xs y h.1 in ((h.0, r.0), r.1)

pub none_then : (g : Marks) (v : World) (xs : List (ℕ × Event)) (y : ℕ × Event) → NoneMarked g v xs → is_marked g (world_after_events v xs) y ≡ false → NoneMarked g v (xs ++ y ∷ [])
none_then g v [] y h e = (e, tt)
none_then g v (x ∷ xs) y h e = (h.0, none_then g (world_after_event v x.0 x.1) xs y h.1 e)

-- ---- a search from here on

module _ (k : Walk) (h : Halts) (marks : Marks) where
  abbrev places : List CodePlace
  places = map code_place h.points.breakpoints

  -- what it is told of
  abbrev pub told : Marks
  told w x u = (changes_watched h.points w x u || comes_any places w x u) || (faults h.counted w x u || marks w x u)

  met_law : (w : World) (x : ℕ × Event) (u : World) → told w x u ≡ false → leaves_any places w x u ≡ false → is_met h w x u ≡ false
  met_law w x u e left =
      let a = or_left (changes_watched h.points w x u || comes_any places w x u) (faults h.counted w x u || marks w x u) e in
      let b = or_right (changes_watched h.points w x u || comes_any places w x u) (faults h.counted w x u || marks w x u) e in
      both_false (halts_after h w x u) (leaves_breakpoint h.points w x u)
      (both_false (changes_watched h.points w x u) (faults h.counted w x u) (or_left (changes_watched h.points w x u) (comes_any places w x u) a) (or_left (faults h.counted w x u) (marks w x u) b))
      (leaves_same h.points w x u ∙ left)

  marks_law : (w : World) (x : ℕ × Event) (u : World) → told w x u ≡ false → marks w x u ≡ false
  marks_law w x u e =
      or_right (faults h.counted w x u) (marks w x u) (or_right (changes_watched h.points w x u || comes_any places w x u) (faults h.counted w x u || marks w x u) e)

  change_law : (w : World) (x : ℕ × Event) (u : World) → told w x u ≡ false → changes_watched h.points w x u ≡ false
  change_law w x u e =
      or_left (changes_watched h.points w x u) (comes_any places w x u) (or_left (changes_watched h.points w x u || comes_any places w x u) (faults h.counted w x u || marks w x u) e)

  -- what comes to the breakpoints is among it
  pub told_coming : (g : Marks) (ps : List CodePlace) (w : World) (x : ℕ × Event) (u : World) → g ≡ told → ps ≡ places → comes_any ps w x u ≡ true → g w x u ≡ true
  told_coming g ps w x u same there comes =
      let here : comes_any places w x u ≡ true = ap (λ (qs : List CodePlace). comes_any qs w x u) (sym there) ∙ comes in
      ap (λ (i : Marks). i w x u) same
      ∙ ap (λ b. (changes_watched h.points w x u || b) || (faults h.counted w x u || marks w x u)) here
      ∙ ap (λ b. b || (faults h.counted w x u || marks w x u)) (or_true (changes_watched h.points w x u))

  same_along : (w : World) (xs : List (ℕ × Event)) → NoneMarked told w xs → SameBytes (watched h) w (world_after_events w xs)
  same_along w [] n = same_itself (watched h) w
  same_along w (x ∷ xs) n =
      let v = world_after_event w x.0 x.1 in
      same_trans (watched h) w v (world_after_events v xs) (unchanged (watched h) w v x (sym (changed_of_all h.points.watches w x v) ∙ change_law w x v n.0)) (same_along v xs n.1)

  abbrev from : Position
  from = k.here

  abbrev w0 : World
  w0 = world_at k.boot k.records from

  -- none on the way
  passed_met : (q : Position) → IsPassed told k.boot k.records from q → IsPassed (leaves_any places) k.boot k.records from q → IsPassed (is_met h) k.boot k.records from q
  passed_met q a b =
      let same : b.0 ≡ a.0 = same_rest (events_before k.records from) b.0 a.0 (sym b.1 ∙ a.1) in
      let left : NoneMarked (leaves_any places) w0 a.0 = subst (λ (es : List (ℕ × Event)). NoneMarked (leaves_any places) w0 es) same b.2 in
      (a.0, a.1, none_by told (leaves_any places) (is_met h) met_law w0 a.0 a.2 left)

  passed_marks : (q : Position) → IsPassed told k.boot k.records from q → IsPassed marks k.boot k.records from q
  passed_marks q a = (a.0, a.1, none_also told marks marks_law w0 a.0 a.2)

  -- at the last position
  pub at_last : (q : Position) → IsPassed told k.boot k.records from q → IsPassed (leaves_any places) k.boot k.records from q → q ≡ k.last
      → IsSearchedOn k h marks (q, Some (AtEnd h.mover))
  at_last q a b last =
      let all : IsPassed (is_met h) k.boot k.records from k.last × IsPassed marks k.boot k.records from k.last = (
        subst (λ (r : Position). IsPassed (is_met h) k.boot k.records from r) last (passed_met q a b),
        subst (λ (r : Position). IsPassed marks k.boot k.records from r) last (passed_marks q a),
      ) in
      inr (all.0, all.1, last, refl)

  -- before the step at a breakpoint
  pub at_break : (q : Position) → IsPassed told k.boot k.records from q → IsPassed (leaves_any places) k.boot k.records from q → is_left_next places (world_at k.boot k.records q) (next_event k.records q) ≡ true
      → IsPosition k.records q → IsPosition k.records k.last → IsBefore q k.last → IsSearchedOn k h marks (q, Some (AtBreak (slot_of_next (at k q) h)))
  at_break q a b left i l lt =
      let y = has_event k.records q k.last l lt in
      let x = y.0 in
      let w = world_at k.boot k.records q in
      let to = next_position k.records q in
      let leaves : leaves_any places w x w ≡ true = ap (λ (o : Option (ℕ × Event)). is_left_next places w o) (sym y.1) ∙ left in
      let u = world_after_event w x.0 x.1 in
      let marked : is_marked (is_met h) w x ≡ true = ap (λ c. halts_after h w x u || c) (leaves_same h.points w x u ∙ leaves) ∙ or_true (halts_after h w x u) in
      let first : IsFirstMarked (is_met h) k.boot k.records from to = found (is_met h) k.boot k.records q x i y.1 from (passed_met q a b) marked in
      let back : position_before k.records to ≡ q = back_from k.records q k.last i l lt in
      let is : is_break k h.points q (next_event k.records q) ≡ true = ap (λ (o : Option (ℕ × Event)). is_break k h.points q o) y.1 ∙ leaves_same h.points w x w ∙ leaves in
      let halt : halt_by k h (position_before k.records to) to ≡ (q, Some (AtBreak (slot_of_next (at k q) h))) =
      ap (λ (r : Position). halt_by k h r to) back ∙ ap (λ c. let r : Halt = cond c (q, Some (AtBreak (slot_of_next (at k q) h))) (to, halted_here (at k to) h) in r) is in
      let unmarked : IsUnmarked marks k.boot k.records from to = (a.0, x, above_it k.records q x i y.1 ∙ ap (λ (es : List (ℕ × Event)). es ++ x ∷ []) a.1 ∙ append_assoc (events_before k.records from) a.0 (x ∷ []), none_also told marks marks_law w0 a.0 a.2) in
      inl (to, is_position_too k.records q x i y.1, next_up_to k.records q k.last x i l y.1 (up_to_of q k.last lt) (not_itself q k.last lt), first, unmarked, halt)

  -- right after an event that it is told of
  module _ (q : Position) (first : IsFirstMarked told k.boot k.records from q) (unleft : IsPassed (leaves_any places) k.boot k.records from q)
      (i : IsPosition k.records q) (up : IsUpTo q k.last) (start : IsPosition k.records from) (still : IsUnchanged k h) where
    abbrev between : List (ℕ × Event)
    between = first.0

    abbrev x : ℕ × Event
    x = first.1

    abbrev v : World
    v = world_after_events w0 between

    abbrev u : World
    u = world_after_event v x.0 x.1

    left : NoneMarked (leaves_any places) w0 (between ++ x ∷ [])
    left =
        let same : unleft.0 ≡ between ++ x ∷ [] = same_rest (events_before k.records from) unleft.0 (between ++ x ∷ []) (sym unleft.1 ∙ first.2) in
        subst (λ (es : List (ℕ × Event)). NoneMarked (leaves_any places) w0 es) same unleft.2

    none : NoneMarked (is_met h) w0 between
    none = none_by told (leaves_any places) (is_met h) met_law w0 between first.3 (front (leaves_any places) w0 between x left).0

    x_unleft : leaves_breakpoint h.points v x u ≡ false
    x_unleft = leaves_same h.points v x u ∙ (front (leaves_any places) w0 between x left).1

    abbrev e : Position
    e = position_before k.records q

    -- the event is that after the position before
    x_there : (next_event k.records e ≡ Some x) × (world_at k.boot k.records e ≡ v)
    x_there = (last_event told k.boot k.records from q i first, last_world told k.boot k.records from q i first)

    -- whether one halts there
    halts : is_some (halted_here (at k q) h) ≡ is_marked (halts_after h) v x
    halts =
        let b = above_first told k.boot k.records from q i first in
        let same : SameBytes (watched h) (world_here k) (world_here (at k e)) = subst (λ (z : World). SameBytes (watched h) w0 z) (sym x_there.1) (same_along w0 between first.3) in
        ap (λ (r : Position). is_some (halted_here (at k r) h)) (sym b.next)
        ∙ halts_is k h e (still_there k h still e same) x b.position x_there.0
        ∙ ap (λ (z : World). is_marked (halts_after h) z x) x_there.1

    unmarked : IsUnmarked marks k.boot k.records from q
    unmarked = (between, x, first.2, none_also told marks marks_law w0 between first.3)

    later : IsBefore from q
    later = above_to from q (up_by_events k.records from q (between ++ x ∷ []) start i first.2) (λ same.
        let n : length (events_before k.records q) ≡ length (events_before k.records from) + length (between ++ x ∷ []) = ap (λ (es : List (ℕ × Event)). length es) first.2 ∙ length-append (events_before k.records from) (between ++ x ∷ []) in
        let m : length (between ++ x ∷ []) ≡ length between + 1 = length-append between (x ∷ []) in
        let o : length (events_before k.records from) ≡ length (events_before k.records q) = ap (λ (r : Position). length (events_before k.records r)) same in
        omega (arith, n, m, o))

    -- where one doesn't
    pub goes_on : halted_here (at k q) h ≡ None → IsSearchedOn k h marks (q, None)
    goes_on isnt =
        let no : is_marked (halts_after h) v x ≡ false = sym halts ∙ ap (λ (o : Option Halted). is_some o) isnt in
        let unmet : is_marked (is_met h) v x ≡ false = both_false (halts_after h v x u) (leaves_breakpoint h.points v x u) no x_unleft in
        (later, (between ++ x ∷ [], first.2, none_then (is_met h) w0 between x none unmet), unmarked, isnt)

    -- where one does
    pub halts_here : (why : Halted) → halted_here (at k q) h ≡ Some why → IsSearchedOn k h marks (q, Some why)
    halts_here why is =
        let yes : is_marked (halts_after h) v x ≡ true = sym halts ∙ ap (λ (o : Option Halted). is_some o) is in
        let met : is_marked (is_met h) v x ≡ true = ap (λ c. c || leaves_breakpoint h.points v x u) yes in
        let isnt : is_break k h.points e (next_event k.records e) ≡ false =
        ap (λ (o : Option (ℕ × Event)). is_break k h.points e o) x_there.0 ∙ ap (λ (t : World). leaves_breakpoint h.points t x t) x_there.1
        ∙ leaves_same h.points v x v ∙ sym (leaves_same h.points v x u) ∙ x_unleft in
        let halt : halt_by k h e q ≡ (q, Some why) =
        ap (λ c. let r : Halt = cond c (e, Some (AtBreak (slot_of_next (at k e) h))) (q, halted_here (at k q) h) in r) isnt ∙ ap (λ (o : Option Halted). let r : Halt = (q, o) in r) is in
        inl (q, i, up, (between, x, first.2, none, met), unmarked, halt)
