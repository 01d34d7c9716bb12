-- On to where a step of a slot's process is next.
use Rattle.std.proofs.Common.{◌≡◌, ◌∙◌, ◌||◌, ◌&&◌, ℕ, Bool, true, false, cond, not, List, [], ◌∷◌, ◌++◌, Option, Some, None, refl, ap, sym, subst, inl, inr}
use Rattle.mx_machine.specs.declared.events.Event.{Event}
use Rattle.mx_machine.specs.History.{world_after_events}
use Rattle.mx_machine.specs.Move.{world_after_event}
use Rattle.mx_machine.specs.World.{World, held_by}
use Rattle.mx_walk.specs.declared.positions.Position.{Position}
use Rattle.mx_walk.specs.Positions.{IsBefore, IsPosition, IsUpTo, events_before, next_event, next_position, position_before, world_at}
use Rattle.mx_walk.specs.Seeking.{IsFirstMarked, IsPassed, NoneMarked, is_marked}
use Rattle.mx_walk.specs.Stopping.{is_step}
use Rattle.mx_walk.specs.Walks.{Walk}
use Rattle.mx_walk.proofs.Along.{itself}
use Rattle.mx_walk.proofs.Meeting.{above_first}
use Rattle.mx_walk.proofs.Next.{above_trans, has_event, is_position_too, next_up_to, not_itself, up_to_of, world_next}
use Rattle.mx_walk.proofs.Passing.{found, found_more, none_passed, passed_more}
use Rattle.mx_app_gdb.specs.declared.halts.Halted.{Halted}
use Rattle.mx_app_gdb.specs.declared.halts.Halted.TheVariants.{AtEnd}
use Rattle.mx_app_gdb.specs.declared.halts.Halts.{Halts}
use Rattle.mx_app_gdb.specs.Marks.{is_of, moves}
use Rattle.mx_app_gdb.specs.Moves.{Halt, IsComeFrom, IsSearchedOn, Marks, at, come_by, halt_by, is_met, is_met_or_moves, moves_next, stands}
use Rattle.mx_app_gdb.proofs.Onward.{back_from, is_before, is_next, last_event, last_world, made_before, rest_is, same_rest}
use Rattle.mx_app_gdb.proofs.SearchedOn.{front, none_by, or_true}
use Rattle.mx_app_gdb.proofs.Stepped.{and_false, not_false, same_actor, stays_after}
use Rattle.mx_app_gdb.proofs.SameBytes.{both_false}

-- it ends a record's steps
abbrev pub ending : Marks
ending w x u = not (is_step x.1)

abbrev pub moving : ℕ → Marks
moving s w x u = moves s w x

-- none of these is marked, if they are made one after another, but perhaps the last
abbrev pub ButLast : Marks → World → List (ℕ × Event) → Type 0
ButLast g v [] = Unit {0}
ButLast g v (x ∷ []) = Unit {0}
ButLast g v (x ∷ y ∷ ys) = (is_marked g v x ≡ false) × ButLast g (world_after_event v x.0 x.1) (y ∷ ys)

pub but_none : (g : Marks) (v : World) (xs : List (ℕ × Event)) → NoneMarked g v xs → ButLast g v xs
but_none g v [] none = tt
but_none g v (x ∷ []) none = tt
but_none g v (x ∷ y ∷ ys) none = (none.0, but_none g (world_after_event v x.0 x.1) (y ∷ ys) none.1)

pub but_last : (g : Marks) (v : World) (xs : List (ℕ × Event)) (z : ℕ × Event) → NoneMarked g v xs → ButLast g v (xs ++ z ∷ [])
but_last g v [] z none = tt
but_last g v (x ∷ []) z none = (none.0, tt)
but_last g v (x ∷ y ∷ ys) z none = (none.0, but_last g (world_after_event v x.0 x.1) (y ∷ ys) z none.1)

module _ (k : Walk) (h : Halts) (s : ℕ) where
  abbrev w : Position → World
  w p = world_at k.boot k.records p

  abbrev f : Marks
  f = is_met_or_moves h s

  -- ---- the processor of a record has one process

  holder_stays : (p : Position) (x : ℕ × Event) → IsPosition k.records p → next_event k.records p ≡ Some x → is_step x.1 ≡ true → is_of s (held_by (w (next_position k.records p)) x.0) ≡ is_of s (held_by (w p) x.0)
  holder_stays p x i e is =
      ap (λ (u : World). is_of s (held_by u x.0)) (world_next k.records p x i e k.boot) ∙ stays_after s (w p) x is

  not_moving : (v : World) (y : ℕ × Event) → is_of s (held_by v y.0) ≡ false → moves s v y ≡ false
  not_moving v y e = by_step (is_step y.1)
    where
      by_step : (b : Bool) → b && is_of s (held_by v y.0) ≡ false
      by_step true = e
      by_step false = refl

  pub next_isnt : (p : Position) (x : ℕ × Event) → IsPosition k.records p → next_event k.records p ≡ Some x → is_step x.1 ≡ true → moves s (w p) x ≡ false
      → (o : Option (ℕ × Event)) → next_event k.records (next_position k.records p) ≡ o → moves_next s (w (next_position k.records p)) o ≡ false
  next_isnt p x i e is isnt None next = refl
  next_isnt p x i e is isnt (Some y) next =
      let q = next_position k.records p in
      let held : is_of s (held_by (w p) x.0) ≡ false = and_false (is_step x.1) (is_of s (held_by (w p) x.0)) is isnt in
      not_moving (w q) y (ap (λ a. is_of s (held_by (w q) a)) (same_actor k.records p x y e is next) ∙ holder_stays p x i e is ∙ held)

  first_isnt : (p : Position) (x : ℕ × Event) → next_event k.records p ≡ Some x → moves_next s (w p) (next_event k.records p) ≡ false → moves s (w p) x ≡ false
  first_isnt p x e isnt = sym (ap (λ (o : Option (ℕ × Event)). moves_next s (w p) o) e) ∙ isnt

  -- so none of its steps is on the way, if the first event isn't
  pub none_moves : (xs : List (ℕ × Event)) (p q : Position) → IsPosition k.records p → IsPosition k.records q → events_before k.records q ≡ events_before k.records p ++ xs
      → ButLast ending (w p) xs → moves_next s (w p) (next_event k.records p) ≡ false → NoneMarked (moving s) (w p) xs
  none_moves [] p q i j e none isnt = tt
  none_moves (x ∷ []) p q i j e none isnt = (first_isnt p x (is_next k.records p q x [] i j e) isnt, tt)
  none_moves (x ∷ y ∷ ys) p q i j e none isnt =
      let next = is_next k.records p q x (y ∷ ys) i j e in
      let rest = rest_is k.records p q x (y ∷ ys) i j e in
      let to = next_position k.records p in
      let is : is_step x.1 ≡ true = not_false (is_step x.1) none.0 in
      let here = first_isnt p x next isnt in
      let there : w to ≡ world_after_event (w p) x.0 x.1 = world_next k.records p x i next k.boot in
      let later = none_moves (y ∷ ys) to q (is_position_too k.records p x i next) j rest (subst (λ (v : World). ButLast ending v (y ∷ ys)) (sym there) none.1) (next_isnt p x i next is here (next_event k.records to) refl) in
      (here, subst (λ (v : World). NoneMarked (moving s) v (y ∷ ys)) there later)

  -- ---- a search that is told of the ends of records

  either_law : (v : World) (x : ℕ × Event) (u : World) → is_met h v x u ≡ false → moving s v x u ≡ false → f v x u ≡ false
  either_law v x u a b = both_false (is_met h v x u) (moves s v x) a b

  -- what is on the way to a position is on the way from an earlier one
  pub come_more : (p q : Position) (r : Halt) → IsPassed f k.boot k.records p q → IsComeFrom k h s q r → IsComeFrom k h s p r
  come_more p q r passed (inl c) = inl (c.0, c.1, c.2, found_more f k.boot k.records q c.0 p passed c.3, c.4)
  come_more p q r passed (inr c) = inr (passed_more f k.boot k.records q k.last p passed c.0, c.1)

  -- where its step is next
  pub come_here : (p : Position) (x : ℕ × Event) → IsPosition k.records p → IsPosition k.records k.last → IsBefore p k.last → next_event k.records p ≡ Some x → moves s (w p) x ≡ true → IsComeFrom k h s p (p, None)
  come_here p x i l lt e is =
      let q = next_position k.records p in
      let u = world_after_event (w p) x.0 x.1 in
      let marked : is_marked f (w p) x ≡ true = ap (λ b. is_met h (w p) x u || b) is ∙ or_true (is_met h (w p) x u) in
      let first : IsFirstMarked f k.boot k.records p q = found f k.boot k.records p x i e p (none_passed f k.boot k.records p) marked in
      let next : stands (at k p) s ≡ true = ap (λ (o : Option (ℕ × Event)). moves_next s (w p) o) (made_before k p lt ∙ e) ∙ is in
      let back : position_before k.records q ≡ p = back_from k.records p k.last i l lt in
      let halt : (p, None) ≡ come_by k h s (position_before k.records q) q =
      sym (ap (λ c. let r : Halt = cond c (p, None) (halt_by k h p q) in r) next) ∙ ap (λ (r : Position). come_by k h s r q) (sym back) in
      inl (q, is_position_too k.records p x i e, next_up_to k.records p k.last x i l e (up_to_of p k.last lt) (not_itself p k.last lt), first, halt)

  -- where the walker stands at its step
  pub come_at : (p : Position) → IsPosition k.records p → IsPosition k.records k.last → IsBefore p k.last → stands (at k p) s ≡ true → IsComeFrom k h s p (p, None)
  come_at p i l lt is =
      let y = has_event k.records p k.last l lt in
      come_here p y.0 i l lt y.1 (sym (ap (λ (o : Option (ℕ × Event)). moves_next s (w p) o) (made_before k p lt ∙ y.1)) ∙ is)

  module _ (p : Position) (i : IsPosition k.records p) (l : IsPosition k.records k.last) (isnt : stands (at k p) s ≡ false) where
    -- the events on the way aren't its steps
    unmoved : (q : Position) (xs : List (ℕ × Event)) → IsPosition k.records q → IsUpTo q k.last → events_before k.records q ≡ events_before k.records p ++ xs → ButLast ending (w p) xs → NoneMarked (moving s) (w p) xs
    unmoved q [] j up e none = tt
    unmoved q (x ∷ xs) j up e none =
        let lt : IsBefore p k.last = above_trans p q k.last (is_before k.records p q x xs i j e) up in
        none_moves (x ∷ xs) p q i j e none (sym (ap (λ (o : Option (ℕ × Event)). moves_next s (w p) o) (made_before k p lt)) ∙ isnt)

    -- it goes on
    pub passes_on : (q : Position) → IsPosition k.records q → IsUpTo q k.last → IsSearchedOn (at k p) h ending (q, None) → IsPassed f k.boot k.records p q
    passes_on q j up (lt, met, u, stays) =
        let none = unmoved q (u.0 ++ u.1 ∷ []) j up u.2 (but_last ending (w p) u.0 u.1 u.3) in
        let same : u.0 ++ u.1 ∷ [] ≡ met.0 = same_rest (events_before k.records p) (u.0 ++ u.1 ∷ []) met.0 (sym u.2 ∙ met.1) in
        (met.0, met.1, none_by (is_met h) (moving s) f either_law (w p) met.0 met.2 (subst (λ (es : List (ℕ × Event)). NoneMarked (moving s) (w p) es) same none))

    -- or halts
    pub halts_on : (q : Position) (why : Halted) → IsSearchedOn (at k p) h ending (q, Some why) → IsComeFrom k h s p (q, Some why)
    halts_on q why (inr (met, u, last, ends)) =
        let none = unmoved k.last u.0 l (itself k.last) u.1 (but_none ending (w p) u.0 u.2) in
        let same : u.0 ≡ met.0 = same_rest (events_before k.records p) u.0 met.0 (sym u.1 ∙ met.1) in
        let here : (q, Some why) ≡ (k.last, Some (AtEnd h.mover)) = ap (λ (t : Position). let r : Halt = (t, Some why) in r) last ∙ ap (λ (t : Halted). let r : Halt = (k.last, Some t) in r) ends in
        inr ((met.0, met.1, none_by (is_met h) (moving s) f either_law (w p) met.0 met.2 (subst (λ (es : List (ℕ × Event)). NoneMarked (moving s) (w p) es) same none)), here)
    halts_on q why (inl (to, j, up, first, u, halt)) =
        let none = unmoved to (u.0 ++ u.1 ∷ []) j up u.2 (but_last ending (w p) u.0 u.1 u.3) in
        let same : u.0 ++ u.1 ∷ [] ≡ first.0 ++ first.1 ∷ [] = same_rest (events_before k.records p) (u.0 ++ u.1 ∷ []) (first.0 ++ first.1 ∷ []) (sym u.2 ∙ first.2) in
        let unmoving = front (moving s) (w p) first.0 first.1 (subst (λ (es : List (ℕ × Event)). NoneMarked (moving s) (w p) es) same none) in
        let e = position_before k.records to in
        let x = first.1 in
        let v = world_after_events (w p) first.0 in
        let marked : is_marked f v x ≡ true = ap (λ b. b || moves s v x) first.4 in
        let b = above_first (is_met h) k.boot k.records p to j first in
        let lt : IsBefore e k.last = above_trans e to k.last b.earlier up in
        let away : stands (at k e) s ≡ false =
        ap (λ (o : Option (ℕ × Event)). moves_next s (w e) o) (made_before k e lt ∙ last_event (is_met h) k.boot k.records p to j first)
        ∙ ap (λ (z : World). moves s z x) (last_world (is_met h) k.boot k.records p to j first) ∙ unmoving.1 in
        let there : (q, Some why) ≡ come_by k h s e to = sym halt ∙ sym (ap (λ c. let r : Halt = cond c (e, None) (halt_by k h e to) in r) away) in
        inl (to, j, up, (first.0, x, first.2, none_by (is_met h) (moving s) f either_law (w p) first.0 first.3 unmoving.0, marked), there)
