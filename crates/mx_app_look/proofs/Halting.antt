-- A search halts at one position; and one back after one on comes to the position before.
use Rattle.std.proofs.Common.{◌≡◌, ◌∙◌, ℕ, Bool, true, false, List, [], ◌∷◌, ◌++◌, ◌||◌, append_assoc, Option, Some, None, inl, inr, refl, ap, sym, subst, arith}
use Rattle.mx_machine.specs.declared.events.Event.{Event}
use Rattle.mx_machine.specs.declared.history.Record.{Record}
use Rattle.mx_machine.specs.History.{world_after_events}
use Rattle.mx_machine.specs.Move.{world_after_event}
use Rattle.mx_machine.specs.World.{World}
use Rattle.mx_walk.specs.declared.positions.Position.{Position}
use Rattle.mx_walk.specs.Positions.{IsPosition, IsUpTo, next_event, events_before, first, next_position, position_before, world_at}
use Rattle.mx_walk.specs.Seeking.{IsFirstMarked, IsLastMarked, IsPassed, NoneMarked, is_marked}
use Rattle.mx_walk.specs.Walks.{Walk, world_here}
use Rattle.mx_walk.proofs.Arriving.{begins, first_up_to}
use Rattle.mx_walk.proofs.Made.{after_both}
use Rattle.mx_walk.proofs.Meeting.{above_first, meets}
use Rattle.mx_walk.proofs.Naming.{first_is_one, last_is_one}
use Rattle.mx_walk.proofs.Next.{above_it}
use Rattle.mx_app_look.proofs.Lists.{same_rest}
use Rattle.mx_app_look.specs.declared.points.Points.{Points}
use Rattle.mx_app_look.specs.declared.happening.Happening.{Happening}
use Rattle.mx_app_look.specs.Happenings.{is_happening}
use Rattle.mx_app_look.specs.Marks.{changes_watched, is_looked_for, leaves_breakpoint}
use Rattle.mx_app_look.specs.Searches.{IsHalt, IsHaltAfter, IsHaltBy, IsLastHalt, IsLastHappened, IsNextHalt, changes_from, halt_by, next_made, record_after}

-- ---- what is passed isn't met

first_position : (records : List Record) → IsPosition records first
first_position records = record { earlier = omega arith; inside = omega arith }

module _ (f : World → ℕ × Event → World → Bool) where
  -- an event among those of which none is marked
  none_there : (w : World) (xs : List (ℕ × Event)) (y : ℕ × Event) (ys : List (ℕ × Event)) → NoneMarked f w (xs ++ y ∷ ys) → is_marked f (world_after_events w xs) y ≡ true → ⊥
  none_there w [] y ys h e = let no : true ≡ false = sym e ∙ h.0 in cc
  none_there w (x ∷ xs) y ys h e = none_there (world_after_event w x.0 x.1) xs y ys h.1 e

  module _ (boot : World) (records : List Record) where
    pub passed_isnt_first : (from q last : Position) → IsPosition records q → IsPosition records last → IsUpTo q last → IsFirstMarked f boot records from q → IsPassed f boot records from last → ⊥
    passed_isnt_first from q last h l le s p =
        let r = begins records q last h l le in
        let es = events_before records from in
        let whole : es ++ p.0 ≡ es ++ (s.0 ++ s.1 ∷ r.0) =
        sym p.1 ∙ r.1 ∙ ap (λ (xs : List (ℕ × Event)). xs ++ r.0) s.2 ∙ append_assoc es (s.0 ++ s.1 ∷ []) r.0 ∙ ap (λ (xs : List (ℕ × Event)). es ++ xs) (append_assoc s.0 (s.1 ∷ []) r.0) in
        let same : p.0 ≡ s.0 ++ s.1 ∷ r.0 = same_rest es p.0 (s.0 ++ s.1 ∷ r.0) whole in
        none_there (world_at boot records from) s.0 s.1 r.0 (subst (λ (xs : List (ℕ × Event)). NoneMarked f (world_at boot records from) xs) same p.2) s.4

    pub passed_isnt_last : (p here : Position) → IsPosition records p → IsLastMarked f boot records p here → IsPassed f boot records first here → ⊥
    passed_isnt_last p here h s g =
        let none = begins records first p (first_position records) h (first_up_to p) in
        let es = events_before records first in
        let whole : es ++ g.0 ≡ es ++ (none.0 ++ s.0 ∷ s.1) =
        sym g.1 ∙ s.2 ∙ ap (λ (xs : List (ℕ × Event)). xs ++ s.0 ∷ s.1) none.1 ∙ append_assoc es none.0 (s.0 ∷ s.1) in
        let same : g.0 ≡ none.0 ++ s.0 ∷ s.1 = same_rest es g.0 (none.0 ++ s.0 ∷ s.1) whole in
        let world : world_at boot records p ≡ world_after_events (world_at boot records first) none.0 =
        ap (λ (xs : List (ℕ × Event)). world_after_events boot xs) none.1 ∙ after_both boot es none.0 in
        none_there (world_at boot records first) none.0 s.0 s.1 (subst (λ (xs : List (ℕ × Event)). NoneMarked f (world_at boot records first) xs) same g.2)
        (subst (λ (v : World). is_marked f v s.0 ≡ true) world s.3)

-- ---- one last event in which something happens

module _ (k : Walk) (h : Happening) where
  pub one_last_happened : (x y : Position × List ℕ) → IsLastHappened k h x → IsLastHappened k h y → x ≡ y
  one_last_happened x y (inl a) (inl b) =
      let same : a.0 ≡ b.0 = last_is_one (is_happening h) k.boot k.records a.0 b.0 k.here a.1 b.1 a.2 b.2 in
      a.3 ∙ ap (λ (p : Position). (p, record_after k p)) same ∙ sym b.3
  one_last_happened x y (inl a) (inr b) = absurd (passed_isnt_last (is_happening h) k.boot k.records a.0 k.here a.1 a.2 b.0)
  one_last_happened x y (inr a) (inl b) = absurd (passed_isnt_last (is_happening h) k.boot k.records b.0 k.here b.1 b.2 a.0)
  one_last_happened x y (inr a) (inr b) = a.1 ∙ sym b.1

-- ---- one halt

module _ (k : Walk) (s : Points) where
  pub one_halt_from : (from : Position) (g h : Position × List ℕ) → IsPosition k.records k.last → IsHalt k s from g → IsHalt k s from h → g ≡ h
  one_halt_from from g h l (inl a) (inl b) =
      let same : a.0 ≡ b.0 = first_is_one (is_looked_for s) k.boot k.records from a.0 b.0 a.1 b.1 a.3 b.3 in
      a.4 ∙ ap (λ (q : Position). halt_by k s (position_before k.records q) q) same ∙ sym b.4
  one_halt_from from g h l (inl a) (inr b) = absurd (passed_isnt_first (is_looked_for s) k.boot k.records from a.0 k.last a.1 l a.2 a.3 b.0)
  one_halt_from from g h l (inr a) (inl b) = absurd (passed_isnt_first (is_looked_for s) k.boot k.records from b.0 k.last b.1 l b.2 b.3 a.0)
  one_halt_from from g h l (inr a) (inr b) = a.1 ∙ sym b.1

  one_halt_after : (p : Position) (c : Bool) (g h : Position × List ℕ) → IsPosition k.records k.last → IsHaltAfter k s p c g → IsHaltAfter k s p c h → g ≡ h
  one_halt_after p true g h l a b = a ∙ sym b
  one_halt_after p false g h l a b = one_halt_from p g h l a b

  one_halt_by : (x : Option (ℕ × Event)) (g h : Position × List ℕ) → IsPosition k.records k.last → IsHaltBy k s x g → IsHaltBy k s x h → g ≡ h
  one_halt_by None g h l a b = a ∙ sym b
  one_halt_by (Some x) g h l a b = one_halt_after (next_position k.records k.here) (is_marked (changes_watched s) (world_here k) x) g h l a b

  pub one_next_halt : (g h : Position × List ℕ) → IsPosition k.records k.last → IsNextHalt k s g → IsNextHalt k s h → g ≡ h
  one_next_halt g h l a b = one_halt_by (next_made k) g h l a b

  pub one_last_halt : (g h : Position × List ℕ) → IsLastHalt k s g → IsLastHalt k s h → g ≡ h
  one_last_halt g h (inl a) (inl b) =
      let same : a.0 ≡ b.0 = last_is_one (is_looked_for s) k.boot k.records a.0 b.0 k.here a.1 b.1 a.2 b.2 in
      a.3 ∙ ap (λ (p : Position). (p, changes_from k s p (next_position k.records p))) same ∙ sym b.3
  one_last_halt g h (inl a) (inr b) = absurd (passed_isnt_last (is_looked_for s) k.boot k.records a.0 k.here a.1 a.2 b.0)
  one_last_halt g h (inr a) (inl b) = absurd (passed_isnt_last (is_looked_for s) k.boot k.records b.0 k.here b.1 b.2 a.0)
  one_last_halt g h (inr a) (inr b) = a.1 ∙ sym b.1

  -- ---- on, and then back

  -- from right after the first event
  pub first_returns : (x : ℕ × Event) → IsPosition k.records k.here → next_event k.records k.here ≡ Some x → is_marked (changes_watched s) (world_here k) x ≡ true
      → IsLastHalt (record k { here = next_position k.records k.here }) s (k.here, changes_from k s k.here (next_position k.records k.here))
  first_returns x h e marked =
      let w = world_here k in
      let u = world_after_event w x.0 x.1 in
      let met : is_marked (is_looked_for s) w x ≡ true = ap (λ b. b || leaves_breakpoint s w x u) marked in
      inl (k.here, h, (x, [], above_it k.records k.here x h e, met, tt), refl)

  -- from right after a later one
  pub later_returns : (from q : Position) → IsPosition k.records q → IsFirstMarked (is_looked_for s) k.boot k.records from q
      → IsLastHalt (record k { here = q }) s (position_before k.records q, changes_from k s (position_before k.records q) q)
  later_returns from q h found =
      let b = above_first (is_looked_for s) k.boot k.records from q h found in
      let p = position_before k.records q in
      let text : (p, changes_from k s p q) ≡ (p, changes_from k s p (next_position k.records p)) = ap (λ (r : Position). (p, changes_from k s p r)) (sym b.next) in
      inl (p, b.position, meets (is_looked_for s) k.boot k.records from q h found, text)
