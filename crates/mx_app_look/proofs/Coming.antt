-- Where a search comes to is where it halts.
use Rattle.std.proofs.Common.{◌≡◌, ◌∙◌, ◌⊎◌, ◌<◌, ◌≤◌, ℕ, Bool, true, false, cond, List, [], ◌∷◌, ◌++◌, append-nil, append_assoc, Option, Some, None, inl, inr, ap, sym, subst, arith}
use Rattle.std.proofs.lemmas.Bool.{cases_lt}
use Rattle.mx_machine.specs.declared.events.Event.{Event}
use Rattle.mx_machine.specs.declared.history.Record.{Record}
use Rattle.mx_machine.specs.World.{World}
use Rattle.mx_walk.specs.declared.positions.Position.{Position}
use Rattle.mx_walk.specs.Positions.{IsBefore, IsPosition, IsUpTo, next_event, events_before, first, is_up_to, next_position}
use Rattle.mx_walk.specs.Seeking.{IsLastMarked, IsPassed, is_marked}
use Rattle.mx_walk.specs.Walks.{Walk, world_here}
use Rattle.mx_walk.proofs.Next.{has_event, next_up_to, not_itself, up_to_of}
use Rattle.mx_walk.proofs.Arriving.{begins}
use Rattle.mx_app_look.proofs.Lists.{same_rest}
use Rattle.mx_app_look.specs.declared.points.Points.{Points}
use Rattle.mx_app_look.specs.Marks.{changes_watched, is_looked_for}
use Rattle.mx_app_look.specs.Searches.{IsHaltAfter, IsHaltBy, IsLastHalt, IsNextHalt, changes_from, next_made, not_met}

-- a walker that moved
abbrev pub gone : Walk → Position → Walk
gone k p = record k { here = p }

module _ (k : Walk) (s : Points) where
  -- where the search on begins
  pub next_halt : (x : ℕ × Event) (next : Position) (h : Position × List ℕ) → is_up_to k.last k.here ≡ false → next_event k.records k.here ≡ Some x → next ≡ next_position k.records k.here
      → IsHaltAfter k s next (is_marked (changes_watched s) (world_here k) x) h → IsNextHalt k s h
  next_halt x next h isnt e there halts =
      let made : next_made k ≡ Some x = ap (λ b. cond b None (next_event k.records k.here)) isnt ∙ e in
      let after : IsHaltAfter k s (next_position k.records k.here) (is_marked (changes_watched s) (world_here k) x) h =
      subst (λ (p : Position). IsHaltAfter k s p (is_marked (changes_watched s) (world_here k) x) h) there halts in
      subst (λ (o : Option (ℕ × Event)). IsHaltBy k s o h) (sym made) after

  no_next : (printed : List ℕ) → next_made k ≡ None → printed ≡ not_met → IsNextHalt k s (k.here, printed)
  no_next printed none e = let at : (k.here, printed) ≡ (k.here, not_met) = ap (λ t. (k.here, t)) e in subst (λ (o : Option (ℕ × Event)). IsHaltBy k s o (k.here, printed)) (sym none) at

  pub none_is_next : (printed : List ℕ) → is_up_to k.last k.here ≡ true → printed ≡ not_met → IsNextHalt k s (k.here, printed)
  none_is_next printed is e = no_next printed (ap (λ b. let o : Option (ℕ × Event) = cond b None (next_event k.records k.here) in o) is) e

  pub none_is_below : (printed : List ℕ) → is_up_to k.last k.here ≡ false → next_event k.records k.here ≡ None → printed ≡ not_met → IsNextHalt k s (k.here, printed)
  none_is_below printed isnt none e = no_next printed (ap (λ b. let o : Option (ℕ × Event) = cond b None (next_event k.records k.here) in o) isnt ∙ none) e

  -- the last event that is looked for
  pub last_halt : (j l : Walk) (next : Position) (printed : List ℕ) → j ≡ gone k j.here → IsPosition j.records j.here → IsLastMarked (is_looked_for s) k.boot k.records j.here k.here → next ≡ next_position j.records j.here
      → printed ≡ changes_from j s j.here next → l.here ≡ j.here → IsLastHalt k s (l.here, printed)
  last_halt j l next printed moved position found there text back =
      let p = j.here in
      let records : j.records ≡ k.records = ap (λ (w : Walk). w.records) moved in
      let e : (l.here, printed) ≡ (p, changes_from k s p (next_position k.records p)) =
      ap (λ (r : Position). (r, printed)) back ∙ ap (λ t. (p, t)) text ∙ ap (λ (w : Walk). (p, changes_from w s p next)) moved
      ∙ ap (λ (r : Position). (p, changes_from k s p r)) (there ∙ ap (λ (xs : List Record). next_position xs p) records) in
      inl (p, subst (λ (xs : List Record). IsPosition xs p) records position, found, e)

  pub no_last_halt : (j : Walk) (printed : List ℕ) → j.here ≡ first → IsPassed (is_looked_for s) k.boot k.records first k.here → printed ≡ not_met → IsLastHalt k s (j.here, printed)
  no_last_halt j printed at passed e = inr (passed, ap (λ t. (j.here, t)) e ∙ ap (λ (p : Position). (p, not_met)) at)

-- ---- the last event that is looked for is before where one was

none_there : {X : Type 0} (xs : List X) (a : X) (ys : List X) → [] ≡ xs ++ a ∷ ys → ⊥
none_there [] a ys e = cc
none_there (x ∷ xs) a ys e = cc

longer : {X : Type 0} (es rest : List X) (a : X) (more : List X) → es ≡ (es ++ rest) ++ a ∷ more → ⊥
longer es rest a more e = none_there rest a more (same_rest es [] (rest ++ a ∷ more) (append-nil es ∙ e ∙ append_assoc es rest (a ∷ more)))

up_to_trans : (p q r : Position) → IsUpTo p q → IsUpTo q r → IsUpTo p r
up_to_trans p q r (inl lt) (inl more) = let less : p.records < r.records = omega (arith, lt, more) in inl less
up_to_trans p q r (inl lt) (inr h) = let same = h.0 in let less : p.records < r.records = omega (arith, lt, same) in inl less
up_to_trans p q r (inr g) (inl lt) = let same = g.0 in let less : p.records < r.records = omega (arith, lt, same) in inl less
up_to_trans p q r (inr g) (inr h) = let a = g.1 in let b = h.1 in let few : p.steps ≤ r.steps = omega (arith, a, b) in inr (g.0 ∙ h.0, few)

pub order : (p q : Position) → IsUpTo q p ⊎ IsBefore p q
order p q = elim (cases_lt p.records q.records) [
  | inl lt ↦ inr (inl lt)
  | inr ge ↦ elim (cases_lt q.records p.records) [
    | inl lt ↦ inl (inl lt)
    | inr le ↦
        let a : p.records ≡ q.records = omega (arith, ge, le) in
        elim (cases_lt p.steps q.steps) [
          | inl lt ↦ inr (inr (a, lt))
          | inr few ↦ inl (inr (sym a, few))
        ]
  ]
]

pub above_by : (f : World → ℕ × Event → World → Bool) (boot : World) (records : List Record) (p q : Position) → IsPosition records p → IsPosition records q → IsLastMarked f boot records p q → IsUpTo q p ⊎ IsBefore p q → IsBefore p q
above_by f boot records p q h l found (inr lt) = lt
above_by f boot records p q h l found (inl le) =
    let r = begins records q p l h le in
    absurd (longer (events_before records q) r.0 found.0 found.1 (found.2 ∙ ap (λ (es : List (ℕ × Event)). es ++ found.0 ∷ found.1) r.1))

module _ (k : Walk) (s : Points) (j : Walk) (moved : j ≡ gone k j.here) (position : IsPosition j.records j.here) (l : IsPosition k.records k.here) (found : IsLastMarked (is_looked_for s) k.boot k.records j.here k.here) where
  earlier : IsBefore j.here k.here
  earlier =
      let p = subst (λ (xs : List Record). IsPosition xs j.here) (ap (λ (w : Walk). w.records) moved) position in
      above_by (is_looked_for s) k.boot k.records j.here k.here p l found (order j.here k.here)

  -- so the next position is early
  pub next_is_early : (x : ℕ × Event) (next : Position) → IsUpTo k.here k.last → next_event j.records j.here ≡ Some x → next ≡ next_position j.records j.here → IsUpTo next j.last
  next_is_early x next early later there =
      let records : j.records ≡ k.records = ap (λ (w : Walk). w.records) moved in
      let p = subst (λ (xs : List Record). IsPosition xs j.here) records position in
      let e : next_event k.records j.here ≡ Some x = ap (λ (xs : List Record). next_event xs j.here) (sym records) ∙ later in
      let le : IsUpTo (next_position k.records j.here) k.here = next_up_to k.records j.here k.here x p l e (up_to_of j.here k.here earlier) (not_itself j.here k.here earlier) in
      let at : next ≡ next_position k.records j.here = there ∙ ap (λ (xs : List Record). next_position xs j.here) records in
      subst (λ (q : Position). IsUpTo q j.last) (sym at)
      (subst (λ (q : Position). IsUpTo (next_position k.records j.here) q) (sym (ap (λ (w : Walk). w.last) moved)) (up_to_trans (next_position k.records j.here) k.here k.last le early))

  -- and there is a next event
  pub some_below : next_event j.records j.here ≡ None → ⊥
  some_below none =
      let x = has_event k.records j.here k.here l earlier in
      let no : None ≡ Some x.0 = sym none ∙ ap (λ (xs : List Record). next_event xs j.here) (ap (λ (w : Walk). w.records) moved) ∙ x.1 in cc
