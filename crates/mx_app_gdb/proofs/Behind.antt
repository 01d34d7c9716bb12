-- Where a search back comes to, and why one halts there.
use Rattle.std.proofs.Common.{◌≡◌, ◌∙◌, ◌||◌, ℕ, Bool, true, false, cond, List, map, Option, Some, None, refl, ap, sym, subst, inl, inr}
use Rattle.std.specs.Prelude.{slice_get, unwrap_or}
use Rattle.mx_machine.specs.declared.events.Event.{Event}
use Rattle.mx_machine.specs.World.{World}
use Rattle.mx_walk.specs.declared.either.Either.{Either}
use Rattle.mx_walk.specs.declared.positions.Position.{Position}
use Rattle.mx_walk.specs.declared.several.Several.{Several}
use Rattle.mx_walk.specs.declared.stopping.Leaving.{Leaving}
use Rattle.mx_walk.specs.Positions.{IsPosition, IsUpTo, first, next_event, next_position, world_at}
use Rattle.mx_walk.specs.Seeking.{IsLastMarked, IsPassed}
use Rattle.mx_walk.specs.Several.{any_marks}
use Rattle.mx_walk.specs.Stopping.{leaves, leaves_any}
use Rattle.mx_walk.specs.Walks.{Walk, world_here}
use Rattle.mx_walk.proofs.Next.{above_trans}
use Rattle.mx_app_look.specs.declared.changes.Seen.{Seen}
use Rattle.mx_app_look.specs.declared.points.Points.{Points}
use Rattle.mx_app_look.specs.declared.watches.Watch.{Watch}
use Rattle.mx_app_look.specs.Changes.{as_seen, first_change}
use Rattle.mx_app_look.specs.Marks.{changes_bytes, changes_watched, code_place, is_looked_for, leaving}
use Rattle.mx_app_look.specs.Searches.{is_break, next_made}
use Rattle.mx_app_look.specs.Slots.{slot_next}
use Rattle.mx_app_look.specs.Ranges.{Kept}
use Rattle.mx_app_gdb.specs.declared.halts.Halted.{Halted}
use Rattle.mx_app_gdb.specs.declared.halts.Halted.TheVariants.{AtBegin, AtBreak, There}
use Rattle.mx_app_gdb.specs.declared.halts.Halts.{Halts}
use Rattle.mx_app_gdb.specs.Moves.{Halt, IsGoneBack, IsSteppedBack, Marks, at, back_at, changed_by, halt_before, halted_or, slot_of_next}
use Rattle.mx_app_gdb.proofs.HaltedOn.{by_change, made_is, map_both}
use Rattle.mx_app_gdb.proofs.OnToStep.{moving}
use Rattle.mx_app_gdb.proofs.Onward.{is_before, is_next, made_before}
use Rattle.mx_app_gdb.proofs.SearchedOn.{leaves_same}

-- ---- what is looked for, as it is built

abbrev by_leaving : Leaving → Marks
by_leaving m w x u = leaves m.place w x

abbrev pub Both : Type 0
Both = Either (Several Kept) (Several Leaving)

abbrev pub sought : Both → Marks
sought m w x u = any_marks (map by_change m.one.marks.items) w x u || any_marks (map by_leaving m.other.marks.items) w x u

pub sought_is : (s : Points) (m : Both) → map (λ (c : Kept). c.watch) m.one.marks.items ≡ s.watches → map (λ (c : Leaving). c.place) m.other.marks.items ≡ map code_place s.breakpoints
    → sought m ≡ is_looked_for s
sought_is s m bytes breaks =
    let changed : map by_change m.one.marks.items ≡ map changes_bytes s.watches = map_both (λ (c : Kept). c.watch) changes_bytes by_change m.one.marks.items (λ c. refl) ∙ ap (map changes_bytes) bytes in
    let left : map by_leaving m.other.marks.items ≡ map leaving (map code_place s.breakpoints) = map_both (λ (c : Leaving). c.place) leaving by_leaving m.other.marks.items (λ c. refl) ∙ ap (map leaving) breaks in
    ap (λ (fs : List Marks). let i : Marks = λ w x u. any_marks fs w x u || any_marks (map by_leaving m.other.marks.items) w x u in i) changed
    ∙ ap (λ (fs : List Marks). let i : Marks = λ w x u. changes_watched s w x u || any_marks fs w x u in i) left

-- ---- where it comes to

module _ (k : Walk) (h : Halts) (j : Walk) (moved : j ≡ at k j.here) where
  -- a step back
  module _ (s : ℕ) where
    pub step_found : (t : ℕ) (v : World) (ss : List Seen) (o : Option Watch) (why : Halted) → IsPosition j.records j.here → t ≡ s → IsLastMarked (moving t) k.boot k.records j.here k.here
        → v ≡ world_here j → ss ≡ h.seen.items → o ≡ first_change v (map as_seen ss) → why ≡ halted_or o (There s) → IsSteppedBack k h s (j.here, Some why)
    step_found t v ss o why i same found here seen is because =
        let back : why ≡ back_at (at k j.here) h s =
        because ∙ ap (λ (p : Option Watch). halted_or p (There s)) (is ∙ ap (λ (w : World). first_change w (map as_seen ss)) (here ∙ ap (λ (w : Walk). world_here w) moved)
        ∙ ap (λ (xs : List Seen). first_change (world_here (at k j.here)) (map as_seen xs)) seen) in
        inl (
          j.here,
          subst (λ (w : Walk). IsPosition w.records j.here) moved i,
          subst (λ (u : ℕ). IsLastMarked (moving u) k.boot k.records j.here k.here) same found,
          ap (λ (x : Halted). let r : Halt = (j.here, Some x) in r) back,
        )

    pub step_nowhere : (t : ℕ) → t ≡ s → IsPassed (moving t) k.boot k.records first k.here → j.here ≡ first → IsSteppedBack k h s (j.here, Some (AtBegin s))
    step_nowhere t same passed there =
        inr (subst (λ (u : ℕ). IsPassed (moving u) k.boot k.records first k.here) same passed, ap (λ (p : Position). let r : Halt = (p, Some (AtBegin s)) in r) there)

  -- back to the last halt
  module _ (f : Marks) (same : f ≡ is_looked_for h.points) where
    pub back_nowhere : IsPassed f k.boot k.records first k.here → j.here ≡ first → IsGoneBack k h (j.here, Some (AtBegin h.mover))
    back_nowhere passed there =
        inr (subst (λ (g : Marks). IsPassed g k.boot k.records first k.here) same passed, ap (λ (p : Position). let r : Halt = (p, Some (AtBegin h.mover)) in r) there)

    module _ (i : IsPosition j.records j.here) (found : IsLastMarked f k.boot k.records j.here k.here) where
      placed : IsPosition k.records j.here
      placed = subst (λ (w : Walk). IsPosition w.records j.here) moved i

      last : IsLastMarked (is_looked_for h.points) k.boot k.records j.here k.here
      last = subst (λ (g : Marks). IsLastMarked g k.boot k.records j.here k.here) same found

      found_at : (why : Halted) → why ≡ halt_before k h j.here (next_position k.records j.here) → IsGoneBack k h (j.here, Some why)
      found_at why is = inl (j.here, placed, last, ap (λ (x : Halted). let r : Halt = (j.here, Some x) in r) is)

      module _ (x : ℕ × Event) (made : next_made j ≡ Some x) (v : World) (here : v ≡ world_here j) where
        next : next_event k.records j.here ≡ Some x
        next = ap (λ (w : Walk). next_event w.records j.here) (sym moved) ∙ made_is j x made

        broken : is_break k h.points j.here (next_event k.records j.here) ≡ leaves_any (map code_place h.points.breakpoints) v x v
        broken =
            ap (λ (o : Option (ℕ × Event)). is_break k h.points j.here o) next ∙ leaves_same h.points (world_at k.boot k.records j.here) x (world_at k.boot k.records j.here)
            ∙ ap (λ (w : World). leaves_any (map code_place h.points.breakpoints) w x w) (sym (here ∙ ap (λ (w : Walk). world_here w) moved))

        pub back_break : (b : Bool) (slot : ℕ) → b ≡ leaves_any (map code_place h.points.breakpoints) v x v → b ≡ true → slot ≡ unwrap_or (slot_next (world_here j) (slice_get j.records j.here.records)) h.mover
            → IsGoneBack k h (j.here, Some (AtBreak slot))
        back_break b slot is true_so whose =
            let yes_so : is_break k h.points j.here (next_event k.records j.here) ≡ true = broken ∙ sym is ∙ true_so in
            let slot_is : slot ≡ slot_of_next (at k j.here) h = whose ∙ ap (λ (w : Walk). unwrap_or (slot_next (world_here w) (slice_get w.records j.here.records)) h.mover) moved in
            found_at (AtBreak slot) (ap (λ (n : ℕ). AtBreak n) slot_is
            ∙ sym (ap (λ c. let r : Halted = cond c (AtBreak (slot_of_next (at k j.here) h)) (changed_by k h j.here (next_position k.records j.here)) in r) yes_so))

        pub back_change : (b : Bool) (to : Position) (why : Halted) → b ≡ leaves_any (map code_place h.points.breakpoints) v x v → b ≡ false → to ≡ next_position j.records j.here → why ≡ changed_by j h j.here to
            → IsGoneBack k h (j.here, Some why)
        back_change b to why is false_so there because =
            let no_so : is_break k h.points j.here (next_event k.records j.here) ≡ false = broken ∙ sym is ∙ false_so in
            let at_next : to ≡ next_position k.records j.here = there ∙ ap (λ (w : Walk). next_position w.records j.here) moved in
            found_at why (because ∙ ap (λ (w : Walk). changed_by w h j.here to) moved ∙ ap (λ (p : Position). changed_by k h j.here p) at_next
            ∙ sym (ap (λ c. let r : Halted = cond c (AtBreak (slot_of_next (at k j.here) h)) (changed_by k h j.here (next_position k.records j.here)) in r) no_so))

      -- an event can be made there
      pub some_next : IsPosition k.records k.here → IsUpTo k.here k.last → next_made j ≡ None → ⊥
      some_next start early none =
          let lt = is_before k.records j.here k.here last.0 last.1 placed start last.2 in
          let event = is_next k.records j.here k.here last.0 last.1 placed start last.2 in
          let clash : None ≡ Some last.0 = sym none ∙ ap (λ (w : Walk). next_made w) moved ∙ made_before k j.here (above_trans j.here k.here k.last lt early) ∙ event in
          cc
