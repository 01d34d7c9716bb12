-- Steps of a slot's process within a range of code, one after the other.
use Rattle.std.specs.Prelude.{option_map, unwrap_or}
use Rattle.std.proofs.Common.{append-nil, ◌≡◌, ◌∙◌, ◌⊎◌, ◌||◌, ◌&&◌, ℕ, Bool, true, false, cond, not, List, [], ◌∷◌, ◌++◌, nat_eq, Option, Some, None, refl, ap, sym, subst, inl, inr}
use Rattle.std.proofs.lemmas.Bool.{eqb-true}
use Rattle.mx_debug.specs.Points.{has_breakpoint}
use Rattle.mx_machine.specs.declared.events.Event.{Event}
use Rattle.mx_machine.specs.declared.history.Record.{Record}
use Rattle.mx_machine.specs.History.{world_after_events}
use Rattle.mx_machine.specs.Move.{at_stop, world_after_event}
use Rattle.mx_machine.specs.World.{HeldProcess, World, held_by}
use Rattle.mx_walk.specs.declared.either.Either.{Either}
use Rattle.mx_walk.specs.declared.positions.Position.{Position}
use Rattle.mx_walk.specs.Positions.{IsBefore, IsPosition, IsUpTo, events_before, next_event, next_position, position_before, world_at}
use Rattle.mx_walk.specs.Seeking.{IsFirstMarked, IsPassed, NoneMarked, is_marked}
use Rattle.mx_walk.specs.Stopping.{is_step}
use Rattle.mx_walk.specs.Walks.{Walk}
use Rattle.mx_walk.proofs.Along.{itself}
use Rattle.mx_walk.proofs.Meeting.{snoc_same}
use Rattle.mx_walk.proofs.Next.{above_it, above_its_next, above_trans, below_end, is_position_too, world_next}
use Rattle.mx_walk.proofs.Passing.{found, none_passed, passed_on}
use Rattle.mx_app_look.specs.Marks.{leaves_breakpoint}
use Rattle.mx_app_look.specs.Searches.{is_break}
use Rattle.mx_app_look.specs.Slots.{slot_next}
use Rattle.mx_app_gdb.specs.declared.halts.Halted.{Halted}
use Rattle.mx_app_gdb.specs.declared.halts.Halted.TheVariants.{AtBreak, AtEnd, There}
use Rattle.mx_app_gdb.specs.declared.halts.Halts.{Halts}
use Rattle.mx_app_gdb.specs.declared.marks.ComingOut.{ComingOut}
use Rattle.mx_app_gdb.specs.declared.marks.Ending.{Ending}
use Rattle.mx_app_gdb.specs.declared.ranges.Range.{Range}
use Rattle.mx_app_gdb.specs.Halts.{halted_here, halts_after}
use Rattle.mx_app_gdb.specs.Marks.{comes_out, is_of, is_within, moves, stands_within}
use Rattle.mx_app_gdb.specs.Moves.{AreStepped, EndsBy, Halt, IsAfterNext, IsComeAfter, IsComeFrom, IsOnFrom, IsSearchedOn, IsSteppedFrom, LeadsOn, Marks, at, come_by, ended, ends_of, further, halt_by, halted, held_next, in_range, is_met, is_met_or_moves, moves_next, process_next, slot_of_next, stands, stands_in}
use Rattle.mx_app_gdb.proofs.OnToStep.{come_here, come_more, ending, next_isnt}
use Rattle.mx_app_gdb.proofs.Onward.{back_from, is_before, is_next, made_before, rest_is, same_place, same_rest}
use Rattle.mx_app_gdb.proofs.RightAfter.{by_entry, read_here}
use Rattle.mx_app_gdb.proofs.SameBytes.{both_false, or_left, or_right}
use Rattle.mx_app_gdb.proofs.SearchedOn.{front, leaves_same}
use Rattle.mx_app_gdb.proofs.Stepped.{and_left, and_right, at_breakpoint, not_false, not_true, same_actor}

-- a list has none, or a last one
abbrev Ended : List (ℕ × Event) → Type 0
Ended xs = (xs ≡ []) ⊎ ((ys : List (ℕ × Event)) × (z : ℕ × Event) × (xs ≡ ys ++ z ∷ []))

ended_more : (x : ℕ × Event) (xs : List (ℕ × Event)) → Ended xs → Ended (x ∷ xs)
ended_more x xs (inl none) = inr ([], x, ap (λ (es : List (ℕ × Event)). x ∷ es) none)
ended_more x xs (inr (ys, z, e)) = inr (x ∷ ys, z, ap (λ (es : List (ℕ × Event)). x ∷ es) e)

ended_in : (xs : List (ℕ × Event)) → Ended xs
ended_in [] = inl refl
ended_in (x ∷ xs) = ended_more x xs (ended_in xs)

or_left_true : (a b : Bool) → a || b ≡ true → b ≡ false → a ≡ true
or_left_true true b e isnt = refl
or_left_true false b e isnt = let no : true ≡ false = sym e ∙ isnt in absurd cc

module _ (k : Walk) (h : Halts) (s : ℕ) (g : Range) where
  abbrev w : Position → World
  w p = world_at k.boot k.records p

  abbrev f : Marks
  f = is_met_or_moves h s

  -- what a search within the range is told of: what comes out of it, and the ends of records
  abbrev pub leaving : Marks
  leaving v x u = comes_out s g v x u || ending v x u

  pub leaving_is : (m : Either ComingOut Ending) (c : ComingOut) → m.one ≡ c → c.slot ≡ s → c.range ≡ g → (λ v x u. comes_out m.one.slot m.one.range v x u || ending v x u) ≡ leaving
  leaving_is m c a slot range =
      ap (λ (n : ComingOut). let i : Marks = λ v x u. comes_out n.slot n.range v x u || ending v x u in i) a
      ∙ ap (λ (n : ℕ). let i : Marks = λ v x u. comes_out n c.range v x u || ending v x u in i) slot
      ∙ ap (λ (n : Range). let i : Marks = λ v x u. comes_out s n v x u || ending v x u in i) range

  -- ---- a step of the process, and what comes after it

  module _ (p : Position) (x : ℕ × Event) (lt : IsBefore p k.last) (e : next_event k.records p ≡ Some x) (isnt : is_marked (halts_after h) (w p) x ≡ false) where
    come_after : (r : Halt) → IsComeFrom k h s (next_position k.records p) r → IsComeAfter (at k p) h s r
    come_after r come = subst (λ (o : Option (ℕ × Event)). IsAfterNext (at k p) h (IsComeFrom (at k p) h s) o r) (sym (made_before k p lt ∙ e)) (inr (isnt, come))

    by_end : (q : Position) (r : Halt) → IsComeAfter (at k p) h s (q, None) → (o : Option Halted) → ends_of h s g (process_next (at k q)) ≡ o → EndsBy k h s g q o r → AreStepped k h s g p r
    by_end q r come (Some why) same on = subst (λ (t : Halt). AreStepped k h s g p t) (sym on) (ended p q why come same)
    by_end q r come None same on = further p q r come same on

    by_halt : (q : Position) (o : Option Halted) (r : Halt) → IsComeFrom k h s (next_position k.records p) (q, o) → IsOnFrom k h s g q o r → AreStepped k h s g p r
    by_halt q (Some why) r come on = subst (λ (t : Halt). AreStepped k h s g p t) (sym on) (halted p q why (come_after (q, Some why) come))
    by_halt q None r come on = by_end q r (come_after (q, None) come) (ends_of h s g (process_next (at k q))) refl on

    -- its steps, from what comes after this one
    pub stepped_in : (r : Halt) → IsSteppedFrom k h s g (next_position k.records p) r → AreStepped k h s g p r
    stepped_in r later = by_halt later.0 later.1 r later.2 later.3

  -- ---- within the range

  abbrev Within : Option HeldProcess → Type 0
  Within o = (l : HeldProcess) × (o ≡ Some l) × (l.slot ≡ s) × (is_within g l.out.image.eip ≡ true) × (at_stop l.out ≡ false)

  within : (o : Option HeldProcess) → stands_within s g o ≡ true → Within o
  within None e = absurd cc
  within (Some l) e =
      let a = and_left (nat_eq l.slot s && is_within g l.out.image.eip) (not (at_stop l.out)) e in (
        l,
        refl,
        eqb-true l.slot s (and_left (nat_eq l.slot s) (is_within g l.out.image.eip) a),
        and_right (nat_eq l.slot s) (is_within g l.out.image.eip) a,
        not_true (at_stop l.out) (and_right (nat_eq l.slot s && is_within g l.out.image.eip) (not (at_stop l.out)) e),
      )

  -- an event is no step of the process, or one that begins within the range
  abbrev pub IsReady : World → ℕ × Event → Type 0
  IsReady v x = (moves s v x ≡ false) ⊎ (stands_within s g (held_by v x.0) ≡ true)

  -- a step within the range ends nothing, if it leaves no breakpoint
  module _ (p : Position) (x : ℕ × Event) (lt : IsBefore p k.last) (e : next_event k.records p ≡ Some x) (is : is_step x.1 ≡ true) (o : Within (held_by (w p) x.0)) where
    abbrev l : HeldProcess
    l = o.0

    process_is : process_next (at k p) ≡ Some l
    process_is = ap (λ (n : Option (ℕ × Event)). held_next (w p) n) (made_before k p lt ∙ e) ∙ o.1

    break_is : (u : World) → leaves_breakpoint h.points (w p) x u ≡ has_breakpoint h.points.breakpoints s l.out.image.eip
    break_is u = leaves_same h.points (w p) x u ∙ at_breakpoint s l h.points.breakpoints (w p) u x is o.1 o.2 o.4

    none_ends : has_breakpoint h.points.breakpoints s l.out.image.eip ≡ false → ends_of h s g (process_next (at k p)) ≡ None
    none_ends isnt =
        ap (λ (n : Option HeldProcess). ends_of h s g n) process_is
        ∙ ap (λ b. let r : Option Halted = cond b (Some (AtBreak s)) (cond (is_within g l.out.image.eip) None (Some (There s))) in r) isnt
        ∙ ap (λ b. let r : Option Halted = cond b None (Some (There s)) in r) o.3

    break_ends : has_breakpoint h.points.breakpoints s l.out.image.eip ≡ true → ends_of h s g (process_next (at k p)) ≡ Some (AtBreak s)
    break_ends is_so =
        ap (λ (n : Option HeldProcess). ends_of h s g n) process_is
        ∙ ap (λ b. let r : Option Halted = cond b (Some (AtBreak s)) (cond (is_within g l.out.image.eip) None (Some (There s))) in r) is_so

    whose : slot_of_next (at k p) h ≡ s
    whose =
        let inside = below_end k.records p x e in
        ap (λ (n : Option Record). unwrap_or (slot_next (w p) n) h.mover) (read_here k.records p.records inside)
        ∙ ap (λ a. unwrap_or (option_map (λ (m : HeldProcess). m.slot) (held_by (w p) a)) h.mover) (sym (by_entry k.records p x e))
        ∙ ap (λ (n : Option HeldProcess). unwrap_or (option_map (λ (m : HeldProcess). m.slot) n) h.mover) o.1 ∙ o.2

  module _ (l : IsPosition k.records k.last) where
    -- ---- an event that isn't met goes by

    on_by : (p : Position) (x : ℕ × Event) (i : IsPosition k.records p) (lt : IsBefore p k.last) (e : next_event k.records p ≡ Some x) (r : Halt) → is_marked (is_met h) (w p) x ≡ false
        → (b : Bool) → moves s (w p) x ≡ b → IsReady (w p) x → IsSteppedFrom k h s g (next_position k.records p) r → IsSteppedFrom k h s g p r
    on_by p x i lt e r unmet false isnt ready later =
        let both : is_marked f (w p) x ≡ false = both_false (is_marked (is_met h) (w p) x) (moves s (w p) x) unmet isnt in
        let passed : IsPassed f k.boot k.records p (next_position k.records p) = passed_on f k.boot k.records p x i e p (none_passed f k.boot k.records p) both in
        (later.0, later.1, come_more k h s p (next_position k.records p) (later.0, later.1) passed later.2, later.3)
    on_by p x i lt e r unmet true is_so (inl isnt_so) later = let clash : true ≡ false = sym is_so ∙ isnt_so in absurd cc
    on_by p x i lt e r unmet true is_so (inr stands_there) later =
        let u = world_after_event (w p) x.0 x.1 in
        let is = and_left (is_step x.1) (is_of s (held_by (w p) x.0)) is_so in
        let o = within (held_by (w p) x.0) stands_there in
        let unleft = or_right (halts_after h (w p) x u) (leaves_breakpoint h.points (w p) x u) unmet in
        let ends = none_ends p x lt e is o (sym (break_is p x lt e is o u) ∙ unleft) in
        let isnt = or_left (halts_after h (w p) x u) (leaves_breakpoint h.points (w p) x u) unmet in
        let steps : AreStepped k h s g p r = stepped_in p x lt e isnt r later in
        (p, None, come_here k h s p x i l lt e is_so, subst (λ (n : Option Halted). EndsBy k h s g p n r) (sym ends) steps)

    pub goes_by : (p : Position) (x : ℕ × Event) → IsPosition k.records p → IsBefore p k.last → next_event k.records p ≡ Some x → (r : Halt) → is_marked (is_met h) (w p) x ≡ false → IsReady (w p) x
        → IsSteppedFrom k h s g (next_position k.records p) r → IsSteppedFrom k h s g p r
    goes_by p x i lt e r unmet ready later = on_by p x i lt e r unmet (moves s (w p) x) refl ready later

    -- ---- events in a row

    -- after a step that doesn't come out of the range
    ready_by : (p : Position) (x y : ℕ × Event) → IsPosition k.records p → next_event k.records p ≡ Some x → is_step x.1 ≡ true → next_event k.records (next_position k.records p) ≡ Some y
        → (b : Bool) → moves s (w p) x ≡ b → b && not (stands_within s g (held_by (world_after_event (w p) x.0 x.1) x.0)) ≡ false → IsReady (w (next_position k.records p)) y
    ready_by p x y i e is next false isnt in_it = inl (next_isnt k h s p x i e is isnt (Some y) next)
    ready_by p x y i e is next true is_so in_it =
        inr (ap (λ a. stands_within s g (held_by (w (next_position k.records p)) a)) (same_actor k.records p x y e is next)
        ∙ ap (λ (v : World). stands_within s g (held_by v x.0)) (world_next k.records p x i e k.boot) ∙ not_false (stands_within s g (held_by (world_after_event (w p) x.0 x.1) x.0)) in_it)

    abbrev Ready : Position → Type 0
    Ready p = (x : ℕ × Event) → next_event k.records p ≡ Some x → IsReady (w p) x

    -- what is so at the last event on the way
    abbrev pub AtLast : Position → List (ℕ × Event) → ℕ × Event → Position → Halt → Type 0
    AtLast p xs z q r =
        (e : Position) → IsPosition k.records e → next_event k.records e ≡ Some z → next_position k.records e ≡ q → w e ≡ world_after_events (w p) xs → IsReady (w e) z → IsSteppedFrom k h s g e r

    along : (xs : List (ℕ × Event)) (z : ℕ × Event) (p q : Position) → IsPosition k.records p → IsPosition k.records q → IsUpTo q k.last → events_before k.records q ≡ events_before k.records p ++ (xs ++ z ∷ [])
        → NoneMarked (is_met h) (w p) xs → NoneMarked leaving (w p) xs → Ready p → (r : Halt) → AtLast p xs z q r → IsSteppedFrom k h s g p r
    along [] z p q i j up e met left ready r ends =
        let next = is_next k.records p q z [] i j e in
        ends p i next (same_place k.records (next_position k.records p) q (is_position_too k.records p z i next) j (above_it k.records p z i next ∙ sym e)) refl (ready z next)
    along (x ∷ xs) z p q i j up e met left ready r ends =
        let next = is_next k.records p q x (xs ++ z ∷ []) i j e in
        let to = next_position k.records p in
        let there : w to ≡ world_after_event (w p) x.0 x.1 = world_next k.records p x i next k.boot in
        let u = world_after_event (w p) x.0 x.1 in
        let is : is_step x.1 ≡ true = not_false (is_step x.1) (or_right (comes_out s g (w p) x u) (not (is_step x.1)) left.0) in
        let later = along xs z to q (is_position_too k.records p x i next) j up (rest_is k.records p q x (xs ++ z ∷ []) i j e)
        (subst (λ (v : World). NoneMarked (is_met h) v xs) (sym there) met.1) (subst (λ (v : World). NoneMarked leaving v xs) (sym there) left.1)
        (λ y n. ready_by p x y i next is n (moves s (w p) x) refl (or_left (comes_out s g (w p) x u) (not (is_step x.1)) left.0)) r
        (λ d a b c world v. ends d a b c (world ∙ ap (λ (t : World). world_after_events t xs) there) v) in
        goes_by p x i (above_trans p q k.last (is_before k.records p q x (xs ++ z ∷ []) i j e) up) next r met.0 (ready x next) later

    -- ---- a search within the range

    module _ (p : Position) (i : IsPosition k.records p) (in_it : stands_in (at k p) s g ≡ true) where
      begins : IsBefore p k.last → Ready p
      begins lt x e = inr (sym (ap (λ (n : Option (ℕ × Event)). in_range s g (w p) n) (made_before k p lt ∙ e)) ∙ in_it)

      way : (q : Position) (xs : List (ℕ × Event)) (z : ℕ × Event) → IsPosition k.records q → IsUpTo q k.last → events_before k.records q ≡ events_before k.records p ++ (xs ++ z ∷ []) → IsBefore p k.last
      way q [] z j up e = above_trans p q k.last (is_before k.records p q z [] i j e) up
      way q (x ∷ xs) z j up e = above_trans p q k.last (is_before k.records p q x (xs ++ z ∷ []) i j e) up

      passed_to : (q : Position) (xs : List (ℕ × Event)) (z : ℕ × Event) → IsPosition k.records q → IsUpTo q k.last → events_before k.records q ≡ events_before k.records p ++ (xs ++ z ∷ [])
          → NoneMarked (is_met h) (w p) (xs ++ z ∷ []) → NoneMarked leaving (w p) xs → (r : Halt) → IsSteppedFrom k h s g q r → IsSteppedFrom k h s g p r
      passed_to q xs z j up e met left r later =
          let apart = front (is_met h) (w p) xs z met in
          along xs z p q i j up e apart.0 left (begins (way q xs z j up e)) r (λ d a b c world ready.
          let lt : IsBefore d k.last = above_trans d q k.last (subst (λ (t : Position). IsBefore d t) c (above_its_next k.records d z a b)) up in
          goes_by d z a lt b r (ap (λ (v : World). is_marked (is_met h) v z) world ∙ apart.1) ready (subst (λ (t : Position). IsSteppedFrom k h s g t r) (sym c) later))

      -- it goes on
      pub range_on : (q : Position) → IsPosition k.records q → IsUpTo q k.last → IsSearchedOn (at k p) h leaving (q, None) → LeadsOn (IsSteppedFrom k h s g) p q None
      range_on q j up (lt, met, u, stays) r later =
          let same : met.0 ≡ u.0 ++ u.1 ∷ [] = same_rest (events_before k.records p) met.0 (u.0 ++ u.1 ∷ []) (sym met.1 ∙ u.2) in
          passed_to q u.0 u.1 j up u.2 (subst (λ (es : List (ℕ × Event)). NoneMarked (is_met h) (w p) es) same met.2) u.3 r later

      -- or halts: at a step of the process, or at another event
      module _ (q to : Position) (why : Halted) (j : IsPosition k.records to) (up : IsUpTo to k.last) (z : ℕ × Event) (halt : halt_by k h (position_before k.records to) to ≡ (q, Some why))
          (d : Position) (a : IsPosition k.records d) (b : next_event k.records d ≡ Some z) (c : next_position k.records d ≡ to) (marked : is_marked (is_met h) (w d) z ≡ true) where
        lt : IsBefore d k.last
        lt = above_trans d to k.last (subst (λ (t : Position). IsBefore d t) c (above_its_next k.records d z a b)) up

        back : position_before k.records to ≡ d
        back = ap (λ (t : Position). position_before k.records t) (sym c) ∙ back_from k.records d k.last a l lt

        here : (q, Some why) ≡ halt_by k h d to
        here = sym halt ∙ ap (λ (t : Position). halt_by k h t to) back

        abbrev u : World
        u = world_after_event (w d) z.0 z.1

        broken : is_break k h.points d (next_event k.records d) ≡ leaves_breakpoint h.points (w d) z u
        broken = ap (λ (n : Option (ℕ × Event)). is_break k h.points d n) b ∙ leaves_same h.points (w d) z (w d) ∙ sym (leaves_same h.points (w d) z u)

        by_break : (o : Within (held_by (w d) z.0)) → is_step z.1 ≡ true → (e : Bool) → has_breakpoint h.points.breakpoints s o.0.out.image.eip ≡ e → EndsBy k h s g d (ends_of h s g (process_next (at k d))) (q, Some why)
        by_break o is true e =
            let same = broken ∙ break_is d z lt b is o u ∙ e in
            let halted : (q, Some why) ≡ (d, Some (AtBreak s)) =
            here ∙ ap (λ v. let n : Halt = cond v (d, Some (AtBreak (slot_of_next (at k d) h))) (to, halted_here (at k to) h) in n) same ∙ ap (λ t. let n : Halt = (d, Some (AtBreak t)) in n) (whose d z lt b is o) in
            subst (λ (n : Option Halted). EndsBy k h s g d n (q, Some why)) (sym (break_ends d z lt b is o e)) halted
        by_break o is false e =
            let unleft : leaves_breakpoint h.points (w d) z u ≡ false = break_is d z lt b is o u ∙ e in
            let after : is_marked (halts_after h) (w d) z ≡ true = or_left_true (halts_after h (w d) z u) (leaves_breakpoint h.points (w d) z u) marked unleft in
            let there : (q, Some why) ≡ (next_position k.records d, halted_here (at k (next_position k.records d)) h) =
            here ∙ ap (λ v. let n : Halt = cond v (d, Some (AtBreak (slot_of_next (at k d) h))) (to, halted_here (at k to) h) in n) (broken ∙ unleft)
            ∙ ap (λ (t : Position). let n : Halt = (t, halted_here (at k t) h) in n) (sym c) in
            let come : IsComeAfter (at k d) h s (q, Some why) = subst (λ (n : Option (ℕ × Event)). IsAfterNext (at k d) h (IsComeFrom (at k d) h s) n (q, Some why)) (sym (made_before k d lt ∙ b)) (inl (after, there)) in
            let steps : AreStepped k h s g d (q, Some why) = halted d q why come in
            subst (λ (n : Option Halted). EndsBy k h s g d n (q, Some why)) (sym (none_ends d z lt b is o e)) steps

        by_moves : (e : Bool) → moves s (w d) z ≡ e → IsReady (w d) z → IsSteppedFrom k h s g d (q, Some why)
        by_moves false isnt ready =
            let away : stands (at k d) s ≡ false = ap (λ (n : Option (ℕ × Event)). moves_next s (w d) n) (made_before k d lt ∙ b) ∙ isnt in
            let both : is_marked f (w d) z ≡ true = ap (λ v. v || moves s (w d) z) marked in
            let first : IsFirstMarked f k.boot k.records d to = subst (λ (t : Position). IsFirstMarked f k.boot k.records d t) c (found f k.boot k.records d z a b d (none_passed f k.boot k.records d) both) in
            let there : (q, Some why) ≡ come_by k h s (position_before k.records to) to =
            here ∙ sym (ap (λ v. let n : Halt = cond v (d, None) (halt_by k h d to) in n) away) ∙ ap (λ (t : Position). come_by k h s t to) (sym back) in
            (q, Some why, inl (to, j, up, first, there), refl)
        by_moves true is_so (inl isnt_so) = let clash : true ≡ false = sym is_so ∙ isnt_so in absurd cc
        by_moves true is_so (inr stands_there) =
            let is = and_left (is_step z.1) (is_of s (held_by (w d) z.0)) is_so in
            let o = within (held_by (w d) z.0) stands_there in
            (d, None, come_here k h s d z a l lt b is_so, by_break o is (has_breakpoint h.points.breakpoints s o.0.out.image.eip) refl)

      at_end : (xs : List (ℕ × Event)) → events_before k.records k.last ≡ events_before k.records p ++ xs → NoneMarked (is_met h) (w p) xs → NoneMarked leaving (w p) xs → Ended xs
          → IsSteppedFrom k h s g p (k.last, Some (AtEnd h.mover))
      at_end xs e met left (inl none) =
          let same : k.last ≡ p = same_place k.records k.last p l i (e ∙ ap (λ (es : List (ℕ × Event)). events_before k.records p ++ es) none ∙ append-nil (events_before k.records p)) in
          let passed : IsPassed f k.boot k.records p k.last = subst (λ (t : Position). IsPassed f k.boot k.records p t) (sym same) (none_passed f k.boot k.records p) in
          (k.last, Some (AtEnd h.mover), inr (passed, refl), refl)
      at_end xs e met left (inr (ys, z, same)) =
          let apart = front leaving (w p) ys z (subst (λ (es : List (ℕ × Event)). NoneMarked leaving (w p) es) same left) in
          let later : IsSteppedFrom k h s g k.last (k.last, Some (AtEnd h.mover)) = (k.last, Some (AtEnd h.mover), inr (none_passed f k.boot k.records k.last, refl), refl) in
          passed_to k.last ys z l (itself k.last) (e ∙ ap (λ (es : List (ℕ × Event)). events_before k.records p ++ es) same)
          (subst (λ (es : List (ℕ × Event)). NoneMarked (is_met h) (w p) es) same met) apart.0 (k.last, Some (AtEnd h.mover)) later

      pub range_halts : (q : Position) (why : Halted) → IsSearchedOn (at k p) h leaving (q, Some why) → LeadsOn (IsSteppedFrom k h s g) p q (Some why)
      range_halts q why (inl (to, j, up, first, unmarked, halt)) =
          let lists : unmarked.0 ++ unmarked.1 ∷ [] ≡ first.0 ++ first.1 ∷ [] = same_rest (events_before k.records p) (unmarked.0 ++ unmarked.1 ∷ []) (first.0 ++ first.1 ∷ []) (sym unmarked.2 ∙ first.2) in
          let same = snoc_same unmarked.0 first.0 unmarked.1 first.1 lists in
          along first.0 first.1 p to i j up first.2 first.3 (subst (λ (es : List (ℕ × Event)). NoneMarked leaving (w p) es) same.0 unmarked.3) (begins (way to first.0 first.1 j up first.2)) (q, Some why)
          (λ d a b c world ready. by_moves q to why j up first.1 halt d a b c (ap (λ (v : World). is_marked (is_met h) v first.1) world ∙ first.4) (moves s (w d) first.1) refl ready)
      range_halts q why (inr (met, unmarked, last, ends)) =
          let same : unmarked.0 ≡ met.0 = same_rest (events_before k.records p) unmarked.0 met.0 (sym unmarked.1 ∙ met.1) in
          let here : (q, Some why) ≡ (k.last, Some (AtEnd h.mover)) = ap (λ (t : Position). let r : Halt = (t, Some why) in r) last ∙ ap (λ (t : Halted). let r : Halt = (k.last, Some t) in r) ends in
          subst (λ (t : Halt). IsSteppedFrom k h s g p t) (sym here)
          (at_end met.0 met.1 met.2 (subst (λ (es : List (ℕ × Event)). NoneMarked leaving (w p) es) same unmarked.2) (ended_in met.0))
