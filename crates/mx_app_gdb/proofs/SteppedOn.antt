-- Moves that begin with the next event, and steps one after the other.
use Rattle.std.proofs.Common.{◌≡◌, ◌∙◌, ◌<◌, ℕ, Bool, true, false, cond, Option, Some, None, is_some, map, nat_le, nat_lt, not, refl, ap, sym, subst, inl, inr, arith}
use Rattle.std.proofs.lemmas.Bool.{eq-eqb, le-leb}
use Rattle.mx_machine.specs.declared.events.Event.{Event}
use Rattle.mx_machine.specs.World.{World}
use Rattle.mx_walk.specs.declared.positions.Position.{Position}
use Rattle.mx_walk.specs.declared.several.Several.{Several}
use Rattle.mx_walk.specs.Several.{any_marks}
use Rattle.mx_walk.specs.Positions.{IsBefore, IsPosition, IsUpTo, is_up_to, next_event, next_position}
use Rattle.mx_walk.specs.Seeking.{IsPassed, is_marked}
use Rattle.mx_walk.specs.Walks.{Walk, world_here}
use Rattle.mx_walk.proofs.Next.{above_to}
use Rattle.mx_walk.proofs.Passing.{found_more, passed_more}
use Rattle.mx_walk.proofs.Unleft.{fewer_to}
use Rattle.mx_app_look.specs.Searches.{next_made}
use Rattle.mx_app_gdb.specs.declared.halts.Halted.{Halted}
use Rattle.mx_app_gdb.specs.declared.halts.Halts.{Halts}
use Rattle.mx_app_gdb.specs.declared.marks.Moving.{Moving}
use Rattle.mx_app_gdb.specs.declared.ranges.Range.{Range}
use Rattle.mx_app_gdb.specs.Marks.{moves}
use Rattle.mx_app_gdb.specs.Halts.{IsUnchanged, halted_here, halts_after}
use Rattle.mx_app_gdb.specs.Moves.{AreStepped, EndsBy, Halt, IsAfterNext, IsAtStep, IsCome, IsComeFrom, IsComeIf, IsHaltFrom, IsMadeNext, IsOnFrom, IsSearchedOn, IsStepped, IsSteppedFrom, LeadsOn, Marks, at, ended, ends_of, further, halted, is_met, moves_next, process_next, stands, stands_in}
use Rattle.mx_app_gdb.proofs.HaltedOn.{OnWay, events_to, left_of, made_halts, made_is, made_on}
use Rattle.mx_app_gdb.proofs.InRange.{leaving, range_halts, range_on, stepped_in}
use Rattle.mx_app_gdb.proofs.OnToStep.{come_at, come_more, ending, halts_on, passes_on}
use Rattle.mx_app_gdb.proofs.RightAfter.{halts_is}

-- ---- an event can be made, so it is before the last position

itself_up : (p : Position) → is_up_to p p ≡ true
itself_up p =
    ap (λ c. cond c (nat_le p.steps p.steps) (nat_lt p.records p.records)) (eq-eqb p.records p.records refl) ∙ le-leb p.steps p.steps (omega arith)

pub before_by : (p q : Position) → IsUpTo p q → is_up_to q p ≡ false → IsBefore p q
before_by p q up isnt = above_to p q up (λ same. let clash : true ≡ false = sym (itself_up q) ∙ ap (λ (r : Position). is_up_to q r) (sym same) ∙ isnt in absurd cc)

made_before_by : (b : Bool) (o : Option (ℕ × Event)) (x : ℕ × Event) → cond b None o ≡ Some x → b ≡ false
made_before_by true o x e = absurd cc
made_before_by false o x e = refl

pub before_last : (k : Walk) (x : ℕ × Event) → IsUpTo k.here k.last → next_made k ≡ Some x → IsBefore k.here k.last
before_last k x up e = before_by k.here k.last up (made_before_by (is_up_to k.last k.here) (next_event k.records k.here) x e)

-- the step that is next
next_by : (s : ℕ) (w : World) (o : Option (ℕ × Event)) → moves_next s w o ≡ true → (x : ℕ × Event) × (o ≡ Some x)
next_by s w None e = absurd cc
next_by s w (Some x) e = (x, refl)

pub step_next : (k : Walk) (s : ℕ) → stands k s ≡ true → (x : ℕ × Event) × (next_made k ≡ Some x)
step_next k s e = next_by s (world_here k) (next_made k) e

-- ---- steps are the same of a walker that is somewhere else

module _ (k : Walk) (h : Halts) (s : ℕ) (g : Range) where
  pub same_steps : (a b p : Position) (r : Halt) → AreStepped (at k a) h s g p r → AreStepped (at k b) h s g p r
  same_steps a b p r (halted _ q why come) = halted p q why come
  same_steps a b p r (ended _ q why come e) = ended p q why come e
  same_steps a b p r (further _ q _ come e more) = further p q r come e (same_steps a b q r more)

  same_ends : (a b q : Position) (r : Halt) (o : Option Halted) → EndsBy (at k a) h s g q o r → EndsBy (at k b) h s g q o r
  same_ends a b q r (Some why) e = e
  same_ends a b q r None steps = same_steps a b q r steps

  same_on : (a b q : Position) (r : Halt) (o : Option Halted) → IsOnFrom (at k a) h s g q o r → IsOnFrom (at k b) h s g q o r
  same_on a b q r (Some why) e = e
  same_on a b q r None on = same_ends a b q r (ends_of h s g (process_next (at k q))) on

  same_from : (a b p : Position) (r : Halt) → IsSteppedFrom (at k a) h s g p r → IsSteppedFrom (at k b) h s g p r
  same_from a b p r (q, o, come, on) = (q, o, come, same_on a b q r o on)

  pub same_leads : (a b p q : Position) (o : Option Halted) → LeadsOn (IsSteppedFrom (at k a) h s g) p q o → LeadsOn (IsSteppedFrom (at k b) h s g) p q o
  same_leads a b p q None led = λ r later. same_from a b p r (led r (same_from b a q r later))
  same_leads a b p q (Some why) led = same_from a b p (q, Some why) led

-- ---- on to the next halt

-- any of these steps, as a search is told of them
abbrev by_moving : Moving → Marks
by_moving m w x u = moves m.slot w x

abbrev pub any_moving : Several Moving → Marks
any_moving m w x u = any_marks (map by_moving m.marks.items) w x u

module _ (k : Walk) (h : Halts) where
  -- what is on the way to a position is on the way from an earlier one
  halt_more : (p q : Position) (r : Halt) → IsPassed (is_met h) k.boot k.records p q → IsHaltFrom k h q r → IsHaltFrom k h p r
  halt_more p q r passed (inl c) = inl (c.0, c.1, c.2, found_more (is_met h) k.boot k.records q c.0 p passed c.3, c.4)
  halt_more p q r passed (inr c) = inr (passed_more (is_met h) k.boot k.records q k.last p passed c.0, c.1)

  pub halt_law : (marks : Marks) (p q : Position) (o : Option Halted) → IsSearchedOn (at k p) h marks (q, o) → LeadsOn (IsHaltFrom k h) p q o
  halt_law marks p q None s = λ r later. halt_more p q r s.1 later
  halt_law marks p q (Some why) (inl (to, i, up, first, unmarked, halt)) = inl (to, i, up, first, sym halt)
  halt_law marks p q (Some why) (inr (met, unmarked, last, ends)) =
      inr (met, ap (λ (t : Position). let r : Halt = (t, Some why) in r) last ∙ ap (λ (t : Halted). let r : Halt = (k.last, Some t) in r) ends)

  -- ---- past the next event

  abbrev pub ComesTo : (Position → Halt → Type 0) → Position → Option Halted → Type 0
  ComesTo From q None = (r : Halt) → From q r → IsAfterNext k h From (next_made k) r
  ComesTo From q (Some why) = IsAfterNext k h From (next_made k) (q, Some why)

  pub comes_made : (From : Position → Halt → Type 0) (q : Position) (o : Option Halted) → IsUnchanged k h → IsPosition k.records k.here → IsMadeNext k h (q, o) → ComesTo From q o
  comes_made From q None still start made = λ r later. made_on k h From q r still start later made
  comes_made From q (Some why) still start made = made_halts k h From q why made

  pub comes_on : (From : Position → Halt → Type 0) (p q : Position) (o : Option Halted) → ComesTo From p None → LeadsOn From p q o → ComesTo From q o
  comes_on From p q None a b = λ r later. a r (b r later)
  comes_on From p q (Some why) a b = a (q, Some why) b

  -- ---- on to a step

  module _ (s : ℕ) where
    pub come_first : stands k s ≡ true → IsCome k h s (k.here, None)
    come_first is = subst (λ b. IsComeIf b k h s (k.here, None)) (sym is) refl

    pub come_then : (q : Position) (r : Halt) → stands k s ≡ false → ComesTo (IsComeFrom k h s) q None → IsComeFrom k h s q r → IsCome k h s r
    come_then q r isnt comes later = subst (λ b. IsComeIf b k h s r) (sym isnt) (comes r later)

    pub come_halts : (q : Position) (why : Halted) → stands k s ≡ false → ComesTo (IsComeFrom k h s) q (Some why) → IsCome k h s (q, Some why)
    come_halts q why isnt comes = subst (λ b. IsComeIf b k h s (q, Some why)) (sym isnt) comes

    pub come_law : (p q : Position) (o : Option Halted) → IsPosition k.records p → IsPosition k.records k.last → stands (at k p) s ≡ false → IsPosition k.records q → IsUpTo q k.last
        → IsSearchedOn (at k p) h ending (q, o) → LeadsOn (IsComeFrom k h s) p q o
    come_law p q None i l isnt j up c = λ r later. come_more k h s p q r (passes_on k h s p i l isnt q j up c) later
    come_law p q (Some why) i l isnt j up c = halts_on k h s p i l isnt q why c

    -- where it comes to, if it stands at its step there
    pub come_there : (j : Walk) → OnWay k h (LeadsOn (IsComeFrom k h s) k.here) j None → IsPosition k.records k.last → stands j s ≡ true → IsComeFrom k h s k.here (j.here, None)
    come_there j way l is =
        let here : stands (at k j.here) s ≡ true = ap (λ (w : Walk). stands w s) (sym way.walker) ∙ is in
        let x = step_next (at k j.here) s here in
        way.leads (j.here, None) (come_at k h s j.here way.position l (before_last (at k j.here) x.0 way.early x.1) here)

    module _ (g : Range) where
      pub range_law : (p q : Position) (o : Option Halted) → IsPosition k.records k.last → IsPosition k.records p → stands_in (at k p) s g ≡ true → IsPosition k.records q → IsUpTo q k.last
          → IsSearchedOn (at k p) h (leaving k h s g) (q, o) → LeadsOn (IsSteppedFrom k h s g) p q o
      range_law p q None l i is j up c = range_on k h s g l p i is q j up c
      range_law p q (Some why) l i is j up c = range_halts k h s g l p i is q why c

      -- ---- a step, and those after it within the range

      module _ (there : IsAtStep k h s) (start : IsPosition k.records k.here) (early : IsUpTo k.here k.last) where
        x : (x : ℕ × Event) × (next_made k ≡ Some x)
        x = step_next k s there.next

        not_made : (q : Position) → (b : Bool) → is_marked (halts_after h) (world_here k) x.0 ≡ b → IsAfterNext k h (λ p r. r ≡ (p, None)) (Some x.0) (q, None)
            → (is_marked (halts_after h) (world_here k) x.0 ≡ false) × (q ≡ next_position k.records k.here)
        not_made q b is (inl (marked, e)) =
            let none : None ≡ halted_here (at k (next_position k.records k.here)) h = ap (λ (r : Halt). r.1) e in
            let clash : false ≡ true = ap (λ (o : Option Halted). is_some o) none ∙ halts_is k h k.here there.unchanged x.0 start (made_is k x.0 x.1) ∙ marked in
            absurd cc
        not_made q b is (inr (isnt, e)) = (isnt, ap (λ (r : Halt). r.0) e)

        -- the step is made, and its steps are those that come after it
        pub first_step : (q : Position) (r : Halt) → IsMadeNext k h (q, None) → IsSteppedFrom k h s g q r → AreStepped k h s g k.here r
        first_step q r made later =
            let m = not_made q (is_marked (halts_after h) (world_here k) x.0) refl (subst (λ (o : Option (ℕ × Event)). IsAfterNext k h (λ p r. r ≡ (p, None)) o (q, None)) x.1 made) in
            stepped_in k h s g k.here x.0 (before_last k x.0 early x.1) (made_is k x.0 x.1) m.0 r (subst (λ (p : Position). IsSteppedFrom k h s g p r) m.1 later)

        pub first_halts : (q : Position) (why : Halted) → IsMadeNext k h (q, Some why) → AreStepped k h s g k.here (q, Some why)
        first_halts q why made = halted k.here q why (made_halts k h (IsComeFrom k h s) q why made)

        module _ (p q : Position) (made : IsMadeNext k h (p, None)) where
          pub range_ends : (why : Halted) → LeadsOn (IsSteppedFrom k h s g) p q (Some why) → AreStepped k h s g k.here (q, Some why)
          range_ends why led = first_step p (q, Some why) made led

          module _ (led : LeadsOn (IsSteppedFrom k h s g) p q None) (t : Position) where
            pub come_ends : (why : Halted) → IsComeFrom k h s q (t, Some why) → AreStepped k h s g k.here (t, Some why)
            come_ends why come = first_step p (t, Some why) made (led (t, Some why) (t, Some why, come, refl))

            pub step_ends : (o : Option Halted) → IsComeFrom k h s q (t, None) → o ≡ ends_of h s g (process_next (at k t)) → LeadsOn (AreStepped k h s g) k.here t o
            step_ends (Some why) come is =
                let on : EndsBy k h s g t (ends_of h s g (process_next (at k t))) (t, Some why) = subst (λ (o : Option Halted). EndsBy k h s g t o (t, Some why)) is refl in
                first_step p (t, Some why) made (led (t, Some why) (t, None, come, on))
            step_ends None come is = λ r later.
                let on : EndsBy k h s g t (ends_of h s g (process_next (at k t))) r = subst (λ (o : Option Halted). EndsBy k h s g t o r) is later in
                first_step p r made (led r (t, None, come, on))

-- ---- steps one after the other

abbrev pub StepsTo : Walk → Halts → ℕ → Range → Walk → Option Halted → Type 0
StepsTo k h s g j None = IsAtStep j h s × ((r : Halt) → AreStepped k h s g j.here r → IsStepped k h s g r)
StepsTo k h s g j (Some why) = IsStepped k h s g (j.here, Some why)

pub record OnSteps (k : Walk) (h : Halts) (s : ℕ) (g : Range) (j : Walk) (o : Option Halted) : Type 0 where
  pub walker : j ≡ at k j.here
  pub steps : StepsTo k h s g j o

module _ (k : Walk) (h : Halts) (s : ℕ) (g : Range) where
  steps_come : (j : Walk) (o : Option Halted) → IsCome k h s (j.here, o) → (o ≡ None → IsAtStep j h s) → StepsTo k h s g j o
  steps_come j None come there = (there refl, λ r steps. inr (j.here, come, steps))
  steps_come j (Some why) come there = inl (j.here, why, come, refl)

  pub steps_start : (j : Walk) (o : Option Halted) → j ≡ at k j.here → IsCome k h s (j.here, o) → (o ≡ None → IsAtStep j h s) → OnSteps k h s g j o
  steps_start j o moved come there = record { walker = moved; steps = steps_come j o come there }

  steps_led : (j i : Walk) (o : Option Halted) → IsAtStep j h s × ((r : Halt) → AreStepped k h s g j.here r → IsStepped k h s g r) → LeadsOn (AreStepped (at k j.here) h s g) j.here i.here o → (o ≡ None → IsAtStep i h s) → StepsTo k h s g i o
  steps_led j i None now led there = (there refl, λ r steps. now.1 r (same_steps k h s g j.here k.here j.here r (led r (same_steps k h s g k.here j.here i.here r steps))))
  steps_led j i (Some why) now led there = now.1 (i.here, Some why) (same_steps k h s g j.here k.here j.here (i.here, Some why) led)

  pub steps_more : (j i : Walk) (o : Option Halted) → OnSteps k h s g j None → i ≡ at j i.here → LeadsOn (AreStepped j h s g) j.here i.here o → (o ≡ None → IsAtStep i h s) → OnSteps k h s g i o
  steps_more j i o way moved led there = record {
    walker = moved ∙ ap (λ (w : Walk). at w i.here) way.walker;
    steps = steps_led j i o way.steps (subst (λ (w : Walk). LeadsOn (AreStepped w h s g) j.here i.here o) way.walker led) there;
  }

-- ---- what tests tell

pub none_of : (o : Option Halted) (b : Bool) → is_some o ≡ not b → b ≡ true → o ≡ None
none_of None b e is = refl
none_of (Some why) b e is = let clash : true ≡ false = e ∙ ap not is in absurd cc

pub led_there : (From : Position → Halt → Type 0) (p q : Position) (o : Option Halted) (b : Bool) → is_some o ≡ not b → b ≡ false → LeadsOn From p q o → From p (q, o)
led_there From p q None b e is led = let clash : false ≡ true = e ∙ ap not is in absurd cc
led_there From p q (Some why) b e is led = led

module _ (k : Walk) (h : Halts) (s : ℕ) (still : IsUnchanged k h) (start : IsPosition k.records k.here) (isnt : stands k s ≡ false) where
  pub come_made : (q : Position) (o : Option Halted) → IsMadeNext k h (q, o) → is_some o ≡ true → IsCome k h s (q, o)
  come_made q None made e = absurd cc
  come_made q (Some why) made e = come_halts k h s q why isnt (comes_made k h (IsComeFrom k h s) q (Some why) still start made)

  pub come_on : (j : Walk) (o : Option Halted) (r : Halt) → j ≡ at k j.here → IsMadeNext k h (j.here, o) → is_some o ≡ false → IsComeFrom j h s j.here r → IsCome k h s r
  come_on j None r moved made e come =
      come_then k h s j.here r isnt (comes_made k h (IsComeFrom k h s) j.here None still start made) (subst (λ (w : Walk). IsComeFrom w h s j.here r) moved come)
  come_on j (Some why) r moved made e come = absurd cc

-- ---- a step, as it is made

module _ (k : Walk) (h : Halts) (s : ℕ) (g : Range) (there : IsAtStep k h s) (start : IsPosition k.records k.here) (early : IsUpTo k.here k.last) where
  pub within_made : (q : Position) (o : Option Halted) → IsMadeNext k h (q, o) → is_some o ≡ true → LeadsOn (AreStepped k h s g) k.here q o
  within_made q None made e = absurd cc
  within_made q (Some why) made e = first_halts k h s g there start early q why made

  -- the walker after the step, and after those within the range
  module _ (j : Walk) (moved : j ≡ at k j.here) (made : IsMadeNext k h (j.here, None)) where
    led_as : (q : Position) (o : Option Halted) → LeadsOn (IsSteppedFrom j h s g) j.here q o → LeadsOn (IsSteppedFrom k h s g) j.here q o
    led_as q o led = same_leads k h s g j.here k.here j.here q o (subst (λ (w : Walk). LeadsOn (IsSteppedFrom w h s g) j.here q o) moved led)

    pub within_range : (q : Position) (o : Option Halted) → LeadsOn (IsSteppedFrom j h s g) j.here q o → is_some o ≡ true → LeadsOn (AreStepped k h s g) k.here q o
    within_range q None led e = absurd cc
    within_range q (Some why) led e = range_ends k h s g there start early j.here q made why (led_as q (Some why) led)

    module _ (i : Walk) (on : i ≡ at j i.here) (led : LeadsOn (IsSteppedFrom j h s g) j.here i.here None) where
      i_there : i ≡ at k i.here
      i_there = on ∙ ap (λ (w : Walk). at w i.here) moved

      pub within_come : (t : Position) (o : Option Halted) → IsComeFrom i h s i.here (t, o) → is_some o ≡ true → LeadsOn (AreStepped k h s g) k.here t o
      within_come t None come e = absurd cc
      within_come t (Some why) come e =
          come_ends k h s g there start early j.here i.here made (led_as i.here None led) t why (subst (λ (w : Walk). IsComeFrom w h s i.here (t, Some why)) i_there come)

      pub within_step : (u : Walk) (o : Option Halted) → u ≡ at i u.here → IsComeFrom i h s i.here (u.here, None) → o ≡ ends_of h s g (process_next u) → LeadsOn (AreStepped k h s g) k.here u.here o
      within_step u o to come is =
          let u_there : u ≡ at k u.here = to ∙ ap (λ (w : Walk). at w u.here) i_there in
          step_ends k h s g there start early j.here i.here made (led_as i.here None led) u.here o (subst (λ (w : Walk). IsComeFrom w h s i.here (u.here, None)) i_there come)
          (is ∙ ap (λ (w : Walk). ends_of h s g (process_next w)) u_there)

-- fewer events are left after a step
pub fewer_left : (k : Walk) (p q : Position) (o : Option Halted) → IsPosition k.records p → IsPosition k.records q → IsPosition k.records k.last → IsUpTo q k.last → (o ≡ None → IsBefore p q)
    → left_of o (events_to k q) < left_of None (events_to k p)
fewer_left k p q None i j l up later = let less : events_to k q < events_to k p = fewer_to k.records p q k.last i j l (later refl) up in omega (arith, less)
fewer_left k p q (Some why) i j l up later = omega arith
