-- Steps that leave a place: within a record each is the first, or comes right after one that comes to the place.
use Rattle.std.proofs.Common.{◌≡◌, ◌≢◌, ◌∙◌, ◌⊎◌, ◌<◌, ◌≤◌, ℕ, zero, suc, ◌+◌, ◌-◌, Bool, true, false, List, [], ◌∷◌, ◌++◌, length, length-append, get_or, Option, Some, refl, ap, sym, subst, inl, inr, arith}
use Rattle.std.proofs.lemmas.Bool.{cases_lt}
use Rattle.mx_machine.specs.declared.events.Event.{Event}
use Rattle.mx_machine.specs.declared.events.Event.TheVariants as event
use Rattle.mx_machine.specs.declared.history.Record.{Record}
use Rattle.mx_machine.specs.declared.history.Recorded.{Recorded}
use Rattle.mx_machine.specs.declared.history.Recorded.TheVariants as recorded
use Rattle.mx_machine.specs.Move.{world_after_event}
use Rattle.mx_machine.specs.World.{World}
use Rattle.mx_machine.specs.Machine.{MachineState, world_of}
use Rattle.mx_walk.specs.declared.halting.Halt.{Halt}
use Rattle.mx_walk.specs.declared.halting.Halt.TheVariants.{After, Before, Nowhere}
use Rattle.mx_walk.specs.declared.positions.Position.{Position}
use Rattle.mx_walk.specs.declared.stopping.CodePlace.{CodePlace}
use Rattle.mx_walk.specs.Halting.{HaltsAt, MarksComing, is_left_next}
use Rattle.mx_walk.specs.Positions.{HasHalted, IsAt, IsBefore, IsPosition, IsUpTo, events_before, next_event, own_event, rest_of, steps_in, steps_of, world_at}
use Rattle.mx_walk.specs.Seeking.{IsFirstMarked, IsPassed, NoneMarked}
use Rattle.mx_walk.specs.Stopping.{comes_any, leaves_any}
use Rattle.mx_walk.specs.Walks.{IsLast}
use Rattle.mx_walk.proofs.Along.{all_above, any_record, at, below_here, is_few, is_position, itself, more_above, step_there, up_trans}
use Rattle.mx_walk.proofs.Arriving.{arrives_by, begins, halted_up}
use Rattle.mx_walk.proofs.Made.{replicate_both}
use Rattle.mx_walk.proofs.Meeting.{not_empty, snoc_same}
use Rattle.mx_walk.proofs.Next.{above_inside_too, above_trans}
use Rattle.mx_walk.proofs.Passing.{found_more, passed_more}
use Rattle.mx_walk.proofs.Stretches.{fewer_before}

same_rest : {X : Type 0} (xs ys zs : List X) → xs ++ ys ≡ xs ++ zs → ys ≡ zs
same_rest [] ys zs e = e
same_rest (x ∷ xs) ys zs e = let t : xs ++ ys ≡ xs ++ zs = cc in same_rest xs ys zs t

-- all but the last
front : (f : World → ℕ × Event → World → Bool) (w : World) (xs : List (ℕ × Event)) (y : ℕ × Event) → NoneMarked f w (xs ++ y ∷ []) → NoneMarked f w xs
front f w [] y h = tt
front f w (x ∷ xs) y h = (h.0, front f (world_after_event w x.0 x.1) xs y h.1)

-- ---- the order of positions, by the events before them

order : (p q : Position) → IsUpTo p q ⊎ IsBefore q p
order p q = elim (cases_lt p.records q.records) [
  | inl lt ↦ inl (inl lt)
  | inr ge ↦ elim (cases_lt q.records p.records) [
    | inl lt ↦ inr (inl lt)
    | inr le ↦
        let a : p.records ≡ q.records = omega (arith, ge, le) in
        elim (cases_lt q.steps p.steps) [
          | inl lt ↦ inr (inr (sym a, lt))
          | inr few ↦ inl (inr (a, few))
        ]
  ]
]

pub up_by_events : (records : List Record) (p q : Position) (es : List (ℕ × Event)) → IsPosition records p → IsPosition records q → events_before records q ≡ events_before records p ++ es → IsUpTo p q
up_by_events records p q es h g e = elim (order p q) [
  | inl up ↦ up
  | inr lt ↦
      let n : length (events_before records q) ≡ length (events_before records p) + length es = ap (λ (xs : List (ℕ × Event)). length xs) e ∙ length-append (events_before records p) es in
      absurd (omega (arith, n, fewer_before records q p g h lt))
]

-- how many are left before the end of a way
pub fewer_to : (records : List Record) (p q to : Position) → IsPosition records p → IsPosition records q → IsPosition records to → IsBefore p q → IsUpTo q to
    → length (events_before records to) - length (events_before records q) < length (events_before records to) - length (events_before records p)
fewer_to records p q to h g t lt le =
    let r = begins records q to g t le in
    let n : length (events_before records to) ≡ length (events_before records q) + length r.0 = ap (λ (xs : List (ℕ × Event)). length xs) r.1 ∙ length-append (events_before records q) r.0 in
    omega (arith, n, fewer_before records p q h g lt)

-- ---- steps in a row

module _ (ps : List CodePlace) where
  -- a record's own event is no step
  own_unleft : (r : Recorded) (a : ℕ) (w u : World) → leaves_any ps w (a, own_event r) u ≡ false
  own_unleft recorded.Take a w u = refl
  own_unleft (recorded.Back n) a w u = refl
  own_unleft (recorded.Line l) a w u = refl
  own_unleft recorded.Tick a w u = refl
  own_unleft (recorded.Kill e) a w u = refl
  own_unleft (recorded.Respawn s) a w u = refl

  -- steps of which none comes to a place, where the first leaves none
  steps_unleft : (a m : ℕ) (w : World) → (0 < m → leaves_any ps w (a, event.Step) w ≡ false) → NoneMarked (comes_any ps) w (steps_of a m) → NoneMarked (leaves_any ps) w (steps_of a m)
  steps_unleft a zero w first h = tt
  steps_unleft a (suc m) w first h = (first (omega arith), steps_unleft a m (world_after_event w a event.Step) (λ _. h.0) h.1)

  -- and one more, whether it comes to one or not
  step_more : (a m : ℕ) (w : World) → leaves_any ps w (a, event.Step) w ≡ false → NoneMarked (comes_any ps) w (steps_of a m) → NoneMarked (leaves_any ps) w (steps_of a (suc m))
  step_more a zero w first h = (first, tt)
  step_more a (suc m) w first h = (first, step_more a m (world_after_event w a event.Step) h.0 h.1)

  -- or the record's own event
  own_more : (r : Recorded) (a m : ℕ) (w : World) → (0 < m → leaves_any ps w (a, event.Step) w ≡ false) → NoneMarked (comes_any ps) w (steps_of a m)
      → NoneMarked (leaves_any ps) w (steps_of a m ++ (a, own_event r) ∷ [])
  own_more r a zero w first h = (own_unleft r a w (world_after_event w a (own_event r)), tt)
  own_more r a (suc m) w first h = (first (omega arith), own_more r a m (world_after_event w a event.Step) (λ _. h.0) h.1)

  -- ---- what isn't marked doesn't come to a place

  module _ (f : World → ℕ × Event → World → Bool) (coming : MarksComing f ps) where
    not_by : (b c : Bool) → (b ≡ true → c ≡ true) → c ≡ false → b ≡ false
    not_by false c h e = refl
    not_by true c h e = let no : true ≡ false = sym (h refl) ∙ e in absurd cc

    none_comes : (w : World) (xs : List (ℕ × Event)) → NoneMarked f w xs → NoneMarked (comes_any ps) w xs
    none_comes w [] h = tt
    none_comes w (x ∷ xs) h =
        let u = world_after_event w x.0 x.1 in
        (not_by (comes_any ps w x u) (f w x u) (coming w x u) h.0, none_comes u xs h.1)

    -- ---- from a position in a record on, at most to its end

    module _ (boot : World) (records : List Record) (k : ℕ) (b : k < length records) (j : ℕ) (few : j ≤ steps_in (get_or records k any_record).event)
        (unleft : is_left_next ps (world_at boot records (at k j)) (next_event records (at k j)) ≡ false) where
      abbrev x : Record
      x = get_or records k any_record

      abbrev w : World
      w = world_at boot records (at k j)

      first_unleft : j < steps_in x.event → leaves_any ps w (x.actor, event.Step) w ≡ false
      first_unleft lt =
          let e : next_event records (at k j) ≡ Some (x.actor, event.Step) = below_here records k any_record b j ∙ ap (λ (y : ℕ × Event). Some y) (step_there records k any_record b j lt) in
          ap (λ (o : Option (ℕ × Event)). is_left_next ps w o) (sym e) ∙ unleft

      -- which events are before the position that one comes to
      abbrev Comes : Position → Type 0
      Comes q = ((m : ℕ) × (j + m ≤ steps_in x.event) × (events_before records q ≡ events_before records (at k j) ++ steps_of x.actor m))
          ⊎ (events_before records q ≡ events_before records (at k j) ++ rest_of j x)

      comes_to : (q : Position) → IsPosition records q → IsUpTo (at k j) q → IsUpTo q (at (k + 1) 0) → Comes q
      comes_to q h (inl lt) (inl le) = absurd (omega (arith, lt, le))
      comes_to q h (inr s) (inl le) =
          let j_le : j ≤ q.steps = s.1 in
          let sum : j + (q.steps - j) ≡ q.steps = omega (arith, j_le) in
          let same : at k (j + (q.steps - j)) ≡ q = ap (λ i. at k i) sum ∙ ap (λ r. at r q.steps) s.0 in
          let l : j + (q.steps - j) ≤ steps_in x.event = is_few records k any_record b (j + (q.steps - j)) (subst (λ (p : Position). IsPosition records p) (sym same) h) in
          inl (q.steps - j, l, ap (λ (p : Position). events_before records p) (sym same) ∙ sym (more_above records k any_record b j (q.steps - j)))
      comes_to q h up (inr s) =
          let none : q.steps ≡ 0 = let i = s.1 in omega (arith, i) in
          let same : at (k + 1) 0 ≡ q = ap (λ i. at i 0) (sym s.0) ∙ ap (λ i. at q.records i) (sym none) in
          inr (ap (λ (p : Position). events_before records p) (sym same) ∙ sym (all_above records k any_record b j few))

      passed_by : (q : Position) → Comes q → IsPassed f boot records (at k j) q → IsPassed (leaves_any ps) boot records (at k j) q
      passed_by q (inl c) s =
          let same : s.0 ≡ steps_of x.actor c.0 = same_rest (events_before records (at k j)) s.0 (steps_of x.actor c.0) (sym s.1 ∙ c.2) in
          let none : NoneMarked f w (steps_of x.actor c.0) = subst (λ (es : List (ℕ × Event)). NoneMarked f w es) same s.2 in
          (steps_of x.actor c.0, c.2, steps_unleft x.actor c.0 w (λ some. first_unleft (let le = c.1 in omega (arith, some, le))) (none_comes w (steps_of x.actor c.0) none))
      passed_by q (inr e) s =
          let n = steps_in x.event in
          let same : s.0 ≡ rest_of j x = same_rest (events_before records (at k j)) s.0 (rest_of j x) (sym s.1 ∙ e) in
          let none : NoneMarked f w (rest_of j x) = subst (λ (es : List (ℕ × Event)). NoneMarked f w es) same s.2 in
          let come : NoneMarked (comes_any ps) w (steps_of x.actor (n - j)) = front (comes_any ps) w (steps_of x.actor (n - j)) (x.actor, own_event x.event) (none_comes w (rest_of j x) none) in
          (rest_of j x, e, own_more x.event x.actor (n - j) w (λ some. first_unleft (omega (arith, some))) come)

      last_step : (i : ℕ) → steps_of x.actor (suc i) ≡ steps_of x.actor i ++ (x.actor, event.Step) ∷ []
      last_step i = let e : suc i ≡ i + 1 = omega arith in ap (λ c. steps_of x.actor c) e ∙ replicate_both i 1 (x.actor, event.Step)

      found_in : (q : Position) (m : ℕ) → j + m ≤ steps_in x.event → events_before records q ≡ events_before records (at k j) ++ steps_of x.actor m → IsFirstMarked f boot records (at k j) q
          → IsPassed (leaves_any ps) boot records (at k j) q
      found_in q zero le e s =
          let same : s.0 ++ s.1 ∷ [] ≡ [] = same_rest (events_before records (at k j)) (s.0 ++ s.1 ∷ []) [] (sym s.2 ∙ e) in
          absurd (not_empty s.0 s.1 (sym same))
      found_in q (suc m) le e s =
          let same : s.0 ++ s.1 ∷ [] ≡ steps_of x.actor (suc m) = same_rest (events_before records (at k j)) (s.0 ++ s.1 ∷ []) (steps_of x.actor (suc m)) (sym s.2 ∙ e) in
          let fronts : s.0 ≡ steps_of x.actor m = (snoc_same s.0 (steps_of x.actor m) s.1 (x.actor, event.Step) (same ∙ last_step m)).0 in
          let none : NoneMarked f w (steps_of x.actor m) = subst (λ (es : List (ℕ × Event)). NoneMarked f w es) fronts s.3 in
          (steps_of x.actor (suc m), e, step_more x.actor m w (first_unleft (omega (arith, le))) (none_comes w (steps_of x.actor m) none))

      found_by : (q : Position) → Comes q → IsFirstMarked f boot records (at k j) q → IsPassed (leaves_any ps) boot records (at k j) q
      found_by q (inl c) s = found_in q c.0 c.1 c.2 s
      found_by q (inr e) s =
          let n = steps_in x.event in
          let same : s.0 ++ s.1 ∷ [] ≡ rest_of j x = same_rest (events_before records (at k j)) (s.0 ++ s.1 ∷ []) (rest_of j x) (sym s.2 ∙ e) in
          let fronts : s.0 ≡ steps_of x.actor (n - j) = (snoc_same s.0 (steps_of x.actor (n - j)) s.1 (x.actor, own_event x.event) same).0 in
          let none : NoneMarked f w (steps_of x.actor (n - j)) = subst (λ (es : List (ℕ × Event)). NoneMarked f w es) fronts s.3 in
          (rest_of j x, e, own_more x.event x.actor (n - j) w (λ some. first_unleft (omega (arith, some))) (none_comes w (steps_of x.actor (n - j)) none))

      here : IsPosition records (at k j)
      here = is_position records k any_record b j few

      pub stretch_passed : (q : Position) → IsPosition records q → IsUpTo q (at (k + 1) 0) → IsPassed f boot records (at k j) q → IsPassed (leaves_any ps) boot records (at k j) q
      stretch_passed q h le s = passed_by q (comes_to q h (up_by_events records (at k j) q s.0 here h s.1) le) s

      pub stretch_found : (q : Position) → IsPosition records q → IsUpTo q (at (k + 1) 0) → IsFirstMarked f boot records (at k j) q → IsPassed (leaves_any ps) boot records (at k j) q
      stretch_found q h le s = found_by q (comes_to q h (up_by_events records (at k j) q (s.0 ++ s.1 ∷ []) here h s.2) le) s

-- ---- a search by stretches

module _ (f : World → ℕ × Event → World → Bool) (ps : List CodePlace) (boot : World) (records : List Record) (from to p : Position) (to_is : IsPosition records to)
    (passed : IsPassed f boot records from p) (unleft : IsPassed (leaves_any ps) boot records from p) (m : MachineState) (there : IsAt boot records p m) (up : IsUpTo from p) (lt : IsBefore p to) where
  abbrev Marks : Type 0
  Marks = World → ℕ × Event → World → Bool

  next_is : (r : Bool) → r ≡ is_left_next ps (world_of m) (next_event records p) → is_left_next ps (world_at boot records p) (next_event records p) ≡ r
  next_is r e = sym (ap (λ (w : World). is_left_next ps w (next_event records p)) there.made.world) ∙ sym e

  pub halts_before : (r : Bool) → r ≡ is_left_next ps (world_of m) (next_event records p) → r ≡ true → HaltsAt f ps boot records from to p Before
  halts_before r e is = (passed, next_is r e ∙ is, lt)

  module _ (coming : MarksComing f ps) (r : Bool) (e : r ≡ is_left_next ps (world_of m) (next_event records p)) (no : r ≡ false)
      (end : Position) (end_is : IsPosition records end) (early : IsUpTo end to) (one : IsUpTo end (at (p.records + 1) 0)) (g : Marks) (same : g ≡ f)
      (q : Position) (n : MachineState) (at_q : IsAt m.kernel.boot records q n) where
    inside : p.records < length records
    inside = above_inside_too records p to to_is lt

    few : p.steps ≤ steps_in (get_or records p.records any_record).event
    few = is_few records p.records any_record inside p.steps there.position

    first : is_left_next ps (world_at boot records p) (next_event records p) ≡ false
    first = next_is r e ∙ no

    pub come_there : IsAt boot records q n
    come_there = subst (λ (w : World). IsAt w records q n) there.booted at_q

    -- it found a marked event
    module _ (s : IsFirstMarked g m.kernel.boot records p q × IsUpTo q end) where
      found : IsFirstMarked f boot records p q
      found = subst (λ (i : Marks). IsFirstMarked i boot records p q) same (subst (λ (w : World). IsFirstMarked g w records p q) there.booted s.0)

      pub found_up : IsUpTo p q
      found_up = up_by_events records p q (found.0 ++ found.1 ∷ []) there.position at_q.position found.2

      pub found_early : IsUpTo q to
      found_early = up_trans q end to s.1 early

      pub halts_after : HaltsAt f ps boot records from to q After
      halts_after = (found_more f boot records p q from passed found, found_early)

      pub found_unleft : IsPassed (leaves_any ps) boot records from q
      found_unleft =
          passed_more (leaves_any ps) boot records p q from unleft
          (stretch_found ps f coming boot records p.records inside p.steps few first q at_q.position (up_trans q end (at (p.records + 1) 0) s.1 one) found)

    -- or none
    module _ (s : IsPassed g m.kernel.boot records p q × HasHalted m.kernel.boot records end q) where
      on : IsPassed f boot records p q
      on = subst (λ (i : Marks). IsPassed i boot records p q) same (subst (λ (w : World). IsPassed g w records p q) there.booted s.0)

      up_end : IsUpTo q end
      up_end = halted_up m.kernel.boot records end q s.1

      pub passed_up : IsUpTo p q
      passed_up = up_by_events records p q on.0 there.position at_q.position on.1

      pub passed_early : IsUpTo q to
      passed_early = up_trans q end to up_end early

      pub passed_there : IsPassed f boot records from q
      passed_there = passed_more f boot records p q from passed on

      pub passed_unleft : IsPassed (leaves_any ps) boot records from q
      passed_unleft =
          passed_more (leaves_any ps) boot records p q from unleft
          (stretch_passed ps f coming boot records p.records inside p.steps few first q at_q.position (up_trans q end (at (p.records + 1) 0) up_end one) on)

      by_halt : HasHalted boot records end q → q ≢ end → HasHalted boot records to q
      by_halt (inl h) other = absurd (other h)
      by_halt (inr h) other = inr (above_trans q end to h.0 early, h.1)

      pub halts_nowhere : q ≢ end → HaltsAt f ps boot records from to q Nowhere
      halts_nowhere other = (passed_there, by_halt (subst (λ (w : World). HasHalted w records end q) there.booted s.1) other)

-- at the end of the way
pub halts_at_end : (f : World → ℕ × Event → World → Bool) (ps : List CodePlace) (boot : World) (records : List Record) (from to p : Position) → IsPassed f boot records from p → p ≡ to → HaltsAt f ps boot records from to p Nowhere
halts_at_end f ps boot records from to p passed e = (passed, inl e)

-- a walker that found nothing is at its last position
pub nowhere_last : (f : World → ℕ × Event → World → Bool) (ps : List CodePlace) (boot : World) (records : List Record) (from last p : Position) (m : MachineState) (halt : Halt) → IsLast boot records last → IsAt boot records p m
    → HaltsAt f ps boot records from last p halt → halt ≡ Nowhere → p ≡ last
nowhere_last f ps boot records from last p m Before l there h e = absurd cc
nowhere_last f ps boot records from last p m After l there h e = absurd cc
nowhere_last f ps boot records from last p m Nowhere l there h e = arrives_by boot records p last last there.position l (itself last) h.1
