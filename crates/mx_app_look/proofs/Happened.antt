-- The last event in which something happens is a record's own: right before it, all steps of that record are made.
use Rattle.std.proofs.Common.{◌≡◌, ◌∙◌, ◌<◌, ◌≤◌, ℕ, Bool, true, false, List, [], ◌∷◌, ◌++◌, append_assoc, Result, Ok, Err, IfOk, OnOk, Vec, Global, Option, Some, length, get_or, slice_get, ap, sym, subst, inl, inr, arith}
use Rattle.std.proofs.lemmas.Bool.{cases_lt}
use Rattle.mx_look.specs.Trace.{record_text}
use Rattle.mx_machine.specs.declared.events.Event.{Event}
use Rattle.mx_machine.specs.declared.events.Event.TheVariants as events
use Rattle.mx_machine.specs.declared.history.Record.{Record}
use Rattle.mx_machine.specs.Move.{world_after_event}
use Rattle.mx_machine.specs.World.{World}
use Rattle.mx_walk.specs.declared.positions.Position.{Position}
use Rattle.mx_walk.specs.Positions.{IsBefore, IsPosition, IsUpTo, next_event, event_in, events_before, first, next_position, steps_in, world_at}
use Rattle.mx_walk.specs.Seeking.{IsLastMarked, IsPassed, is_marked}
use Rattle.mx_walk.specs.Walks.{Walk}
use Rattle.mx_walk.proofs.Along.{any_record, at, below_here, is_few, step_there, up_trans}
use Rattle.mx_walk.proofs.Arriving.{begins}
use Rattle.mx_walk.proofs.Next.{above_inside_too, above_it, has_event, is_position_too, next_over, next_up_to, not_itself, up_to_of}
use Rattle.mx_app_look.specs.declared.happening.Happening.{Happening}
use Rattle.mx_app_look.specs.declared.sight.Sight.{Sight}
use Rattle.mx_app_look.specs.Before.{step_before, why_by}
use Rattle.mx_app_look.specs.Happenings.{happens_by, is_happening, own_record}
use Rattle.mx_app_look.specs.Places.{place_text}
use Rattle.mx_app_look.specs.Searches.{IsLastHappened, not_met, record_after}
use Rattle.mx_app_look.specs.Seeking.{IsGoneUntilBack, IsGoneUntilBackBy}
use Rattle.mx_app_look.specs.Shows.{steps_made}
use Rattle.mx_app_look.specs.Until.{has_slots, no_service, past, type_note}
use Rattle.mx_app_look.proofs.Coming.{above_by, gone, order}
use Rattle.mx_app_look.proofs.Halted.{both_hold}
use Rattle.mx_app_look.proofs.Lists.{same_rest}
use Rattle.mx_app_look.proofs.Moving.{read_is}

-- nothing happens in a step
no_step : (h : Happening) (w : World) (x : ℕ × Event) → is_marked (is_happening h) w x ≡ true → x.1 ≡ events.Step → ⊥
no_step h w x is step =
    let no : true ≡ false = sym is ∙ ap (λ (e : Event). happens_by h w x.0 (own_record e) (world_after_event w x.0 x.1)) step in cc

-- ---- the position of what is found

-- what two clauses say, the one of an answer and the other of what is there with any answer
pub both_of : {A E : Type 0} (r : Result A E) (P : A → Type 0) (X : Type 0) (R : A → Type 0) → ((a : A) → P a → X → R a) → IfOk r P → OnOk r X → IfOk r R
both_of (Ok a) P X R f p x = f a p x
both_of (Err e) P X R f p x = tt

-- ---- a walker j that is where a search back of the walker k found it

module _ (k : Walk) (h : Happening) (j : Walk) (moved : j ≡ gone k j.here) (position : IsPosition j.records j.here) (l : IsPosition k.records k.here) (found : IsLastMarked (is_happening h) k.boot k.records j.here k.here) where
  abbrev p : Position
  p = j.here

  records : j.records ≡ k.records
  records = ap (λ (w : Walk). w.records) moved

  there : IsPosition k.records p
  there = subst (λ (xs : List Record). IsPosition xs p) records position

  earlier : IsBefore p k.here
  earlier = above_by (is_happening h) k.boot k.records p k.here there l found (order p k.here)

  below : p.records < length k.records
  below = above_inside_too k.records p k.here l earlier

  event : (y : ℕ × Event) × (next_event k.records p ≡ Some y)
  event = has_event k.records p k.here l earlier

  next_early : IsUpTo (next_position k.records p) k.here
  next_early = next_up_to k.records p k.here event.0 there l event.1 (up_to_of p k.here earlier) (not_itself p k.here earlier)

  -- the event that is marked is the next
  it_is : found.0 ≡ event.0
  it_is =
      let r = begins k.records (next_position k.records p) k.here (is_position_too k.records p event.0 there event.1) l next_early in
      let es = events_before k.records p in
      let both : es ++ found.0 ∷ found.1 ≡ es ++ event.0 ∷ r.0 =
      sym found.2 ∙ r.1 ∙ ap (λ (xs : List (ℕ × Event)). xs ++ r.0) (above_it k.records p event.0 there event.1) ∙ append_assoc es (event.0 ∷ []) r.0 in
      let same : found.0 ∷ found.1 ≡ event.0 ∷ r.0 = same_rest es (found.0 ∷ found.1) (event.0 ∷ r.0) both in cc

  -- and it is no step, so all steps of its record are made
  all_made : p.steps ≡ steps_in (get_or k.records p.records any_record).event
  all_made =
      let y : Record = get_or k.records p.records any_record in
      let few : p.steps ≤ steps_in y.event = is_few k.records p.records any_record below p.steps there in
      elim (cases_lt p.steps (steps_in y.event)) [
        | inl lt ↦
            let both : Some event.0 ≡ Some (event_in p.steps y) = sym event.1 ∙ below_here k.records p.records any_record below p.steps in
            let same : event.0 ≡ event_in p.steps y = cc in
            let step : found.0.1 ≡ events.Step = ap (λ (z : ℕ × Event). z.1) (it_is ∙ same ∙ step_there k.records p.records any_record below p.steps lt) in
            absurd (no_step h (world_at k.boot k.records p) found.0 found.3 step)
        | inr ge ↦ omega (arith, few, ge)
      ]

  pub next_is : next_position k.records p ≡ past p.records
  next_is = let same = all_made in next_over k.records p.records below p.steps (omega (arith, same))

  -- what the code reads at the position q where it is
  module _ (q : Position) (here : q ≡ p) where
    pub inside_it : q.records < length j.records
    inside_it =
        let same : q.records ≡ p.records = ap (λ (r : Position). r.records) here in
        let all : length j.records ≡ length k.records = ap (λ (xs : List Record). length xs) records in
        let lt = below in omega (arith, same, all, lt)

    pub past_is_early : IsUpTo k.here k.last → IsUpTo (past q.records) j.last
    past_is_early early =
        let late : IsUpTo (past p.records) k.last = subst (λ (r : Position). IsUpTo r k.last) next_is (up_trans (next_position k.records p) k.here k.last next_early early) in
        subst (λ (r : Position). IsUpTo (past r.records) j.last) (sym here) (subst (λ (r : Position). IsUpTo (past p.records) r) (sym (ap (λ (w : Walk). w.last) moved)) late)

    pub past_is_next : past q.records ≡ next_position j.records j.here
    past_is_next = ap (λ (r : Position). past r.records) here ∙ sym next_is ∙ ap (λ (xs : List Record). next_position xs p) (sym records)

    module _ (rs : List Record) (same : rs ≡ j.records) where
      pub is_read : slice_get j.records q.records ≡ Some (get_or rs q.records any_record)
      is_read = read_is j.records q.records any_record inside_it ∙ ap (λ (xs : List Record). Some (get_or xs q.records any_record)) (sym same)

      pub is_made : j.here ≡ steps_made q.records (get_or rs q.records any_record)
      is_made =
          let steps : p ≡ steps_made p.records (get_or k.records p.records any_record) = ap (λ i. at p.records i) all_made in
          steps ∙ ap (λ (xs : List Record). steps_made p.records (get_or xs p.records any_record)) (sym (same ∙ records))
          ∙ ap (λ (r : Position). steps_made r.records (get_or rs r.records any_record)) (sym here)

      -- what the record does
      does : record_text (step_before j.boot j.records q.records (get_or rs q.records any_record)) ≡ record_after k p
      does =
          let y : Record = get_or rs q.records any_record in
          let read : slice_get k.records q.records ≡ Some y = ap (λ (xs : List Record). slice_get xs q.records) (sym records) ∙ is_read in
          ap (λ (w : Walk). record_text (step_before w.boot w.records q.records y)) moved
          ∙ ap (λ (o : Option Record). why_by k q.records o) (sym read)
          ∙ ap (λ (r : Position). record_after k r) here

      pub last_happened : (w : Walk) (out new : List ℕ) → w ≡ j → new ≡ out ++ record_text (step_before j.boot j.records q.records (get_or rs q.records any_record))
          → (text : List ℕ) × (new ≡ out ++ text) × IsLastHappened k h (w.here, text)
      last_happened w out new back added =
          let t = record_text (step_before j.boot j.records q.records (get_or rs q.records any_record)) in
          let at_it : (w.here, t) ≡ (p, record_after k p) = ap (λ (v : Walk). (v.here, t)) back ∙ ap (λ s. (p, s)) does in
          (t, added, inl (p, there, found, at_it))

-- none is found
pub none_happened : (k j : Walk) (h : Happening) (out new : List ℕ) → j.here ≡ first → IsPassed (is_happening h) k.boot k.records first k.here → new ≡ out ++ not_met
    → (text : List ℕ) × (new ≡ out ++ text) × IsLastHappened k h (j.here, text)
none_happened k j h out new at_first passed added = (not_met, added, inr (passed, ap (λ (r : Position). (r, not_met)) at_first))

-- ---- answers

pub gone_until : (s : Sight) (w v : Walk) (h : Happening) (old out text : List ℕ) → has_slots s.walker h ≡ true → w ≡ record s.walker { here = w.here } → old ≡ type_note s.walker h
    → (t : List ℕ) × (out ≡ old ++ t) × IsLastHappened s.walker h (w.here, t) → v ≡ w → text ≡ out ++ place_text w → IsGoneUntilBack s h (record s { walker = v }) text
gone_until s w v h old out text has moved noted a same placed =
    let note : List ℕ = type_note s.walker h in
    let u : Sight = record s { walker = v } in
    let there : u ≡ record s { walker = record s.walker { here = w.here } } = ap (λ (x : Walk). let i : Sight = record s { walker = x } in i) (same ∙ moved) in
    let printed : text ≡ (note ++ a.0) ++ place_text v =
    placed ∙ ap (λ (o : List ℕ). o ++ place_text w) (a.1 ∙ ap (λ (o : List ℕ). o ++ a.0) noted) ∙ ap (λ (x : Walk). (note ++ a.0) ++ place_text x) (sym same) in
    subst (λ (b : Bool). IsGoneUntilBackBy b s h u text) (sym has) ((w.here, a.0), a.2, (there, printed))

pub ungone_until : {E : Type 0} (s : Sight) (h : Happening) (r : Result (Sight × Vec ℕ Global) E) → has_slots s.walker h ≡ false → IfOk r (λ (a : Sight × Vec ℕ Global). a.0 ≡ s) → IfOk r (λ (a : Sight × Vec ℕ Global). a.1.items ≡ no_service)
    → IfOk r (λ (a : Sight × Vec ℕ Global). IsGoneUntilBack s h a.0 a.1.items)
ungone_until s h r is same text =
    subst (λ (b : Bool). IfOk r (λ (a : Sight × Vec ℕ Global). IsGoneUntilBackBy b s h a.0 a.1.items)) (sym is)
    (both_hold r (λ a. a.0 ≡ s) (λ a. a.1.items ≡ no_service) (λ a. IsGoneUntilBackBy false s h a.0 a.1.items) (λ a e t. (e, t)) same text)
