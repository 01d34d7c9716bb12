-- A search back by stretches, of which each ends where the next one begins.
use Rattle.std.proofs.Common.{◌≡◌, ◌∙◌, ◌<◌, ◌≤◌, ◌+◌, ◌-◌, ℕ, Bool, true, false, true≢false, List, [], ◌∷◌, ◌++◌, length, length-append, Option, Some, None, ap, sym, subst, inl, inr, arith}
use Rattle.std.specs.Prelude.{is_some}
use Rattle.mx_machine.specs.declared.events.Event.{Event}
use Rattle.mx_machine.specs.declared.history.Record.{Record}
use Rattle.mx_machine.specs.World.{World}
use Rattle.mx_machine.specs.Machine.{MachineState}
use Rattle.mx_walk.specs.declared.positions.Position.{Position}
use Rattle.mx_walk.specs.declared.progress.Part.{Part}
use Rattle.mx_walk.specs.Parts.{parts_between}
use Rattle.mx_walk.specs.Positions.{HasHalted, IsAt, IsBefore, IsPosition, IsUpTo, events_before, first, next_position}
use Rattle.mx_walk.specs.Seeking.{HasSoughtBack, IsPassed}
use Rattle.mx_walk.specs.Walks.{IsLast}
use Rattle.mx_walk.proofs.Along.{up_trans}
use Rattle.mx_walk.proofs.Arriving.{arrives_by, begins}
use Rattle.mx_walk.proofs.Next.{above_it, has_event, is_position_too, next_up_to, not_itself, up_to_of}
use Rattle.mx_walk.proofs.Passing.{last_more, passed_more}
use Rattle.mx_walk.proofs.PartsShown.{then_between}
use Rattle.mx_walk.proofs.Shown.{records_up}

pub up_before : (p q r : Position) → IsUpTo p q → IsBefore q r → IsBefore p r
up_before p q r (inl a) (inl b) = let c : p.records < r.records = omega (arith, a, b) in inl c
up_before p q r (inl a) (inr b) = let e = b.0 in let c : p.records < r.records = omega (arith, a, e) in inl c
up_before p q r (inr a) (inl b) = let e = a.0 in let c : p.records < r.records = omega (arith, e, b) in inl c
up_before p q r (inr a) (inr b) =
    let e = a.0 in let f = b.0 in let i = a.1 in let j = b.1 in
    let c : p.records ≡ r.records = omega (arith, e, f) in
    let d : p.steps < r.steps = omega (arith, i, j) in inr (c, d)

-- fewer events are before a position than before a later one
pub fewer_before : (records : List Record) (p q : Position) → IsPosition records p → IsPosition records q → IsBefore p q → length (events_before records p) < length (events_before records q)
fewer_before records p q h g lt =
    let x = has_event records p q g lt in
    let next = next_position records p in
    let r = begins records next q (is_position_too records p x.0 h x.1) g (next_up_to records p q x.0 h g x.1 (up_to_of p q lt) (not_itself p q lt)) in
    let a : length (events_before records q) ≡ length (events_before records next) + length r.0 = ap (λ (es : List (ℕ × Event)). length es) r.1 ∙ length-append (events_before records next) r.0 in
    let b : length (events_before records next) ≡ length (events_before records p) + 1 = ap (λ (es : List (ℕ × Event)). length es) (above_it records p x.0 h x.1) ∙ length-append (events_before records p) (x.0 ∷ []) in
    omega (arith, a, b)

abbrev Marks : Type 0
Marks = World → ℕ × Event → World → Bool

module _ (f : Marks) (boot : World) (records : List Record) (here : Position) where
  kept : (from end : Position) (o : Option Position) → IsPassed f boot records end here → HasSoughtBack f boot records end from end o → HasSoughtBack f boot records here from end o
  kept from end None after h = passed_more f boot records end here from h after
  kept from end (Some p) after h = (h.0, h.1, last_more f boot records end here p h.2 after)

  -- a stretch has the last event
  pub is_found : (from end : Position) (o : Option Position) → is_some o ≡ true → HasSoughtBack f boot records here from end o → HasSoughtBack f boot records here first end o
  is_found from end None e h = absurd (true≢false (sym e))
  is_found from end (Some p) e h = h

  -- or it has none
  pub isnt_found : (from end : Position) (o : Option Position) → is_some o ≡ false → HasSoughtBack f boot records here from end o → IsPassed f boot records from here
  isnt_found from end None e h = h
  isnt_found from end (Some p) e h = absurd (true≢false e)

  module _ (last : Position) (l : IsLast boot records last) (le : IsUpTo here last) (a n : MachineState) (end reached : Position) (same : a.kernel.boot ≡ boot) (up : IsUpTo end here)
      (there : IsAt a.kernel.boot records reached n) (halted : HasHalted a.kernel.boot records end reached) where
    -- the machine comes to the end of a stretch
    pub arrived : reached ≡ end
    arrived = arrives_by boot records reached end last there.position l (up_trans end here last up le) (subst (λ (w : World). HasHalted w records end reached) same halted)

    pub at_end_of : IsAt boot records end n
    at_end_of = subst (λ (p : Position). IsAt boot records p n) arrived (subst (λ (w : World). IsAt w records reached n) same there)

    -- and what it found is the last event up to where the search began
    pub sought : (g : Marks) (from : Position) (o : Option Position) → g ≡ f → IsPassed f boot records end here → HasSoughtBack g a.kernel.boot records reached from reached o → HasSoughtBack f boot records here from end o
    sought g from o e after h =
        let by_boot : HasSoughtBack g boot records reached from reached o = subst (λ (w : World). HasSoughtBack g w records reached from reached o) same h in
        let by_mark : HasSoughtBack f boot records reached from reached o = subst (λ (i : Marks). HasSoughtBack i boot records reached from reached o) e by_boot in
        kept from end o after (subst (λ (p : Position). HasSoughtBack f boot records p from p o) arrived by_mark)

-- ---- what is shown

pub stretch_shown : (all shown : ℕ) (here end from reached : Position) (before now then : List Part) → shown ≡ here.records - end.records → reached ≡ end → IsUpTo from end → IsUpTo end here
    → now ≡ before ++ parts_between all 0 shown → then ≡ now ++ parts_between all shown (shown + (reached.records - from.records)) → then ≡ before ++ parts_between all 0 (here.records - from.records)
stretch_shown all shown here end from reached before now then so_far arrived a b had more =
    let le = records_up from end a in
    let ge = records_up end here b in
    let same : reached.records ≡ end.records = ap (λ (p : Position). p.records) arrived in
    let sum : shown + (reached.records - from.records) ≡ here.records - from.records = omega (arith, so_far, same, le, ge) in
    let few : shown ≤ shown + (reached.records - from.records) = omega arith in
    then_between all 0 shown (shown + (reached.records - from.records)) before now then (omega arith) few had more
    ∙ ap (λ i. before ++ parts_between all 0 i) sum
