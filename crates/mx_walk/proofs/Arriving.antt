-- A walker comes to each position that isn't after its last.
use Rattle.std.proofs.Common.{◌≡◌, ◌≢◌, ◌∙◌, ◌≤◌, ◌⊎◌, ℕ, zero, suc, List, [], ◌∷◌, ◌++◌, length, append_assoc, Some, None, ap, sym, subst, inl, inr, arith}
use Rattle.std.proofs.lemmas.Bool.{cases_lt}
use Rattle.std.proofs.lemmas.List.{append-nil}
use Rattle.mx_machine.specs.declared.events.Event.{Event}
use Rattle.mx_machine.specs.declared.history.Record.{Record}
use Rattle.mx_machine.specs.History.{AreAccepted, world_after_events}
use Rattle.mx_machine.specs.Move.{event_refusal, world_after_event}
use Rattle.mx_machine.specs.World.{World}
use Rattle.mx_machine.specs.Machine.{MachineState, world_of}
use Rattle.mx_walk.specs.declared.positions.Position.{Position}
use Rattle.mx_walk.specs.Positions.{HasHalted, IsBefore, IsAt, IsBlocked, IsPosition, IsStuck, IsUpTo, next_event, events_before, events_left, first, next_position, world_at}
use Rattle.mx_walk.specs.Walks.{IsLast, refusal_of}
use Rattle.mx_walk.proofs.Along.{at, itself, none_above}
use Rattle.mx_walk.proofs.Made.{none_made, made_as}
use Rattle.mx_walk.proofs.Next.{above_it, above_to, above_trans, at_end, fewer_left, has_event, is_position_too, next_up_to, not_itself, up_to_of}

-- ---- the first position

pub at_first : (records : List Record) (boot : World) (m : MachineState) → m.kernel.boot ≡ boot → world_of m ≡ boot → IsAt boot records first m
at_first records boot m e world = record {
  position = record { earlier = omega arith; inside = omega arith };
  booted = e;
  made = made_as boot (world_of m) [] (events_before records first) (sym (none_above records)) (none_made boot (world_of m) world);
}

pub first_up_to : (p : Position) → IsUpTo first p
first_up_to p = elim (cases_lt 0 p.records) [
  | inl lt ↦ inl lt
  | inr ge ↦ let same : 0 ≡ p.records = omega (arith, ge) in let few : 0 ≤ p.steps = omega arith in inr (same, few)
]

-- ---- the order of positions

abbrev Ordered : Position → Position → Type 0
Ordered p q = (p ≡ q) ⊎ IsBefore p q

ordered : (p q : Position) → IsUpTo p q → Ordered p q
ordered p q (inl lt) = inr (inl lt)
ordered p q (inr h) = elim (cases_lt p.steps q.steps) [
  | inl lt ↦ inr (inr (h.0, lt))
  | inr ge ↦
      let a = h.0 in let i = h.1 in
      let s : p.steps ≡ q.steps = omega (arith, i, ge) in
      inl (ap (λ r. at r p.steps) a ∙ ap (λ j. at q.records j) s)
]

-- ---- what is before a position begins what is before a later one

abbrev Begins : List Record → Position → Position → Type 0
Begins records p q = (rest : List (ℕ × Event)) × (events_before records q ≡ events_before records p ++ rest)

next_begins : (n : ℕ) (records : List Record) (p q : Position) (x : ℕ × Event) → events_left records p ≤ suc n → IsPosition records p → IsPosition records q → IsBefore p q → next_event records p ≡ Some x
    → ((r : Position) → events_left records r ≤ n → IsPosition records r → IsUpTo r q → Begins records r q)
    → (rest : List (ℕ × Event)) × (events_before records q ≡ events_before records p ++ x ∷ rest)
next_begins n records p q x few h g lt e again =
    let r = again (next_position records p) (omega (arith, few, fewer_left records p x h e)) (is_position_too records p x h e) (next_up_to records p q x h g e (up_to_of p q lt) (not_itself p q lt)) in
    (r.0, r.1 ∙ ap (λ (es : List (ℕ × Event)). es ++ r.0) (above_it records p x h e) ∙ append_assoc (events_before records p) (x ∷ []) r.0)

begins_by : (n : ℕ) (records : List Record) (p q : Position) → events_left records p ≤ n → IsPosition records p → IsPosition records q → IsUpTo p q → Begins records p q
begins_by zero records p q few h g le = elim (ordered p q le) [
  | inl e ↦ ([], ap (λ (r : Position). events_before records r) (sym e) ∙ sym (append-nil (events_before records p)))
  | inr lt ↦ let x = has_event records p q g lt in absurd (omega (arith, few, fewer_left records p x.0 h x.1))
]
begins_by (suc n) records p q few h g le = elim (ordered p q le) [
  | inl e ↦ ([], ap (λ (r : Position). events_before records r) (sym e) ∙ sym (append-nil (events_before records p)))
  | inr lt ↦
      let x = has_event records p q g lt in
      let r = next_begins n records p q x.0 few h g lt x.1 (λ r few' h' le'. begins_by n records r q few' h' g le') in
      (x.0 ∷ r.0, r.1)
]

pub begins : (records : List Record) (p q : Position) → IsPosition records p → IsPosition records q → IsUpTo p q → Begins records p q
begins records p q h g le = begins_by (events_left records p) records p q (omega arith) h g le

-- ---- an event before the last position isn't refused

accepted_rest : (w : World) (xs ys : List (ℕ × Event)) → AreAccepted w (xs ++ ys) → AreAccepted (world_after_events w xs) ys
accepted_rest w [] ys a = a
accepted_rest w (x ∷ xs) ys a = accepted_rest (world_after_event w x.0 x.1) xs ys a.1

pub is_accepted : (boot : World) (records : List Record) (p q : Position) (x : ℕ × Event) → IsPosition records p → IsPosition records q → IsBefore p q → next_event records p ≡ Some x → AreAccepted boot (events_before records q)
    → event_refusal (world_at boot records p) x.0 x.1 ≡ None
is_accepted boot records p q x h g lt e a =
    let r = next_begins (events_left records p) records p q x (omega arith) h g lt e (λ r few h' le. begins records r q h' g le) in
    (accepted_rest boot (events_before records p) (x ∷ r.0) (subst (λ (es : List (ℕ × Event)). AreAccepted boot es) r.1 a)).0

pub not_blocked : (boot : World) (records : List Record) (p q : Position) → IsPosition records p → IsPosition records q → IsBefore p q → AreAccepted boot (events_before records q) → IsBlocked boot records p → ⊥
not_blocked boot records p q h g lt a blocked =
    let ok = is_accepted boot records p q blocked.0 h g lt blocked.1 a in
    let no : None ≡ Some blocked.2.0 = sym ok ∙ blocked.2.1 in cc

pub arrives_by : (boot : World) (records : List Record) (p to : Position) (last : Position) → IsPosition records p → IsLast boot records last → IsUpTo to last → HasHalted boot records to p → p ≡ to
arrives_by boot records p to last h l le (inl e) = e
arrives_by boot records p to last h l le (inr s) = absurd (not_blocked boot records p last h l.position (above_trans p to last s.0 le) l.accepted s.1)

-- who halts on the way to a position isn't after it
pub halted_up : (boot : World) (records : List Record) (to p : Position) → HasHalted boot records to p → IsUpTo p to
halted_up boot records to p (inl e) = subst (λ (q : Position). IsUpTo p q) e (itself p)
halted_up boot records to p (inr h) = up_to_of p to h.0

-- who goes to a position that isn't after the last arrives there
pub arrives : (boot : World) (records : List Record) (p to last : Position) (m : MachineState) → IsLast boot records last → IsUpTo to last → IsAt boot records p m → HasHalted boot records to p → IsAt boot records to m
arrives boot records p to last m l le there halted = subst (λ (q : Position). IsAt boot records q m) (arrives_by boot records p to last there.position l le halted) there

-- ---- the last position is where one halts that goes to the end

stuck_by : (boot : World) (records : List Record) (p : Position) (end : Position) → end ≡ at (length records) 0 → HasHalted boot records end p → IsStuck boot records p
stuck_by boot records p end e (inl same) =
    let over : length records ≤ p.records = let s : p.records ≡ length records = ap (λ (x : Position). x.records) (same ∙ e) in omega (arith, s) in
    inl (at_end records p over)
stuck_by boot records p end e (inr s) = inr s.1

pub is_last : (boot : World) (records : List Record) (p end : Position) (m : MachineState) → end ≡ at (length records) 0 → IsAt boot records p m → HasHalted boot records end p → IsLast boot records p
is_last boot records p end m e there halted = record { position = there.position; accepted = there.made.accepted; stuck = stuck_by boot records p end e halted }

-- above the last position nothing is refused
pub none_refused : (boot : World) (records : List Record) (p last : Position) → IsPosition records p → IsLast boot records last → IsUpTo p last → p ≢ last
    → refusal_of (world_at boot records p) (next_event records p) ≡ None
none_refused boot records p last h l le other =
    let lt = above_to p last le other in
    let x = has_event records p last l.position lt in
    ap (refusal_of (world_at boot records p)) x.1 ∙ is_accepted boot records p last x.0 h l.position lt x.1 l.accepted
