-- From one position to the next, and the events on the way from one to another.
use Rattle.std.proofs.Common.{◌≡◌, ◌∙◌, ◌+◌, ℕ, Bool, true, false, cond, List, [], ◌∷◌, ◌++◌, append_assoc, append-nil, length, length-append, MatchOption, nat_eq, nat_le, nat_lt, Option, Some, None, ap, sym, inl, inr, arith}
use Rattle.std.proofs.lemmas.Bool.{eq-eqb, le-ltb, lt-leb, ne_eqb}
use Rattle.mx_machine.specs.declared.events.Event.{Event}
use Rattle.mx_machine.specs.declared.history.Record.{Record}
use Rattle.mx_machine.specs.History.{world_after_events}
use Rattle.mx_machine.specs.World.{World}
use Rattle.mx_walk.specs.declared.positions.Position.{Position}
use Rattle.mx_walk.specs.Positions.{IsBefore, IsPosition, IsUpTo, events_before, is_up_to, next_event, next_position, position_before, world_at}
use Rattle.mx_walk.specs.Seeking.{IsFirstMarked}
use Rattle.mx_walk.specs.Walks.{Walk}
use Rattle.mx_walk.proofs.Along.{any_record, is_few}
use Rattle.mx_walk.proofs.Along.{at as placed}
use Rattle.mx_walk.proofs.Arriving.{begins}
use Rattle.mx_walk.proofs.Made.{after_both}
use Rattle.mx_walk.proofs.Meeting.{above_first, snoc_same}
use Rattle.mx_walk.proofs.Next.{above_inside_too, above_it, above_to, back_next, has_event, is_position_too, next_up_to, not_itself, up_to_of}
use Rattle.mx_walk.proofs.Unleft.{up_by_events}
use Rattle.mx_app_look.specs.Searches.{next_made}
use Rattle.mx_app_gdb.specs.Moves.{at}

pub match_weaker : {A : Type 0} (o : Option A) (N M : Type 0) (S T : A → Type 0) → (N → M) → ((a : A) → S a → T a) → MatchOption o N S → MatchOption o M T
match_weaker None N M S T f g h = f h
match_weaker (Some a) N M S T f g h = g a h

-- what two lists have after the same elements
pub same_rest : {X : Type 0} (xs ys zs : List X) → xs ++ ys ≡ xs ++ zs → ys ≡ zs
same_rest [] ys zs e = e
same_rest (x ∷ xs) ys zs e = let t : xs ++ ys ≡ xs ++ zs = cc in same_rest xs ys zs t

-- ---- the order of positions

test_before : (p q : Position) → IsBefore p q → is_up_to q p ≡ false
test_before p q (inl lt) =
    let other : nat_eq q.records p.records ≡ false = ne_eqb q.records p.records (λ e. omega (arith, e, lt)) in
    ap (λ c. cond c (nat_le q.steps p.steps) (nat_lt q.records p.records)) other ∙ le-ltb q.records p.records (omega (arith, lt))
test_before p q (inr h) =
    let same : nat_eq q.records p.records ≡ true = eq-eqb q.records p.records (sym h.0) in
    ap (λ c. cond c (nat_le q.steps p.steps) (nat_lt q.records p.records)) same ∙ lt-leb q.steps p.steps h.1

-- before the last position, the event after one can be made
pub made_before : (k : Walk) (p : Position) → IsBefore p k.last → next_made (at k p) ≡ next_event k.records p
made_before k p lt = ap (λ c. let o : Option (ℕ × Event) = cond c None (next_event k.records p) in o) (test_before p k.last lt)

one_place : (p q : Position) → IsUpTo p q → IsUpTo q p → p ≡ q
one_place p q a b =
    let r : p.records ≡ q.records = same_records p q a b in
    let s : p.steps ≡ q.steps = same_steps p q a b in
    ap (λ i. placed i p.steps) r ∙ ap (λ j. placed q.records j) s
  where
    same_records : (p q : Position) → IsUpTo p q → IsUpTo q p → p.records ≡ q.records
    same_records p q (inl a) (inl b) = absurd (omega (arith, a, b))
    same_records p q (inl a) (inr b) = let e = b.0 in absurd (omega (arith, a, e))
    same_records p q (inr a) b = a.0

    same_steps : (p q : Position) → IsUpTo p q → IsUpTo q p → p.steps ≡ q.steps
    same_steps p q (inl a) (inl b) = absurd (omega (arith, a, b))
    same_steps p q (inl a) (inr b) = let e = b.0 in absurd (omega (arith, a, e))
    same_steps p q (inr a) (inl b) = let e = a.0 in absurd (omega (arith, b, e))
    same_steps p q (inr a) (inr b) = let i = a.1 in let j = b.1 in omega (arith, i, j)

-- ---- in one history

module _ (records : List Record) where
  -- the same events are before one position alone
  pub same_place : (p q : Position) → IsPosition records p → IsPosition records q → events_before records p ≡ events_before records q → p ≡ q
  same_place p q h g e =
      one_place p q (up_by_events records p q [] h g (sym e ∙ sym (append-nil (events_before records p)))) (up_by_events records q p [] g h (e ∙ sym (append-nil (events_before records q))))

  -- the position before the next one
  pub back_from : (q to : Position) → IsPosition records q → IsPosition records to → IsBefore q to → position_before records (next_position records q) ≡ q
  back_from q to h t lt =
      let b = above_inside_too records q to t lt in
      back_next records q.records b q.steps (is_few records q.records any_record b q.steps h)

  module _ (p q : Position) (x : ℕ × Event) (xs : List (ℕ × Event)) (h : IsPosition records p) (g : IsPosition records q)
      (e : events_before records q ≡ events_before records p ++ x ∷ xs) where
    pub is_before : IsBefore p q
    is_before = above_to p q (up_by_events records p q (x ∷ xs) h g e) (λ same.
        let n : length (events_before records q) ≡ length (events_before records p) + length (x ∷ xs) = ap (λ (es : List (ℕ × Event)). length es) e ∙ length-append (events_before records p) (x ∷ xs) in
        let o : length (events_before records p) ≡ length (events_before records q) = ap (λ (r : Position). length (events_before records r)) same in
        omega (arith, n, o))

    -- the first of the events on the way is that after the first position
    both : (next_event records p ≡ Some x) × (events_before records q ≡ events_before records (next_position records p) ++ xs)
    both =
        let y = has_event records p q g is_before in
        let to = next_position records p in
        let up = next_up_to records p q y.0 h g y.1 (up_to_of p q is_before) (not_itself p q is_before) in
        let r = begins records to q (is_position_too records p y.0 h y.1) g up in
        let whole : events_before records p ++ y.0 ∷ r.0 ≡ events_before records p ++ x ∷ xs =
        sym (append_assoc (events_before records p) (y.0 ∷ []) r.0) ∙ ap (λ (es : List (ℕ × Event)). es ++ r.0) (sym (above_it records p y.0 h y.1)) ∙ sym r.1 ∙ e in
        let same : y.0 ∷ r.0 ≡ x ∷ xs = same_rest (events_before records p) (y.0 ∷ r.0) (x ∷ xs) whole in
        let one : y.0 ≡ x = cc in
        let rest : r.0 ≡ xs = cc in
        (y.1 ∙ ap (λ (t : ℕ × Event). Some t) one, r.1 ∙ ap (λ (es : List (ℕ × Event)). events_before records to ++ es) rest)

    pub is_next : next_event records p ≡ Some x
    is_next = both.0

    pub rest_is : events_before records q ≡ events_before records (next_position records p) ++ xs
    rest_is = both.1

-- ---- the event right before a position that a search found

module _ (f : World → ℕ × Event → World → Bool) (boot : World) (records : List Record) (from q : Position) (i : IsPosition records q) (s : IsFirstMarked f boot records from q) where
  abbrev pub last : Position
  last = position_before records q

  last_both : (next_event records last ≡ Some s.1) × (events_before records last ≡ events_before records from ++ s.0)
  last_both =
      let b = above_first f boot records from q i s in
      let y = has_event records last q i b.earlier in
      let ends : events_before records q ≡ events_before records last ++ y.0 ∷ [] = ap (λ (r : Position). events_before records r) (sym b.next) ∙ above_it records last y.0 b.position y.1 in
      let fronts : events_before records q ≡ (events_before records from ++ s.0) ++ s.1 ∷ [] = s.2 ∙ sym (append_assoc (events_before records from) s.0 (s.1 ∷ [])) in
      let same = snoc_same (events_before records last) (events_before records from ++ s.0) y.0 s.1 (sym ends ∙ fronts) in
      (y.1 ∙ ap (λ (t : ℕ × Event). Some t) same.1, same.0)

  pub last_event : next_event records last ≡ Some s.1
  last_event = last_both.0

  pub last_events : events_before records last ≡ events_before records from ++ s.0
  last_events = last_both.1

  pub last_world : world_at boot records last ≡ world_after_events (world_at boot records from) s.0
  last_world = ap (λ (es : List (ℕ × Event)). world_after_events boot es) last_events ∙ after_both boot (events_before records from) s.0
