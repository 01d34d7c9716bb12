-- A move halts at one position and for one reason: checkpoints don't matter, nor where the watched bytes are kept.
use Rattle.std.proofs.Common.{◌≡◌, ◌∙◌, ◌⊎◌, ℕ, Bool, true, false, List, Option, Some, None, Vec, Global, inl, inr, map, ap, ap₂, sym, subst}
use Rattle.std.specs.Prelude.{if◌then◌else◌}
use Rattle.mx_machine.specs.declared.events.Event.{Event}
use Rattle.mx_walk.specs.declared.positions.Position.{Position}
use Rattle.mx_walk.specs.Positions.{IsPosition, IsUpTo, first, next_event, next_position, position_before, world_at}
use Rattle.mx_walk.specs.Seeking.{IsFirstMarked, IsLastMarked, IsPassed}
use Rattle.mx_walk.specs.Walks.{Walk}
use Rattle.mx_walk.proofs.Naming.{first_is_one, last_is_one}
use Rattle.mx_app_look.specs.declared.changes.Seen.{Seen}
use Rattle.mx_app_look.specs.declared.watches.Watch.{Watch}
use Rattle.mx_app_look.specs.Changes.{as_seen, first_change}
use Rattle.mx_app_look.specs.Marks.{is_looked_for}
use Rattle.mx_app_look.specs.Searches.{is_break, next_made}
use Rattle.mx_app_gdb.specs.declared.halts.Halted.{Halted}
use Rattle.mx_app_gdb.specs.declared.halts.Halted.TheVariants.{AtBegin, AtBreak, AtEnd, There}
use Rattle.mx_app_gdb.specs.declared.halts.Halts.{Halts}
use Rattle.mx_app_gdb.specs.declared.ranges.Range.{Range}
use Rattle.mx_app_gdb.specs.declared.replying.Way.{Way}
use Rattle.mx_app_gdb.specs.declared.replying.Way.TheVariants.{Back, On, Step, StepBack}
use Rattle.mx_app_gdb.specs.Halts.{fault_here, halted_by, halted_here}
use Rattle.mx_app_gdb.specs.Marks.{moves}
use Rattle.mx_app_gdb.specs.Moves.{AreStepped, Halt, IsAfterNext, IsComeAfter, IsComeFrom, IsComeIf, IsHaltFrom, Marks, at, back_at, come_by, ended, ends_of, further, halt_before, halt_by, halted, halted_or, is_met, is_met_or_moves, process_next, slot_of_next, stands}
use Rattle.mx_app_gdb.specs.Replied.{IsGone}
use Rattle.mx_app_gdb.proofs.Passed.{passed_isnt_first, passed_isnt_last, unmarked}

-- ---- the same bytes in another vector, and no checkpoints

module _ (k : Walk) (h : Halts) (v : Vec Seen Global) (e : map as_seen v.items ≡ map as_seen h.seen.items) where
  abbrev g : Halts
  g = record h { seen = v }

  abbrev j : Walk
  j = unmarked k

  here_same : (q : Position) → halted_here (at k q) g ≡ halted_here (at j q) h
  here_same q = ap (λ (ss : List (Watch × List ℕ)). halted_by (first_change (world_at k.boot k.records q) ss) (fault_here h.counted (at k q))) e

  halt_same : (p q : Position) → halt_by k g p q ≡ halt_by j h p q
  halt_same p q =
      ap (λ (o : Option Halted). let t : Halt = (if is_break k h.points p (next_event k.records p) then (p, Some (AtBreak (slot_of_next (at k p) h))) else (q, o)) in t) (here_same q)

  from_same : (from : Position) (r : Halt) → IsHaltFrom k g from r → IsHaltFrom j h from r
  from_same from r (inl (q, position, up, found, is)) = inl (q, position, up, found, is ∙ halt_same (position_before k.records q) q)
  from_same from r (inr passed) = inr passed

  after_same : (From Upon : Position → Halt → Type 0) → ((p : Position) (r : Halt) → From p r → Upon p r) → (o : Option (ℕ × Event)) (r : Halt)
      → IsAfterNext k g From o r → IsAfterNext j h Upon o r
  after_same From Upon on None r is = is
  after_same From Upon on (Some x) r (inl (marked, is)) =
      inl (marked, is ∙ ap (λ (o : Option Halted). let t : Halt = (next_position k.records k.here, o) in t) (here_same (next_position k.records k.here)))
  after_same From Upon on (Some x) r (inr (marked, more)) = inr (marked, on (next_position k.records k.here) r more)

  come_same : (s : ℕ) (p q : Position) → come_by k g s p q ≡ come_by j h s p q
  come_same s p q = ap (λ (r : Halt). let t : Halt = (if stands (at k p) s then (p, None) else r) in t) (halt_same p q)

  come_from : (s : ℕ) (from : Position) (r : Halt) → IsComeFrom k g s from r → IsComeFrom j h s from r
  come_from s from r (inl (q, position, up, found, is)) = inl (q, position, up, found, is ∙ come_same s (position_before k.records q) q)
  come_from s from r (inr passed) = inr passed

  come_after : (s : ℕ) (r : Halt) → IsComeAfter k g s r → IsComeAfter j h s r
  come_after s r come = after_same (IsComeFrom k g s) (IsComeFrom j h s) (come_from s) (next_made k) r come

  come_if : (b : Bool) (s : ℕ) (r : Halt) → IsComeIf b k g s r → IsComeIf b j h s r
  come_if true s r come = come
  come_if false s r come = come_after s r come

module _ (k : Walk) (h : Halts) (v : Vec Seen Global) (e : map as_seen v.items ≡ map as_seen h.seen.items) where
  steps_same : (s : ℕ) (x : Range) (p : Position) (r : Halt) → AreStepped k (record h { seen = v }) s x p r → AreStepped (unmarked k) h s x p r
  steps_same s x p r (halted _ q why come) = halted p q why (come_after (at k p) h v e s (q, Some why) come)
  steps_same s x p r (ended _ q why come is) = ended p q why (come_after (at k p) h v e s (q, None) come) is
  steps_same s x p r (further _ q _ come is more) = further p q r (come_after (at k p) h v e s (q, None) come) is (steps_same s x q r more)

  pub way_same : (way : Way) (r : Halt) → IsGone way k (record h { seen = v }) r → IsGone way (unmarked k) h r
  way_same On r go =
      after_same k h v e (IsHaltFrom k (record h { seen = v })) (IsHaltFrom (unmarked k) h) (from_same k h v e) (next_made k) r go
  way_same (Step s x) r (inl (q, why, come, is)) = inl (q, why, come_if k h v e (stands k s) s (q, Some why) come, is)
  way_same (Step s x) r (inr (p, come, steps)) = inr (p, come_if k h v e (stands k s) s (p, None) come, steps_same s x p r steps)
  way_same Back r go = go
  way_same (StepBack s) r (inl (p, position, found, is)) =
      inl (p, position, found, is ∙ ap (λ (ss : List (Watch × List ℕ)). let t : Halt = (p, Some (halted_or (first_change (world_at k.boot k.records p) ss) (There s))) in t) e)
  way_same (StepBack s) r (inr passed) = inr passed

-- ---- one halt

module _ (k : Walk) (h : Halts) (last : IsPosition k.records k.last) where
  abbrev IsFrom : Marks → (Position → Position → Halt) → Position → Halt → Type 0
  IsFrom f by from r =
      ((q : Position) × IsPosition k.records q × IsUpTo q k.last × IsFirstMarked f k.boot k.records from q × (r ≡ by (position_before k.records q) q))
      ⊎ (IsPassed f k.boot k.records from k.last × (r ≡ (k.last, Some (AtEnd h.mover))))

  one_from : (f : Marks) (by : Position → Position → Halt) (from : Position) (r t : Halt) → IsFrom f by from r → IsFrom f by from t → r ≡ t
  one_from f by from r t (inl a) (inl b) =
      let same : a.0 ≡ b.0 = first_is_one f k.boot k.records from a.0 b.0 a.1 b.1 a.3 b.3 in
      a.4 ∙ ap (λ (q : Position). by (position_before k.records q) q) same ∙ sym b.4
  one_from f by from r t (inl a) (inr b) = absurd (passed_isnt_first f k.boot k.records from a.0 k.last a.1 last a.2 a.3 b.0)
  one_from f by from r t (inr a) (inl b) = absurd (passed_isnt_first f k.boot k.records from b.0 k.last b.1 last b.2 b.3 a.0)
  one_from f by from r t (inr a) (inr b) = a.1 ∙ sym b.1

  one_after : (From : Position → Halt → Type 0) → ((p : Position) (r t : Halt) → From p r → From p t → r ≡ t) → (o : Option (ℕ × Event)) (r t : Halt)
      → IsAfterNext k h From o r → IsAfterNext k h From o t → r ≡ t
  one_after From one None r t a b = a ∙ sym b
  one_after From one (Some x) r t (inl a) (inl b) = a.1 ∙ sym b.1
  one_after From one (Some x) r t (inl a) (inr b) = let no : true ≡ false = sym a.0 ∙ b.0 in absurd cc
  one_after From one (Some x) r t (inr a) (inl b) = let no : true ≡ false = sym b.0 ∙ a.0 in absurd cc
  one_after From one (Some x) r t (inr a) (inr b) = one (next_position k.records k.here) r t a.1 b.1

  one_come : (s : ℕ) (r t : Halt) → IsComeAfter k h s r → IsComeAfter k h s t → r ≡ t
  one_come s r t a b = one_after (IsComeFrom k h s) (one_from (is_met_or_moves h s) (come_by k h s)) (next_made k) r t a b

  one_come_if : (c : Bool) (s : ℕ) (r t : Halt) → IsComeIf c k h s r → IsComeIf c k h s t → r ≡ t
  one_come_if true s r t a b = a ∙ sym b
  one_come_if false s r t a b = one_come s r t a b

  one_back : (f : Marks) (why : Position → Halted) (s : ℕ) (r t : Halt)
      → ((p : Position) × IsPosition k.records p × IsLastMarked f k.boot k.records p k.here × (r ≡ (p, Some (why p)))) ⊎ (IsPassed f k.boot k.records first k.here × (r ≡ (first, Some (AtBegin s))))
      → ((p : Position) × IsPosition k.records p × IsLastMarked f k.boot k.records p k.here × (t ≡ (p, Some (why p)))) ⊎ (IsPassed f k.boot k.records first k.here × (t ≡ (first, Some (AtBegin s))))
      → r ≡ t
  one_back f why s r t (inl a) (inl b) =
      let same : a.0 ≡ b.0 = last_is_one f k.boot k.records a.0 b.0 k.here a.1 b.1 a.2 b.2 in
      a.3 ∙ ap (λ (p : Position). let x : Halt = (p, Some (why p)) in x) same ∙ sym b.3
  one_back f why s r t (inl a) (inr b) = absurd (passed_isnt_last f k.boot k.records a.0 k.here a.1 a.2 b.0)
  one_back f why s r t (inr a) (inl b) = absurd (passed_isnt_last f k.boot k.records b.0 k.here b.1 b.2 a.0)
  one_back f why s r t (inr a) (inr b) = a.1 ∙ sym b.1

module _ (k : Walk) (h : Halts) (last : IsPosition k.records k.last) where
  one_steps : (s : ℕ) (x : Range) (p : Position) (r t : Halt) → AreStepped k h s x p r → AreStepped k h s x p t → r ≡ t
  one_steps s x p r t (halted _ q why come) (halted _ z other also) = one_come (at k p) h last s (q, Some why) (z, Some other) come also
  one_steps s x p r t (halted _ q why come) (ended _ z other also is) =
      let no : Some why ≡ None = ap (λ (y : Halt). y.1) (one_come (at k p) h last s (q, Some why) (z, None) come also) in absurd cc
  one_steps s x p r t (halted _ q why come) (further _ z _ also is more) =
      let no : Some why ≡ None = ap (λ (y : Halt). y.1) (one_come (at k p) h last s (q, Some why) (z, None) come also) in absurd cc
  one_steps s x p r t (ended _ q why come is) (halted _ z other also) =
      let no : None ≡ Some other = ap (λ (y : Halt). y.1) (one_come (at k p) h last s (q, None) (z, Some other) come also) in absurd cc
  one_steps s x p r t (ended _ q why come is) (ended _ z other also too) =
      let same : q ≡ z = ap (λ (y : Halt). y.0) (one_come (at k p) h last s (q, None) (z, None) come also) in
      let reason : Some why ≡ Some other = sym is ∙ ap (λ (y : Position). ends_of h s x (process_next (at k y))) same ∙ too in
      ap₂ (λ (y : Position) (o : Option Halted). let c : Halt = (y, o) in c) same reason
  one_steps s x p r t (ended _ q why come is) (further _ z _ also too more) =
      let same : q ≡ z = ap (λ (y : Halt). y.0) (one_come (at k p) h last s (q, None) (z, None) come also) in
      let no : Some why ≡ None = sym is ∙ ap (λ (y : Position). ends_of h s x (process_next (at k y))) same ∙ too in absurd cc
  one_steps s x p r t (further _ q _ come is more) (halted _ z other also) =
      let no : None ≡ Some other = ap (λ (y : Halt). y.1) (one_come (at k p) h last s (q, None) (z, Some other) come also) in absurd cc
  one_steps s x p r t (further _ q _ come is more) (ended _ z other also too) =
      let same : q ≡ z = ap (λ (y : Halt). y.0) (one_come (at k p) h last s (q, None) (z, None) come also) in
      let no : None ≡ Some other = sym is ∙ ap (λ (y : Position). ends_of h s x (process_next (at k y))) same ∙ too in absurd cc
  one_steps s x p r t (further _ q _ come is more) (further _ z _ also too rest) =
      let same : q ≡ z = ap (λ (y : Halt). y.0) (one_come (at k p) h last s (q, None) (z, None) come also) in
      one_steps s x q r t more (subst (λ (y : Position). AreStepped k h s x y t) (sym same) rest)

  -- each way leads to one halt
  pub one_gone : (way : Way) (r t : Halt) → IsGone way k h r → IsGone way k h t → r ≡ t
  one_gone On r t a b = one_after k h last (IsHaltFrom k h) (one_from k h last (is_met h) (halt_by k h)) (next_made k) r t a b
  one_gone (Step s x) r t (inl (q, why, come, is)) (inl (z, other, also, too)) =
      is ∙ one_come_if k h last (stands k s) s (q, Some why) (z, Some other) come also ∙ sym too
  one_gone (Step s x) r t (inl (q, why, come, is)) (inr (z, also, steps)) =
      let no : Some why ≡ None = ap (λ (y : Halt). y.1) (one_come_if k h last (stands k s) s (q, Some why) (z, None) come also) in absurd cc
  one_gone (Step s x) r t (inr (q, come, steps)) (inl (z, other, also, too)) =
      let no : None ≡ Some other = ap (λ (y : Halt). y.1) (one_come_if k h last (stands k s) s (q, None) (z, Some other) come also) in absurd cc
  one_gone (Step s x) r t (inr (q, come, steps)) (inr (z, also, rest)) =
      let same : q ≡ z = ap (λ (y : Halt). y.0) (one_come_if k h last (stands k s) s (q, None) (z, None) come also) in
      one_steps s x q r t steps (subst (λ (y : Position). AreStepped k h s x y t) (sym same) rest)
  one_gone Back r t a b = one_back k h last (is_looked_for h.points) (λ (p : Position). halt_before k h p (next_position k.records p)) h.mover r t a b
  one_gone (StepBack s) r t a b = one_back k h last (λ w x u. moves s w x) (λ (p : Position). back_at (at k p) h s) s r t a b
