-- Where moves lead, and why they halt there (our own).
use Rattle.std.specs.Prelude.{◌≡◌, ◌⊎◌, ℕ, ◌||◌, Bool, true, false, if◌then◌else◌}
use Rattle.std.specs.Prelude.{List, [], ◌∷◌, ◌++◌, Option, Some, None, map, slice_get, unwrap_or}
use Rattle.mx_debug.specs.Points.{has_breakpoint}
use Rattle.mx_machine.specs.declared.events.Event.{Event}
use Rattle.mx_machine.specs.declared.history.Record.{Record}
use Rattle.mx_machine.specs.World.{HeldProcess, World, held_by}
use Rattle.mx_walk.specs.declared.positions.Position.{Position}
use Rattle.mx_walk.specs.Positions.{IsBefore, IsPosition, IsUpTo, events_before, first, next_event, next_position}
use Rattle.mx_walk.specs.Positions.{position_before, world_at}
use Rattle.mx_walk.specs.Seeking.{IsFirstMarked, IsLastMarked, IsPassed, NoneMarked, is_marked}
use Rattle.mx_walk.specs.Walks.{Walk, world_here}
use Rattle.mx_app_look.specs.declared.watches.Watch.{Watch}
use Rattle.mx_app_look.specs.Changes.{as_seen, first_change, seen_in}
use Rattle.mx_app_look.specs.Marks.{is_looked_for, leaves_breakpoint}
use Rattle.mx_app_look.specs.Searches.{is_break, next_made}
use Rattle.mx_app_look.specs.Slots.{slot_next}
use Rattle.mx_app_gdb.specs.declared.halts.Halted.{Halted}
use Rattle.mx_app_gdb.specs.declared.halts.Halted.TheVariants.{There, AtBreak, AtBegin, AtEnd, Changed}
use Rattle.mx_app_gdb.specs.declared.halts.Halts.{Halts}
use Rattle.mx_app_gdb.specs.declared.ranges.Range.{Range}
use Rattle.mx_app_gdb.specs.Halts.{IsUnchanged, halted_here, halts_after}
use Rattle.mx_app_gdb.specs.Marks.{is_within, moves, stands_within}

-- ---- a position and why one halts at it; none if one goes on

abbrev pub Halt : Type 0
Halt = Position × Option Halted

abbrev pub at : Walk → Position → Walk
at k p = record k { here = p }

-- whose step is next: the one that a move is of, where nobody's is
abbrev pub slot_of_next : Walk → Halts → ℕ
slot_of_next k h = unwrap_or (slot_next (world_here k) (slice_get k.records k.here.records)) h.mover

-- ---- on to the next halt

-- an event before or after which a move halts: the step at a breakpoint; or one after which it does
abbrev pub is_met : Halts → World → ℕ × Event → World → Bool
is_met h w x u = halts_after h w x u || leaves_breakpoint h.points w x u

-- the halt at an event from p to q
abbrev pub halt_by : Walk → Halts → Position → Position → Halt
halt_by k h p q =
    if is_break k h.points p (next_event k.records p) then (p, Some (AtBreak (slot_of_next (at k p) h)))
    else (q, halted_here (at k q) h)

-- from a position on: at the first event that is met, or at the last position
abbrev pub IsHaltFrom : Walk → Halts → Position → Halt → Type 0
IsHaltFrom k h from r =
    ((q : Position) × IsPosition k.records q × IsUpTo q k.last × IsFirstMarked (is_met h) k.boot k.records from q
    × (r ≡ halt_by k h (position_before k.records q) q))
    ⊎ (IsPassed (is_met h) k.boot k.records from k.last × (r ≡ (k.last, Some (AtEnd h.mover))))

-- the next event leaves the place where one is: no breakpoint counts of it. What it leads to, and if one doesn't halt
-- there, what comes from there on
abbrev pub IsAfterNext : Walk → Halts → (Position → Halt → Type 0) → Option (ℕ × Event) → Halt → Type 0
IsAfterNext k h From None r = r ≡ (k.here, Some (AtEnd h.mover))
IsAfterNext k h From (Some x) r =
    ((is_marked (halts_after h) (world_here k) x ≡ true)
    × (r ≡ (next_position k.records k.here, halted_here (at k (next_position k.records k.here)) h)))
    ⊎ ((is_marked (halts_after h) (world_here k) x ≡ false) × From (next_position k.records k.here) r)

-- the next event is made: why it halts right after it, if it does
abbrev pub IsMadeNext : Walk → Halts → Halt → Type 0
IsMadeNext k h r = IsAfterNext k h (λ p r. r ≡ (p, None)) (next_made k) r

abbrev pub Marks : Type 0
Marks = World → ℕ × Event → World → Bool

-- no event from one position to a later one is marked, but perhaps the last
abbrev pub IsUnmarked : Marks → World → List Record → Position → Position → Type 0
IsUnmarked f boot records from q =
    (between : List (ℕ × Event)) × (x : ℕ × Event)
    × (events_before records q ≡ events_before records from ++ (between ++ x ∷ []))
    × NoneMarked f (world_at boot records from) between

-- a search from here on halts at the first event that is met, or at the last position, and none that is marked was
-- before that; or it is right after an event that is marked, or that comes to a breakpoint, with none that is met
abbrev pub IsSearchedOn : Walk → Halts → Marks → Halt → Type 0
IsSearchedOn k h marks (q, Some why) =
    ((p : Position) × IsPosition k.records p × IsUpTo p k.last
    × IsFirstMarked (is_met h) k.boot k.records k.here p × IsUnmarked marks k.boot k.records k.here p
    × (halt_by k h (position_before k.records p) p ≡ (q, Some why)))
    ⊎ (IsPassed (is_met h) k.boot k.records k.here k.last × IsPassed marks k.boot k.records k.here k.last
    × (q ≡ k.last) × (why ≡ AtEnd h.mover))
IsSearchedOn k h marks (q, None) =
    IsBefore k.here q × IsPassed (is_met h) k.boot k.records k.here q
    × IsUnmarked marks k.boot k.records k.here q × (halted_here (at k q) h ≡ None)

-- CONTINUE
abbrev pub IsGoneOn : Walk → Halts → Halt → Type 0
IsGoneOn k h r = IsAfterNext k h (IsHaltFrom k h) (next_made k) r

-- ---- on to where a step of a slot's process is next

abbrev pub moves_next : ℕ → World → Option (ℕ × Event) → Bool
moves_next s w None = false
moves_next s w (Some x) = moves s w x

-- its step is next
abbrev pub stands : Walk → ℕ → Bool
stands k s = moves_next s (world_here k) (next_made k)

-- its step is next, or its trap, and the instruction is within a range of code
abbrev pub in_range : ℕ → Range → World → Option (ℕ × Event) → Bool
in_range s g w None = false
in_range s g w (Some x) = stands_within s g (held_by w x.0)

abbrev pub stands_in : Walk → ℕ → Range → Bool
stands_in k s g = in_range s g (world_here k) (next_made k)

-- and nothing that is watched has changed up to here
pub record IsAtStep (k : Walk) (h : Halts) (s : ℕ) : Type 0 where
  pub next : stands k s ≡ true
  pub unchanged : IsUnchanged k h

abbrev pub is_met_or_moves : Halts → ℕ → World → ℕ × Event → World → Bool
is_met_or_moves h s w x u = is_met h w x u || moves s w x

-- before the process's step at an event from p to q; else a halt
abbrev pub come_by : Walk → Halts → ℕ → Position → Position → Halt
come_by k h s p q = if stands (at k p) s then (p, None) else halt_by k h p q

-- from a position on: at the first step of the process, or at a halt before
abbrev pub IsComeFrom : Walk → Halts → ℕ → Position → Halt → Type 0
IsComeFrom k h s from r =
    ((q : Position) × IsPosition k.records q × IsUpTo q k.last
    × IsFirstMarked (is_met_or_moves h s) k.boot k.records from q
    × (r ≡ come_by k h s (position_before k.records q) q))
    ⊎ (IsPassed (is_met_or_moves h s) k.boot k.records from k.last × (r ≡ (k.last, Some (AtEnd h.mover))))

-- past the next event
abbrev pub IsComeAfter : Walk → Halts → ℕ → Halt → Type 0
IsComeAfter k h s r = IsAfterNext k h (IsComeFrom k h s) (next_made k) r

-- from here: here, if its step is next
abbrev pub IsComeIf : Bool → Walk → Halts → ℕ → Halt → Type 0
IsComeIf true k h s r = r ≡ (k.here, None)
IsComeIf false k h s r = IsComeAfter k h s r

abbrev pub IsCome : Walk → Halts → ℕ → Halt → Type 0
IsCome k h s r = IsComeIf (stands k s) k h s r

-- ---- steps of a slot's process within a range of code

-- the process whose step is next
abbrev pub held_next : World → Option (ℕ × Event) → Option HeldProcess
held_next w None = None
held_next w (Some x) = held_by w x.0

abbrev pub process_next : Walk → Option HeldProcess
process_next k = held_next (world_here k) (next_made k)

-- why its steps end where its next one comes: at a breakpoint, or out of the range; if they do
abbrev pub ends_of : Halts → ℕ → Range → Option HeldProcess → Option Halted
ends_of h s g None = Some (There s)
ends_of h s g (Some l) =
    if has_breakpoint h.points.breakpoints s l.out.image.eip then Some (AtBreak s)
    else if is_within g l.out.image.eip then None else Some (There s)

-- from a position where its step is next: this step, and on to where its next one comes; there they end, or go on; or a
-- halt comes before
pub data AreStepped (k : Walk) (h : Halts) (s : ℕ) (g : Range) : Position → Halt → Type 0 where
  halted : (p q : Position) → (why : Halted) → IsComeAfter (at k p) h s (q, Some why)
      → AreStepped k h s g p (q, Some why)
  ended : (p q : Position) → (why : Halted) → IsComeAfter (at k p) h s (q, None)
      → ends_of h s g (process_next (at k q)) ≡ Some why → AreStepped k h s g p (q, Some why)
  further : (p q : Position) → (r : Halt) → IsComeAfter (at k p) h s (q, None)
      → ends_of h s g (process_next (at k q)) ≡ None → AreStepped k h s g q r → AreStepped k h s g p r

-- what comes of coming from one position to another, for a halt there or none
abbrev pub EndsBy : Walk → Halts → ℕ → Range → Position → Option Halted → Halt → Type 0
EndsBy k h s g q (Some why) r = r ≡ (q, Some why)
EndsBy k h s g q None r = AreStepped k h s g q r

abbrev pub IsOnFrom : Walk → Halts → ℕ → Range → Position → Option Halted → Halt → Type 0
IsOnFrom k h s g q (Some why) r = r ≡ (q, Some why)
IsOnFrom k h s g q None r = EndsBy k h s g q (ends_of h s g (process_next (at k q))) r

-- steps of a slot's process after one of them that led to a position
abbrev pub IsSteppedFrom : Walk → Halts → ℕ → Range → Position → Halt → Type 0
IsSteppedFrom k h s g from r =
    (q : Position) × (o : Option Halted) × IsComeFrom k h s from (q, o) × IsOnFrom k h s g q o r

-- from one position on it is as from another, which it leads to; or it halts there
abbrev pub LeadsOn : (Position → Halt → Type 0) → Position → Position → Option Halted → Type 0
LeadsOn From p q None = (r : Halt) → From q r → From p r
LeadsOn From p q (Some why) = From p (q, Some why)

-- A STEP, or steps within a range: once the process's step is next
abbrev pub IsStepped : Walk → Halts → ℕ → Range → Halt → Type 0
IsStepped k h s g r =
    ((q : Position) × (why : Halted) × IsCome k h s (q, Some why) × (r ≡ (q, Some why)))
    ⊎ ((p : Position) × IsCome k h s (p, None) × AreStepped k h s g p r)

-- ---- back

-- why one halts before a step of a slot's process: watched bytes are other ones than where the move began
abbrev pub halted_or : Option Watch → Halted → Halted
halted_or (Some x) h = Changed x
halted_or None h = h

abbrev pub back_at : Walk → Halts → ℕ → Halted
back_at k h s = halted_or (first_change (world_here k) (map as_seen h.seen.items)) (There s)

-- A STEP BACK: to right before the last step of the process
abbrev pub IsSteppedBack : Walk → Halts → ℕ → Halt → Type 0
IsSteppedBack k h s r =
    ((p : Position) × IsPosition k.records p × IsLastMarked (λ w x u. moves s w x) k.boot k.records p k.here
    × (r ≡ (p, Some (back_at (at k p) h s))))
    ⊎ (IsPassed (λ w x u. moves s w x) k.boot k.records first k.here × (r ≡ (first, Some (AtBegin s))))

-- why one halts before an event from p to q that changes watched bytes: which they are
abbrev pub changed_by : Walk → Halts → Position → Position → Halted
changed_by k h p q =
    halted_or
    (first_change (world_here (at k q)) (map (seen_in (world_here (at k p))) h.points.watches))
    (There (slot_of_next (at k p) h))

-- why one halts before an event from p to q: it is the step at a breakpoint, or changes watched bytes
abbrev pub halt_before : Walk → Halts → Position → Position → Halted
halt_before k h p q =
    if is_break k h.points p (next_event k.records p) then AtBreak (slot_of_next (at k p) h)
    else changed_by k h p q

-- BACK: to right before the last event that changes watched bytes or is the step at a breakpoint
abbrev pub IsGoneBack : Walk → Halts → Halt → Type 0
IsGoneBack k h r =
    ((p : Position) × IsPosition k.records p × IsLastMarked (is_looked_for h.points) k.boot k.records p k.here
    × (r ≡ (p, Some (halt_before k h p (next_position k.records p)))))
    ⊎ (IsPassed (is_looked_for h.points) k.boot k.records first k.here × (r ≡ (first, Some (AtBegin h.mover))))
