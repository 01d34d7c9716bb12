-- Loops of calls, call by call.
use Rattle.std.proofs.Common.{◌≡◌, ◌∙◌, ℕ, zero, suc, nat_lt, not, Bool, true, false, if◌then◌else◌, inl, inr, ◌+◌, ◌-◌, ◌<◌, ◌≤◌, ◌≢◌, List, [], ◌∷◌, ◌++◌, length, map, Some, None, Result, Ok, Err, IsOk, IsErr, IfOk, IfErr, refl, sym, ap, subst, arith, append_assoc}
use Rattle.std.proofs.lemmas.List.{append-nil}
use Rattle.mx_machine.specs.declared.events.Answer.{Answer}
use Rattle.mx_machine.specs.declared.events.Event.{Event}
use Rattle.mx_machine.specs.declared.events.Event.TheVariants as events
use Rattle.mx_machine.specs.declared.events.Refusal.{Refusal}
use Rattle.mx_machine.specs.declared.events.Refusal.TheVariants.{LogFull}
use Rattle.mx_machine.specs.declared.history.Record.{Record}
use Rattle.mx_machine.specs.declared.history.Recorded.{Recorded}
use Rattle.mx_machine.specs.declared.history.Recorded.TheVariants as recorded
use Rattle.mx_machine.specs.History.{part_of}
use Rattle.mx_machine.specs.Move.{event_refusal}
use Rattle.mx_machine.specs.World.{World, free_records}
use Rattle.mx_loan.proofs.Fronts.{prefix_self, prefix_trans}
use Rattle.mx_cpus.specs.Seats.{SeatView, LoanView, back_record, record_of, take_record}
use Rattle.mx_cpus.specs.Calls.{Follows, IsAnsweredCall, IsGiveCall, IsRefusedCall, IsRestCall, IsTakeCall}
use Rattle.mx_cpus.specs.Gates.{GateCall, asked_call, seen_call, stops_call}
use Rattle.mx_cpus.specs.declared.locked.HowFar.{HowFar}
use Rattle.mx_cpus.specs.declared.side.FreeSide.{FreeSide}
use Rattle.mx_cpus.specs.declared.progress.Progress.{Progress}
use Rattle.mx_cpus.specs.declared.progress.Progress.TheVariants.{GoesOn, Full}
use Rattle.mx_cpus.specs.Progresses.{IsRoundTo, IsSweepTo}
use Rattle.mx_cpus.specs.Courses.{AreRounds, AreTried, AreTurns, IsAsked, IsLastRound, IsLastTurn, IsOneMore, IsOneMoreBy, IsProcessorRun, IsRespawnerRun, IsRound, IsRoundAsked, IsRoundToFull, IsSweepToFull, IsTurn, IsTurnTo, IsTicked, IsTickToFull, IsTried, IsWait, slots, turn_number}
use Rattle.mx_cpus.specs.Loops.{AreTicksAndRespawns, HasMadeTurns, HasTickedAndRespawned, ticks_among, turns_of}

pub follows_self : (s : SeatView) → s.mine ≡ part_of s.seen s.actor → Follows s s
follows_self s own = record { table = refl; actor = refl; seen = prefix_self s.seen; own = own }

pub follows_trans : (s t u : SeatView) → Follows s t → Follows t u → Follows s u
follows_trans s t u p q = record { table = q.table ∙ p.table; actor = q.actor ∙ p.actor; seen = prefix_trans s.seen t.seen u.seen p.seen q.seen; own = q.own }

-- ---- a question

-- the gate was shown what a seat has seen, by the seat's own number and the number that was counted
pub seen_by : (WasCalled : GateCall → Type 0) (v : SeatView) (a b n : ℕ) → a ≡ b → n ≡ length v.seen → WasCalled (seen_call a n) → WasCalled (seen_call b (length v.seen))
seen_by WasCalled v a b n who many seen = subst (λ i. WasCalled (seen_call i (length v.seen))) who (subst (λ k. WasCalled (seen_call a k)) many seen)

-- a look of the seat u found the seat v; actor a showed the gate how far it is, and asked
pub asked_by : (boot : World) (WasCalled : GateCall → Type 0) (done : Bool) (u v : SeatView) (a : ℕ) (far : HowFar) (answer : Bool) → a ≡ u.actor → IsRestCall boot u v far.at_rest → far.records ≡ length v.seen
    → WasCalled (seen_call a far.records) → WasCalled (asked_call a far.records far.at_rest done answer) → IsAsked boot WasCalled done u v answer
asked_by boot WasCalled done u v a far answer who rests many seen asked = record {
  rest = far.at_rest;
  rests = rests;
  seen = seen_by WasCalled v a u.actor far.records who many seen;
  asked = subst (λ i. WasCalled (asked_call i (length v.seen) far.at_rest done answer)) who (subst (λ k. WasCalled (asked_call a k far.at_rest done answer)) many asked);
}

-- ---- a processor

turns_last : (a : ℕ) (ns : List ℕ) (n : ℕ) → turns_of a (ns ++ n ∷ []) ≡ turns_of a ns ++ take_record a ∷ back_record a n ∷ []
turns_last a [] n = refl
turns_last a (m ∷ ns) n = ap (λ l. take_record a ∷ back_record a m ∷ l) (turns_last a ns n)

-- two records more at the end
two_more : (m t : List Record) (x y : Record) → ((m ++ t) ++ x ∷ []) ++ y ∷ [] ≡ m ++ (t ++ x ∷ y ∷ [])
two_more m t x y = append_assoc (m ++ t) (x ∷ []) (y ∷ []) ∙ append_assoc m t (x ∷ y ∷ [])

no_turns : (s : SeatView) → s.mine ≡ part_of s.seen s.actor → s.held ≡ None → HasMadeTurns s s
no_turns s own empty = record { follows = follows_self s own; empty = empty; counts = []; mine = sym (append-nil s.mine) }

-- one turn more
turn_more : (boot : World) (s t u v : SeatView) (l m : LoanView) → HasMadeTurns s t → IsTakeCall boot t u l → IsGiveCall boot u v m → HasMadeTurns s v
turn_more boot s t u v l m made took gave =
    let a = s.actor in
    let n = m.out.count in
    let first : t.actor ≡ a = made.follows.actor in
    let second : u.actor ≡ a = took.0.follows.actor ∙ first in
    let taken : u.mine ≡ (s.mine ++ turns_of a made.counts) ++ take_record a ∷ [] =
    took.0.mine ∙ ap (λ i. t.mine ++ take_record i ∷ []) first ∙ ap (λ (x : List Record). x ++ take_record a ∷ []) made.mine in
    record {
      follows = follows_trans s u v (follows_trans s t u made.follows took.0.follows) gave.follows;
      empty = gave.held;
      counts = made.counts ++ n ∷ [];
      mine = gave.mine ∙ ap (λ i. u.mine ++ back_record i n ∷ []) second ∙ ap (λ (x : List Record). x ++ back_record a n ∷ []) taken
          ∙ two_more s.mine (turns_of a made.counts) (take_record a) (back_record a n)
          ∙ ap (λ (x : List Record). s.mine ++ x) (sym (turns_last a made.counts n));
    }

-- a call that records nothing
turns_seen : (s t u : SeatView) → HasMadeTurns s t → Follows t u → u.mine ≡ t.mine → u.held ≡ t.held → HasMadeTurns s u
turns_seen s t u made seen mine held = record {
  follows = follows_trans s t u made.follows seen;
  empty = held ∙ made.empty;
  counts = made.counts;
  mine = mine ∙ made.mine;
}

turns_refused : (boot : World) (s t u : SeatView) (e : Event) (r : Refusal) → HasMadeTurns s t → IsRefusedCall boot t u e r → HasMadeTurns s u
turns_refused boot s t u e r made refused = turns_seen s t u made refused.follows refused.mine refused.held

module _ (boot : World) (WasCalled : GateCall → Type 0) where
  turns_waited : (s t u : SeatView) (b : Bool) → HasMadeTurns s t → IsWait boot WasCalled t u b → HasMadeTurns s u
  turns_waited s t u b made wait =
      let seen = turns_refused boot s t wait.seat events.Take wait.refusal made wait.takes in
      let rests = wait.asks.rests in
      turns_seen s wait.seat u seen rests.follows rests.mine rests.held

  pub turns_made : (s : SeatView) → s.mine ≡ part_of s.seen s.actor → s.held ≡ None → (so_many n : ℕ) (t : SeatView) → AreTurns boot WasCalled s so_many n t → HasMadeTurns s t
  turns_made s own empty zero n t first = subst (HasMadeTurns s) (sym first.1) (no_turns s own empty)
  turns_made s own empty (suc so_many) n t more =
      let m = more.0 in
      let u = more.1 in
      let before = turns_made s own empty so_many m u more.2 in
      elim more.3 [
        | inl turn ↦ turn_more boot s u turn.1.0.taken t turn.1.0.lent turn.1.0.back before turn.1.0.takes turn.1.0.gives
        | inr wait ↦ turns_waited s u t true before wait.1
      ]

  -- what a processor's loop leaves
  pub processor_made : (s t : SeatView) → s.mine ≡ part_of s.seen s.actor → s.held ≡ None → IsProcessorRun boot WasCalled s t → HasMadeTurns s t
  processor_made s t own empty run =
      let before = turns_made s own empty run.so_many run.turns run.last run.course in
      elim run.ends [
        | inl full ↦ turns_refused boot s run.last t events.Take LogFull before full
        | inr other ↦ elim other [
          | inl wait ↦ turns_waited s run.last t false before wait
          | inr turn ↦ turn_more boot s run.last turn.0.taken t turn.0.lent turn.0.back before turn.0.takes turn.0.gives
        ]
      ]

  -- the number of a turn, and the next one's
  pub next_turn : (n k m : ℕ) → k ≡ turn_number n → m ≡ turn_number (k + 1) → m ≡ turn_number (n + 1)
  next_turn n k m number is = omega (arith, number, is)

-- what a processor's loop knows between two takes
pub record TurnsSoFar (boot : World) (WasCalled : GateCall → Type 0) (s t : SeatView) (side : FreeSide) : Type 0 where
  pub so_many : ℕ
  pub turns : ℕ
  pub course : AreTurns boot WasCalled s so_many turns t
  pub made : HasMadeTurns s t
  pub actor : side.actor ≡ s.actor
  pub turn : side.turn ≡ turn_number turns
  pub goes_on : side.goes_on ≡ true

module _ (boot : World) (WasCalled : GateCall → Type 0) (s t v : SeatView) (x y : FreeSide) (so_far : TurnsSoFar boot WasCalled s t x) where
  one_made : (m : ℕ) → IsOneMore boot WasCalled so_far.turns t m v → HasMadeTurns s v
  one_made m more = elim more [
    | inl turn ↦ turn_more boot s t turn.1.0.taken v turn.1.0.lent turn.1.0.back so_far.made turn.1.0.takes turn.1.0.gives
    | inr wait ↦ turns_waited boot WasCalled s t v true so_far.made wait.1
  ]

  -- it goes on after a turn, and after a question that was answered with yes
  pub turns_go_on : ((n : ℕ) → x.turn ≡ turn_number n → IsOneMoreBy boot WasCalled n t v y.turn) → y.actor ≡ x.actor → y.goes_on ≡ true → TurnsSoFar boot WasCalled s v y
  turns_go_on more_by same on =
      let more = more_by so_far.turns so_far.turn in
      record {
        so_many = suc so_far.so_many;
        turns = more.0;
        course = (so_far.turns, t, so_far.course, more.1);
        made = one_made more.0 more.1;
        actor = same ∙ so_far.actor;
        turn = more.2;
        goes_on = on;
      }

  -- a full history ends it, and so does the gate
  pub turns_end : ((n : ℕ) → x.turn ≡ turn_number n → IsLastTurn boot WasCalled n t v) → IsProcessorRun boot WasCalled s v
  turns_end last_by = record {
    so_many = so_far.so_many;
    turns = so_far.turns;
    last = t;
    course = so_far.course;
    ends = last_by so_far.turns so_far.turn;
  }

-- the side of an actor after one turn more
abbrev pub IsCounted : FreeSide → FreeSide → Type 0
IsCounted x y = (y.actor ≡ x.actor) × (y.turn ≡ turn_number (x.turn + 1)) × (y.goes_on ≡ true)

-- a turn was made, by how many came before it, and the gate was asked after it
module _ (boot : World) (WasCalled : GateCall → Type 0) (s t : SeatView) (x y z : FreeSide) (turn_by : (i : ℕ) → x.turn ≡ turn_number i → IsTurn boot WasCalled i s t) (counted : IsCounted x y) (own : x.actor ≡ s.actor)
    (called : WasCalled (stops_call y.actor (not z.goes_on))) (n : ℕ) (number : x.turn ≡ turn_number n) where
  pub turn_to : (answer : Bool) → z.goes_on ≡ answer → IsTurnTo boot WasCalled n s t (not answer)
  turn_to answer is = (turn_by n number, subst (λ (b : Bool). WasCalled (stops_call s.actor (not b))) is (subst (λ a. WasCalled (stops_call a (not z.goes_on))) (counted.0 ∙ own) called))

  -- and the loop goes on
  pub one_turn : z.goes_on ≡ true → z.turn ≡ y.turn → IsOneMoreBy boot WasCalled n s t z.turn
  one_turn on same = (n + 1, inl (refl, turn_to true on), same ∙ next_turn boot WasCalled n x.turn y.turn number counted.1)

-- the gate was asked after a refusal
pub wait_by : (boot : World) (WasCalled : GateCall → Type 0) (s u t : SeatView) (r : Refusal) (answer goes_on : Bool) → IsRefusedCall boot s u events.Take r → r ≢ LogFull → IsAsked boot WasCalled true u t answer → answer ≡ goes_on → IsWait boot WasCalled s t goes_on
wait_by boot WasCalled s u t r answer goes_on took other asked is = record { seat = u; refusal = r; takes = took; other = other; asks = subst (IsAsked boot WasCalled true u t) is asked }

-- and the loop goes on
pub one_wait : (boot : World) (WasCalled : GateCall → Type 0) (s u t : SeatView) (r : Refusal) (answer : Bool) (m n : ℕ) → IsRefusedCall boot s u events.Take r → r ≢ LogFull → IsAsked boot WasCalled true u t answer → answer ≡ true → m ≡ turn_number n → IsOneMoreBy boot WasCalled n s t m
one_wait boot WasCalled s u t r answer m n took other asked on number = (n, inr (refl, wait_by boot WasCalled s u t r answer true took other asked on), number)

-- ---- the respawner

only_both : (xs ys : List Recorded) → AreTicksAndRespawns xs → AreTicksAndRespawns ys → AreTicksAndRespawns (xs ++ ys)
only_both [] ys p q = q
only_both (recorded.Tick ∷ xs) ys p q = only_both xs ys p q
only_both (recorded.Respawn s ∷ xs) ys p q = only_both xs ys p q
only_both (recorded.Take ∷ xs) ys p q = absurd p
only_both (recorded.Back n ∷ xs) ys p q = absurd p
only_both (recorded.Line l ∷ xs) ys p q = absurd p
only_both (recorded.Kill e ∷ xs) ys p q = absurd p

ticks_both : (xs ys : List Recorded) → AreTicksAndRespawns xs → ticks_among (xs ++ ys) ≡ ticks_among xs + ticks_among ys
ticks_both [] ys p = omega arith
ticks_both (recorded.Tick ∷ xs) ys p = omega (arith, ticks_both xs ys p)
ticks_both (recorded.Respawn s ∷ xs) ys p = ticks_both xs ys p
ticks_both (recorded.Take ∷ xs) ys p = absurd p
ticks_both (recorded.Back n ∷ xs) ys p = absurd p
ticks_both (recorded.Line l ∷ xs) ys p = absurd p
ticks_both (recorded.Kill e ∷ xs) ys p = absurd p

pub map_both : {A B : Type 0} (f : A → B) (xs ys : List A) → map f (xs ++ ys) ≡ map f xs ++ map f ys
map_both f [] ys = refl
map_both f (x ∷ xs) ys = ap (λ l. f x ∷ l) (map_both f xs ys)

-- one loop after another
rounds_both : (n m k : ℕ) (s t u : SeatView) → HasTickedAndRespawned n s t → HasTickedAndRespawned m t u → n + m ≤ k → HasTickedAndRespawned k s u
rounds_both n m k s t u p q le = record {
  follows = follows_trans s t u p.follows q.follows;
  held = q.held ∙ p.held;
  events = p.events ++ q.events;
  only = only_both p.events q.events p.only q.only;
  few = omega (arith, ticks_both p.events q.events p.only, p.few, q.few, le);
  mine = q.mine ∙ ap (λ i. t.mine ++ map (record_of i) q.events) p.follows.actor
      ∙ ap (λ (x : List Record). x ++ map (record_of s.actor) q.events) p.mine
      ∙ append_assoc s.mine (map (record_of s.actor) p.events) (map (record_of s.actor) q.events)
      ∙ ap (λ (x : List Record). s.mine ++ x) (sym (map_both (record_of s.actor) p.events q.events));
}

rounds_weaker : (n k : ℕ) (s t : SeatView) → HasTickedAndRespawned n s t → n ≤ k → HasTickedAndRespawned k s t
rounds_weaker n k s t p le = record { follows = p.follows; held = p.held; events = p.events; only = p.only; few = omega (arith, p.few, le); mine = p.mine }

-- a tick, a respawn, or nothing at all
nothing_made : (s t : SeatView) → Follows s t → t.mine ≡ s.mine → t.held ≡ s.held → HasTickedAndRespawned 0 s t
nothing_made s t follows mine held = record { follows = follows; held = held; events = []; only = tt; few = omega arith; mine = mine ∙ sym (append-nil s.mine) }

refused_made : (boot : World) (s t : SeatView) (e : Event) (r : Refusal) → IsRefusedCall boot s t e r → HasTickedAndRespawned 0 s t
refused_made boot s t e r refused = nothing_made s t refused.follows refused.mine refused.held

rest_made : (boot : World) (s t : SeatView) (b : Bool) → IsRestCall boot s t b → HasTickedAndRespawned 0 s t
rest_made boot s t b asked = nothing_made s t asked.follows asked.mine asked.held

tried_made : (boot : World) (slot : ℕ) (s t : SeatView) → IsTried boot slot s t → HasTickedAndRespawned 0 s t
tried_made boot slot s t tried = elim tried [
  | inl done ↦ record { follows = done.1.follows; held = done.1.held; events = recorded.Respawn slot ∷ []; only = tt; few = omega arith; mine = done.1.mine }
  | inr other ↦ refused_made boot s t (events.Respawn slot) other.0 other.2
]

-- the seat that a loop begins with
no_rounds : (s t : SeatView) → s.mine ≡ part_of s.seen s.actor → t ≡ s → HasTickedAndRespawned 0 s t
no_rounds s t own same = subst (HasTickedAndRespawned 0 s) (sym same) (nothing_made s s (follows_self s own) refl refl)

own_after : (n : ℕ) (s t : SeatView) → HasTickedAndRespawned n s t → t.mine ≡ part_of t.seen t.actor
own_after n s t made = made.follows.own

slots_made : (boot : World) (s : SeatView) → s.mine ≡ part_of s.seen s.actor → (n : ℕ) (t : SeatView) → AreTried boot s n t → HasTickedAndRespawned 0 s t
slots_made boot s own zero t same = no_rounds s t own same
slots_made boot s own (suc n) t tried = rounds_both 0 0 0 s tried.0 t (slots_made boot s own n tried.0 tried.1) (tried_made boot n tried.0 t tried.2) (omega arith)

sweep_made : (boot : World) (s t : SeatView) → s.mine ≡ part_of s.seen s.actor → IsSweepToFull boot s t → HasTickedAndRespawned 0 s t
sweep_made boot s t own full = rounds_both 0 0 0 s full.1 t (slots_made boot s own full.0 full.1 full.3) (refused_made boot full.1 t (events.Respawn full.0) LogFull full.4) (omega arith)

-- a tick, if there is one, is one of those that are left
tick_made : (boot : World) (left : ℕ) (s t : SeatView) → s.mine ≡ part_of s.seen s.actor → IsTicked boot left s t → HasTickedAndRespawned (left - (left - 1)) s t
tick_made boot zero s t own same = no_rounds s t own same
tick_made boot (suc n) s t own made =
    let one : suc n - (suc n - 1) ≡ 1 = omega arith in
    subst (λ k. HasTickedAndRespawned k s t) (sym one) record { follows = made.1.follows; held = made.1.held; events = recorded.Tick ∷ []; only = tt; few = omega arith; mine = made.1.mine }

tick_full_made : (boot : World) (left : ℕ) (s t : SeatView) → IsTickToFull boot left s t → HasTickedAndRespawned 0 s t
tick_full_made boot zero s t full = absurd full
tick_full_made boot (suc n) s t full = refused_made boot s t events.Tick LogFull full

pub round_made : (boot : World) (left : ℕ) (s t : SeatView) → s.mine ≡ part_of s.seen s.actor → IsRound boot left s t → HasTickedAndRespawned (left - (left - 1)) s t
round_made boot left s t own made =
    let first = tick_made boot left s made.0 own made.1 in
    rounds_both (left - (left - 1)) 0 (left - (left - 1)) s made.0 t first (slots_made boot made.0 first.follows.own slots t made.2) (omega arith)

round_full_made : (boot : World) (left : ℕ) (s t : SeatView) → s.mine ≡ part_of s.seen s.actor → IsRoundToFull boot left s t → HasTickedAndRespawned left s t
round_full_made boot left s t own full = elim full [
  | inl tick ↦ rounds_weaker 0 left s t (tick_full_made boot left s t tick) (omega arith)
  | inr later ↦
      let first = tick_made boot left s later.0 own later.1 in
      rounds_both (left - (left - 1)) 0 left s later.0 t first (sweep_made boot later.0 t first.follows.own later.2) (omega arith)
]

module _ (boot : World) (WasCalled : GateCall → Type 0) (ticks : ℕ) (s : SeatView) (own : s.mine ≡ part_of s.seen s.actor) where
  rounds_made : (n : ℕ) (t : SeatView) → AreRounds boot WasCalled ticks s n t → HasTickedAndRespawned (ticks - (ticks - n)) s t
  rounds_made zero t same =
      let none : ticks - (ticks - 0) ≡ 0 = omega arith in
      subst (λ k. HasTickedAndRespawned k s t) (sym none) (no_rounds s t own same)
  rounds_made (suc n) t more =
      let u = more.0 in
      let asked = more.2 in
      let v = asked.0 in
      let before = rounds_made n u more.1 in
      let now = round_made boot (ticks - n) u v before.follows.own asked.1 in
      let both = rounds_both (ticks - (ticks - n)) (ticks - n - (ticks - n - 1)) (ticks - (ticks - suc n)) s u v before now (omega arith) in
      rounds_both (ticks - (ticks - suc n)) 0 (ticks - (ticks - suc n)) s v t both (rest_made boot v t asked.2.rest asked.2.rests) (omega arith)

  -- what a respawner's loop leaves
  pub respawner_made : (t : SeatView) → IsRespawnerRun boot WasCalled ticks s t → HasTickedAndRespawned ticks s t
  respawner_made t run =
      let before = rounds_made run.rounds run.last run.course in
      let left = ticks - run.rounds in
      elim run.ends [
        | inl full ↦ rounds_both (ticks - left) left ticks s run.last t before (round_full_made boot left run.last t before.follows.own full) (omega arith)
        | inr asked ↦
            let now = round_made boot left run.last asked.0 before.follows.own asked.1 in
            let both = rounds_both (ticks - left) (left - (left - 1)) ticks s run.last asked.0 before now (omega arith) in
            rounds_both ticks 0 ticks s asked.0 t both (rest_made boot asked.0 t asked.2.rest asked.2.rests) (omega arith)
      ]

full_by : (b : Bool) (r : Refusal) → (if b then Some LogFull else None) ≡ Some r → r ≡ LogFull
full_by true r h = let same : Some r ≡ Some LogFull = sym h in cc
full_by false r h = cc

-- a tick is refused only for a full history
pub tick_refused : (w : World) (a : ℕ) (r : Refusal) → event_refusal w a events.Tick ≡ Some r → r ≡ LogFull
unfolding event_refusal
tick_refused w a r h = full_by (nat_lt (free_records w) 1) r h

-- what a respawner's loop knows between two rounds
pub record RoundsSoFar (boot : World) (WasCalled : GateCall → Type 0) (ticks : ℕ) (s t : SeatView) (side : FreeSide) (ticks_left : ℕ) : Type 0 where
  pub rounds : ℕ
  pub course : AreRounds boot WasCalled ticks s rounds t
  pub follows : Follows s t
  pub left : ticks_left ≡ ticks - rounds
  pub actor : side.actor ≡ s.actor
  pub goes_on : side.goes_on ≡ true

module _ (boot : World) (WasCalled : GateCall → Type 0) (ticks : ℕ) (s t v : SeatView) (x y : FreeSide) (left : ℕ) (so_far : RoundsSoFar boot WasCalled ticks s t x left) where
  -- it goes on after a round
  pub rounds_go_on : (next : ℕ) → IsRoundAsked boot WasCalled left t v true → y.actor ≡ x.actor → y.goes_on ≡ true → next ≡ left - 1 → RoundsSoFar boot WasCalled ticks s v y next
  rounds_go_on next asked who on down =
      let made = round_made boot left t asked.0 so_far.follows.own asked.1 in
      record {
        rounds = suc so_far.rounds;
        course = (t, so_far.course, subst (λ k. IsRoundAsked boot WasCalled k t v true) so_far.left asked);
        follows = follows_trans s t v so_far.follows (follows_trans t asked.0 v made.follows asked.2.rests.follows);
        left = omega (arith, so_far.left, down);
        actor = who ∙ so_far.actor;
        goes_on = on;
      }

  -- a full history ends it, and so does the gate
  pub rounds_end : IsLastRound boot WasCalled left t v → IsRespawnerRun boot WasCalled ticks s v
  rounds_end last = record {
    rounds = so_far.rounds;
    last = t;
    course = so_far.course;
    ends = subst (λ k. IsLastRound boot WasCalled k t v) so_far.left last;
  }

-- a round without a tick
pub none_left : (boot : World) (left : ℕ) (s t : SeatView) (p : Progress) → left ≡ 0 → IsSweepTo boot s t p → IsRoundTo boot left s t p
none_left boot left s t GoesOn none swept = (s, subst (λ n. IsTicked boot n s s) (sym none) refl, swept)
none_left boot left s t Full none swept = inr (s, subst (λ n. IsTicked boot n s s) (sym none) refl, swept)

-- a tick, as the first thing of a round
ticked : (boot : World) (left : ℕ) (s t : SeatView) (r : Result Answer Refusal) → 0 < left → IsOk r → IfOk r (λ x. IsAnsweredCall boot s t events.Tick x) → IsTicked boot left s t
ticked boot zero s t r some is ok = absurd (omega arith)
ticked boot (suc n) s t (Ok x) some is ok = (x, ok)
ticked boot (suc n) s t (Err e) some is ok = cc

pub ticked_then : (boot : World) (left : ℕ) (s t u : SeatView) (r : Result Answer Refusal) (p : Progress) → 0 < left → IsOk r → IfOk r (λ x. IsAnsweredCall boot s t events.Tick x) → IsSweepTo boot t u p → IsRoundTo boot left s u p
ticked_then boot left s t u r GoesOn some is ok swept = (t, ticked boot left s t r some is ok, swept)
ticked_then boot left s t u r Full some is ok swept = inr (t, ticked boot left s t r some is ok, swept)

pub ticked_full : (boot : World) (left : ℕ) (s t : SeatView) (r : Result Answer Refusal) → 0 < left → IsErr r → IfErr r (λ e. IsRefusedCall boot s t events.Tick e) → IsRoundToFull boot left s t
ticked_full boot zero s t r some is err = absurd (omega arith)
ticked_full boot (suc n) s t (Err e) some is err = inl (subst (λ x. IsRefusedCall boot s t events.Tick x) (tick_refused _ s.actor e err.refused) err)
ticked_full boot (suc n) s t (Ok x) some is err = cc
