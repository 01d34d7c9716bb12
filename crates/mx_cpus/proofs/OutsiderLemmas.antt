-- What the outsider's calls leave, call by call.
use Rattle.std.proofs.Common.{◌≡◌, ◌∙◌, ℕ, zero, suc, Bool, true, false, ◌⊎◌, length, get_or, take, drop, inl, inr, ◌+◌, ◌-◌, ◌<◌, ◌≤◌, List, [], ◌∷◌, ◌++◌, map, refl, sym, ap, subst, arith, append_assoc}
use Rattle.std.proofs.lemmas.List.{append-nil, take_more, take-append-drop}
use Rattle.mx_machine.specs.declared.events.Answer.{Answer}
use Rattle.mx_machine.specs.declared.events.Event.{Event}
use Rattle.mx_machine.specs.declared.events.Event.TheVariants as events
use Rattle.mx_machine.specs.declared.events.Refusal.{Refusal}
use Rattle.mx_machine.specs.declared.events.Refusal.TheVariants.{LogFull}
use Rattle.mx_machine.specs.declared.history.Recorded.{Recorded}
use Rattle.mx_machine.specs.declared.history.Recorded.TheVariants as recorded
use Rattle.mx_machine.specs.declared.history.Record.{Record}
use Rattle.mx_machine.specs.History.{part_of}
use Rattle.mx_machine.specs.KernelState.{recorded_as}
use Rattle.mx_machine.specs.World.{World}
use Rattle.mx_cpus.specs.declared.outside.OutsideCall.{OutsideCall}
use Rattle.mx_cpus.specs.declared.outside.OutsideCall.TheVariants as calls
use Rattle.mx_cpus.specs.declared.calling.CallEnd.{CallEnd}
use Rattle.mx_cpus.specs.declared.calling.CallEnd.TheVariants.{Made, Full, Stopped}
use Rattle.mx_cpus.specs.declared.locked.HowFar.{HowFar}
use Rattle.mx_cpus.specs.declared.side.FreeSide.{FreeSide}
use Rattle.mx_cpus.specs.Seats.{SeatView, record_of}
use Rattle.mx_cpus.specs.Calls.{Follows, IsAnsweredCall, IsKillCall, IsRefusedCall, IsRestCall, world_after}
use Rattle.mx_cpus.specs.CallEnds.{IsCallTo, goes_on_after}
use Rattle.mx_cpus.specs.Courses.{IsAsked, IsTriedEvent}
use Rattle.mx_cpus.specs.Gates.{GateCall, asked_call, seen_call}
use Rattle.mx_cpus.specs.Outsiders.{AreAsked, AreLooks, AreMade, AreSomeOf, HasBrokenOff, HasMadeAll, HasMadeCalls, IsAskedToEnd, IsEarly, IsEnough, IsLast, IsLook, IsMade, IsOutsiderRun, IsStopped, IsWaited, IsTriedKill, IsWaiting, MayRecord, is_resting}
use Rattle.mx_cpus.proofs.LoopLemmas.{follows_self, follows_trans, map_both, seen_by}

-- ---- records

-- calls that may have made nothing
none_of : (xs : List OutsideCall) → AreSomeOf xs []
none_of xs = tt

some_skip : (x : OutsideCall) (xs : List OutsideCall) (es : List Recorded) → AreSomeOf xs es → AreSomeOf (x ∷ xs) es
some_skip x xs [] h = tt
some_skip x xs (e ∷ es) h = inr h

some_both : (xs ys : List OutsideCall) (es fs : List Recorded) → AreSomeOf xs es → AreSomeOf ys fs → AreSomeOf (xs ++ ys) (es ++ fs)
some_both [] ys [] fs p q = q
some_both [] ys (e ∷ es) fs p q = absurd p
some_both (x ∷ xs) ys [] fs p q = some_skip x (xs ++ ys) fs (some_both xs ys [] fs tt q)
some_both (x ∷ xs) ys (e ∷ es) fs p q = elim p [
  | inl h ↦ inl (h.0, some_both xs ys es fs h.1 q)
  | inr h ↦ inr (some_both xs ys (e ∷ es) fs h q)
]

-- the seat t is the seat s later, without a record more
pub record OnlySaw (s t : SeatView) : Type 0 where
  pub follows : Follows s t
  pub mine : t.mine ≡ s.mine
  pub held : t.held ≡ s.held

saw_trans : (s t u : SeatView) → OnlySaw s t → OnlySaw t u → OnlySaw s u
saw_trans s t u p q = record { follows = follows_trans s t u p.follows q.follows; mine = q.mine ∙ p.mine; held = q.held ∙ p.held }

saw_rest : (boot : World) (s t : SeatView) (rest : Bool) → IsRestCall boot s t rest → OnlySaw s t
saw_rest boot s t rest h = record { follows = h.follows; mine = h.mine; held = h.held }

saw_refused : (boot : World) (s t : SeatView) (e : Event) (r : Refusal) → IsRefusedCall boot s t e r → OnlySaw s t
saw_refused boot s t e r h = record { follows = h.follows; mine = h.mine; held = h.held }

saw_self : (s t : SeatView) → s.mine ≡ part_of s.seen s.actor → t ≡ s → OnlySaw s t
saw_self s t own same = subst (OnlySaw s) (sym same) record { follows = follows_self s own; mine = refl; held = refl }

only_saw : (xs : List OutsideCall) (s t : SeatView) → OnlySaw s t → HasMadeCalls xs s t
only_saw xs s t h = record { follows = h.follows; held = h.held; events = []; only = none_of xs; mine = h.mine ∙ sym (append-nil s.mine) }

-- the event of a call was accepted
call_answered : (boot : World) (c : OutsideCall) (e : Event) (s t : SeatView) (x : Answer) → MayRecord c (recorded_as e) → IsAnsweredCall boot s t e x → HasMadeCalls (c ∷ []) s t
call_answered boot c e s t x is h = record {
  follows = h.follows;
  held = h.held;
  events = recorded_as e ∷ [];
  only = inl (is, tt);
  mine = h.mine;
}

call_tried : (boot : World) (c : OutsideCall) (e : Event) (s t : SeatView) → MayRecord c (recorded_as e) → IsTriedEvent boot e s t → HasMadeCalls (c ∷ []) s t
call_tried boot c e s t is h = elim h [
  | inl done ↦ call_answered boot c e s t done.0 is done.1
  | inr other ↦ only_saw (c ∷ []) s t (saw_refused boot s t e other.0 other.2)
]

-- a kill in a slot was accepted
kill_answered : (boot : World) (slot e : ℕ) (s t : SeatView) (x : Answer) → IsKillCall boot slot s t e x → HasMadeCalls (calls.KillSlot slot ∷ []) s t
kill_answered boot slot e s t x h = record {
  follows = h.follows;
  held = h.held;
  events = recorded.Kill e ∷ [];
  only = inl (((world_after boot h.before).table, ap recorded.Kill h.answered.1), tt);
  mine = h.mine;
}

kill_tried : (boot : World) (slot : ℕ) (s t : SeatView) → IsTriedKill boot slot s t → HasMadeCalls (calls.KillSlot slot ∷ []) s t
kill_tried boot slot s t h = elim h [
  | inl done ↦ kill_answered boot slot done.0 s t done.1 done.2
  | inr other ↦ only_saw (calls.KillSlot slot ∷ []) s t (saw_refused boot s t (events.Kill other.0) other.1 other.3.0)
]

-- some calls after others
calls_both : (xs ys : List OutsideCall) (s t u : SeatView) → HasMadeCalls xs s t → HasMadeCalls ys t u → HasMadeCalls (xs ++ ys) s u
calls_both xs ys s t u p q = record {
  follows = follows_trans s t u p.follows q.follows;
  held = q.held ∙ p.held;
  events = p.events ++ q.events;
  only = some_both xs ys p.events q.events p.only q.only;
  mine = q.mine ∙ ap (λ i. t.mine ++ map (record_of i) q.events) p.follows.actor
      ∙ ap (λ (x : List Record). x ++ map (record_of s.actor) q.events) p.mine
      ∙ append_assoc s.mine (map (record_of s.actor) p.events) (map (record_of s.actor) q.events)
      ∙ ap (λ (x : List Record). s.mine ++ x) (sym (map_both (record_of s.actor) p.events q.events));
}

-- ---- waits

module _ (boot : World) (WasCalled : GateCall → Type 0) where
  saw_looks : (n : ℕ) (s : SeatView) → s.mine ≡ part_of s.seen s.actor → (so_many : ℕ) (t : SeatView) → AreLooks boot WasCalled n s so_many t → OnlySaw s t
  saw_looks n s own zero t same = saw_self s t own same
  saw_looks n s own (suc so_many) t more =
      saw_trans s more.0 t (saw_looks n s own so_many more.0 more.1) (saw_rest boot more.0 t (is_resting boot t) more.3)

  saw_waiting : (n : ℕ) (s t : SeatView) (HasEnded : SeatView → SeatView → Type 0) → IsWaiting boot WasCalled n s t HasEnded → OnlySaw s t
  saw_waiting n s t HasEnded h =
      saw_trans s h.first t (saw_rest boot s h.first (is_resting boot h.first) h.begins) (saw_looks n h.first h.begins.follows.own h.so_many t h.looks)

  -- what a wait knows between two looks, from the first one on, which found the seat s
  pub record WaitSoFar (n : ℕ) (s t : SeatView) (side : FreeSide) (seen : HowFar) : Type 0 where
    pub so_many : ℕ
    pub looks : AreLooks boot WasCalled n s so_many t
    pub follows : Follows s t
    pub records : seen.records ≡ length t.seen
    pub rests : seen.at_rest ≡ is_resting boot t
    pub actor : side.actor ≡ s.actor
    pub goes_on : side.goes_on ≡ true

  -- a look, by what it answered
  pub look_of : (s t : SeatView) (rest : Bool) → IsRestCall boot s t rest → IsLook boot s t
  look_of s t rest h = subst (IsRestCall boot s t) h.answered h

  pub first_look : (n : ℕ) (s t : SeatView) (side : FreeSide) (seen : HowFar) → IsRestCall boot s t seen.at_rest → seen.records ≡ length t.seen → side.actor ≡ s.actor → side.goes_on ≡ true → WaitSoFar n t t side seen
  first_look n s t side seen rests many who on = record {
    so_many = 0;
    looks = refl;
    follows = follows_self t rests.follows.own;
    records = many;
    rests = rests.answered;
    actor = who ∙ sym rests.follows.actor;
    goes_on = on;
  }

  -- too little was seen
  early : (n : ℕ) (s t : SeatView) (side next : FreeSide) (first seen : HowFar) → WaitSoFar n s t side seen → first.records ≡ length s.seen → seen.at_rest ≡ false → seen.records - first.records < n
      → WasCalled (seen_call side.actor seen.records) → WasCalled (asked_call side.actor seen.records seen.at_rest false next.goes_on) → IsEarly boot WasCalled n s t next.goes_on
  early n s t side next first seen so_far many busy few shown asked =
      let who : side.actor ≡ t.actor = so_far.actor ∙ sym so_far.follows.actor in
      record {
        few = omega (arith, so_far.records, many, few);
        busy = sym so_far.rests ∙ busy;
        seen = seen_by WasCalled t side.actor t.actor seen.records who so_far.records shown;
        asked = subst (λ i. WasCalled (asked_call i (length t.seen) false false next.goes_on)) who
            (subst (λ k. WasCalled (asked_call side.actor k false false next.goes_on)) so_far.records
            (subst (λ b. WasCalled (asked_call side.actor seen.records b false next.goes_on)) busy asked));
      }

  -- the loop goes on, and the seat looks again
  pub looks_go_on : (n : ℕ) (s t u : SeatView) (side next : FreeSide) (first seen now : HowFar) → WaitSoFar n s t side seen → first.records ≡ length s.seen → seen.at_rest ≡ false → seen.records - first.records < n
      → WasCalled (seen_call side.actor seen.records) → WasCalled (asked_call side.actor seen.records seen.at_rest false next.goes_on) → next.actor ≡ side.actor → next.goes_on ≡ true → IsRestCall boot t u now.at_rest → now.records ≡ length u.seen → WaitSoFar n s u next now
  looks_go_on n s t u side next first seen now so_far many busy few shown asked who on rests many_now = record {
    so_many = suc so_far.so_many;
    looks = (t, so_far.looks, subst (IsEarly boot WasCalled n s t) on (early n s t side next first seen so_far many busy few shown asked), look_of t u now.at_rest rests);
    follows = follows_trans s t u so_far.follows rests.follows;
    records = many_now;
    rests = rests.answered;
    actor = who ∙ so_far.actor;
    goes_on = on;
  }

  -- the gate ends the loop
  pub looks_stop : (n : ℕ) (s f t : SeatView) (side next : FreeSide) (first seen : HowFar) → WaitSoFar n f t side seen → IsRestCall boot s f first.at_rest → first.records ≡ length f.seen → seen.at_rest ≡ false → seen.records - first.records < n
      → WasCalled (seen_call side.actor seen.records) → WasCalled (asked_call side.actor seen.records seen.at_rest false next.goes_on) → next.goes_on ≡ false → IsStopped boot WasCalled n s t
  looks_stop n s f t side next first seen so_far begins many busy few shown asked off = record {
    first = f;
    begins = look_of s f first.at_rest begins;
    so_many = so_far.so_many;
    looks = so_far.looks;
    ends = subst (IsEarly boot WasCalled n f t) off (early n f t side next first seen so_far many busy few shown asked);
  }

  -- enough was seen
  pub looks_end : (n : ℕ) (s f t : SeatView) (side : FreeSide) (first seen : HowFar) → WaitSoFar n f t side seen → IsRestCall boot s f first.at_rest → first.records ≡ length f.seen → (seen.at_rest ≡ true) ⊎ (n ≤ seen.records - first.records) → IsWaited boot WasCalled n s t
  looks_end n s f t side first seen so_far begins many enough = record {
    first = f;
    begins = look_of s f first.at_rest begins;
    so_many = so_far.so_many;
    looks = so_far.looks;
    ends = elim enough [
      | inl rest ↦ inr (sym so_far.rests ∙ rest)
      | inr more ↦ inl (omega (arith, so_far.records, many, more))
    ];
  }

  call_made : (x : OutsideCall) (s t : SeatView) → IsMade boot WasCalled x s t → HasMadeCalls (x ∷ []) s t
  call_made (calls.Line l) s t h = call_tried boot (calls.Line l) (events.Line l) s t refl h
  call_made (calls.Kill e) s t h = call_tried boot (calls.Kill e) (events.Kill e) s t refl h
  call_made (calls.KillSlot slot) s t h = kill_tried boot slot s t h
  call_made (calls.Respawn slot) s t h = call_tried boot (calls.Respawn slot) (events.Respawn slot) s t refl h
  call_made calls.Tick s t h = call_tried boot calls.Tick events.Tick s t refl h
  call_made (calls.Wait n) s t h = only_saw (calls.Wait n ∷ []) s t (saw_waiting n s t (IsEnough boot n) h)

  saw_last : (x : OutsideCall) (s t : SeatView) → IsLast boot WasCalled x s t → OnlySaw s t
  saw_last (calls.Line l) s t h = saw_refused boot s t (events.Line l) LogFull h
  saw_last (calls.Kill e) s t h = saw_refused boot s t (events.Kill e) LogFull h
  saw_last (calls.KillSlot slot) s t h = saw_refused boot s t (events.Kill h.0) LogFull h.1.0
  saw_last (calls.Respawn slot) s t h = saw_refused boot s t (events.Respawn slot) LogFull h
  saw_last calls.Tick s t h = saw_refused boot s t events.Tick LogFull h
  saw_last (calls.Wait n) s t h = saw_waiting n s t (λ first last. IsEarly boot WasCalled n first last false) h

  calls_made : (xs : List OutsideCall) (s t : SeatView) → s.mine ≡ part_of s.seen s.actor → AreMade boot WasCalled s xs t → HasMadeCalls xs s t
  calls_made [] s t own same = only_saw [] s t (saw_self s t own same)
  calls_made (x ∷ xs) s t own more =
      let first = call_made x s more.0 more.1 in
      calls_both (x ∷ []) xs s more.0 t first (calls_made xs more.0 t first.follows.own more.2)

  -- ---- questions after the last call

  saw_asked : (s : SeatView) → s.mine ≡ part_of s.seen s.actor → (so_many : ℕ) (t : SeatView) → AreAsked boot WasCalled s so_many t → OnlySaw s t
  saw_asked s own zero t same = saw_self s t own same
  saw_asked s own (suc so_many) t more = saw_trans s more.0 t (saw_asked s own so_many more.0 more.1) (saw_rest boot more.0 t more.2.rest more.2.rests)

  saw_to_end : (s t : SeatView) → s.mine ≡ part_of s.seen s.actor → IsAskedToEnd boot WasCalled s t → OnlySaw s t
  saw_to_end s t own h = saw_trans s h.1 t (saw_asked s own h.0 h.1 h.2) (saw_rest boot h.1 t h.3.rest h.3.rests)

  -- what is known between two of them
  pub record AskedSoFar (s t : SeatView) (side : FreeSide) : Type 0 where
    pub so_many : ℕ
    pub questions : AreAsked boot WasCalled s so_many t
    pub follows : Follows s t
    pub actor : side.actor ≡ s.actor
    pub goes_on : side.goes_on ≡ true

  -- it goes on after a yes
  pub asked_go_on : (s t u : SeatView) (side next : FreeSide) → AskedSoFar s t side → IsAsked boot WasCalled true t u next.goes_on → next.actor ≡ side.actor → next.goes_on ≡ true → AskedSoFar s u next
  asked_go_on s t u side next so_far asked who on = record {
    so_many = suc so_far.so_many;
    questions = (t, so_far.questions, subst (IsAsked boot WasCalled true t u) on asked);
    follows = follows_trans s t u so_far.follows asked.rests.follows;
    actor = who ∙ so_far.actor;
    goes_on = on;
  }

  -- and ends after a no
  pub asked_end : (s t u : SeatView) (side next : FreeSide) → AskedSoFar s t side → IsAsked boot WasCalled true t u next.goes_on → next.goes_on ≡ false → IsAskedToEnd boot WasCalled s u
  asked_end s t u side next so_far asked off = (so_far.so_many, t, so_far.questions, subst (IsAsked boot WasCalled true t u) off asked)

  -- what the outsider's loop leaves
  pub outsider_made : (xs : List OutsideCall) (s t : SeatView) → s.mine ≡ part_of s.seen s.actor → IsOutsiderRun boot WasCalled xs s t → HasMadeCalls xs s t
  outsider_made xs s t own run =
      let before = calls_made run.earlier s run.last own run.made in
      elim run.ends [
        | inl all ↦
            let both = calls_both run.earlier [] s run.last t before (only_saw [] run.last t (saw_to_end run.last t before.follows.own all.1)) in
            subst (λ (ys : List OutsideCall). HasMadeCalls ys s t) (append-nil run.earlier ∙ all.0) both
        | inr last ↦
            let both = calls_both run.earlier (last.0 ∷ last.1) s run.last t before (only_saw (last.0 ∷ last.1) run.last t (saw_last last.0 run.last t last.3)) in
            subst (λ (ys : List OutsideCall). HasMadeCalls ys s t) (sym last.2) both
      ]

  -- a call after others
  made_last : (xs : List OutsideCall) (x : OutsideCall) (s t u : SeatView) → AreMade boot WasCalled s xs t → IsMade boot WasCalled x t u → AreMade boot WasCalled s (xs ++ x ∷ []) u
  made_last [] x s t u same made = (u, subst (λ v. IsMade boot WasCalled x v u) same made, refl)
  made_last (y ∷ ys) x s t u more made = (more.0, more.1, made_last ys x more.0 t u more.2 made)

  -- what the outsider's loop knows between two calls, of which the first k are made
  pub record CallsSoFar (xs : List OutsideCall) (k : ℕ) (s t : SeatView) (side : FreeSide) : Type 0 where
    pub made : AreMade boot WasCalled s (take k xs) t
    pub follows : Follows s t
    pub actor : side.actor ≡ s.actor
    pub goes_on : side.goes_on ≡ true

  follows_made : (x : OutsideCall) (s t u : SeatView) → Follows s t → IsMade boot WasCalled x t u → Follows s u
  follows_made x s t u so_far made = follows_trans s t u so_far (call_made x t u made).follows

  -- it goes on after a call
  pub calls_go_on : (xs : List OutsideCall) (k : ℕ) (d : OutsideCall) (s t u : SeatView) (side next : FreeSide) (end : CallEnd) → CallsSoFar xs k s t side → k < length xs → IsCallTo boot WasCalled (get_or xs k d) t u end → end ≡ Made
      → next.actor ≡ t.actor → next.goes_on ≡ goes_on_after end → CallsSoFar xs (k + 1) s u next
  calls_go_on xs k d s t u side next end so_far below called is who on =
      let made : IsMade boot WasCalled (get_or xs k d) t u = subst (IsCallTo boot WasCalled (get_or xs k d) t u) is called in
      record {
        made = subst (λ (ys : List OutsideCall). AreMade boot WasCalled s ys u) (sym (take_more xs k d below)) (made_last (take k xs) (get_or xs k d) s t u so_far.made made);
        follows = follows_made (get_or xs k d) s t u so_far.follows made;
        actor = who ∙ so_far.follows.actor;
        goes_on = on ∙ ap goes_on_after is;
      }

  -- a call ends it
  calls_end : (xs : List OutsideCall) (k : ℕ) (d : OutsideCall) (s t u : SeatView) (side : FreeSide) → CallsSoFar xs k s t side → k < length xs → IsLast boot WasCalled (get_or xs k d) t u → IsOutsiderRun boot WasCalled xs s u
  calls_end xs k d s t u side so_far below last = record {
    earlier = take k xs;
    last = t;
    made = so_far.made;
    ends = inr (
      get_or xs k d,
      drop (k + 1) xs,
      sym (take-append-drop (k + 1) xs) ∙ ap (λ (ys : List OutsideCall). ys ++ drop (k + 1) xs) (take_more xs k d below)
          ∙ append_assoc (take k xs) (get_or xs k d ∷ []) (drop (k + 1) xs),
      last,
    );
  }

  pub calls_full : (xs : List OutsideCall) (k : ℕ) (d : OutsideCall) (s t u : SeatView) (side : FreeSide) (end : CallEnd) → CallsSoFar xs k s t side → k < length xs → IsCallTo boot WasCalled (get_or xs k d) t u end → end ≡ Full
      → IsOutsiderRun boot WasCalled xs s u
  calls_full xs k d s t u side end so_far below called is =
      calls_end xs k d s t u side so_far below (subst (IsCallTo boot WasCalled (get_or xs k d) t u) is called)

  pub calls_stopped : (xs : List OutsideCall) (k : ℕ) (d : OutsideCall) (s t u : SeatView) (side : FreeSide) (end : CallEnd) → CallsSoFar xs k s t side → k < length xs → IsCallTo boot WasCalled (get_or xs k d) t u end → end ≡ Stopped
      → IsOutsiderRun boot WasCalled xs s u
  calls_stopped xs k d s t u side end so_far below called is =
      calls_end xs k d s t u side so_far below (subst (IsCallTo boot WasCalled (get_or xs k d) t u) is called)

  -- the same, by whether all were made
  calls_broken : (xs : List OutsideCall) (k : ℕ) (d : OutsideCall) (s t u : SeatView) (side : FreeSide) → CallsSoFar xs k s t side → k < length xs → IsLast boot WasCalled (get_or xs k d) t u → HasBrokenOff boot WasCalled xs s u
  calls_broken xs k d s t u side so_far below last = (
    take k xs,
    get_or xs k d,
    drop (k + 1) xs,
    t,
    sym (take-append-drop (k + 1) xs) ∙ ap (λ (ys : List OutsideCall). ys ++ drop (k + 1) xs) (take_more xs k d below)
        ∙ append_assoc (take k xs) (get_or xs k d ∷ []) (drop (k + 1) xs),
    so_far.made,
    last,
  )

  pub broken_full : (xs : List OutsideCall) (k : ℕ) (d : OutsideCall) (s t u : SeatView) (side : FreeSide) (end : CallEnd) → CallsSoFar xs k s t side → k < length xs → IsCallTo boot WasCalled (get_or xs k d) t u end → end ≡ Full
      → HasBrokenOff boot WasCalled xs s u
  broken_full xs k d s t u side end so_far below called is =
      calls_broken xs k d s t u side so_far below (subst (IsCallTo boot WasCalled (get_or xs k d) t u) is called)

  pub broken_stopped : (xs : List OutsideCall) (k : ℕ) (d : OutsideCall) (s t u : SeatView) (side : FreeSide) (end : CallEnd) → CallsSoFar xs k s t side → k < length xs → IsCallTo boot WasCalled (get_or xs k d) t u end → end ≡ Stopped
      → HasBrokenOff boot WasCalled xs s u
  broken_stopped xs k d s t u side end so_far below called is =
      calls_broken xs k d s t u side so_far below (subst (IsCallTo boot WasCalled (get_or xs k d) t u) is called)

  pub made_all : (xs : List OutsideCall) (k : ℕ) (s t u : SeatView) (side : FreeSide) → CallsSoFar xs k s t side → take k xs ≡ xs → IsAskedToEnd boot WasCalled t u → HasMadeAll boot WasCalled xs s u
  made_all xs k s t u side so_far all asked = (t, subst (λ (ys : List OutsideCall). AreMade boot WasCalled s ys t) all so_far.made, asked)

  -- all are made
  pub calls_all : (xs : List OutsideCall) (k : ℕ) (s t u : SeatView) (side : FreeSide) → CallsSoFar xs k s t side → take k xs ≡ xs → IsAskedToEnd boot WasCalled t u → IsOutsiderRun boot WasCalled xs s u
  calls_all xs k s t u side so_far all asked = record {
    earlier = take k xs;
    last = t;
    made = so_far.made;
    ends = inl (all, asked);
  }
