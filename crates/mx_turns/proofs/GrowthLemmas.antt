-- Turns make records: each that isn't the last makes one, or uses up a line or a kill.
use Rattle.std.proofs.Common.{◌≡◌, ◌≢◌, ◌∙◌, ◌⊎◌, ◌≤◌, ◌<◌, ℕ, zero, suc, ◌+◌, ◌++◌, ◌||◌, ◌&&◌, ◌==◌, not, nat_lt, Bool, true, false, List, [], ◌∷◌, cond, drop, length, map, Option, Some, None, is_none, slice_get, slice_index_or, inl, inr, refl, ap, sym, subst, arith, true≢false}
use Rattle.std.specs.List.{range_with_len}
use Rattle.std.proofs.lemmas.Bool.{cases_lt, lt-ltb}
use Rattle.mx_machine.specs.CallRefusals.{owner_of}
use Rattle.mx_machine.specs.Proc.declared.process.Process.{Process}
use Rattle.mx_machine.specs.Proc.Queues.{first_ready}
use Rattle.mx_machine.specs.Proc.States.{is_down}
use Rattle.mx_machine.specs.Proc.TableState.{nobody, process_at}
use Rattle.mx_machine.specs.Respawn.{is_worn}
use Rattle.mx_machine.specs.Service.{Service}
use Rattle.mx_machine.specs.declared.events.Event.{Event}
use Rattle.mx_machine.specs.declared.events.Event.TheVariants.{Step, Take, Back, Line, Tick, Kill, Respawn}
use Rattle.mx_machine.specs.declared.events.Refusal.{Refusal}
use Rattle.mx_machine.specs.declared.events.Refusal.TheVariants.{CpuBusy, CpuEmpty, LogFull, NotDown, Worn}
use Rattle.mx_machine.specs.Held.{held_run}
use Rattle.mx_machine.specs.History.{world_after_events}
use Rattle.mx_machine.specs.Move.{back_refusal, event_refusal, if_full, line_refusal, respawn_refusal, take_refusal, world_after_back, world_after_event, world_after_line, world_after_respawn, world_after_step, world_after_take}
use Rattle.mx_machine.specs.Rest.{at_rest, down_are_worn}
use Rattle.mx_machine.specs.Steps.{steps_of}
use Rattle.mx_machine.specs.World.{World, HeldProcess, free_records, held_by, out_count}
use Rattle.mx_machine.proofs.ReplayLemmas.{after_append}
use Rattle.mx_turns.specs.declared.turns.Ending.TheVariants.{Rest, Turns, Full}
use Rattle.mx_turns.specs.declared.outside.OutsideLine.{OutsideLine}
use Rattle.mx_turns.specs.declared.outside.OutsideLine.TheVariants.{Plain}
use Rattle.mx_turns.specs.Turns.{Course, Offered, is_over, most_steps, next_now, offered, offered_first, outside, refusable, respawns, run_of, runs, takes, then_offered, turn, turns, world_after}
use Rattle.mx_turns.proofs.OfferLemmas.{Offers, empty_offered, offered_more, runs_more, steps_offered}
use Rattle.mx_turns.proofs.MadeLemmas.{back_not_full}
use Rattle.mx_turns.proofs.RoundLemmas.{refusal_of_back, still_held}
use Rattle.mx_turns.proofs.TurnLemmas.{cpus_stay}

-- ---- no event takes a record away

by_step : (w : World) (a : ℕ) (x : Option HeldProcess) → w.records ≤ (world_after_step w a x).records
by_step w a None = omega arith
by_step w a (Some l) = omega arith

by_take : (w : World) (a : ℕ) (s : Option ℕ) → w.records ≤ (world_after_take w a s).records
by_take w a None = omega arith
by_take w a (Some s) = omega arith

by_back : (w : World) (a : ℕ) (x : Option HeldProcess) → w.records ≤ (world_after_back w a x).records
by_back w a None = omega arith
by_back w a (Some l) = omega arith

by_line : (w : World) (l : ℕ) (owner : Option ℕ) → w.records ≤ (world_after_line w l owner).records
by_line w l None = omega arith
by_line w l (Some s) = omega arith

by_respawn : (w : World) (s : ℕ) (v : Option Service) → w.records ≤ (world_after_respawn w s v).records
by_respawn w s None = omega arith
by_respawn w s (Some v) = omega arith

no_less : (w : World) (a : ℕ) (x : Event) → w.records ≤ (world_after_event w a x).records
unfolding world_after_event
no_less w a Step = by_step w a (held_by w a)
no_less w a Take = by_take w a (first_ready w.table.ready)
no_less w a Back = by_back w a (held_by w a)
no_less w a (Line l) = by_line w l (owner_of w.table l)
no_less w a Tick = omega arith
no_less w a (Kill e) = omega arith
no_less w a (Respawn s) = by_respawn w s (slice_get w.services s)

pub no_less_after : (w : World) (xs : Offers) → w.records ≤ (world_after_events w xs).records
no_less_after w [] = omega arith
no_less_after w (x ∷ xs) =
    let one = no_less w x.0 x.1 in
    let rest = no_less_after (world_after_event w x.0 x.1) xs in
    omega (arith, one, rest)

-- ---- an event that is accepted has one record, but for a step

-- an event that has a record
abbrev pub IsRecorded : Event → Type 0
IsRecorded Step = ⊥
IsRecorded _ = Unit {0}

more_by_take : (w : World) (a left : ℕ) (held : Option HeldProcess) (s : Option ℕ) → take_refusal left held s ≡ None → (world_after_take w a s).records ≡ w.records + 1
more_by_take w a left (Some l) s h = cc
more_by_take w a left None None h = cc
more_by_take w a left None (Some s) h = refl

take_left : (w : World) (a : ℕ) (is : Bool) (left : ℕ) (held : Option HeldProcess) (s : Option ℕ) → cond is (take_refusal left held s) (Some CpuBusy) ≡ None → (world_after_take w a s).records ≡ w.records + 1
take_left w a true left held s h = more_by_take w a left held s h
take_left w a false left held s h = cc

more_by_back : (w : World) (a : ℕ) (x : Option HeldProcess) → back_refusal x ≡ None → (world_after_back w a x).records ≡ w.records + 1
more_by_back w a None h = cc
more_by_back w a (Some l) h = refl

more_by_line : (w : World) (l left : ℕ) (owner : Option ℕ) → line_refusal left owner ≡ None → (world_after_line w l owner).records ≡ w.records + 1
more_by_line w l left None h = cc
more_by_line w l left (Some s) h = refl

more_by_respawn : (w : World) (s left : ℕ) (p : Process) (v : Option Service) → respawn_refusal left p v ≡ None → (world_after_respawn w s v).records ≡ w.records + 1
more_by_respawn w s left p None h = cc
more_by_respawn w s left p (Some v) h = refl

pub one_more : (w : World) (a : ℕ) (x : Event) → IsRecorded x → event_refusal w a x ≡ None → (world_after_event w a x).records ≡ w.records + 1
unfolding event_refusal world_after_event
one_more w a Step is h = absurd is
one_more w a Take is h = take_left w a (nat_lt a (length w.cpus)) (free_records w) (held_by w a) (first_ready w.table.ready) h
one_more w a Back is h = more_by_back w a (held_by w a) h
one_more w a (Line l) is h = more_by_line w l (free_records w) (owner_of w.table l) h
one_more w a Tick is h = refl
one_more w a (Kill e) is h = refl
one_more w a (Respawn s) is h = more_by_respawn w s (free_records w) (process_at w.table s) (slice_get w.services s) h

-- ---- offers of which none is made

-- an event is refused, and not since the history is full
abbrev IsRefused : World → ℕ × Event → Type 0
IsRefused w x = (r : Refusal) × (event_refusal w x.0 x.1 ≡ Some r) × (r ≢ LogFull)

abbrev AreRefused : World → Offers → Type 0
AreRefused w [] = Unit {0}
AreRefused w (x ∷ xs) = IsRefused w x × AreRefused w xs

abbrev AreRecorded : Offers → Type 0
AreRecorded [] = Unit {0}
AreRecorded (x ∷ xs) = IsRecorded x.1 × AreRecorded xs

-- a record more comes of offers, or all are refused
abbrev MoreOrNone : World → Offers → Type 0
MoreOrNone w xs = (w.records < (world_after w (offered w xs)).records) ⊎ (((offered w xs).made ≡ []) × AreRefused w xs)

first_or_none : (w : World) (x : ℕ × Event) (xs : Offers) (r : Option Refusal) → event_refusal w x.0 x.1 ≡ r → IsRecorded x.1
    → (offered_first x r (offered w xs) (offered (world_after_event w x.0 x.1) xs)).full ≡ false
    → ((offered w xs).full ≡ false → MoreOrNone w xs)
    → (w.records < (world_after w (offered_first x r (offered w xs) (offered (world_after_event w x.0 x.1) xs))).records)
    ⊎ (((offered_first x r (offered w xs) (offered (world_after_event w x.0 x.1) xs)).made ≡ []) × (IsRefused w x × AreRefused w xs))
first_or_none w x xs None e is f rest =
    let v = world_after_event w x.0 x.1 in
    let one = one_more w x.0 x.1 is e in
    let later = no_less_after v (offered v xs).made in
    inl (omega (arith, one, later))
first_or_none w x xs (Some LogFull) e is f rest = cc
first_or_none w x xs (Some r) e is f rest = elim (rest f) [
  | inl more ↦ inl more
  | inr none ↦ inr (none.0, ((r, e, (λ h. cc)), none.1))
]

more_or_none : (w : World) (xs : Offers) → AreRecorded xs → (offered w xs).full ≡ false → MoreOrNone w xs
more_or_none w [] are f = inr (refl, tt)
more_or_none w (x ∷ xs) are f = first_or_none w x xs (event_refusal w x.0 x.1) refl are.0 f (more_or_none w xs are.1)

-- ---- the lists of offers

takes_recorded : (n a : ℕ) → AreRecorded (map (λ c. let x : ℕ × Event = (c, Take) in x) (range_with_len a n))
takes_recorded zero a = tt
takes_recorded (suc n) a = (tt, takes_recorded n (a + 1))

respawns_recorded : (other n a : ℕ) → AreRecorded (map (λ s. let x : ℕ × Event = (other, Respawn s) in x) (range_with_len a n))
respawns_recorded other zero a = tt
respawns_recorded other (suc n) a = (tt, respawns_recorded other n (a + 1))

-- one of the respawns, if all are refused
respawn_refused : (w : World) (other n a i : ℕ) → AreRefused w (map (λ s. let x : ℕ × Event = (other, Respawn s) in x) (range_with_len a n)) → i < n → IsRefused w (other, Respawn (a + i))
respawn_refused w other zero a i all b = absurd (omega (arith, b))
respawn_refused w other (suc n) a zero all b = let z : a ≡ a + 0 = omega arith in subst (λ k. IsRefused w (other, Respawn k)) z all.0
respawn_refused w other (suc n) a (suc i) all b =
    let z : a + 1 + i ≡ a + suc i = omega arith in
    subst (λ k. IsRefused w (other, Respawn k)) z (respawn_refused w other n (a + 1) i all.1 (omega (arith, b)))

-- ---- what refusals say

not_ready : (left : ℕ) (s : Option ℕ) (r : Refusal) → (let held : Option HeldProcess = None in take_refusal left held s) ≡ Some r → r ≢ LogFull → s ≡ None
not_ready left None r h n = refl
not_ready left (Some s) r h n = by (nat_lt left 2) h
  where
    by : (b : Bool) → cond b (Some LogFull) None ≡ Some r → Some s ≡ None
    by true e = absurd (n cc)
    by false e = cc

none_ready : (w : World) → 0 < length w.cpus → held_by w 0 ≡ None → IsRefused w (0, Take) → first_ready w.table.ready ≡ None
unfolding event_refusal
none_ready w some empty refused = by (nat_lt 0 (length w.cpus)) (lt-ltb 0 (length w.cpus) some) (held_by w 0) empty refused.1
  where
    by : (b : Bool) → b ≡ true → (held : Option HeldProcess) → held ≡ None → cond b (take_refusal (free_records w) held (first_ready w.table.ready)) (Some CpuBusy) ≡ Some refused.0 → first_ready w.table.ready ≡ None
    by true e None f h = not_ready (free_records w) (first_ready w.table.ready) refused.0 h refused.2
    by true e (Some l) f h = cc
    by false e held f h = cc

up_or_worn : (left : ℕ) (p : Process) (v : Service) (r : Refusal) → respawn_refusal left p (Some v) ≡ Some r → r ≢ LogFull → (not (is_down p.state) || is_worn p v) ≡ true
up_or_worn left p v r h n = by (not (is_down p.state)) (is_worn p v) h
  where
    full : (b : Bool) → cond b (Some LogFull) None ≡ Some r → ⊥
    full true e = n cc
    full false e = cc

    by : (up worn : Bool) → cond up (Some NotDown) (cond worn (Some Worn) (if_full left 1)) ≡ Some r → (up || worn) ≡ true
    by true worn e = refl
    by false true e = refl
    by false false e = absurd (full (nat_lt left 1) e)

refused_service : (w : World) (a s : ℕ) (v : Service) → slice_get w.services s ≡ Some v → IsRefused w (a, Respawn s) → (not (is_down (process_at w.table s).state) || is_worn (process_at w.table s) v) ≡ true
unfolding event_refusal
refused_service w a s v there refused =
    up_or_worn (free_records w) (process_at w.table s) v refused.0 (ap (respawn_refusal (free_records w) (process_at w.table s)) (sym there) ∙ refused.1) refused.2

all_worn : (ps : List Process) (vs : List Service) → ((i : ℕ) (p : Process) (v : Service) → slice_get ps i ≡ Some p → slice_get vs i ≡ Some v → (not (is_down p.state) || is_worn p v) ≡ true) → down_are_worn ps vs ≡ true
all_worn [] vs each = refl
all_worn (p ∷ ps) [] each = refl
all_worn (p ∷ ps) (v ∷ vs) each =
    ap (λ b. b && down_are_worn ps vs) (each 0 p v refl refl) ∙ all_worn ps vs (λ i q u h g. each (suc i) q u h g)

at_place : (ps : List Process) (i : ℕ) (p none : Process) → slice_get ps i ≡ Some p → slice_index_or ps i none ≡ p
at_place [] zero p none h = cc
at_place [] (suc i) p none h = cc
at_place (q ∷ ps) zero p none h = cc
at_place (q ∷ ps) (suc i) p none h = at_place ps i p none h

in_list : {X : Type 0} (xs : List X) (i : ℕ) (x : X) → slice_get xs i ≡ Some x → i < length xs
in_list [] zero x h = cc
in_list [] (suc i) x h = cc
in_list (y ∷ ys) zero x h = omega arith
in_list (y ∷ ys) (suc i) x h = let b = in_list ys i x h in omega (arith, b)

none_out : (xs : List (Option HeldProcess)) → ((i : ℕ) → i < length xs → slice_index_or xs i None ≡ None) → out_count xs ≡ 0
none_out [] each = refl
none_out (None ∷ xs) each = none_out xs (λ i b. each (suc i) (omega (arith, b)))
none_out (Some l ∷ xs) each = let e = each 0 (omega arith) in cc

-- ---- runs of which nothing comes

-- a record more comes of the runs of the first processors, or nothing does, since these hold nothing
abbrev RanOrNone : World → ℕ → Type 0
RanOrNone w n =
    (w.records < (world_after w (offered w (runs n))).records)
    ⊎ (((offered w (runs n)).made ≡ []) × ((i : ℕ) → i < n → held_by w i ≡ None))

abbrev RunOrNone : World → ℕ → Type 0
RunOrNone w c = (w.records < (world_after w (offered w (run_of c))).records) ⊎ (((offered w (run_of c)).made ≡ []) × (held_by w c ≡ None))

back_refused : (w : World) (c : ℕ) → held_by w c ≡ None → event_refusal w c Back ≡ Some CpuEmpty
unfolding event_refusal
back_refused w c h = ap back_refusal h

run_or_none : (w : World) (c : ℕ) (held : Option HeldProcess) → held_by w c ≡ held → RunOrNone w c
run_or_none w c None h =
    let end : Offers = (c, Back) ∷ [] in
    let steps = empty_offered w c h most_steps in
    let all : offered w (run_of c) ≡ record { made = []; full = false } =
    offered_more w (steps_of c most_steps) end (ap (λ (o : Offered). o.full) steps)
    ∙ ap (λ (o : Offered). then_offered w o end) steps
    ∙ ap (λ (q : Option Refusal). let z : Offered = record { made = []; full = false } in offered_first (c, Back) q z (let y : Offered = record { made = []; full = false } in y)) (back_refused w c h) in
    inr (ap (λ (o : Offered). o.made) all, h)
run_or_none w c (Some l) h =
    let n = (held_run most_steps l.out).0.0 in
    let u = world_after_events w (steps_of c n) in
    let end : Offers = (c, Back) ∷ [] in
    let still = still_held n w c l h in
    let steps = steps_offered most_steps w c l h in
    let back : event_refusal u c Back ≡ None = refusal_of_back u c still.0 still.1 in
    let all : offered w (run_of c) ≡ record { made = steps_of c n ++ end; full = false } =
    offered_more w (steps_of c most_steps) end (ap (λ (o : Offered). o.full) steps)
    ∙ ap (λ (o : Offered). then_offered w o end) steps
    ∙ ap (λ (q : Option Refusal). let y : Offered = offered_first (c, Back) q (let z : Offered = record { made = []; full = false } in z) (let z : Offered = record { made = []; full = false } in z) in let x : Offered = record { made = steps_of c n ++ y.made; full = y.full } in x) back in
    let after : world_after w (offered w (run_of c)) ≡ world_after_event u c Back = ap (world_after w) all ∙ after_append w (steps_of c n) end in
    let before = no_less_after w (steps_of c n) in
    let more = one_more u c Back tt back in
    inl (subst (λ (v : World). w.records < v.records) (sym after) (omega (arith, before, more)))

run_not_full : (w : World) (c : ℕ) (held : Option HeldProcess) → held_by w c ≡ held → (offered w (run_of c)).full ≡ false
run_not_full w c None h =
    let steps = empty_offered w c h most_steps in
    ap (λ (o : Offered). o.full) (offered_more w (steps_of c most_steps) ((c, Back) ∷ []) (ap (λ (o : Offered). o.full) steps)) ∙ back_not_full (world_after w (offered w (steps_of c most_steps))) c
run_not_full w c (Some l) h =
    let steps = steps_offered most_steps w c l h in
    ap (λ (o : Offered). o.full) (offered_more w (steps_of c most_steps) ((c, Back) ∷ []) (ap (λ (o : Offered). o.full) steps)) ∙ back_not_full (world_after w (offered w (steps_of c most_steps))) c

runs_not_full : (w : World) (n : ℕ) → (offered w (runs n)).full ≡ false
runs_not_full w zero = refl
runs_not_full w (suc n) =
    let s : n + 1 ≡ suc n = omega arith in
    let first = offered w (runs n) in
    ap (λ k. (offered w (runs k)).full) (sym s) ∙ ap (λ (l : Offers). (offered w l).full) (runs_more n)
    ∙ ap (λ (o : Offered). o.full) (offered_more w (runs n) (run_of n) (runs_not_full w n))
    ∙ run_not_full (world_after w first) n (held_by (world_after w first) n) refl

last_or_before : (w : World) (n i : ℕ) → ((k : ℕ) → k < n → held_by w k ≡ None) → held_by w n ≡ None → i < suc n → held_by w i ≡ None
last_or_before w n i each last b = elim (cases_lt i n) [
  | inl lt ↦ each i lt
  | inr ge ↦ (let e : i ≡ n = omega (arith, ge, b) in subst (λ k. held_by w k ≡ None) (sym e) last)
]

ran_or_none : (w : World) (n : ℕ) → RanOrNone w n
ran_or_none w zero = inr (refl, (λ i b. absurd (omega (arith, b))))
ran_or_none w (suc n) =
    let s : n + 1 ≡ suc n = omega arith in
    let first = offered w (runs n) in
    let list : runs (suc n) ≡ runs n ++ run_of n = ap runs (sym s) ∙ runs_more n in
    let whole : offered w (runs (suc n)) ≡ then_offered w first (run_of n) = ap (offered w) list ∙ offered_more w (runs n) (run_of n) (runs_not_full w n) in
    let after : world_after w (offered w (runs (suc n))) ≡ world_after (world_after w first) (offered (world_after w first) (run_of n)) =
    ap (world_after w) whole ∙ after_append w first.made (offered (world_after w first) (run_of n)).made in
    elim (ran_or_none w n) [
      | inl more ↦
          (let later = no_less_after (world_after w first) (offered (world_after w first) (run_of n)).made in
          inl (subst (λ (v : World). w.records < v.records) (sym after) (omega (arith, more, later))))
      | inr none ↦
          (let same : world_after w first ≡ w = ap (world_after_events w) none.0 in
          elim (run_or_none w n (held_by w n) refl) [
            | inl more ↦ inl (subst (λ (v : World). w.records < v.records) (sym (after ∙ ap (λ (u : World). world_after u (offered u (run_of n))) same)) more)
            | inr empty ↦ inr (
              ap (λ (o : Offered). o.made) whole ∙ ap (λ (l : Offers). l ++ (offered (world_after w first) (run_of n)).made) none.0 ∙ ap (λ (u : World). (offered u (run_of n)).made) same ∙ empty.0,
              (λ i b. last_or_before w n i none.1 empty.1 b),
            )
          ])
    ]

-- ---- a turn

module _ (w : World) (next : Option OutsideLine) where
  abbrev taken : Offered
  taken = offered w (takes (length w.cpus))

  abbrev ran : Offered
  ran = then_offered w taken (runs (length w.cpus))

  abbrev others : Offers
  others = outside (length w.cpus) (next_now w.table next) ++ respawns (length w.cpus) (length w.services)

  -- after the takes, and after the runs
  abbrev at_takes : World
  at_takes = world_after w taken

  abbrev at_runs : World
  at_runs = world_after at_takes (offered at_takes (runs (length w.cpus)))

  abbrev at_end : World
  at_end = world_after at_runs (offered at_runs others)

  abbrev by_full : Bool → Offered
  by_full b = cond b (record ran { full = true }) (then_offered w ran others)

  -- the parts of a turn that met no full history
  module _ (h : (turn w next).full ≡ false) where
    takes_free : taken.full ≡ false
    takes_free = by taken.full refl
      where
        by : (b : Bool) → taken.full ≡ b → b ≡ false
        by false e = refl
        by true e = absurd (true≢false (sym (ap (λ b. (by_full b).full) e) ∙ h))

    whole : turn w next ≡ then_offered w ran others
    whole = ap by_full takes_free

    runs_end : world_after w ran ≡ at_runs
    runs_end = after_append w taken.made (offered at_takes (runs (length w.cpus))).made

    turn_end : world_after w (turn w next) ≡ at_end
    turn_end = ap (world_after w) whole ∙ after_append w ran.made (offered (world_after w ran) others).made ∙ ap (λ (y : World). world_after y (offered y others)) runs_end

    others_free : (offered at_runs others).full ≡ false
    others_free = sym (ap (λ (y : World). (offered y others).full) runs_end) ∙ sym (ap (λ (o : Offered). o.full) whole) ∙ h

first_take : (w : World) (n : ℕ) → 0 < n → AreRefused w (takes n) → IsRefused w (0, Take)
first_take w zero b all = absurd (omega (arith, b))
first_take w (suc n) b all = all.0

resting : (w : World) → first_ready w.table.ready ≡ None → out_count w.cpus ≡ 0 → down_are_worn w.table.slots w.services ≡ true → at_rest w ≡ true
unfolding at_rest
resting w ready out worn =
    ap (λ (f : Option ℕ). is_none f && (out_count w.cpus == 0) && down_are_worn w.table.slots w.services) ready
    ∙ ap (λ n. (n == 0) && down_are_worn w.table.slots w.services) out
    ∙ worn

-- if all is refused, the machine is at rest
refused_rest : (w : World) → 0 < length w.cpus → AreRefused w (takes (length w.cpus)) → ((i : ℕ) → i < length w.cpus → held_by w i ≡ None) → AreRefused w (respawns (length w.cpus) (length w.services)) → at_rest w ≡ true
refused_rest w some take empty respawn =
    resting w (none_ready w some (empty 0 some) (first_take w (length w.cpus) some take)) (none_out w.cpus empty)
    (all_worn w.table.slots w.services (λ i p v there own.
    let at : 0 + i ≡ i = omega arith in
    let refused = subst (λ k. IsRefused w (length w.cpus, Respawn k)) at (respawn_refused w (length w.cpus) (length w.services) 0 i respawn (in_list w.services i v own)) in
    subst (λ (q : Process). (not (is_down q.state) || is_worn q v) ≡ true) (at_place w.table.slots i p nobody there) (refused_service w (length w.cpus) i v own refused)))

-- a turn without an outside event makes a record, if the machine isn't at rest
turn_more : (w : World) → 0 < length w.cpus → (turn w None).full ≡ false → at_rest w ≡ false → w.records < (world_after w (turn w None)).records
turn_more w some h busy =
    let none : Option OutsideLine = None in
    let cpus = length w.cpus in
    let u = at_takes w none in
    let v = at_runs w none in
    let list = respawns cpus (length w.services) in
    let ran_on = no_less_after u (offered u (runs cpus)).made in
    let on = no_less_after v (offered v list).made in
    subst (λ (y : World). w.records < y.records) (sym (turn_end w none h))
    (elim (more_or_none w (takes cpus) (takes_recorded cpus 0) (takes_free w none h)) [
      | inl more ↦ omega (arith, more, ran_on, on)
      | inr untaken ↦
          (let same : u ≡ w = ap (world_after_events w) untaken.0 in
          elim (ran_or_none w cpus) [
            | inl more ↦
                (let ran_more = subst (λ (y : World). w.records < (world_after y (offered y (runs cpus))).records) (sym same) more in
                omega (arith, ran_more, on))
            | inr idle ↦
                (let still : v ≡ w = ap (λ (y : World). world_after y (offered y (runs cpus))) same ∙ ap (world_after_events w) idle.0 in
                elim (more_or_none w list (respawns_recorded cpus (length w.services) 0) (sym (ap (λ (y : World). (offered y list).full) still) ∙ others_free w none h)) [
                  | inl more ↦ subst (λ (y : World). w.records < (world_after y (offered y list)).records) (sym still) more
                  | inr alone ↦ absurd (true≢false (sym (refused_rest w some untaken.1 idle.1 alone.1) ∙ busy))
                ])
          ])
    ])

-- a tick is never refused but for a full history
tick_taken : (w : World) (a : ℕ) → IsRefused w (a, Tick) → ⊥
unfolding event_refusal
tick_taken w a refused = by (nat_lt (free_records w) 1) refused.1
  where
    by : (b : Bool) → cond b (Some LogFull) None ≡ Some refused.0 → ⊥
    by true e = refused.2 cc
    by false e = cc

tick_more : (w : World) → (turn w (Some (Plain Tick))).full ≡ false → w.records < (world_after w (turn w (Some (Plain Tick)))).records
tick_more w h =
    let cpus = length w.cpus in
    let next : Option OutsideLine = Some (Plain Tick) in
    let u = at_takes w next in
    let v = at_runs w next in
    let taken_on = no_less_after w (taken w next).made in
    let ran_on = no_less_after u (offered u (runs cpus)).made in
    subst (λ (y : World). w.records < y.records) (sym (turn_end w next h))
    (elim (more_or_none v (others w next) (tt, respawns_recorded cpus (length w.services) 0) (others_free w next h)) [
      | inl more ↦ omega (arith, taken_on, ran_on, more)
      | inr none ↦ absurd (tick_taken v cpus none.1.0)
    ])

-- a turn makes a record, or uses up an event that may be refused
turn_uses : (w : World) (coming : List OutsideLine) → 0 < length w.cpus → is_over w coming ≡ false → (turn w (slice_get coming 0)).full ≡ false
    → suc (w.records + refusable (drop 1 coming)) ≤ (world_after w (turn w (slice_get coming 0))).records + refusable coming
turn_uses w [] some busy h = let more = turn_more w some h busy in omega (arith, more)
turn_uses w (Plain Tick ∷ xs) some busy h = let more = tick_more w h in omega (arith, more)
turn_uses w (x ∷ xs) some busy h = let on = no_less_after w (turn w (Some x)).made in omega (arith, on)

-- ---- turns

-- a turn, and n turns after it, by whether all is over before it, and whether it meets a full history
abbrev course_by : ℕ → World → List OutsideLine → Bool → Bool → Course
course_by n w coming over full =
    let t = turn w (slice_get coming 0) in
    let later = turns n (world_after w t) (drop 1 coming) in
    cond over (record { made = []; ending = Rest }) (cond full (record { made = t.made; ending = Full }) (record { made = t.made ++ later.made; ending = later.ending }))

few_by : (n : ℕ) (w : World) (coming : List OutsideLine) → 0 < length w.cpus
    → (let u = world_after w (turn w (slice_get coming 0)) in let later = turns n u (drop 1 coming) in
    later.ending ≡ Turns → n + u.records ≤ (world_after_events u later.made).records + refusable (drop 1 coming))
    → (over full : Bool) → is_over w coming ≡ over → (turn w (slice_get coming 0)).full ≡ full → (course_by n w coming over full).ending ≡ Turns
    → suc n + w.records ≤ (world_after_events w (course_by n w coming over full).made).records + refusable coming
few_by n w coming some rest true full o f e = cc
few_by n w coming some rest false true o f e = cc
few_by n w coming some rest false false o f e =
    let t = turn w (slice_get coming 0) in
    let u = world_after w t in
    let later = turns n u (drop 1 coming) in
    let one = turn_uses w coming some o f in
    let more = rest e in
    subst (λ (y : World). suc n + w.records ≤ y.records + refusable coming) (sym (after_append w t.made later.made)) (omega (arith, one, more))

-- as many turns as were asked for are at most as many as the records that they make, and the events that may be refused
-- Each turn makes a record, or uses up a line or a kill. So turns that end since `n` are made are at most as many as
-- the records that they make, and as the lines and kills that are to come.
pub turns_are_few : (n : ℕ) (w : World) (coming : List OutsideLine) → 0 < length w.cpus → (turns n w coming).ending ≡ Turns
    → n + w.records ≤ (world_after_events w (turns n w coming).made).records + refusable coming
turns_are_few zero w coming some h = omega arith
turns_are_few (suc n) w coming some h =
    let t = turn w (slice_get coming 0) in
    let u = world_after w t in
    few_by n w coming some (λ e. turns_are_few n u (drop 1 coming) (subst (λ k. 0 < k) (sym (cpus_stay w t.made)) some) e) (is_over w coming) t.full refl refl h
