-- What an event does to what each processor was lent.
use Rattle.std.proofs.Common.{◌≡◌, ◌∙◌, ℕ, zero, suc, ◌<◌, ◌+◌, nat_lt, if◌then◌else◌, Bool, true, false, true≢false, List, [], ◌∷◌, ◌++◌, map, replicate, length, Option, Some, None, get_or, slice_set, Result, Ok, refl, sym, ap, subst, inl, inr, arith, get_or-set_same}
use Rattle.std.proofs.lemmas.Bool.{cases_lt, le-ltb}
use Rattle.std.proofs.lemmas.List.{length-map}
use Rattle.mx_machine.specs.Stop.TheVariants.{Spent}
use Rattle.mx_proc.specs.Queues.{first_ready}
use Rattle.mx_machine.specs.declared.events.Answer.{Answer}
use Rattle.mx_machine.specs.declared.events.Answer.TheVariants.{Returned}
use Rattle.mx_machine.specs.declared.events.Event.{Event}
use Rattle.mx_machine.specs.declared.events.Event.TheVariants as events
use Rattle.mx_machine.specs.declared.events.Refusal.{Refusal}
use Rattle.mx_machine.specs.declared.events.Refusal.TheVariants.{CpuBusy}
use Rattle.mx_machine.specs.declared.history.Recorded.{Recorded}
use Rattle.mx_machine.specs.declared.history.Recorded.TheVariants as recorded
use Rattle.mx_machine.specs.declared.holding.Out.{Out}
use Rattle.mx_machine.specs.Held.{IsBack, IsRunOf, out_after_step}
use Rattle.mx_machine.proofs.ActorLemmas.{actors_after_events}
use Rattle.mx_machine.proofs.ProcessorLemmas.{cpus_after}
use Rattle.mx_machine.proofs.WorldStepLemmas.{holds_in, set_twice}
use Rattle.mx_machine.specs.History.{AreAccepted, BootAndHistory, world_after_events, events_of, replay, events_of_history, with_record}
use Rattle.mx_machine.specs.Move.{world_after_back, world_after_event, world_after_step, world_after_take, back_answer, event_answer, event_refusal, move, move_by, held_at_take, world_with_record, table_after_sending_out, take_refusal, with_held}
use Rattle.mx_machine.specs.World.{World, HeldProcess, actors, free_records, held_by}
use Rattle.mx_machine.specs.Agrees.{IsFresh}
use Rattle.mx_machine.specs.KernelState.{is_for_all, recorded_as}
use Rattle.mx_machine.proofs.ReplayLemmas.{map_put, replay-recorded}
use Rattle.mx_loan.specs.Rule.{lent_to}
use Rattle.mx_cpus.specs.Calls.{event_of, out_of_lent, outs_of, steps_of}

-- ---- lists

out_at : (xs : List (Option HeldProcess)) (a : ℕ) → lent_to (map out_of_lent xs) a ≡ out_of_lent (get_or xs a None)
out_at [] a = refl
out_at (x ∷ xs) zero = refl
out_at (x ∷ xs) (suc a) = out_at xs a

-- ---- a processor takes a process

free_place : (n : ℕ) (o : Option HeldProcess) (p : Option ℕ) → take_refusal n o p ≡ None → (o ≡ None) × ((s : ℕ) × (p ≡ Some s))
free_place n (Some l) p h = cc
free_place n None None h = cc
free_place n None (Some s) h = (refl, (s, refl))

-- a processor that takes holds nothing
record CanTake (w : World) (a : ℕ) : Type 0 where
  below : a < length w.cpus
  empty : held_by w a ≡ None
  first : (s : ℕ) × (first_ready w.table.ready ≡ Some s)

place_by : (b : Bool) (r : Option Refusal) → (if b then r else Some CpuBusy) ≡ None → (b ≡ true) × (r ≡ None)
place_by true r h = (refl, h)
place_by false r h = cc

below_by : (a n : ℕ) → nat_lt a n ≡ true → a < n
below_by a n h = elim (cases_lt a n) [
  | inl lt ↦ lt
  | inr ge ↦ absurd (true≢false (sym h ∙ le-ltb a n ge))
]

can_take : (w : World) (a : ℕ) → event_refusal w a events.Take ≡ None → CanTake w a
unfolding event_refusal
can_take w a h =
    let p = place_by (nat_lt a (length w.cpus)) (take_refusal (free_records w) (held_by w a) (first_ready w.table.ready)) h in
    let f = free_place (free_records w) (held_by w a) (first_ready w.table.ready) p.1 in
    record { below = below_by a (length w.cpus) p.0; empty = f.0; first = f.1 }

pub take_below : (w : World) (a : ℕ) → event_refusal w a events.Take ≡ None → a < length (outs_of w)
take_below w a h = omega (arith, (can_take w a h).below, length-map w.cpus out_of_lent)

pub take_empty : (w : World) (a : ℕ) → event_refusal w a events.Take ≡ None → lent_to (outs_of w) a ≡ None
take_empty w a h = out_at w.cpus a ∙ ap out_of_lent (can_take w a h).empty

taken_by_first : (w : World) (a s : ℕ) → first_ready w.table.ready ≡ Some s → world_after_event w a events.Take ≡ with_held (world_with_record w (table_after_sending_out w.table s)) a (Some (held_at_take w.table s))
unfolding world_after_event
taken_by_first w a s h = ap (λ p. world_after_take w a p) h

-- what is lent then is lent by the desk
pub take_outs : (w u : World) (a : ℕ) (o : Out) → event_refusal w a events.Take ≡ None → u ≡ world_after_event w a events.Take → (l : HeldProcess) × (held_by u a ≡ Some l) × (l.out ≡ o) → outs_of u ≡ slice_set (outs_of w) a (Some o)
take_outs w u a o h is lends =
    let c = can_take w a h in
    let l : HeldProcess = held_at_take w.table c.first.0 in
    let e = is ∙ taken_by_first w a c.first.0 c.first.1 in
    let at : held_by u a ≡ Some l = ap (λ x. held_by x a) e ∙ get_or-set_same w.cpus a (Some l) None c.below in
    let same : Some l ≡ Some lends.0 = sym at ∙ lends.1 in
    let same : l ≡ lends.0 = cc in
    ap outs_of e ∙ map_put out_of_lent w.cpus a (Some l) ∙ ap (λ (x : HeldProcess). slice_set (outs_of w) a (Some x.out)) same ∙ ap (λ x. slice_set (outs_of w) a (Some x)) lends.2

pub take_fresh : (w : World) (a : ℕ) (o : Out) → ((b : ℕ) (l : HeldProcess) → held_by w b ≡ Some l → IsFresh w l) → (l : HeldProcess) × (held_by w a ≡ Some l) × (l.out ≡ o) → (o.count ≡ 0) × (o.stop ≡ Spent)
take_fresh w a o all lends = let f = all a lends.0 lends.1 in (ap (λ (x : Out). x.count) (sym lends.2) ∙ f.count, ap (λ (x : Out). x.stop) (sym lends.2) ∙ f.stop)

-- ---- it comes back

some_out : (x : Option HeldProcess) (o : Out) → out_of_lent x ≡ Some o → (l : HeldProcess) × (x ≡ Some l) × (l.out ≡ o)
some_out None o h = cc
some_out (Some l) o h = (l, refl, cc)

pub back_there : (w : World) (a : ℕ) (o p : Out) → lent_to (outs_of w) a ≡ Some o → IsRunOf o p → (l : HeldProcess) × (held_by w a ≡ Some l) × IsBack l.out p
back_there w a o p h run = let s = some_out (held_by w a) o (sym (out_at w.cpus a) ∙ h) in (s.0, s.1, subst (λ (x : Out). IsBack x p) (sym s.2) run.back)

-- what is there is what is lent
pub lent_there : (w : World) (a : ℕ) (o : Out) (l : HeldProcess) → lent_to (outs_of w) a ≡ Some o → held_by w a ≡ Some l → l.out ≡ o
lent_there w a o l h at = let same : Some l.out ≡ Some o = sym (out_at w.cpus a ∙ ap out_of_lent at) ∙ h in cc

back_outs_of : (w : World) (a : ℕ) (l : HeldProcess) → held_by w a ≡ Some l → outs_of (world_after_event w a events.Back) ≡ slice_set (outs_of w) a None
unfolding world_after_event
back_outs_of w a l h = ap (λ x. outs_of (world_after_back w a x)) h ∙ map_put out_of_lent w.cpus a None

pub back_outs : (w u : World) (a : ℕ) (l : HeldProcess) (o : Out) → held_by w a ≡ Some l → u ≡ world_after_event (with_held w a (Some (record l { out = o }))) a events.Back → outs_of u ≡ slice_set (outs_of w) a None
back_outs w u a l o h is =
    let m : HeldProcess = record l { out = o } in
    ap outs_of is ∙ back_outs_of (with_held w a (Some m)) a m (get_or-set_same w.cpus a (Some m) None (holds_in w.cpus a l h))
    ∙ ap (λ x. slice_set x a None) (map_put out_of_lent w.cpus a (Some m)) ∙ set_twice (outs_of w) a (Some o) None

one_step_there : (w : World) (a : ℕ) (l : HeldProcess) → held_by w a ≡ Some l → held_by (world_after_event w a events.Step) a ≡ Some (record l { out = out_after_step l.out })
unfolding world_after_event
one_step_there w a l h =
    let next : HeldProcess = record l { out = out_after_step l.out } in
    ap (λ x. held_by (world_after_step w a x) a) h ∙ get_or-set_same w.cpus a (Some next) None (holds_in w.cpus a l h)

count_more : (o : Out) (n : ℕ) → (out_after_step o).count + n ≡ o.count + suc n
unfolding out_after_step
count_more o n = omega arith

-- so many steps of its processor raise the count by as many
stepped : (n : ℕ) (w : World) (a : ℕ) (l : HeldProcess) → held_by w a ≡ Some l → (m : HeldProcess) × (held_by (world_after_events w (replicate n (a, events.Step))) a ≡ Some m) × (m.out.count ≡ l.out.count + n)
stepped zero w a l h = (l, h, omega arith)
stepped (suc n) w a l h =
    let next : HeldProcess = record l { out = out_after_step l.out } in
    let there = one_step_there w a l h in
    let later = stepped n (world_after_event w a events.Step) a next there in
    (later.0, later.1, later.2 ∙ count_more l.out n)

-- what a return answers, after the steps that it counts
pub back_answered : (w : World) (a n : ℕ) (l : HeldProcess) → held_by w a ≡ Some l → l.out.count ≡ 0 → event_answer (world_after_events w (replicate n (a, events.Step))) a events.Back ≡ Returned n
unfolding event_answer
back_answered w a n l h none =
    let there = stepped n w a l h in
    let count : there.0.out.count ≡ n = omega (arith, there.2, none) in
    ap back_answer there.1 ∙ ap Returned count

-- ---- one equation for all

steps_first : (a : ℕ) (e : Recorded) → events_of a e ≡ steps_of a e ++ (a, event_of e) ∷ []
steps_first a recorded.Take = refl
steps_first a (recorded.Back n) = refl
steps_first a (recorded.Line l) = refl
steps_first a recorded.Tick = refl
steps_first a (recorded.Kill e) = refl
steps_first a (recorded.Respawn s) = refl

last_of : (w : World) (xs : List (ℕ × Event)) (a : ℕ) (e : Event) → AreAccepted w (xs ++ (a, e) ∷ []) → event_refusal (world_after_events w xs) a e ≡ None
last_of w [] a e h = h.0
last_of w (x ∷ xs) a e h = last_of (world_after_event w x.0 x.1) xs a e h.1

after_last : (w : World) (xs : List (ℕ × Event)) (a : ℕ) (e : Event) → world_after_events w (xs ++ (a, e) ∷ []) ≡ world_after_event (world_after_events w xs) a e
after_last w [] a e = refl
after_last w (x ∷ xs) a e = after_last (world_after_event w x.0 x.1) xs a e

moved_if : (w : World) (a : ℕ) (e : Event) → event_refusal w a e ≡ None → move w a e ≡ (Ok (event_answer w a e), world_after_event w a e)
unfolding move
moved_if w a e h = ap (move_by w a e) h

-- an accepted record is one move of the table, after the steps that a return counts
pub moved_by : (k : BootAndHistory) (a : ℕ) (e : Recorded) → AreAccepted (replay k) (events_of a e)
    → move (world_after_events (replay k) (steps_of a e)) a (event_of e) ≡ (Ok (event_answer (world_after_events (replay k) (steps_of a e)) a (event_of e)), replay (with_record k a e))
moved_by k a e all =
    let w = world_after_events (replay k) (steps_of a e) in
    let none = last_of (replay k) (steps_of a e) a (event_of e) (subst (AreAccepted (replay k)) (steps_first a e) all) in
    let there : world_after_event w a (event_of e) ≡ replay (with_record k a e) =
    sym (replay-recorded k a e ∙ ap (world_after_events (replay k)) (steps_first a e) ∙ after_last (replay k) (steps_of a e) a (event_of e)) in
    moved_if w a (event_of e) none ∙ ap (λ u. let r : Result Answer Refusal × World = (Ok (event_answer w a (event_of e)), u) in r) there

-- an event that any actor may do is a record without steps
pub for_all_answer : (w : World) (a : ℕ) (e : Event) → is_for_all e ≡ true → event_answer (world_after_events w (steps_of a (recorded_as e))) a (event_of (recorded_as e)) ≡ event_answer w a e
for_all_answer w a (events.Line l) h = refl
for_all_answer w a events.Tick h = refl
for_all_answer w a (events.Kill e) h = refl
for_all_answer w a (events.Respawn s) h = refl
for_all_answer w a events.Step h = absurd (true≢false (sym h))
for_all_answer w a events.Take h = absurd (true≢false (sym h))
for_all_answer w a events.Back h = absurd (true≢false (sym h))

-- ---- the other events

pub event_outs : (w u : World) (a : ℕ) (e : Event) → is_for_all e ≡ true → u ≡ world_after_event w a e → outs_of u ≡ outs_of w
event_outs w u a e h is = ap outs_of is ∙ ap (map out_of_lent) (cpus_after w a e h)

-- ---- actors

-- who has a seat is one of the actors
pub actor_there : (k : BootAndHistory) (a n : ℕ) → n ≡ actors k.boot → a < n → a < actors (replay k)
unfolding replay
actor_there k a n same b = omega (arith, actors_after_events k.boot (events_of_history k.history), same, b)
