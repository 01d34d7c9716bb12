-- A step of one processor, and what else happens.
use Rattle.std.proofs.Common.{◌≡◌, ◌≢◌, ◌∙◌, ℕ, zero, suc, ◌+◌, ◌-◌, cond, nat_lt, Bool, true, false, List, [], ◌∷◌, length, Option, Some, None, Result, Ok, Err, slice_get, slice_set, get_or, refl, sym, ap}
use Rattle.std.proofs.lemmas.List.{set_comm, get_or-set_other, length-set}
use Rattle.mx_machine.specs.Proc.Queues.{first_ready}
use Rattle.mx_machine.specs.Proc.Endpoints.{is_alive}
use Rattle.mx_machine.specs.Proc.TableState.{process_at}
use Rattle.mx_machine.specs.CallRefusals.{owner_of}
use Rattle.mx_machine.specs.Service.{Service}
use Rattle.mx_machine.specs.declared.events.Event.{Event}
use Rattle.mx_machine.specs.declared.events.Event.TheVariants.{Step, Take, Back, Line, Tick, Kill, Respawn}
use Rattle.mx_machine.specs.declared.events.Refusal.{Refusal}
use Rattle.mx_machine.specs.declared.events.Refusal.TheVariants.{CpuBusy, AtStop}
use Rattle.mx_machine.specs.declared.events.Answer.{Answer}
use Rattle.mx_machine.specs.declared.events.Answer.TheVariants.{Went}
use Rattle.mx_machine.specs.Held.{out_after_step, outcome_of_step}
use Rattle.mx_machine.specs.World.{World, HeldProcess, held_by, out_count, free_records}
use Rattle.mx_machine.specs.Move.{if_full, at_stop, step_refusal, back_refusal, take_refusal, line_refusal, kill_refusal, respawn_refusal, event_refusal, world_after_event, event_answer, move_by, move, with_held, world_with_record, world_after_step, world_after_take, world_after_back, world_after_line, world_after_respawn, step_answer, back_answer, held_at_take, table_after_sending_out, table_after_back}
use Rattle.mx_machine.proofs.ProcessorLemmas.{held_after, held_by_any}
use Rattle.mx_machine.specs.Laws.{ChangePlaces, IsOthers}

-- ---- what a processor has is replaced

count_kept : {X : Type 0} (xs : List (Option X)) (c : ℕ) (l m : X) → get_or xs c None ≡ Some l → out_count (slice_set xs c (Some m)) ≡ out_count xs
count_kept [] c l m h = refl
count_kept (None ∷ xs) zero l m h = cc
count_kept (Some x ∷ xs) zero l m h = refl
count_kept (None ∷ xs) (suc c) l m h = count_kept xs c l m h
count_kept (Some x ∷ xs) (suc c) l m h = ap (λ n. suc n) (count_kept xs c l m h)

free_kept : (w : World) (c : ℕ) (l m : HeldProcess) → held_by w c ≡ Some l → free_records (with_held w c (Some m)) ≡ free_records w
free_kept w c l m h = ap (λ n. w.capacity - (w.records + n)) (count_kept w.cpus c l m h)

others_kept : (w : World) (c a : ℕ) (m : HeldProcess) → a ≢ c → held_by (with_held w c (Some m)) a ≡ held_by w a
others_kept w c a m n = get_or-set_other w.cpus c a (Some m) None n

refusal_kept : (w : World) (c a : ℕ) (x : Event) (l m : HeldProcess) → held_by w c ≡ Some l → IsOthers c a x → event_refusal (with_held w c (Some m)) a x ≡ event_refusal w a x
unfolding event_refusal
refusal_kept w c a Step l m h n = ap step_refusal (others_kept w c a m n)
refusal_kept w c a Take l m h n =
    let first = first_ready w.table.ready in
    ap (λ k. cond (nat_lt a k) (take_refusal (free_records (with_held w c (Some m))) (held_by (with_held w c (Some m)) a) first) (Some CpuBusy)) (length-set w.cpus c (Some m))
    ∙ ap (λ r. cond (nat_lt a (length w.cpus)) r (Some CpuBusy))
    (ap (λ k. take_refusal k (held_by (with_held w c (Some m)) a) first) (free_kept w c l m h) ∙ ap (λ o. take_refusal (free_records w) o first) (others_kept w c a m n))
refusal_kept w c a Back l m h n = ap back_refusal (others_kept w c a m n)
refusal_kept w c a (Line i) l m h n = ap (λ k. line_refusal k (owner_of w.table i)) (free_kept w c l m h)
refusal_kept w c a Tick l m h n = ap (λ k. if_full k 1) (free_kept w c l m h)
refusal_kept w c a (Kill e) l m h n = ap (λ k. kill_refusal k (is_alive w.table e)) (free_kept w c l m h)
refusal_kept w c a (Respawn s) l m h n = ap (λ k. respawn_refusal k (process_at w.table s) (slice_get w.services s)) (free_kept w c l m h)

answer_kept : (w : World) (c a : ℕ) (x : Event) (m : HeldProcess) → IsOthers c a x → event_answer (with_held w c (Some m)) a x ≡ event_answer w a x
unfolding event_answer
answer_kept w c a Step m n = ap step_answer (others_kept w c a m n)
answer_kept w c a Take m n = refl
answer_kept w c a Back m n = ap back_answer (others_kept w c a m n)
answer_kept w c a (Line i) m n = refl
answer_kept w c a Tick m n = refl
answer_kept w c a (Kill e) m n = refl
answer_kept w c a (Respawn s) m n = refl

-- ---- two processors

commuted : (w : World) (c a : ℕ) (m : HeldProcess) (o : Option HeldProcess) → a ≢ c → with_held (with_held w c (Some m)) a o ≡ with_held (with_held w a o) c (Some m)
commuted w c a m o n = ap (λ l. let u : World = record w { cpus = l } in u) (set_comm w.cpus c a (Some m) o (λ e. n (sym e)))

step_over : (w : World) (c a : ℕ) (m : HeldProcess) (held : Option HeldProcess) → a ≢ c → world_after_step (with_held w c (Some m)) a held ≡ with_held (world_after_step w a held) c (Some m)
step_over w c a m None n = refl
step_over w c a m (Some l) n = commuted w c a m (Some (record l { out = out_after_step l.out })) n

take_over : (w : World) (c a : ℕ) (m : HeldProcess) (first : Option ℕ) → a ≢ c → world_after_take (with_held w c (Some m)) a first ≡ with_held (world_after_take w a first) c (Some m)
take_over w c a m None n = refl
take_over w c a m (Some s) n = commuted (world_with_record w (table_after_sending_out w.table s)) c a m (Some (held_at_take w.table s)) n

back_over : (w : World) (c a : ℕ) (m : HeldProcess) (held : Option HeldProcess) → a ≢ c → world_after_back (with_held w c (Some m)) a held ≡ with_held (world_after_back w a held) c (Some m)
back_over w c a m None n = refl
back_over w c a m (Some l) n = commuted (world_with_record w (table_after_back w.table l)) c a m None n

line_over : (w : World) (c i : ℕ) (m : HeldProcess) (owner : Option ℕ) → world_after_line (with_held w c (Some m)) i owner ≡ with_held (world_after_line w i owner) c (Some m)
line_over w c i m None = refl
line_over w c i m (Some s) = refl

respawn_over : (w : World) (c s : ℕ) (m : HeldProcess) (v : Option Service) → world_after_respawn (with_held w c (Some m)) s v ≡ with_held (world_after_respawn w s v) c (Some m)
respawn_over w c s m None = refl
respawn_over w c s m (Some v) = refl

-- what happens apart from a processor's process leaves it to be replaced after
after_over : (w : World) (c a : ℕ) (x : Event) (m : HeldProcess) → IsOthers c a x → world_after_event (with_held w c (Some m)) a x ≡ with_held (world_after_event w a x) c (Some m)
unfolding world_after_event
after_over w c a Step m n = ap (world_after_step (with_held w c (Some m)) a) (others_kept w c a m n) ∙ step_over w c a m (held_by w a) n
after_over w c a Take m n = take_over w c a m (first_ready w.table.ready) n
after_over w c a Back m n = ap (world_after_back (with_held w c (Some m)) a) (others_kept w c a m n) ∙ back_over w c a m (held_by w a) n
after_over w c a (Line i) m n = line_over w c i m (owner_of w.table i)
after_over w c a Tick m n = refl
after_over w c a (Kill e) m n = refl
after_over w c a (Respawn s) m n = respawn_over w c s m (slice_get w.services s)

-- what a processor has stays, whatever else happens
held_over : (w : World) (c a : ℕ) (x : Event) → IsOthers c a x → held_by (world_after_event w a x) c ≡ held_by w c
held_over w c a Step n = held_after w a c Step n
held_over w c a Take n = held_after w a c Take n
held_over w c a Back n = held_after w a c Back n
held_over w c a (Line i) n = held_by_any w a c (Line i) refl
held_over w c a Tick n = held_by_any w a c Tick refl
held_over w c a (Kill e) n = held_by_any w a c (Kill e) refl
held_over w c a (Respawn s) n = held_by_any w a c (Respawn s) refl

-- ---- events

-- a step of what a processor has
abbrev pub step_by : World → ℕ → HeldProcess → Bool → Result Answer Refusal × World
step_by w c l true = (Err AtStop, w)
step_by w c l false = (Ok (Went (outcome_of_step l.out)), with_held w c (Some (record l { out = out_after_step l.out })))

by_stop : (w : World) (c : ℕ) (l : HeldProcess) (b : Bool) → held_by w c ≡ Some l → move_by w c Step (cond b (Some AtStop) None) ≡ step_by w c l b
unfolding event_answer world_after_event
by_stop w c l true h = refl
by_stop w c l false h = ap (λ (o : Option HeldProcess). let p : Result Answer Refusal × World = (Ok (step_answer o), world_after_step w c o) in p) h

pub move-step : (w : World) (c : ℕ) (l : HeldProcess) → held_by w c ≡ Some l → move w c Step ≡ step_by w c l (at_stop l.out)
unfolding move event_refusal
move-step w c l h = ap (λ (o : Option HeldProcess). move_by w c Step (step_refusal o)) h ∙ by_stop w c l (at_stop l.out) h

answer_by : (w : World) (c a : ℕ) (x : Event) (m : HeldProcess) (r : Option Refusal) → IsOthers c a x → (move_by (with_held w c (Some m)) a x r).0 ≡ (move_by w a x r).0
answer_by w c a x m (Some r) n = refl
answer_by w c a x m None n = ap (λ (y : Answer). let z : Result Answer Refusal = Ok y in z) (answer_kept w c a x m n)

world_by : (w : World) (c a : ℕ) (x : Event) (m : HeldProcess) (r : Option Refusal) → IsOthers c a x → (move_by (with_held w c (Some m)) a x r).1 ≡ with_held (move_by w a x r).1 c (Some m)
world_by w c a x m (Some r) n = refl
world_by w c a x m None n = after_over w c a x m n

held_by_it : (w : World) (c a : ℕ) (x : Event) (r : Option Refusal) → IsOthers c a x → held_by (move_by w a x r).1 c ≡ held_by w c
held_by_it w c a x (Some r) n = refl
held_by_it w c a x None n = held_over w c a x n

answer_over : (w : World) (c a : ℕ) (x : Event) (l m : HeldProcess) → held_by w c ≡ Some l → IsOthers c a x → (move (with_held w c (Some m)) a x).0 ≡ (move w a x).0
unfolding move
answer_over w c a x l m h n = ap (λ r. (move_by (with_held w c (Some m)) a x r).0) (refusal_kept w c a x l m h n) ∙ answer_by w c a x m (event_refusal w a x) n

world_over : (w : World) (c a : ℕ) (x : Event) (l m : HeldProcess) → held_by w c ≡ Some l → IsOthers c a x → (move (with_held w c (Some m)) a x).1 ≡ with_held (move w a x).1 c (Some m)
unfolding move
world_over w c a x l m h n = ap (λ r. (move_by (with_held w c (Some m)) a x r).1) (refusal_kept w c a x l m h n) ∙ world_by w c a x m (event_refusal w a x) n

held_after_move : (w : World) (c a : ℕ) (x : Event) → IsOthers c a x → held_by (move w a x).1 c ≡ held_by w c
unfolding move
held_after_move w c a x n = held_by_it w c a x (event_refusal w a x) n

step_answers : (u w : World) (c : ℕ) (l : HeldProcess) (b : Bool) → (step_by u c l b).0 ≡ (step_by w c l b).0
step_answers u w c l true = refl
step_answers u w c l false = refl

second_answer : (w : World) (c a : ℕ) (x : Event) (l : HeldProcess) (b : Bool) → held_by w c ≡ Some l → IsOthers c a x → (move (step_by w c l b).1 a x).0 ≡ (move w a x).0
second_answer w c a x l true h n = refl
second_answer w c a x l false h n = answer_over w c a x l (record l { out = out_after_step l.out }) h n

both_worlds : (w : World) (c a : ℕ) (x : Event) (l : HeldProcess) (b : Bool) → held_by w c ≡ Some l → IsOthers c a x → (move (step_by w c l b).1 a x).1 ≡ (step_by (move w a x).1 c l b).1
both_worlds w c a x l true h n = refl
both_worlds w c a x l false h n = world_over w c a x l (record l { out = out_after_step l.out }) h n

-- a step changes places with what others do
pub step-changes : (w : World) (c a : ℕ) (x : Event) (l : HeldProcess) → held_by w c ≡ Some l → IsOthers c a x → ChangePlaces w c Step a x
step-changes w c a x l h n =
    let b = at_stop l.out in
    let u = (move w a x).1 in
    let now : move w c Step ≡ step_by w c l b = move-step w c l h in
    let later : move u c Step ≡ step_by u c l b = move-step u c l (held_after_move w c a x n ∙ h) in
    record {
      first = ap (λ p. p.0) later ∙ step_answers u w c l b ∙ sym (ap (λ p. p.0) now);
      second = ap (λ (p : Result Answer Refusal × World). (move p.1 a x).0) now ∙ second_answer w c a x l b h n;
      world = ap (λ (p : Result Answer Refusal × World). (move p.1 a x).1) now ∙ both_worlds w c a x l b h n ∙ sym (ap (λ p. p.1) later);
    }
