-- Events leave two machines that are the same but for one image so, and answer alike.
use Rattle.std.proofs.Common.{◌≡◌, ◌∙◌, ℕ, zero, suc, ◌+◌, ◌-◌, ◌*◌, ◌%◌, Bool, true, false, cond, List, [], ◌∷◌, length, map, Option, Some, None, slice_get, refl, sym, ap, subst, get_or, slice_set, nat_lt}
use Rattle.std.specs.Prelude.{Ok}
use Rattle.std.proofs.lemmas.List.{length-map}
use Rattle.mx_image.specs.declared.runs.Stop.{Stop}
use Rattle.mx_image.specs.declared.runs.Stop.TheVariants.{Spent, Trap, Fault}
use Rattle.mx_proc.specs.declared.process.Process.{Process}
use Rattle.mx_proc.specs.declared.process.State.TheVariants.{Doomed}
use Rattle.mx_proc.specs.declared.process.DeathCause.TheVariants as cause
use Rattle.mx_proc.specs.Queues.{first_ready}
use Rattle.mx_proc.specs.States.{is_out}
use Rattle.mx_proc.specs.Endpoints.{is_alive}
use Rattle.mx_proc.specs.TableState.{TableState, process_at, endpoint_of}
use Rattle.mx_kcall.specs.TrapAnswer.{TrapAnswer}
use Rattle.mx_kcall.specs.TrapAnswer.TheVariants as trap_ends
use Rattle.mx_kcall.specs.Calls.{trap_answer}
use Rattle.mx_kcall.specs.Service.{Service}
use Rattle.mx_kcall.specs.Refusals.{owner_of}
use Rattle.mx_kcall.specs.Clock.{table_after_line}
use Rattle.mx_kcall.specs.Respawn.{table_after_respawn}
use Rattle.mx_machine.specs.declared.events.Event.{Event}
use Rattle.mx_machine.specs.declared.events.Event.TheVariants.{Step, Take, Back, Line, Tick, Kill, Respawn}
use Rattle.mx_machine.specs.declared.events.Refusal.{Refusal}
use Rattle.mx_machine.specs.declared.events.Refusal.TheVariants.{CpuBusy}
use Rattle.mx_machine.specs.declared.events.Answer.TheVariants.{Taken, Respawned}
use Rattle.mx_machine.specs.Move.{world_after_back, world_after_event, world_after_line, world_after_respawn, world_after_step, world_after_take, back_answer, back_refusal, table_after_coming_home, event_answer, event_refusal, if_full, is_doomed, kill_refusal, table_after_kill, held_at_take, line_refusal, move, move_by, moves, world_with_record, respawn_refusal, table_after_end_of_turn, table_after_back, table_after_sending_out, step_answer, step_refusal, take_answer, take_refusal, table_after_trap_at_back, with_held}
use Rattle.mx_machine.specs.World.{World, HeldProcess, held_by, out_count, free_records}
use Rattle.mx_laws.proofs.Twins.{image_seen, process_seen, is_slot, Twins}
use Rattle.mx_laws.proofs.TwinWorlds.{held_process_seen, held_seen, TwinWorlds}
use Rattle.mx_laws.specs.Apart.{TrapIsApart, ReturnIsApart, StepIsApart, BackIsApart, IsApart, AreApart}
use Rattle.mx_laws.proofs.TwinLemmas.{other_slot, at, all_but_image_at, state_at, by_test, state_twins, queueing_twins, endpoint_same, ready_of}
use Rattle.mx_laws.proofs.CallLemmas.{trap_twins, trap_answer_same}
use Rattle.mx_laws.proofs.DeathLemmas.{death_twins, respawn_twins, line_raised_twins, tick_twins, sending_out_twins, home_twins}
use Rattle.mx_laws.proofs.ServingLemmas.{kernel_call_twins, alive_same}

-- ---- what processors hold

get_or-hidden : (q : ℕ) (xs : List (Option HeldProcess)) (a : ℕ) → get_or (map (held_seen q) xs) a None ≡ held_seen q (get_or xs a None)
get_or-hidden q [] a = refl
get_or-hidden q (x ∷ xs) zero = refl
get_or-hidden q (x ∷ xs) (suc a) = get_or-hidden q xs a

map-hidden : (q : ℕ) (xs : List (Option HeldProcess)) (a : ℕ) (x : Option HeldProcess) → map (held_seen q) (slice_set xs a x) ≡ slice_set (map (held_seen q) xs) a (held_seen q x)
map-hidden q [] a x = refl
map-hidden q (y ∷ xs) zero x = refl
map-hidden q (y ∷ xs) (suc a) x = ap (λ l. held_seen q y ∷ l) (map-hidden q xs a x)

out-hidden : (q : ℕ) (xs : List (Option HeldProcess)) → out_count (map (held_seen q) xs) ≡ out_count xs
out-hidden q [] = refl
out-hidden q (None ∷ xs) = out-hidden q xs
out-hidden q (Some x ∷ xs) = ap suc (out-hidden q xs)

pub held_alike : {q : ℕ} {w v : World} → TwinWorlds q w v → (a : ℕ) → held_seen q (held_by w a) ≡ held_seen q (held_by v a)
held_alike {q} {w} {v} h a = sym (get_or-hidden q w.cpus a) ∙ ap (λ xs. get_or xs a None) h.cpus ∙ get_or-hidden q v.cpus a

cpus_same : {q : ℕ} {w v : World} → TwinWorlds q w v → length w.cpus ≡ length v.cpus
cpus_same {q} {w} {v} h = sym (length-map w.cpus (held_seen q)) ∙ ap (λ (xs : List (Option HeldProcess)). length xs) h.cpus ∙ length-map v.cpus (held_seen q)

free_same : {q : ℕ} {w v : World} → TwinWorlds q w v → free_records w ≡ free_records v
free_same {q} {w} {v} h =
    ap (λ (x : World). x.capacity - (x.records + out_count w.cpus)) h.frame
    ∙ ap (λ n. v.capacity - (v.records + n)) (sym (out-hidden q w.cpus) ∙ ap (λ (xs : List (Option HeldProcess)). out_count xs) h.cpus ∙ out-hidden q v.cpus)

shown : (q : ℕ) (l : HeldProcess) → is_slot q l.slot ≡ false → held_process_seen q l ≡ l
shown q l n = ap (λ b. let x : HeldProcess = record l { out = record l.out { image = image_seen b l.out.image } } in x) n

abbrev the_held : HeldProcess → Option HeldProcess → HeldProcess
the_held d None = d
the_held d (Some l) = l

-- what is held of another is the same
pub same_held : (q : ℕ) (x y : Option HeldProcess) → held_seen q x ≡ held_seen q y → StepIsApart q x → x ≡ y
same_held q None None e n = refl
same_held q None (Some k) e n = cc
same_held q (Some l) None e n = cc
same_held q (Some l) (Some k) e d =
    let n = other_slot q l.slot d in
    let g : held_process_seen q l ≡ held_process_seen q k = ap (the_held l) e in
    let m : is_slot q k.slot ≡ false = ap (λ (z : HeldProcess). is_slot q z.slot) (sym g) ∙ n in
    ap Some (sym (shown q l n) ∙ g ∙ shown q k m)

-- ---- what a machine becomes

with_held_same : {q : ℕ} {w v : World} → TwinWorlds q w v → (a : ℕ) (x y : Option HeldProcess) → held_seen q x ≡ held_seen q y → TwinWorlds q (with_held w a x) (with_held v a y)
with_held_same {q} {w} {v} h a x y e = record {
  table = h.table;
  cpus = map-hidden q w.cpus a x ∙ ap (λ xs. slice_set xs a (held_seen q x)) h.cpus ∙ ap (slice_set (map (held_seen q) v.cpus) a) e ∙ sym (map-hidden q v.cpus a y);
  frame = h.frame;
}

with_record_same : {q : ℕ} {w v : World} → TwinWorlds q w v → (t u : TableState) → Twins q t u → TwinWorlds q (world_with_record w t) (world_with_record v u)
with_record_same {q} {w} {v} h t u e = record { table = e; cpus = h.cpus; frame = ap (λ (x : World). let y : World = record x { records = x.records + 1 } in y) h.frame }

-- ---- a return

trap_at_back_twins : {q : ℕ} {t u : TableState} → Twins q t u → (s : ℕ) (x : TrapAnswer) → is_slot q s ≡ false → TrapIsApart q t s x → Twins q (table_after_trap_at_back t s x) (table_after_trap_at_back u s x)
trap_at_back_twins h s trap_ends.Done n m = trap_twins h s n m
trap_at_back_twins h s trap_ends.Kernel n m = kernel_call_twins h s n m

end_of_turn_twins : {q : ℕ} {t u : TableState} → Twins q t u → (s : ℕ) (b : Bool) (x : Stop) → is_slot q s ≡ false → ReturnIsApart q t s b x → Twins q (table_after_end_of_turn t s b x) (table_after_end_of_turn u s b x)
end_of_turn_twins h s true x n m = death_twins h s cause.Kill
end_of_turn_twins h s false Spent n m = queueing_twins h s
end_of_turn_twins {q} {t} {u} h s false Trap n m = subst (λ x. Twins q (table_after_trap_at_back t s (trap_answer t s)) (table_after_trap_at_back u s x)) (trap_answer_same h s n) (trap_at_back_twins h s (trap_answer t s) n m)
end_of_turn_twins h s false (Fault v) n m = death_twins h s (cause.Fault v)

back_twins : {q : ℕ} {t u : TableState} → Twins q t u → (l : HeldProcess) → BackIsApart q t (Some l) → Twins q (table_after_back t l) (table_after_back u l)
unfolding table_after_back
back_twins {q} {t} {u} h l m =
    subst (λ st. Twins q (table_after_end_of_turn (table_after_coming_home t l) l.slot (is_doomed (process_at t l.slot).state) l.out.stop) (table_after_end_of_turn (table_after_coming_home u l) l.slot (is_doomed st) l.out.stop)) (state_at h l.slot)
    (end_of_turn_twins (home_twins h l (other_slot q l.slot m.0)) l.slot (is_doomed (process_at t l.slot).state) l.out.stop (other_slot q l.slot m.0) m.1)

-- ---- each event

step_same : {q : ℕ} {w v : World} → TwinWorlds q w v → (a : ℕ) (x : Option HeldProcess) → TwinWorlds q (world_after_step w a x) (world_after_step v a x)
step_same h a None = h
step_same h a (Some l) = with_held_same h a _ _ refl

taken_alike : {q : ℕ} {t u : TableState} → Twins q t u → (s : ℕ) → held_seen q (Some (held_at_take t s)) ≡ held_seen q (Some (held_at_take u s))
taken_alike {q} {t} {u} h s = ap (λ (p : Process). let x : HeldProcess = record { slot = s; out = record { image = p.image; budget = p.schedule.ticks; count = 0; stop = Spent; decoded = tt } } in Some x) (at h s).same

take_world_same : {q : ℕ} {w v : World} → TwinWorlds q w v → (a : ℕ) (s : Option ℕ) → TwinWorlds q (world_after_take w a s) (world_after_take v a s)
take_world_same h a None = h
take_world_same {q} {w} {v} h a (Some s) = with_held_same (with_record_same h (table_after_sending_out w.table s) (table_after_sending_out v.table s) (sending_out_twins h.table s)) a (Some (held_at_take w.table s)) (Some (held_at_take v.table s)) (taken_alike h.table s)

back_same : {q : ℕ} {w v : World} → TwinWorlds q w v → (a : ℕ) (x : Option HeldProcess) → BackIsApart q w.table x → TwinWorlds q (world_after_back w a x) (world_after_back v a x)
back_same h a None m = h
back_same {q} {w} {v} h a (Some l) m = with_held_same (with_record_same h (table_after_back w.table l) (table_after_back v.table l) (back_twins h.table l m)) a None None refl

line_same : {q : ℕ} {w v : World} → TwinWorlds q w v → (l : ℕ) (s : Option ℕ) → TwinWorlds q (world_after_line w l s) (world_after_line v l s)
line_same h l None = h
line_same {q} {w} {v} h l (Some s) = with_record_same h (table_after_line w.table l s) (table_after_line v.table l s) (line_raised_twins h.table l s)

respawn_same : {q : ℕ} {w v : World} → TwinWorlds q w v → (s : ℕ) (x : Option Service) → TwinWorlds q (world_after_respawn w s x) (world_after_respawn v s x)
respawn_same h s None = h
respawn_same {q} {w} {v} h s (Some x) = with_record_same h (table_after_respawn w.table s x) (table_after_respawn v.table s x) (respawn_twins h.table s x)

kill_twins : {q : ℕ} {t u : TableState} → Twins q t u → (s : ℕ) → Twins q (table_after_kill t s) (table_after_kill u s)
unfolding table_after_kill
kill_twins h s = by_test _ _ (ap is_out (state_at h s)) (λ b. state_twins h s Doomed refl) (λ b. death_twins h s cause.Kill)

services_same : {q : ℕ} {w v : World} → TwinWorlds q w v → (s : ℕ) → slice_get w.services s ≡ slice_get v.services s
services_same h s = ap (λ (x : World). slice_get x.services s) h.frame

first_same : {q : ℕ} {w v : World} → TwinWorlds q w v → first_ready w.table.ready ≡ first_ready v.table.ready
first_same h = ap first_ready (ready_of h.table)

owner_same : {q : ℕ} {w v : World} → TwinWorlds q w v → (l : ℕ) → owner_of w.table l ≡ owner_of v.table l
owner_same h l = ap (λ (x : TableState). owner_of x l) h.table.rest

back_step : (q : ℕ) (t : TableState) (x : Option HeldProcess) → BackIsApart q t x → StepIsApart q x
back_step q t None m = tt
back_step q t (Some l) m = m.0

-- THE WORLD after an event
pub world_same : {q : ℕ} {w v : World} → TwinWorlds q w v → (a : ℕ) (e : Event) → IsApart q w a e → TwinWorlds q (world_after_event w a e) (world_after_event v a e)
unfolding world_after_event
world_same {q} {w} {v} h a Step m = subst (λ x. TwinWorlds q (world_after_step w a (held_by w a)) (world_after_step v a x)) (same_held q (held_by w a) (held_by v a) (held_alike h a) m) (step_same h a (held_by w a))
world_same {q} {w} {v} h a Take m = subst (λ x. TwinWorlds q (world_after_take w a (first_ready w.table.ready)) (world_after_take v a x)) (first_same h) (take_world_same h a (first_ready w.table.ready))
world_same {q} {w} {v} h a Back m = subst (λ x. TwinWorlds q (world_after_back w a (held_by w a)) (world_after_back v a x)) (same_held q (held_by w a) (held_by v a) (held_alike h a) (back_step q w.table (held_by w a) m)) (back_same h a (held_by w a) m)
world_same {q} {w} {v} h a (Line l) m = subst (λ x. TwinWorlds q (world_after_line w l (owner_of w.table l)) (world_after_line v l x)) (owner_same h l) (line_same h l (owner_of w.table l))
world_same {q} {w} {v} h a Tick m = with_record_same h _ _ (tick_twins h.table)
world_same {q} {w} {v} h a (Kill e) m = with_record_same h _ _ (kill_twins h.table (e % 1024))
world_same {q} {w} {v} h a (Respawn s) m = subst (λ x. TwinWorlds q (world_after_respawn w s (slice_get w.services s)) (world_after_respawn v s x)) (services_same h s) (respawn_same h s (slice_get w.services s))

-- ---- answers and refusals

step_hidden : (q : ℕ) (x : Option HeldProcess) → step_refusal (held_seen q x) ≡ step_refusal x
step_hidden q None = refl
step_hidden q (Some l) = refl

back_hidden : (q : ℕ) (x : Option HeldProcess) → back_refusal (held_seen q x) ≡ back_refusal x
back_hidden q None = refl
back_hidden q (Some l) = refl

take_hidden : (q n : ℕ) (x : Option HeldProcess) (s : Option ℕ) → take_refusal n (held_seen q x) s ≡ take_refusal n x s
take_hidden q n None None = refl
take_hidden q n None (Some s) = refl
take_hidden q n (Some l) s = refl

take_same : {q : ℕ} {w v : World} → TwinWorlds q w v → (a : ℕ) → take_refusal (free_records w) (held_by w a) (first_ready w.table.ready) ≡ take_refusal (free_records v) (held_by v a) (first_ready v.table.ready)
take_same {q} {w} {v} h a =
    sym (take_hidden q (free_records w) (held_by w a) (first_ready w.table.ready))
    ∙ ap (λ x. take_refusal (free_records w) x (first_ready w.table.ready)) (held_alike h a)
    ∙ take_hidden q (free_records w) (held_by v a) (first_ready w.table.ready)
    ∙ ap (λ n. take_refusal n (held_by v a) (first_ready w.table.ready)) (free_same h)
    ∙ ap (λ x. take_refusal (free_records v) (held_by v a) x) (first_same h)

respawn_read : (n : ℕ) (p : Process) (x : Option Service) → respawn_refusal n p x ≡ respawn_refusal n (process_seen true p) x
respawn_read n p None = refl
respawn_read n p (Some x) = refl

pub refusal_same : {q : ℕ} {w v : World} → TwinWorlds q w v → (a : ℕ) (e : Event) → event_refusal w a e ≡ event_refusal v a e
unfolding event_refusal
refusal_same {q} {w} {v} h a Step = sym (step_hidden q (held_by w a)) ∙ ap step_refusal (held_alike h a) ∙ step_hidden q (held_by v a)
refusal_same {q} {w} {v} h a Take =
    ap (λ n. cond (nat_lt a n) (take_refusal (free_records w) (held_by w a) (first_ready w.table.ready)) (Some CpuBusy)) (cpus_same h)
    ∙ ap (λ x. cond (nat_lt a (length v.cpus)) x (Some CpuBusy)) (take_same h a)
refusal_same {q} {w} {v} h a Back = sym (back_hidden q (held_by w a)) ∙ ap back_refusal (held_alike h a) ∙ back_hidden q (held_by v a)
refusal_same {q} {w} {v} h a (Line l) = ap (λ n. line_refusal n (owner_of w.table l)) (free_same h) ∙ ap (line_refusal (free_records v)) (owner_same h l)
refusal_same {q} {w} {v} h a Tick = ap (λ n. if_full n 1) (free_same h)
refusal_same {q} {w} {v} h a (Kill e) = ap (λ n. kill_refusal n (is_alive w.table e)) (free_same h) ∙ ap (λ f. kill_refusal (free_records v) (f e)) (alive_same h.table)
refusal_same {q} {w} {v} h a (Respawn s) =
    respawn_read (free_records w) (process_at w.table s) (slice_get w.services s)
    ∙ ap (λ n. respawn_refusal n (process_seen true (process_at w.table s)) (slice_get w.services s)) (free_same h)
    ∙ ap (λ p. respawn_refusal (free_records v) p (slice_get w.services s)) (all_but_image_at h.table s)
    ∙ ap (λ x. respawn_refusal (free_records v) (process_seen true (process_at v.table s)) x) (services_same h s)
    ∙ sym (respawn_read (free_records v) (process_at v.table s) (slice_get v.services s))

back_answer_hidden : (q : ℕ) (x : Option HeldProcess) → back_answer (held_seen q x) ≡ back_answer x
back_answer_hidden q None = refl
back_answer_hidden q (Some l) = refl

take_answer_same : {q : ℕ} {t u : TableState} → Twins q t u → (s : Option ℕ) → take_answer t s ≡ take_answer u s
take_answer_same h None = refl
take_answer_same {q} {t} {u} h (Some s) = ap (λ e. Taken e (process_at t s).schedule.ticks) (endpoint_same h s) ∙ ap (λ (p : Process). Taken (endpoint_of u s) p.schedule.ticks) (all_but_image_at h s)

pub answer_same : {q : ℕ} {w v : World} → TwinWorlds q w v → (a : ℕ) (e : Event) → IsApart q w a e → event_answer w a e ≡ event_answer v a e
unfolding event_answer
answer_same {q} {w} {v} h a Step m = ap step_answer (same_held q (held_by w a) (held_by v a) (held_alike h a) m)
answer_same {q} {w} {v} h a Take m = take_answer_same h.table (first_ready w.table.ready) ∙ ap (take_answer v.table) (first_same h)
answer_same {q} {w} {v} h a Back m = sym (back_answer_hidden q (held_by w a)) ∙ ap back_answer (held_alike h a) ∙ back_answer_hidden q (held_by v a)
answer_same h a (Line l) m = refl
answer_same h a Tick m = refl
answer_same h a (Kill e) m = refl
answer_same h a (Respawn s) m = ap (λ (p : Process). Respawned ((p.generation + 1) * 1024 + s)) (all_but_image_at h.table s)

-- ---- events that may be refused

move_by_same : {q : ℕ} {w v : World} → TwinWorlds q w v → (a : ℕ) (e : Event) (r : Option Refusal) → IsApart q w a e → ((move_by w a e r).0 ≡ (move_by v a e r).0) × TwinWorlds q (move_by w a e r).1 (move_by v a e r).1
move_by_same h a e (Some r) m = (refl, h)
move_by_same h a e None m = (ap Ok (answer_same h a e m), world_same h a e m)

pub move_same : {q : ℕ} {w v : World} → TwinWorlds q w v → (a : ℕ) (e : Event) → IsApart q w a e → ((move w a e).0 ≡ (move v a e).0) × TwinWorlds q (move w a e).1 (move v a e).1
unfolding move
move_same {q} {w} {v} h a e m = subst (λ r. ((move_by w a e (event_refusal w a e)).0 ≡ (move_by v a e r).0) × TwinWorlds q (move_by w a e (event_refusal w a e)).1 (move_by v a e r).1) (refusal_same h a e) (move_by_same h a e (event_refusal w a e) m)

pub moves_same : (xs : List (ℕ × Event)) {q : ℕ} (w v : World) → TwinWorlds q w v → AreApart q w xs → ((moves w xs).0 ≡ (moves v xs).0) × TwinWorlds q (moves w xs).1 (moves v xs).1
moves_same [] w v h m = (refl, h)
moves_same (x ∷ xs) w v h m =
    let first = move_same h x.0 x.1 m.0 in
    let rest = moves_same xs (move w x.0 x.1).1 (move v x.0 x.1).1 first.1 m.1 in
    (ap (λ y. y ∷ (moves (move w x.0 x.1).1 xs).0) first.0 ∙ ap (λ ys. (move v x.0 x.1).0 ∷ ys) rest.0, rest.1)
