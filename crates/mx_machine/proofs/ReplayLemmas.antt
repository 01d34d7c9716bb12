-- A kernel and the history that it keeps.
use Rattle.std.proofs.Common.{◌≡◌, ◌∙◌, ℕ, zero, suc, ◌+◌, ◌-◌, ◌<◌, ◌≤◌, ◌++◌, List, [], ◌∷◌, map, replicate, length, Option, Some, None, true, is_none, ◌&&◌, ◌==◌, get_or, slice_set, slice_get, All, get_or-set_same, get_or-set_other, length-set, append_assoc, inl, inr, refl, ap, sym, subst, arith}
use Rattle.std.proofs.lemmas.Bool.{cases_eq}
use Rattle.std.proofs.lemmas.List.{length-map}
use Rattle.std.proofs.lemmas.List.Elements.{All-append}
use Rattle.mx_machine.specs.Load.{IsLoadedFrom}
use Rattle.mx_ipc.specs.Proc.Endpoints.{is_alive}
use Rattle.mx_ipc.specs.Proc.Queues.{first_ready}
use Rattle.mx_ipc.specs.Proc.Sound.{Sound}
use Rattle.mx_ipc.specs.Proc.declared.process.Process.{Process}
use Rattle.mx_ipc.specs.Proc.TableState.{process_at}
use Rattle.mx_machine.specs.Service.{Service}
use Rattle.mx_machine.specs.CallRefusals.{owner_of}
use Rattle.mx_machine.specs.declared.events.Answer.{Answer}
use Rattle.mx_machine.specs.declared.events.Event.{Event}
use Rattle.mx_machine.specs.declared.events.Event.TheVariants as events
use Rattle.mx_machine.specs.declared.events.Refusal.{Refusal}
use Rattle.mx_machine.specs.declared.history.Record.{Record}
use Rattle.mx_machine.specs.declared.history.Recorded.{Recorded}
use Rattle.mx_machine.specs.declared.history.Recorded.TheVariants as recorded
use Rattle.mx_machine.specs.declared.holding.Lease.{Lease}
use Rattle.mx_machine.specs.declared.holding.Out.{Out}
use Rattle.mx_ipc.specs.Proc.declared.windows.Rules.{Rules}
use Rattle.mx_machine.specs.Boot.{world_at_boot_with}
use Rattle.mx_machine.specs.Held.{held_run, IsBack}
use Rattle.mx_machine.specs.History.{BootAndHistory, AreAccepted, IsWritable, events_of, events_of_history, world_after_events, replay, with_record}
use Rattle.mx_machine.specs.Move.{event_refusal, event_answer, world_after_event, world_after_take, world_after_back, world_after_line, world_after_respawn, if_full, line_refusal, kill_refusal, respawn_refusal, take_refusal, back_refusal, world_with_record, with_held, table_after_sending_out, held_at_take, table_after_back}
use Rattle.mx_machine.specs.Rest.{at_rest, down_are_worn}
use Rattle.mx_machine.specs.Sound.{lease_of, lease_at, IsSound}
use Rattle.mx_machine.specs.Steps.{StepsTo}
use Rattle.mx_machine.specs.World.{World, HeldProcess, actors, held_by, out_count, free_records}
use Rattle.mx_machine.proofs.LentLemmas.{back_lasts}
use Rattle.mx_machine.proofs.WorldStepLemmas.{held-steps, set_twice}
use Rattle.mx_machine.specs.Agrees.{AreSound, IsAtReplay, IsFresh, IsEventAccepted}
use Rattle.mx_machine.specs.KernelState.{KernelState, kernel_state_of, records_left, state_with_record, state_after_take, state_after_back, refusal_to_take, HasTaken, HasAccepted, refusal_to, table_after_line_by, table_after_respawn_by, table_after, answer_to, is_for_all, recorded_as}
use Rattle.mx_machine.proofs.HoldsLemmas.{holds_in}
use Rattle.mx_machine.proofs.CurrentLemmas.{HoldsOf, ready_loan}
use Rattle.mx_machine.proofs.KernelSoundLemmas.{sound_after_steps, sound_append, steps_sound}

-- ---- one record more

pub unfold_last : (xs : List Record) (x : Record) → events_of_history (xs ++ x ∷ []) ≡ events_of_history xs ++ (events_of x.actor x.event ++ [])
unfold_last [] x = refl
unfold_last (y ∷ ys) x = ap (λ l. events_of y.actor y.event ++ l) (unfold_last ys x) ∙ sym (append_assoc (events_of y.actor y.event) (events_of_history ys) (events_of x.actor x.event ++ []))

pub after_append : (w : World) (xs ys : List (ℕ × Event)) → world_after_events w (xs ++ ys) ≡ world_after_events (world_after_events w xs) ys
after_append w [] ys = refl
after_append w (x ∷ xs) ys = after_append (world_after_event w x.0 x.1) xs ys

pub accepted_append : (w : World) (xs ys : List (ℕ × Event)) → AreAccepted w xs → AreAccepted (world_after_events w xs) ys → AreAccepted w (xs ++ ys)
accepted_append w [] ys a b = b
accepted_append w (x ∷ xs) ys a b = (a.0, accepted_append (world_after_event w x.0 x.1) xs ys a.1 b)

-- and the other way round
accepted_front : (w : World) (xs ys : List (ℕ × Event)) → AreAccepted w (xs ++ ys) → AreAccepted w xs
accepted_front w [] ys h = tt
accepted_front w (x ∷ xs) ys h = (h.0, accepted_front (world_after_event w x.0 x.1) xs ys h.1)

accepted_rest : (w : World) (xs ys : List (ℕ × Event)) → AreAccepted w (xs ++ ys) → AreAccepted (world_after_events w xs) ys
accepted_rest w [] ys h = h
accepted_rest w (x ∷ xs) ys h = accepted_rest (world_after_event w x.0 x.1) xs ys h.1

all-one : {X : Type 0} (P : X → Type 0) (x : X) → P x → All P (x ∷ [])
all-one P x h zero d b = h
all-one P x h (suc k) d b = absurd (omega (arith, b))

all-more : {X : Type 0} (P : X → Type 0) (xs : List X) (x : X) → All P xs → P x → All P (xs ++ x ∷ [])
all-more P xs x a h = All-append P xs (x ∷ []) a (all-one P x h)

length-more : {X : Type 0} (xs : List X) (x : X) → length (xs ++ x ∷ []) ≡ length xs + 1
length-more [] x = refl
length-more (y ∷ ys) x = omega (arith, length-more ys x)

pub replay-recorded : (k : BootAndHistory) (a : ℕ) (x : Recorded) → replay (with_record k a x) ≡ world_after_events (replay k) (events_of a x)
unfolding replay
replay-recorded k a x = ap (world_after_events k.boot) (unfold_last k.history (record { actor = a; event = x })) ∙ after_append k.boot (events_of_history k.history) (events_of a x ++ [])
    ∙ after_append (world_after_events k.boot (events_of_history k.history)) (events_of a x) []

accepted-recorded : (k : BootAndHistory) (a : ℕ) (x : Recorded) → AreAccepted k.boot (events_of_history k.history) → AreAccepted (replay k) (events_of a x) → AreAccepted k.boot (events_of_history (with_record k a x).history)
unfolding replay
accepted-recorded k a x h e = subst (λ l. AreAccepted k.boot l) (sym (unfold_last k.history (record { actor = a; event = x })))
    (accepted_append k.boot (events_of_history k.history) (events_of a x ++ []) h (accepted_append (world_after_events k.boot (events_of_history k.history)) (events_of a x) [] e tt))

sound-recorded : (k : BootAndHistory) (a : ℕ) (x : Recorded) → AreAccepted k.boot (events_of_history k.history) → AreSound k.boot (events_of_history k.history) → AreAccepted (replay k) (events_of a x) → AreSound (replay k) (events_of a x)
    → AreSound k.boot (events_of_history (with_record k a x).history)
unfolding replay
sound-recorded k a x taken h accepted e = subst (λ l. AreSound k.boot l) (sym (unfold_last k.history (record { actor = a; event = x })))
    (sound_append k.boot (events_of_history k.history) (events_of a x ++ []) taken h (sound_append (world_after_events k.boot (events_of_history k.history)) (events_of a x) [] accepted e tt))

-- where all events of a history are accepted, those of its last record are accepted where the others lead
pub last_accepted : (k n : BootAndHistory) (a : ℕ) (x : Recorded) → n ≡ with_record k a x → AreAccepted n.boot (events_of_history n.history) → AreAccepted (replay k) (events_of a x)
unfolding replay
last_accepted k n a x is h =
    let all : AreAccepted k.boot (events_of_history (with_record k a x).history) = subst (λ (m : BootAndHistory). AreAccepted m.boot (events_of_history m.history)) is h in
    let parted = subst (AreAccepted k.boot) (unfold_last k.history (record { actor = a; event = x })) all in
    accepted_front (replay k) (events_of a x) [] (accepted_rest k.boot (events_of_history k.history) (events_of a x ++ []) parted)

-- THE STEP from one record to the next
recorded-agrees : (d n : KernelState) (room more : ℕ) (k : BootAndHistory) (a : ℕ) (x : Recorded) (v : World) → IsAtReplay d room k → AreAccepted (replay k) (events_of a x) → AreSound (replay k) (events_of a x) → world_after_events (replay k) (events_of a x) ≡ v
    → n ≡ kernel_state_of v → n.records ≡ d.records + 1 → n.capacity ≡ d.capacity → actors v ≡ actors (replay k) → IsWritable (actors k.boot) (record { actor = a; event = x })
    → ((b : ℕ) (l : HeldProcess) → held_by v b ≡ Some l → IsFresh v l) → room ≤ more → IsAtReplay n more (with_record k a x)
recorded-agrees d n room more k a x v h accepted sound e is records capacity as_many written fresh bigger =
    let z : replay (with_record k a x) ≡ v = replay-recorded k a x ∙ e in
    record {
      present = is ∙ ap kernel_state_of (sym z);
      records = omega (arith, records, h.records, length-more k.history (record { actor = a; event = x }));
      space = omega (arith, capacity, h.space, bigger);
      accepted = accepted-recorded k a x h.accepted accepted;
      sound = sound-recorded k a x h.accepted h.sound accepted sound;
      few = h.few;
      as_many = ap actors z ∙ as_many ∙ h.as_many;
      written = all-more (IsWritable (actors k.boot)) k.history (record { actor = a; event = x }) h.written written;
      fresh = subst (λ (w : World). (b : ℕ) (l : HeldProcess) → held_by w b ≡ Some l → IsFresh w l) (sym z) fresh;
    }

-- a record that represents one event
one-event : (k n : BootAndHistory) (a : ℕ) (e : Event) (x : Recorded) → events_of a x ≡ (a, e) ∷ [] → event_refusal (replay k) a e ≡ None → n ≡ with_record k a x → IsEventAccepted k n a e x
one-event k n a e x is accepted same = record {
  accepted = accepted;
  recorded = same;
  world = ap replay same ∙ replay-recorded k a x ∙ ap (world_after_events (replay k)) is;
}

-- ---- what a kernel knows is what its history says

count_leases : (xs : List (Option HeldProcess)) → out_count (map lease_of xs) ≡ out_count xs
count_leases [] = refl
count_leases (None ∷ xs) = count_leases xs
count_leases (Some x ∷ xs) = ap (λ n. suc n) (count_leases xs)

free-same : (w : World) → records_left (kernel_state_of w) ≡ free_records w
free-same w = ap (λ n. w.capacity - (w.records + n)) (count_leases w.cpus)

lease-same : (xs : List (Option HeldProcess)) (a : ℕ) → get_or (map lease_of xs) a None ≡ lease_of (get_or xs a None)
lease-same [] a = refl
lease-same (x ∷ xs) zero = refl
lease-same (x ∷ xs) (suc a) = lease-same xs a

pub map_put : {X Y : Type 0} (f : X → Y) (xs : List X) (i : ℕ) (p : X) → map f (slice_set xs i p) ≡ slice_set (map f xs) i (f p)
map_put f [] i p = refl
map_put f (x ∷ xs) zero p = refl
map_put f (x ∷ xs) (suc i) p = ap (λ l. f x ∷ l) (map_put f xs i p)

-- ---- the events that any actor may do

refusal-same : (w : World) (a : ℕ) (e : Event) → is_for_all e ≡ true → event_refusal w a e ≡ refusal_to (kernel_state_of w) e
unfolding event_refusal
refusal-same w a (events.Line l) h = ap (λ n. line_refusal n (owner_of w.table l)) (sym (free-same w))
refusal-same w a events.Tick h = ap (λ n. if_full n 1) (sym (free-same w))
refusal-same w a (events.Kill e) h = ap (λ n. kill_refusal n (is_alive w.table e)) (sym (free-same w))
refusal-same w a (events.Respawn s) h = ap (λ n. respawn_refusal n (process_at w.table s) (slice_get w.services s)) (sym (free-same w))
refusal-same w a events.Step h = cc
refusal-same w a events.Take h = cc
refusal-same w a events.Back h = cc

answer-same : (w : World) (a : ℕ) (e : Event) → is_for_all e ≡ true → event_answer w a e ≡ answer_to (kernel_state_of w) e
unfolding event_answer
answer-same w a (events.Line l) h = refl
answer-same w a events.Tick h = refl
answer-same w a (events.Kill e) h = refl
answer-same w a (events.Respawn s) h = refl
answer-same w a events.Step h = cc
answer-same w a events.Take h = cc
answer-same w a events.Back h = cc

line-after : (w : World) (l : ℕ) (o : Option ℕ) → line_refusal (free_records w) o ≡ None → world_after_line w l o ≡ world_with_record w (table_after_line_by w.table l o)
line-after w l None h = cc
line-after w l (Some s) h = refl

respawn-after : (w : World) (s : ℕ) (p : Process) (o : Option Service) → respawn_refusal (free_records w) p o ≡ None → world_after_respawn w s o ≡ world_with_record w (table_after_respawn_by w.table s o)
respawn-after w s p None h = cc
respawn-after w s p (Some v) h = refl

after-same : (w : World) (a : ℕ) (e : Event) → is_for_all e ≡ true → event_refusal w a e ≡ None → world_after_event w a e ≡ world_with_record w (table_after (kernel_state_of w) e)
unfolding event_refusal world_after_event
after-same w a (events.Line l) h n = line-after w l (owner_of w.table l) n
after-same w a events.Tick h n = refl
after-same w a (events.Kill e) h n = refl
after-same w a (events.Respawn s) h n = respawn-after w s (process_at w.table s) (slice_get w.services s) n
after-same w a events.Step h n = cc
after-same w a events.Take h n = cc
after-same w a events.Back h n = cc

events-same : (a : ℕ) (e : Event) → is_for_all e ≡ true → events_of a (recorded_as e) ≡ (a, e) ∷ []
events-same a (events.Line l) h = refl
events-same a events.Tick h = refl
events-same a (events.Kill e) h = refl
events-same a (events.Respawn s) h = refl
events-same a events.Step h = cc
events-same a events.Take h = cc
events-same a events.Back h = cc

pub act_refused : (d : KernelState) (room : ℕ) (k n : BootAndHistory) (a : ℕ) (e : Event) (r : Refusal) → k ≡ n → IsAtReplay d room k → is_for_all e ≡ true → refusal_to d e ≡ Some r → event_refusal (replay n) a e ≡ Some r
act_refused d room k n a e r v h all is = ap (λ k. event_refusal (replay k) a e) (sym v) ∙ refusal-same (replay k) a e all ∙ ap (λ d. refusal_to d e) (sym h.present) ∙ is

act_accepted : (d : KernelState) (room : ℕ) (k : BootAndHistory) (a : ℕ) (e : Event) → IsAtReplay d room k → is_for_all e ≡ true → refusal_to d e ≡ None → event_refusal (replay k) a e ≡ None
act_accepted d room k a e h all is = refusal-same (replay k) a e all ∙ ap (λ d. refusal_to d e) (sym h.present) ∙ is

pub act_answer : (d : KernelState) (room : ℕ) (k n : BootAndHistory) (a : ℕ) (e : Event) (x : Answer) → k ≡ n → IsAtReplay d room k → is_for_all e ≡ true → x ≡ answer_to d e → x ≡ event_answer (replay n) a e
act_answer d room k n a e x v h all is = is ∙ ap (λ d. answer_to d e) h.present ∙ sym (answer-same (replay k) a e all) ∙ ap (λ k. event_answer (replay k) a e) v

pub act_is : (d : KernelState) (room : ℕ) (k n m : BootAndHistory) (a : ℕ) (e : Event) → k ≡ n → IsAtReplay d room k → is_for_all e ≡ true → refusal_to d e ≡ None → m ≡ with_record k a (recorded_as e) → IsEventAccepted n m a e (recorded_as e)
act_is d room k n m a e v h all is same = subst (λ k. IsEventAccepted k m a e (recorded_as e)) v
    (one-event k m a e (recorded_as e) (events-same a e all) (act_accepted d room k a e h all is) same)

-- such an event leaves what is lent alone
pub act_agrees : (d n : KernelState) (room more : ℕ) (k : BootAndHistory) (a : ℕ) (e : Event) (x : Answer) → IsAtReplay d room k → IsSound (replay k) → is_for_all e ≡ true → HasAccepted d n e x → IsWritable (actors k.boot) (record { actor = a; event = recorded_as e }) → room ≤ more
    → IsAtReplay n more (with_record k a (recorded_as e))
act_agrees d n room more k a e x h sound all acted written bigger =
    let w = replay k in
    let accepted = act_accepted d room k a e h all acted.accepted in
    let v : World = world_with_record w (table_after (kernel_state_of w) e) in
    let one = events-same a e all in
    recorded-agrees d n room more k a (recorded_as e) v h (subst (λ l. AreAccepted w l) (sym one) (accepted, tt)) (subst (λ l. AreSound w l) (sym one) (sound, tt)) (ap (world_after_events w) one ∙ after-same w a e all accepted)
    (acted.after ∙ ap (λ d. state_with_record d (table_after d e)) h.present) (ap (λ (d : KernelState). d.records) acted.after) (ap (λ (d : KernelState). d.capacity) acted.after) refl written
    (λ b l i. let f = h.fresh b l i in record { count = f.count; stop = f.stop; loaded = f.loaded }) bigger

-- ---- a processor takes a process

lease-refusal : (n : ℕ) (o : Option HeldProcess) (p : Option ℕ) → take_refusal n (lease_of o) p ≡ take_refusal n o p
lease-refusal n None None = refl
lease-refusal n None (Some s) = refl
lease-refusal n (Some l) p = refl

take-refusal-same : (w : World) (a : ℕ) → event_refusal w a events.Take ≡ refusal_to_take (kernel_state_of w) a
unfolding event_refusal
take-refusal-same w a =
    rw (length-map w.cpus lease_of, lease-same w.cpus a, free-same w, lease-refusal (free_records w) (held_by w a) (first_ready w.table.ready)) refl

pub take_refused : (d : KernelState) (room : ℕ) (k n : BootAndHistory) (a : ℕ) (r : Refusal) → k ≡ n → IsAtReplay d room k → refusal_to_take d a ≡ Some r → event_refusal (replay n) a events.Take ≡ Some r
take_refused d room k n a r v h is = ap (λ k. event_refusal (replay k) a events.Take) (sym v) ∙ take-refusal-same (replay k) a ∙ ap (λ d. refusal_to_take d a) (sym h.present) ∙ is

take_accepted : (d : KernelState) (room : ℕ) (k : BootAndHistory) (a : ℕ) → IsAtReplay d room k → refusal_to_take d a ≡ None → event_refusal (replay k) a events.Take ≡ None
take_accepted d room k a h is = take-refusal-same (replay k) a ∙ ap (λ d. refusal_to_take d a) (sym h.present) ∙ is

pub take_is : (d : KernelState) (room : ℕ) (k n m : BootAndHistory) (a : ℕ) → k ≡ n → IsAtReplay d room k → refusal_to_take d a ≡ None → m ≡ with_record k a recorded.Take → IsEventAccepted n m a events.Take recorded.Take
take_is d room k n m a v h is same = subst (λ k. IsEventAccepted k m a events.Take recorded.Take) v (one-event k m a events.Take recorded.Take refl (take_accepted d room k a h is) same)

after_take-is : (w : World) (a s : ℕ) → first_ready w.table.ready ≡ Some s → world_after_event w a events.Take ≡ with_held (world_with_record w (table_after_sending_out w.table s)) a (Some (held_at_take w.table s))
unfolding world_after_event
after_take-is w a s h = ap (λ p. world_after_take w a p) h

-- what is then lent
pub take_lent : (d n : KernelState) (room : ℕ) (k m : BootAndHistory) (a s : ℕ) (o : Out) → IsAtReplay d room k → HasTaken d n a s o → m ≡ with_record k a recorded.Take → (l : HeldProcess) × (held_by (replay m) a ≡ Some l) × (l.out ≡ o)
take_lent d n room k m a s o h taken same =
    let w = replay k in
    let first : first_ready w.table.ready ≡ Some s = ap (λ (d : KernelState). first_ready d.table.ready) (sym h.present) ∙ taken.first in
    let below : a < length w.cpus = omega (arith, taken.processor, ap (λ (d : KernelState). length d.leases) h.present, length-map w.cpus lease_of) in (
      held_at_take w.table s,
      ap (λ m. held_by (replay m) a) same ∙ ap (λ w. held_by w a) (replay-recorded k a recorded.Take ∙ after_take-is w a s first) ∙ get_or-set_same w.cpus a (Some (held_at_take w.table s)) None below,
      ap (λ (d : KernelState). (held_at_take d.table s).out) (sym h.present) ∙ sym taken.out,
    )

-- IsLoadedFrom of each image that is at home comes from what always holds
pub take_agrees : (d n : KernelState) (room more : ℕ) (k : BootAndHistory) (a s : ℕ) (o : Out) → IsAtReplay d room k → IsSound (replay k) → HasTaken d n a s o → HoldsOf d
    → IsWritable (actors k.boot) (record { actor = a; event = recorded.Take }) → room ≤ more → IsAtReplay n more (with_record k a recorded.Take)
take_agrees d n room more k a s o h sound taken holds written bigger =
    let loaded : (v : Service) → slice_get d.services s ≡ Some v → IsLoadedFrom (process_at d.table s).image v.program = λ v g. holds.loaded s v g (ready_loan (process_at d.table s) taken.ready) in
    let w = replay k in
    let first : first_ready w.table.ready ≡ Some s = ap (λ (d : KernelState). first_ready d.table.ready) (sym h.present) ∙ taken.first in
    let l : HeldProcess = held_at_take w.table s in
    let v : World = with_held (world_with_record w (table_after_sending_out w.table s)) a (Some l) in
    let below : a < length w.cpus = omega (arith, taken.processor, ap (λ (d : KernelState). length d.leases) h.present, length-map w.cpus lease_of) in
    recorded-agrees d n room more k a recorded.Take v h (take_accepted d room k a h taken.accepted, tt) (sound, tt) (after_take-is w a s first)
    (taken.after ∙ ap (λ d. state_after_take d a s) h.present ∙ ap (λ x. let y : KernelState = record (kernel_state_of w) { table = table_after_sending_out w.table s; records = w.records + 1; leases = x } in y) (sym (map_put lease_of w.cpus a (Some l))))
    (ap (λ (d : KernelState). d.records) taken.after) (ap (λ (d : KernelState). d.capacity) taken.after)
    (ap (λ n. n + w.others) (length-set w.cpus a (Some l))) written
    (λ b m e. elim (cases_eq b a) [
      | inl i ↦ let z : Some l ≡ Some m = sym (ap (λ x. held_by v x) i ∙ get_or-set_same w.cpus a (Some l) None below) ∙ e in let y : l ≡ m = cc in
          subst (λ (m : HeldProcess). IsFresh v m) y (record {
            count = refl;
            stop = refl;
            loaded = λ u g. subst (λ (d : KernelState). IsLoadedFrom (process_at d.table s).image u.program) h.present (loaded u (ap (λ (d : KernelState). slice_get d.services s) h.present ∙ g));
          })
      | inr i ↦ let f = h.fresh b m (sym (get_or-set_other w.cpus a b (Some l) None i) ∙ e) in record { count = f.count; stop = f.stop; loaded = f.loaded }
    ])
    bigger

-- ---- a processor brings a process back

lease-is : (o : Option HeldProcess) (x : Lease) (l : HeldProcess) → lease_of o ≡ Some x → o ≡ Some l → (x.slot ≡ l.slot) × (x.budget ≡ l.out.budget)
lease-is None x l e f = cc
lease-is (Some m) x l e f = let y : m ≡ l = cc in let z : (let p : Lease = record { slot = m.slot; budget = m.out.budget } in p) ≡ x = cc in
    (ap (λ (p : Lease). p.slot) (sym z) ∙ ap (λ (m : HeldProcess). m.slot) y, ap (λ (p : Lease). p.budget) (sym z) ∙ ap (λ (m : HeldProcess). m.out.budget) y)

-- the lease is that of what is lent
pub lease_known : (d : KernelState) (room : ℕ) (k n : BootAndHistory) (a : ℕ) (l : HeldProcess) (x : Lease) → k ≡ n → IsAtReplay d room k → held_by (replay n) a ≡ Some l → lease_at d.leases a ≡ Some x → (x.slot ≡ l.slot) × (x.budget ≡ l.out.budget)
lease_known d room k n a l x v h at e =
    lease-is (held_by (replay k) a) x l (sym (lease-same (replay k).cpus a) ∙ ap (λ (d : KernelState). lease_at d.leases a) (sym h.present) ∙ e) (ap (λ k. held_by (replay k) a) v ∙ at)

-- and there is one
pub lease_there : (d : KernelState) (room : ℕ) (k n : BootAndHistory) (a : ℕ) (l : HeldProcess) → k ≡ n → IsAtReplay d room k → held_by (replay n) a ≡ Some l → lease_at d.leases a ≡ Some (record { slot = l.slot; budget = l.out.budget })
lease_there d room k n a l v h at = ap (λ (d : KernelState). lease_at d.leases a) h.present ∙ lease-same (replay k).cpus a ∙ ap lease_of (ap (λ k. held_by (replay k) a) v ∙ at)

-- its image was loaded from the program of its slot
pub back_loaded : (d : KernelState) (room : ℕ) (k n : BootAndHistory) (a : ℕ) (l : HeldProcess) (o : Out) (v : Service) → k ≡ n → IsAtReplay d room k → held_by (replay n) a ≡ Some l → IsBack l.out o → slice_get d.services l.slot ≡ Some v → IsLoadedFrom o.image v.program
back_loaded d room k n a l o v e h at b g = back_lasts l.out o b ∙ (h.fresh a l (ap (λ k. held_by (replay k) a) e ∙ at)).loaded v (ap (λ (d : KernelState). slice_get d.services l.slot) (sym h.present) ∙ g)

-- what came back is what that many steps make of what was lent
pub back_steps : (d : KernelState) (room : ℕ) (k n : BootAndHistory) (a : ℕ) (l : HeldProcess) (o : Out) → k ≡ n → IsAtReplay d room k → held_by (replay n) a ≡ Some l → IsBack l.out o → StepsTo (replay k) a o.count l o
back_steps d room k n a l o v h at b =
    let held : held_by (replay k) a ≡ Some l = ap (λ k. held_by (replay k) a) v ∙ at in
    let f = h.fresh a l held in
    let s = held-steps (replay k) a o.count l held (omega (arith, f.count)) in
    let count : (held_run o.count l.out).0.0 ≡ o.count = omega (arith, s.count, f.count, ap (λ (o : Out). o.count) b.run) in
    subst (λ (p : Out). StepsTo (replay k) a o.count l p) b.run (subst (λ m. StepsTo (replay k) a m l (held_run o.count l.out).1) count s)

after_back-is : (w v : World) (a : ℕ) (l : HeldProcess) (o : Out) → held_by w a ≡ Some l → v ≡ with_held w a (Some (record l { out = o })) → world_after_event v a events.Back ≡ with_held (world_with_record w (table_after_back w.table (record l { out = o }))) a None
unfolding world_after_event
after_back-is w v a l o h e =
    let m : HeldProcess = record l { out = o } in
    let u : World = with_held w a (Some m) in
    ap (λ v. world_after_event v a events.Back) e
    ∙ ap (world_after_back u a) (get_or-set_same w.cpus a (Some m) None (holds_in w.cpus a l h))
    ∙ ap (λ c. let x : World = record w { table = table_after_back w.table m; records = w.records + 1; cpus = c } in x) (set_twice w.cpus a (Some m) None)

back-refusal : (w v : World) (a : ℕ) (l : HeldProcess) (o : Out) → held_by w a ≡ Some l → v ≡ with_held w a (Some (record l { out = o })) → event_refusal v a events.Back ≡ None
unfolding event_refusal
back-refusal w v a l o h e = let m : HeldProcess = record l { out = o } in
    ap (λ v. back_refusal (held_by v a)) e ∙ ap back_refusal (get_or-set_same w.cpus a (Some m) None (holds_in w.cpus a l h))

pub back_world : (d : KernelState) (room : ℕ) (k n m : BootAndHistory) (a : ℕ) (l : HeldProcess) (o : Out) → k ≡ n → IsAtReplay d room k → held_by (replay n) a ≡ Some l → StepsTo (replay k) a o.count l o → m ≡ with_record k a (recorded.Back o.count)
    → replay m ≡ world_after_event (with_held (replay n) a (Some (record l { out = o }))) a events.Back
back_world d room k n m a l o v h at s same =
    ap replay same ∙ replay-recorded k a (recorded.Back o.count) ∙ after_append (replay k) (replicate o.count (a, events.Step)) ((a, events.Back) ∷ [])
    ∙ ap (λ w. world_after_event w a events.Back) s.after ∙ ap (λ k. world_after_event (with_held (replay k) a (Some (record l { out = o }))) a events.Back) v

-- the world that a return finds is sound
pub back_sound : (d : KernelState) (room : ℕ) (k n : BootAndHistory) (a : ℕ) (l : HeldProcess) (o : Out) → k ≡ n → IsAtReplay d room k → IsSound (replay k) → StepsTo (replay k) a o.count l o → IsSound (with_held (replay n) a (Some (record l { out = o })))
back_sound d room k n a l o v h sound s = subst (λ (k : BootAndHistory). IsSound (with_held (replay k) a (Some (record l { out = o })))) v (subst IsSound s.after (sound_after_steps o.count (replay k) a sound s.accepted))

nothing : (m : HeldProcess) → None ≡ Some m → ⊥
nothing m e = cc

pub back_agrees : (d n : KernelState) (room more : ℕ) (k : BootAndHistory) (a : ℕ) (l : HeldProcess) (o : Out) (x : Lease) → IsAtReplay d room k → IsSound (replay k) → held_by (replay k) a ≡ Some l → StepsTo (replay k) a o.count l o → x.slot ≡ l.slot → n ≡ state_after_back d a x.slot o
    → IsWritable (actors k.boot) (record { actor = a; event = recorded.Back o.count }) → room ≤ more → IsAtReplay n more (with_record k a (recorded.Back o.count))
back_agrees d n room more k a l o x h sound at s same after written bigger =
    let w = replay k in
    let v : World = with_held (world_with_record w (table_after_back w.table (record l { out = o }))) a None in
    let steps = replicate o.count (a, events.Step) in
    recorded-agrees d n room more k a (recorded.Back o.count) v h
    (accepted_append w steps ((a, events.Back) ∷ []) s.accepted (back-refusal w (world_after_events w steps) a l o at s.after, tt))
    (sound_append w steps ((a, events.Back) ∷ []) s.accepted (steps_sound o.count w a sound s.accepted) (sound_after_steps o.count w a sound s.accepted, tt))
    (after_append w steps ((a, events.Back) ∷ []) ∙ after_back-is w (world_after_events w steps) a l o at s.after)
    (after ∙ ap (λ q. state_after_back d a q o) same ∙ ap (λ d. state_after_back d a l.slot o) h.present
    ∙ ap (λ y. let z : KernelState = record (kernel_state_of w) { table = table_after_back w.table (record l { out = o }); records = w.records + 1; leases = y } in z) (sym (map_put lease_of w.cpus a None)))
    (ap (λ (d : KernelState). d.records) after) (ap (λ (d : KernelState). d.capacity) after)
    (ap (λ n. n + w.others) (length-set w.cpus a None)) written
    (λ b m e. elim (cases_eq b a) [
      | inl i ↦ absurd (nothing m (sym (ap (λ q. held_by v q) i ∙ get_or-set_same w.cpus a None None (holds_in w.cpus a l at)) ∙ e))
      | inr i ↦ let f = h.fresh b m (sym (get_or-set_other w.cpus a b None None i) ∙ e) in record { count = f.count; stop = f.stop; loaded = f.loaded }
    ])
    bigger

-- ---- a kernel by its parts

-- what a kernel is seen as
abbrev pub kept_of : Rules → KernelState → ℕ → List Record → BootAndHistory
kept_of rules d n records = record { boot = world_at_boot_with rules d.services n d.others d.capacity; history = records }

-- the same services, others and capacity, by the same rules
boot-same : (rules : Rules) (d m : KernelState) (n : ℕ) (records : List Record) → m.services ≡ d.services → m.others ≡ d.others → m.capacity ≡ d.capacity → kept_of rules m n records ≡ kept_of rules d n records
boot-same rules d m n records s o c =
    ap (λ x. let k : BootAndHistory = record { boot = world_at_boot_with rules x n m.others m.capacity; history = records } in k) s
    ∙ ap (λ x. let k : BootAndHistory = record { boot = world_at_boot_with rules d.services n x m.capacity; history = records } in k) o
    ∙ ap (λ x. let k : BootAndHistory = record { boot = world_at_boot_with rules d.services n d.others x; history = records } in k) c

pub recorded_by : (rules : Rules) (d m : KernelState) (n a : ℕ) (records more : List Record) (x : Recorded) → m.services ≡ d.services → m.others ≡ d.others → m.capacity ≡ d.capacity → more ≡ records ++ record { actor = a; event = x } ∷ []
    → kept_of rules m n more ≡ with_record (kept_of rules d n records) a x
recorded_by rules d m n a records more x s o c e = boot-same rules d m n more s o c ∙ ap (λ l. kept_of rules d n l) e

pub after_taking : (rules : Rules) (d m : KernelState) (n a s : ℕ) (records more : List Record) (o : Out) → HasTaken d m a s o → more ≡ records ++ record { actor = a; event = recorded.Take } ∷ [] → kept_of rules m n more ≡ with_record (kept_of rules d n records) a recorded.Take
after_taking rules d m n a s records more o h e = recorded_by rules d m n a records more recorded.Take (ap (λ (d : KernelState). d.services) h.after) (ap (λ (d : KernelState). d.others) h.after) (ap (λ (d : KernelState). d.capacity) h.after) e

pub after_acting : (rules : Rules) (d m : KernelState) (n a : ℕ) (records more : List Record) (e : Event) (x : Answer) → HasAccepted d m e x → more ≡ records ++ record { actor = a; event = recorded_as e } ∷ [] → kept_of rules m n more ≡ with_record (kept_of rules d n records) a (recorded_as e)
after_acting rules d m n a records more e x h i = recorded_by rules d m n a records more (recorded_as e) (ap (λ (d : KernelState). d.services) h.after) (ap (λ (d : KernelState). d.others) h.after) (ap (λ (d : KernelState). d.capacity) h.after) i

pub after_returning : (rules : Rules) (d m : KernelState) (n a s : ℕ) (records more : List Record) (o : Out) → m ≡ state_after_back d a s o → more ≡ records ++ record { actor = a; event = recorded.Back o.count } ∷ [] → kept_of rules m n more ≡ with_record (kept_of rules d n records) a (recorded.Back o.count)
after_returning rules d m n a s records more o h e = recorded_by rules d m n a records more (recorded.Back o.count) (ap (λ (d : KernelState). d.services) h) (ap (λ (d : KernelState). d.others) h) (ap (λ (d : KernelState). d.capacity) h) e

-- a processor is an actor
pub is_actor : (d : KernelState) (room : ℕ) (k : BootAndHistory) (a : ℕ) → IsAtReplay d room k → a < length d.leases → a < actors k.boot
is_actor d room k a h b =
    let n : length d.leases ≡ length (replay k).cpus = ap (λ (d : KernelState). length d.leases) h.present ∙ length-map (replay k).cpus lease_of in
    omega (arith, b, n, h.as_many)

-- who brings something back is an actor
pub holder_is_actor : (d : KernelState) (room : ℕ) (k : BootAndHistory) (a : ℕ) (x : Lease) → IsAtReplay d room k → lease_at d.leases a ≡ Some x → a < actors k.boot
holder_is_actor d room k a x h e = is_actor d room k a h (holds_in d.leases a x e)

-- ---- what always holds of a kernel

pub opened_sound : (d : KernelState) (room : ℕ) (k n : BootAndHistory) → k ≡ n → IsAtReplay d room k → Sound d.table → HoldsOf d → IsSound (replay n)
opened_sound d room k n v h sound holds = subst (λ k. IsSound (replay k)) v (record {
  table = subst (λ (d : KernelState). Sound d.table) h.present sound;
  holds = subst HoldsOf h.present holds;
  counts = λ a l e. let f = h.fresh a l e in omega (arith, f.count);
  loaded = λ a l s e g. (h.fresh a l e).loaded s g;
})

pub opened_accepted : (d : KernelState) (room : ℕ) (k n : BootAndHistory) → k ≡ n → IsAtReplay d room k → AreAccepted n.boot (events_of_history n.history)
opened_accepted d room k n v h = subst (λ (k : BootAndHistory). AreAccepted k.boot (events_of_history k.history)) v h.accepted

pub opened_history : (d : KernelState) (room : ℕ) (k n : BootAndHistory) → k ≡ n → IsAtReplay d room k → AreSound n.boot (events_of_history n.history)
opened_history d room k n v h = subst (λ (k : BootAndHistory). AreSound k.boot (events_of_history k.history)) v h.sound

pub opened_written : (d : KernelState) (room : ℕ) (k n : BootAndHistory) → k ≡ n → IsAtReplay d room k → All (IsWritable (actors (replay n))) n.history
opened_written d room k n v h = subst (λ (k : BootAndHistory). All (IsWritable (actors (replay k))) k.history) v (subst (λ m. All (IsWritable m) k.history) (sym h.as_many) h.written)

pub opened_fresh : (d : KernelState) (room : ℕ) (k n : BootAndHistory) → k ≡ n → IsAtReplay d room k → (a : ℕ) (l : HeldProcess) → held_by (replay n) a ≡ Some l → IsFresh (replay n) l
opened_fresh d room k n v h = subst (λ (k : BootAndHistory). (a : ℕ) (l : HeldProcess) → held_by (replay k) a ≡ Some l → IsFresh (replay k) l) v h.fresh

pub opened_few : (d : KernelState) (room : ℕ) (k n : BootAndHistory) → k ≡ n → IsAtReplay d room k → k.boot.others ≡ d.others → length (replay n).cpus ≤ 8
opened_few d room k n v h same =
    let others : d.others ≡ (replay k).others = ap (λ (x : KernelState). x.others) h.present in
    subst (λ (k : BootAndHistory). length (replay k).cpus ≤ 8) v (omega (arith, h.as_many, h.few, others, same))

pub actors-is : (d : KernelState) (room p : ℕ) (k n : BootAndHistory) → k ≡ n → IsAtReplay d room k → k.boot.others ≡ d.others → length k.boot.cpus ≡ p → p + d.others ≡ actors (replay n)
actors-is d room p k n v h same cpus = subst (λ (k : BootAndHistory). p + d.others ≡ actors (replay k)) v (omega (arith, h.as_many, same, cpus))

pub cpus-is : (d : KernelState) (room p : ℕ) (k n : BootAndHistory) → k ≡ n → IsAtReplay d room k → k.boot.others ≡ d.others → length k.boot.cpus ≡ p → p ≡ length (replay n).cpus
cpus-is d room p k n v h same cpus =
    let others : d.others ≡ (replay k).others = ap (λ (x : KernelState). x.others) h.present in
    subst (λ (k : BootAndHistory). p ≡ length (replay k).cpus) v (omega (arith, h.as_many, same, cpus, others))

pub event_actor : (d : KernelState) (room : ℕ) (k n : BootAndHistory) (a : ℕ) → k ≡ n → IsAtReplay d room k → a < actors (replay n) → a < actors k.boot
event_actor d room k n a v h b = let z : a < actors (replay k) = subst (λ (k : BootAndHistory). a < actors (replay k)) (sym v) b in omega (arith, z, h.as_many)

-- ---- at rest

at_rest-is : (w : World) → (is_none (first_ready w.table.ready) && (out_count w.cpus == 0) && down_are_worn w.table.slots w.services) ≡ at_rest w
unfolding at_rest
at_rest-is w = refl

pub rest_same : (d : KernelState) (room : ℕ) (k n : BootAndHistory) → k ≡ n → IsAtReplay d room k → (is_none (first_ready d.table.ready) && (out_count d.leases == 0) && down_are_worn d.table.slots d.services) ≡ at_rest (replay n)
rest_same d room k n v h = let w = replay k in
    ap (λ (d : KernelState). is_none (first_ready d.table.ready) && (out_count d.leases == 0) && down_are_worn d.table.slots d.services) h.present
    ∙ ap (λ m. is_none (first_ready w.table.ready) && (m == 0) && down_are_worn w.table.slots w.services) (count_leases w.cpus)
    ∙ at_rest-is w ∙ ap (λ k. at_rest (replay k)) v
