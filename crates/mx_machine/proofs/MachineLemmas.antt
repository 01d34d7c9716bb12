-- What processors hold over what the kernel shows as lent.
use Rattle.std.proofs.Common.{◌≡◌, ◌∙◌, ◌<◌, ℕ, zero, suc, ◌+◌, ◌-◌, ◌*◌, cond, nat_lt, Bool, true, false, List, [], ◌∷◌, ◌++◌, length, Option, Some, None, Result, Ok, Err, slice_get, slice_set, get_or, refl, sym, ap, arith}
use Rattle.std.specs.Option.{option_map}
use Rattle.std.proofs.lemmas.List.{set-get_or, set-set, get_or-set_same, length-set}
use Rattle.mx_machine.specs.Proc.Queues.{first_ready}
use Rattle.mx_machine.specs.Proc.Endpoints.{is_alive}
use Rattle.mx_exec.specs.Image.{blank}
use Rattle.mx_machine.specs.Proc.TableState.{TableState, process_at, nobody, endpoint_of, table_after_dequeue}
use Rattle.mx_machine.specs.Proc.declared.process.State.TheVariants.{Home, Out as OnProcessor}
use Rattle.mx_machine.specs.Proc.declared.process.Process.{Process}
use Rattle.mx_machine.specs.CallRefusals.{owner_of}
use Rattle.mx_machine.specs.Service.{Service}
use Rattle.mx_machine.specs.declared.events.Event.{Event}
use Rattle.mx_machine.specs.declared.events.Event.TheVariants.{Step, Take, Back, Line, Tick, Kill, Respawn}
use Rattle.mx_machine.specs.declared.events.Refusal.{Refusal}
use Rattle.mx_machine.specs.declared.events.Refusal.TheVariants.{CpuBusy, CpuEmpty}
use Rattle.mx_machine.specs.declared.events.Answer.{Answer}
use Rattle.mx_machine.specs.declared.events.Answer.TheVariants.{Returned, Taken}
use Rattle.mx_machine.specs.declared.holding.Out.{Out}
use Rattle.mx_machine.specs.World.{World, HeldProcess, held_by, out_count, free_records}
use Rattle.mx_machine.specs.Move.{if_full, take_refusal, line_refusal, kill_refusal, respawn_refusal, event_refusal, world_after_event, event_answer, move_by, move, world_after_line, world_after_respawn, world_after_take, world_after_back, with_held, world_with_record, table_after_back, held_at_take, step_refusal, back_refusal, back_answer, take_answer, table_after_sending_out, moves}
use Rattle.mx_machine.specs.History.{BootAndHistory, replay}
use Rattle.mx_machine.proofs.ProcessorLemmas.{cpus_after}
use Rattle.mx_machine.specs.KernelState.{is_for_all}
use Rattle.mx_machine.specs.Machine.{held_now, all_held_now, world_of}

-- ---- lists

held_now-none : (l : Option HeldProcess) → held_now l None ≡ l
held_now-none None = refl
held_now-none (Some l) = refl

pub held_now-at : (ls : List (Option HeldProcess)) (os : List (Option Out)) (a : ℕ) → get_or (all_held_now ls os) a None ≡ held_now (get_or ls a None) (get_or os a None)
held_now-at [] os a = refl
held_now-at (l ∷ ls) [] a = sym (held_now-none (get_or (l ∷ ls) a None))
held_now-at (l ∷ ls) (o ∷ os) zero = refl
held_now-at (l ∷ ls) (o ∷ os) (suc a) = held_now-at ls os a

pub held_now-length : (ls : List (Option HeldProcess)) (os : List (Option Out)) → length (all_held_now ls os) ≡ length ls
held_now-length [] os = refl
held_now-length (l ∷ ls) [] = refl
held_now-length (l ∷ ls) (o ∷ os) = ap (λ n. suc n) (held_now-length ls os)

pub held_now-count : (ls : List (Option HeldProcess)) (os : List (Option Out)) → out_count (all_held_now ls os) ≡ out_count ls
held_now-count [] os = refl
held_now-count (l ∷ ls) [] = refl
held_now-count (None ∷ ls) (o ∷ os) = held_now-count ls os
held_now-count (Some l ∷ ls) (None ∷ os) = ap (λ n. suc n) (held_now-count ls os)
held_now-count (Some l ∷ ls) (Some o ∷ os) = ap (λ n. suc n) (held_now-count ls os)

pub held_now-set : (ls : List (Option HeldProcess)) (os : List (Option Out)) (a : ℕ) (x : Option HeldProcess) (y : Option Out) → a < length os
    → all_held_now (slice_set ls a x) (slice_set os a y) ≡ slice_set (all_held_now ls os) a (held_now x y)
held_now-set [] os a x y b = refl
held_now-set (l ∷ ls) [] a x y b = absurd (omega arith)
held_now-set (l ∷ ls) (o ∷ os) zero x y b = refl
held_now-set (l ∷ ls) (o ∷ os) (suc a) x y b = ap (λ r. held_now l o ∷ r) (held_now-set ls os a x y (omega arith))

-- only what a processor holds is replaced
pub held_now-replaced : (ls : List (Option HeldProcess)) (os : List (Option Out)) (a : ℕ) (l : HeldProcess) (o : Out) → a < length os → get_or ls a None ≡ Some l
    → all_held_now ls (slice_set os a (Some o)) ≡ slice_set (all_held_now ls os) a (Some (record l { out = o }))
held_now-replaced ls os a l o b h =
    ap (λ k. all_held_now k (slice_set os a (Some o))) (sym (set-get_or ls a None) ∙ ap (slice_set ls a) h)
    ∙ held_now-set ls os a (Some l) (Some o) b

-- ---- worlds that differ in what processors hold

abbrev pub with_cpus : World → List (Option HeldProcess) → World
with_cpus w cs = record w { cpus = cs }

-- an event of any actor: a line, a tick, a kill or a respawn
abbrev pub IsAnyones : Event → Type 0
IsAnyones x = is_for_all x ≡ true

free_now : (w : World) (cs : List (Option HeldProcess)) → out_count cs ≡ out_count w.cpus → free_records (with_cpus w cs) ≡ free_records w
free_now w cs h = ap (λ n. w.capacity - (w.records + n)) h

refusal_now : (w : World) (cs : List (Option HeldProcess)) (a : ℕ) (x : Event) → IsAnyones x → out_count cs ≡ out_count w.cpus → event_refusal (with_cpus w cs) a x ≡ event_refusal w a x
unfolding event_refusal
refusal_now w cs a Step i h = cc
refusal_now w cs a Take i h = cc
refusal_now w cs a Back i h = cc
refusal_now w cs a (Line l) i h = ap (λ k. line_refusal k (owner_of w.table l)) (free_now w cs h)
refusal_now w cs a Tick i h = ap (λ k. if_full k 1) (free_now w cs h)
refusal_now w cs a (Kill e) i h = ap (λ k. kill_refusal k (is_alive w.table e)) (free_now w cs h)
refusal_now w cs a (Respawn s) i h = ap (λ k. respawn_refusal k (process_at w.table s) (slice_get w.services s)) (free_now w cs h)

answer_now : (w : World) (cs : List (Option HeldProcess)) (a : ℕ) (x : Event) → IsAnyones x → event_answer (with_cpus w cs) a x ≡ event_answer w a x
unfolding event_answer
answer_now w cs a Step i = cc
answer_now w cs a Take i = cc
answer_now w cs a Back i = cc
answer_now w cs a (Line l) i = refl
answer_now w cs a Tick i = refl
answer_now w cs a (Kill e) i = refl
answer_now w cs a (Respawn s) i = refl

after_line_now : (w : World) (cs : List (Option HeldProcess)) (l : ℕ) (owner : Option ℕ) → world_after_line (with_cpus w cs) l owner ≡ with_cpus (world_after_line w l owner) cs
after_line_now w cs l None = refl
after_line_now w cs l (Some s) = refl

after_respawn_now : (w : World) (cs : List (Option HeldProcess)) (s : ℕ) (v : Option Service) → world_after_respawn (with_cpus w cs) s v ≡ with_cpus (world_after_respawn w s v) cs
after_respawn_now w cs s None = refl
after_respawn_now w cs s (Some v) = refl

after_now : (w : World) (cs : List (Option HeldProcess)) (a : ℕ) (x : Event) → IsAnyones x → world_after_event (with_cpus w cs) a x ≡ with_cpus (world_after_event w a x) cs
unfolding world_after_event
after_now w cs a Step i = cc
after_now w cs a Take i = cc
after_now w cs a Back i = cc
after_now w cs a (Line l) i = after_line_now w cs l (owner_of w.table l)
after_now w cs a Tick i = refl
after_now w cs a (Kill e) i = refl
after_now w cs a (Respawn s) i = after_respawn_now w cs s (slice_get w.services s)

-- ---- events of a machine

move-is : (w : World) (a : ℕ) (x : Event) (r : Option Refusal) → event_refusal w a x ≡ r → move w a x ≡ move_by w a x r
unfolding move
move-is w a x r h = ap (move_by w a x) h

-- an event of any actor that the kernel accepts
pub anyones-accepted : (k n : BootAndHistory) (os : List (Option Out)) (a : ℕ) (x : Event) → IsAnyones x → event_refusal (replay k) a x ≡ None → replay n ≡ world_after_event (replay k) a x
    → move (world_of (record { kernel = k; outs = os })) a x ≡ (Ok (event_answer (replay k) a x), world_of (record { kernel = n; outs = os }))
unfolding world_of
anyones-accepted k n os a x i ok is =
    let w = replay k in
    let cs = all_held_now w.cpus os in
    let same : all_held_now (replay n).cpus os ≡ cs = ap (λ (l : List (Option HeldProcess)). all_held_now l os) (ap (λ (v : World). v.cpus) is ∙ cpus_after w a x i) in
    move-is (with_cpus w cs) a x None (refusal_now w cs a x i (held_now-count w.cpus os) ∙ ok)
    ∙ ap (λ (y : Answer). let p : Result Answer Refusal × World = (Ok y, world_after_event (with_cpus w cs) a x) in p) (answer_now w cs a x i)
    ∙ ap (λ (v : World). let p : Result Answer Refusal × World = (Ok (event_answer w a x), v) in p)
    (after_now w cs a x i ∙ ap (λ (v : World). with_cpus v cs) (sym is) ∙ ap (with_cpus (replay n)) (sym same))

-- and one that it refuses
pub anyones-refused : (k : BootAndHistory) (os : List (Option Out)) (a : ℕ) (x : Event) (r : Refusal) → IsAnyones x → event_refusal (replay k) a x ≡ Some r
    → move (world_of (record { kernel = k; outs = os })) a x ≡ (Err r, world_of (record { kernel = k; outs = os }))
unfolding world_of
anyones-refused k os a x r i refused =
    let w = replay k in
    let cs = all_held_now w.cpus os in
    move-is (with_cpus w cs) a x (Some r) (refusal_now w cs a x i (held_now-count w.cpus os) ∙ refused)

-- ---- takes, returns and steps

-- an event that a processor without a process is refused
abbrev pub IsOwn : Event → Type 0
IsOwn Step = Unit {0}
IsOwn Back = Unit {0}
IsOwn _ = ⊥

pub holds_in : {X : Type 0} → (xs : List (Option X)) (a : ℕ) (x : X) → get_or xs a None ≡ Some x → a < length xs
holds_in [] a x h = cc
holds_in (y ∷ ys) zero x h = omega arith
holds_in (y ∷ ys) (suc a) x h = let b = holds_in ys a x h in omega arith

take_refusal_now : (left : ℕ) (held : Option HeldProcess) (out : Option Out) (first : Option ℕ) → take_refusal left (held_now held out) first ≡ take_refusal left held first
take_refusal_now left (Some l) (Some o) first = refl
take_refusal_now left (Some l) None first = refl
take_refusal_now left None out first = refl

take_now : (w : World) (os : List (Option Out)) (a : ℕ) → event_refusal (with_cpus w (all_held_now w.cpus os)) a Take ≡ event_refusal w a Take
unfolding event_refusal
take_now w os a =
    let cs = all_held_now w.cpus os in
    let first = first_ready w.table.ready in
    ap (λ n. cond (nat_lt a n) (take_refusal (free_records (with_cpus w cs)) (get_or cs a None) first) (Some CpuBusy)) (held_now-length w.cpus os)
    ∙ ap (λ r. cond (nat_lt a (length w.cpus)) r (Some CpuBusy))
    (ap (λ n. take_refusal n (get_or cs a None) first) (free_now w cs (held_now-count w.cpus os))
    ∙ ap (λ h. take_refusal (free_records w) h first) (held_now-at w.cpus os a)
    ∙ take_refusal_now (free_records w) (held_by w a) (get_or os a None) first)

pub take-refused : (k : BootAndHistory) (os : List (Option Out)) (a : ℕ) (r : Refusal) → event_refusal (replay k) a Take ≡ Some r
    → move (world_of (record { kernel = k; outs = os })) a Take ≡ (Err r, world_of (record { kernel = k; outs = os }))
unfolding world_of
take-refused k os a r refused = let w = replay k in move-is (with_cpus w (all_held_now w.cpus os)) a Take (Some r) (take_now w os a ∙ refused)

-- where nobody is ready a take leaves nothing on the processor
take_by : (w v : World) (os : List (Option Out)) (a : ℕ) (l : HeldProcess) (out : Out) (first : Option ℕ) → a < length os → held_by w a ≡ None → v ≡ world_after_take w a first → held_by v a ≡ Some l → l.out ≡ out
    → world_after_take (with_cpus w (all_held_now w.cpus os)) a first ≡ with_cpus v (all_held_now v.cpus (slice_set os a (Some out)))
take_by w v os a l out None b idle is h same = let z : held_by v a ≡ None = ap (λ (u : World). held_by u a) is ∙ idle in cc
take_by w v os a l out (Some s) b idle is h same =
    let cs = all_held_now w.cpus os in
    let m : HeldProcess = held_at_take w.table s in
    let new : v.cpus ≡ slice_set w.cpus a (Some m) = ap (λ (u : World). u.cpus) is in
    let in_new : a < length (slice_set w.cpus a (Some m)) = holds_in (slice_set w.cpus a (Some m)) a l (ap (λ x. get_or x a None) (sym new) ∙ h) in
    let below : a < length w.cpus = omega (arith, length-set w.cpus a (Some m)) in
    let they : Some m ≡ Some l = sym (get_or-set_same w.cpus a (Some m) None below) ∙ ap (λ x. get_or x a None) (sym new) ∙ h in
    let it : m.out ≡ out = let e : m ≡ l = cc in ap (λ (x : HeldProcess). x.out) e ∙ same in
    let mine : Some (record m { out = out }) ≡ Some m = ap (λ (o : Out). let x : Option HeldProcess = Some (record m { out = o }) in x) (sym it) in
    let cpus : all_held_now v.cpus (slice_set os a (Some out)) ≡ slice_set cs a (Some m) =
    ap (λ x. all_held_now x (slice_set os a (Some out))) new ∙ held_now-set w.cpus os a (Some m) (Some out) b ∙ ap (slice_set cs a) mine in
    ap (λ (u : World). with_cpus u (slice_set cs a (Some m))) (sym is) ∙ ap (with_cpus v) (sym cpus)

take_idle : (w : World) (a : ℕ) → event_refusal w a Take ≡ None → held_by w a ≡ None
unfolding event_refusal
take_idle w a h = by_held (nat_lt a (length w.cpus)) (free_records w) (held_by w a) (first_ready w.table.ready) h
  where
    by_held : (b : Bool) (left : ℕ) (held : Option HeldProcess) (first : Option ℕ) → cond b (take_refusal left held first) (Some CpuBusy) ≡ None → held ≡ None
    by_held true left None first h = refl
    by_held true left (Some l) first h = cc
    by_held false left held first h = cc

pub take-accepted : (k n : BootAndHistory) (os : List (Option Out)) (a : ℕ) (l : HeldProcess) (out : Out) → a < length os → event_refusal (replay k) a Take ≡ None → replay n ≡ world_after_event (replay k) a Take
    → held_by (replay n) a ≡ Some l → l.out ≡ out
    → move (world_of (record { kernel = k; outs = os })) a Take ≡ (Ok (event_answer (replay k) a Take), world_of (record { kernel = n; outs = slice_set os a (Some out) }))
unfolding world_of world_after_event event_answer
take-accepted k n os a l out b ok is h same =
    let w = replay k in
    let cs = all_held_now w.cpus os in
    move-is (with_cpus w cs) a Take None (take_now w os a ∙ ok)
    ∙ ap (λ (v : World). let p : Result Answer Refusal × World = (Ok (event_answer w a Take), v) in p) (take_by w (replay n) os a l out (first_ready w.table.ready) b (take_idle w a ok) is h same)

-- what a processor holds
pub held-now : (k : BootAndHistory) (os : List (Option Out)) (a : ℕ) (l : HeldProcess) (o : Out) → held_by (replay k) a ≡ Some l → get_or os a None ≡ Some o → held_by (world_of (record { kernel = k; outs = os })) a ≡ Some (record l { out = o })
unfolding world_of
held-now k os a l o h g = held_now-at (replay k).cpus os a ∙ ap (λ x. held_now x (get_or os a None)) h ∙ ap (held_now (Some l)) g

pub none-now : (k : BootAndHistory) (os : List (Option Out)) (a : ℕ) → held_by (replay k) a ≡ None → held_by (world_of (record { kernel = k; outs = os })) a ≡ None
unfolding world_of
none-now k os a h = held_now-at (replay k).cpus os a ∙ ap (λ x. held_now x (get_or os a None)) h

slot_held_now : (l : Option HeldProcess) (o : Option Out) → option_map (λ (x : HeldProcess). x.slot) (held_now l o) ≡ option_map (λ (x : HeldProcess). x.slot) l
slot_held_now None None = refl
slot_held_now None (Some o) = refl
slot_held_now (Some l) None = refl
slot_held_now (Some l) (Some o) = refl

-- it is the process of the same slot
pub slot-now : (k : BootAndHistory) (os : List (Option Out)) (a : ℕ)
    → option_map (λ (l : HeldProcess). l.slot) (held_by (world_of (record { kernel = k; outs = os })) a) ≡ option_map (λ (l : HeldProcess). l.slot) (held_by (replay k) a)
unfolding world_of
slot-now k os a = ap (option_map (λ (l : HeldProcess). l.slot)) (held_now-at (replay k).cpus os a) ∙ slot_held_now (get_or (replay k).cpus a None) (get_or os a None)

pub empty-refused : (w : World) (a : ℕ) (x : Event) → IsOwn x → held_by w a ≡ None → move w a x ≡ (Err CpuEmpty, w)
unfolding event_refusal
empty-refused w a Step i h = move-is w a Step (Some CpuEmpty) (ap step_refusal h)
empty-refused w a Back i h = move-is w a Back (Some CpuEmpty) (ap back_refusal h)
empty-refused w a Take i h = absurd i
empty-refused w a (Line l) i h = absurd i
empty-refused w a Tick i h = absurd i
empty-refused w a (Kill e) i h = absurd i
empty-refused w a (Respawn s) i h = absurd i

-- only what a processor holds is replaced
pub world-replaced : (k : BootAndHistory) (os : List (Option Out)) (a : ℕ) (l : HeldProcess) (o : Out) → a < length os → held_by (replay k) a ≡ Some l
    → world_of (record { kernel = k; outs = slice_set os a (Some o) }) ≡ with_held (world_of (record { kernel = k; outs = os })) a (Some (record l { out = o }))
unfolding world_of
world-replaced k os a l o b h = ap (with_cpus (replay k)) (held_now-replaced (replay k).cpus os a l o b h)

pub back-accepted : (k n : BootAndHistory) (os : List (Option Out)) (a : ℕ) (l : HeldProcess) (o : Out) → a < length os → held_by (replay k) a ≡ Some l → get_or os a None ≡ Some o
    → replay n ≡ world_after_event (with_held (replay k) a (Some (record l { out = o }))) a Back
    → move (world_of (record { kernel = k; outs = os })) a Back ≡ (Ok (Returned o.count), world_of (record { kernel = n; outs = slice_set os a None }))
unfolding world_of world_after_event event_refusal event_answer
back-accepted k n os a l o b h g is =
    let w = replay k in
    let cs = all_held_now w.cpus os in
    let m : HeldProcess = record l { out = o } in
    let held : held_by (with_cpus w cs) a ≡ Some m = held-now k os a l o h g in
    let put : held_by (with_held w a (Some m)) a ≡ Some m = get_or-set_same w.cpus a (Some m) None (holds_in w.cpus a l h) in
    let new : replay n ≡ with_held (world_with_record (with_held w a (Some m)) (table_after_back w.table m)) a None = is ∙ ap (world_after_back (with_held w a (Some m)) a) put in
    let cpus : all_held_now (replay n).cpus (slice_set os a None) ≡ slice_set cs a None =
    ap (λ (v : World). all_held_now v.cpus (slice_set os a None)) new
    ∙ ap (λ x. all_held_now x (slice_set os a None)) (set-set w.cpus a (Some m) None) ∙ held_now-set w.cpus os a None None b in
    move-is (with_cpus w cs) a Back None (ap back_refusal held)
    ∙ ap (λ (x : Option HeldProcess). let p : Result Answer Refusal × World = (Ok (back_answer x), world_after_back (with_cpus w cs) a x) in p) held
    ∙ ap (λ (v : World). let p : Result Answer Refusal × World = (Ok (Returned o.count), v) in p)
    (ap (λ (v : World). with_cpus v (slice_set cs a None)) (sym new) ∙ ap (with_cpus (replay n)) (sym cpus))

-- ---- takes: whose process it is

taken_is : (w v : World) (a s : ℕ) (l : HeldProcess) → v ≡ world_after_take w a (Some s) → held_by v a ≡ Some l → l ≡ held_at_take w.table s
taken_is w v a s l is h =
    let m : HeldProcess = held_at_take w.table s in
    let new : v.cpus ≡ slice_set w.cpus a (Some m) = ap (λ (u : World). u.cpus) is in
    let at : get_or (slice_set w.cpus a (Some m)) a None ≡ Some l = ap (λ x. get_or x a None) (sym new) ∙ h in
    let in_new : a < length (slice_set w.cpus a (Some m)) = holds_in (slice_set w.cpus a (Some m)) a l at in
    let below : a < length w.cpus = omega (arith, length-set w.cpus a (Some m)) in
    let they : Some m ≡ Some l = sym (get_or-set_same w.cpus a (Some m) None below) ∙ at in
    sym (let e : m ≡ l = cc in e)

generation_kept : (ps : List Process) (s : ℕ) (p : Process) → p.generation ≡ (get_or ps s nobody).generation → (get_or (slice_set ps s p) s nobody).generation ≡ (get_or ps s nobody).generation
generation_kept [] s p h = refl
generation_kept (x ∷ xs) zero p h = h
generation_kept (x ∷ xs) (suc s) p h = generation_kept xs s p h

endpoint_out : (t : TableState) (s : ℕ) → endpoint_of (table_after_sending_out t s) s ≡ endpoint_of t s
unfolding table_after_sending_out
endpoint_out t s = ap (λ g. g * 1024 + s)
    (generation_kept (table_after_dequeue t s).slots s (record (process_at (table_after_dequeue t s) s) { state = OnProcessor; image = blank }) refl
    ∙ generation_kept t.slots s (record (process_at t s) { state = Home }) refl)

answer_by : (w v : World) (a e : ℕ) (l : HeldProcess) (out : Out) (first : Option ℕ) → held_by w a ≡ None → v ≡ world_after_take w a first → held_by v a ≡ Some l → l.out ≡ out → e ≡ endpoint_of v.table l.slot
    → take_answer w.table first ≡ Taken e out.budget
answer_by w v a e l out None idle is h same at = let z : held_by v a ≡ None = ap (λ (u : World). held_by u a) is ∙ idle in cc
answer_by w v a e l out (Some s) idle is h same at =
    let it : l ≡ held_at_take w.table s = taken_is w v a s l is h in
    let budget : (process_at w.table s).schedule.ticks ≡ out.budget = ap (λ (x : HeldProcess). x.out.budget) (sym it) ∙ ap (λ (o : Out). o.budget) same in
    let endpoint : endpoint_of w.table s ≡ e =
    sym (at ∙ ap (λ (u : World). endpoint_of u.table l.slot) is ∙ ap (λ (x : HeldProcess). endpoint_of (table_after_sending_out w.table s) x.slot) it ∙ endpoint_out w.table s) in
    ap (λ n. Taken n (process_at w.table s).schedule.ticks) endpoint ∙ ap (Taken e) budget

pub taken-answer : (k n : BootAndHistory) (a e : ℕ) (l : HeldProcess) (out : Out) → event_refusal (replay k) a Take ≡ None → replay n ≡ world_after_event (replay k) a Take → held_by (replay n) a ≡ Some l → l.out ≡ out
    → e ≡ endpoint_of (replay n).table l.slot → event_answer (replay k) a Take ≡ Taken e out.budget
unfolding world_after_event event_answer
taken-answer k n a e l out ok is h same at = answer_by (replay k) (replay n) a e l out (first_ready (replay k).table.ready) (take_idle (replay k) a ok) is h same at

-- ---- lists of events

pub moves-more : (w : World) (xs : List (ℕ × Event)) (x : ℕ × Event) → moves w (xs ++ x ∷ []) ≡ ((moves w xs).0 ++ (move (moves w xs).1 x.0 x.1).0 ∷ [], (move (moves w xs).1 x.0 x.1).1)
moves-more w [] x = refl
moves-more w (y ∷ ys) x =
    let m = move w y.0 y.1 in
    ap (λ (r : List (Result Answer Refusal) × World). let p : List (Result Answer Refusal) × World = (m.0 ∷ r.0, r.1) in p) (moves-more m.1 ys x)
