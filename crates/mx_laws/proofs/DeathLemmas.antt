-- Deaths, new processes, lines and the clock.
use Rattle.std.proofs.Common.{◌≡◌, ◌∙◌, ℕ, zero, suc, ◌+◌, ◌==◌, ◌&&◌, Bool, true, false, cond, not, List, [], ◌∷◌, ◌++◌, map, Option, None, refl, ap, subst, slice_set}
use Rattle.std.specs.Prelude.{replicate, bit_or, ◌^◌}
use Rattle.mx_exec.specs.Image.{blank}
use Rattle.mx_proc.specs.declared.process.Process.{Process}
use Rattle.mx_proc.specs.declared.process.DeathCause.{DeathCause}
use Rattle.mx_proc.specs.declared.process.State.TheVariants.{Home, Out, Down}
use Rattle.mx_proc.specs.declared.process.Source.TheVariants.{Hardware, Clock}
use Rattle.mx_proc.specs.declared.errors.Errno.TheVariants.{Dead}
use Rattle.mx_proc.specs.Errors.{errno_bits}
use Rattle.mx_proc.specs.Queues.{list_at}
use Rattle.mx_proc.specs.Serving.{without_bit_of, owner_but, table_after_forgetting, table_after_burial, with_alarm, with_line, with_tick}
use Rattle.mx_proc.specs.States.{is_ready, is_sending}
use Rattle.mx_proc.specs.TableState.{TableState, process_at, stepped, table_after_dequeue}
use Rattle.mx_kcall.specs.Death.{callers, receivers, receives_from_alone, table_after_taking_out, table_after_freeing, table_after_freeing_all, waiting_for, table_after_death}
use Rattle.mx_kcall.specs.Respawn.{next_process, table_after_respawn}
use Rattle.mx_kcall.specs.Service.{Service}
use Rattle.mx_kcall.specs.Clock.{table_after_line, is_due, due_slots, table_after_ring, table_after_rings, table_after_tick}
use Rattle.mx_machine.specs.Move.{table_after_sending_out, table_after_coming_home}
use Rattle.mx_machine.specs.World.{HeldProcess}
use Rattle.mx_laws.proofs.Twins.{process_seen, is_slot, Alike, AllAlike, Twins}
use Rattle.mx_laws.proofs.TwinLemmas.{at, put, requeued, all_but_image_at, state_at, by_test, quiet, quiet_alike, unblock_twins, dequeue_twins, goes_on_twins, waits_of, ready_of, uptime_of}
use Rattle.mx_laws.proofs.CallLemmas.{notifying_twins}

-- ---- who is read of all processes

receivers_same : (q s n : ℕ) (ps rs : List Process) → AllAlike q ps rs → receivers s n ps ≡ receivers s n rs
receivers_same q s n [] [] h = refl
receivers_same q s n [] (r ∷ rs) h = absurd h
receivers_same q s n (p ∷ ps) [] h = absurd h
receivers_same zero s n (p ∷ ps) (r ∷ rs) h =
    ap (λ (x : Process). cond (not (n == s) && receives_from_alone x.state s) (n ∷ receivers s (n + 1) ps) (receivers s (n + 1) ps)) h.0.same
    ∙ ap (λ xs. cond (not (n == s) && receives_from_alone r.state s) (n ∷ receivers s (n + 1) xs) (receivers s (n + 1) xs)) h.1
receivers_same (suc q) s n (p ∷ ps) (r ∷ rs) h =
    ap (λ (x : Process). cond (not (n == s) && receives_from_alone x.state s) (n ∷ receivers s (n + 1) ps) (receivers s (n + 1) ps)) h.0
    ∙ ap (λ xs. cond (not (n == s) && receives_from_alone r.state s) (n ∷ xs) xs) (receivers_same q s (n + 1) ps rs h.1)

due_same : (q t n : ℕ) (ps rs : List Process) → AllAlike q ps rs → due_slots t n ps ≡ due_slots t n rs
due_same q t n [] [] h = refl
due_same q t n [] (r ∷ rs) h = absurd h
due_same q t n (p ∷ ps) [] h = absurd h
due_same zero t n (p ∷ ps) (r ∷ rs) h =
    ap (λ (x : Process). cond (is_due t x.alarm) (n ∷ due_slots t (n + 1) ps) (due_slots t (n + 1) ps)) h.0.same
    ∙ ap (λ xs. cond (is_due t r.alarm) (n ∷ due_slots t (n + 1) xs) (due_slots t (n + 1) xs)) h.1
due_same (suc q) t n (p ∷ ps) (r ∷ rs) h =
    ap (λ (x : Process). cond (is_due t x.alarm) (n ∷ due_slots t (n + 1) ps) (due_slots t (n + 1) ps)) h.0
    ∙ ap (λ xs. cond (is_due t r.alarm) (n ∷ xs) xs) (due_same q t (n + 1) ps rs h.1)

bits_alike : (q s : ℕ) (ps rs : List Process) → AllAlike q ps rs → AllAlike q (map (without_bit_of s) ps) (map (without_bit_of s) rs)
bits_alike q s [] [] h = tt
bits_alike q s [] (r ∷ rs) h = absurd h
bits_alike q s (p ∷ ps) [] h = absurd h
bits_alike zero s (p ∷ ps) (r ∷ rs) h = (quiet_alike true p r (without_bit_of s) h.0 refl refl refl refl refl refl, ap (map (without_bit_of s)) h.1)
bits_alike (suc q) s (p ∷ ps) (r ∷ rs) h = (ap (without_bit_of s) h.0, bits_alike q s ps rs h.1)

-- ---- deaths

taking_out_twins : {q : ℕ} {w v : TableState} → Twins q w v → (s : ℕ) → Twins q (table_after_taking_out w s) (table_after_taking_out v s)
unfolding table_after_taking_out
taking_out_twins h s = by_test _ _ (ap is_ready (state_at h s)) (λ t. dequeue_twins h s) (λ t. by_test _ _ (ap is_sending (state_at h s)) (λ u. unblock_twins h s) (λ u. h))

freeing_twins : (ps : List ℕ) {q : ℕ} (w v : TableState) → Twins q w v → Twins q (table_after_freeing_all w ps) (table_after_freeing_all v ps)
freeing_twins [] w v h = h
freeing_twins (p ∷ ps) w v h = freeing_twins ps (table_after_freeing w p) (table_after_freeing v p) (goes_on_twins (taking_out_twins h p) p (errno_bits Dead))

waiting_same : {q : ℕ} {w v : TableState} → Twins q w v → (s : ℕ) → waiting_for w s ≡ waiting_for v s
waiting_same {q} {w} {v} h s = ap (λ x. callers s x ++ receivers s 0 w.slots) (waits_of h) ∙ ap (λ x. callers s v.waits ++ x) (receivers_same q s 0 w.slots v.slots h.slots)

forgetting_twins : {q : ℕ} {w v : TableState} → Twins q w v → (s : ℕ) → Twins q (table_after_forgetting w s) (table_after_forgetting v s)
forgetting_twins {q} {w} {v} h s = record {
  rest = ap (λ (x : TableState). let y : TableState = record x { devices = record x.devices { owners = map (owner_but s) x.devices.owners } } in y) h.rest;
  slots = bits_alike q s w.slots v.slots h.slots;
}

abbrev dead : DeathCause → Process → Process
dead cause p = record p { state = Down cause; pending = replicate 34 false; lines = 0; alarm = None; windows = replicate 32 None }

burial_twins : {q : ℕ} {w v : TableState} → Twins q w v → (s : ℕ) (cause : DeathCause) → Twins q (table_after_burial w s cause) (table_after_burial v s cause)
burial_twins {q} {w} {v} h s cause = let k = at h s in put h s (dead cause (process_at w s)) (dead cause (process_at v s)) (record { same = ap (dead cause) k.same; limit = k.limit; left = λ t z. cc; right = λ t z. cc })

pub death_twins : {q : ℕ} {w v : TableState} → Twins q w v → (s : ℕ) (cause : DeathCause) → Twins q (table_after_death w s cause) (table_after_death v s cause)
unfolding table_after_death
death_twins {q} {w} {v} h s cause =
    let k = taking_out_twins h s in
    burial_twins (forgetting_twins (subst (λ ps. Twins q (table_after_freeing_all (table_after_taking_out w s) (waiting_for (table_after_taking_out w s) s)) (table_after_freeing_all (table_after_taking_out v s) ps)) (waiting_same k s) (freeing_twins (waiting_for (table_after_taking_out w s) s) (table_after_taking_out w s) (table_after_taking_out v s) k)) s) s cause

-- ---- new processes

next_alike : (b : Bool) (p r : Process) (x : Service) → Alike b p r → Alike b (next_process p x) (next_process r x)
next_alike true p r x h = record { same = ap (λ (y : Process). process_seen true (next_process y x)) h.same; limit = refl; left = λ t z. cc; right = λ t z. cc }
next_alike false p r x h = record { same = ap (λ (y : Process). next_process y x) h.same; limit = refl; left = λ t z. cc; right = λ t z. cc }

pub respawn_twins : {q : ℕ} {w v : TableState} → Twins q w v → (s : ℕ) (x : Service) → Twins q (table_after_respawn w s x) (table_after_respawn v s x)
unfolding table_after_respawn
respawn_twins {q} {w} {v} h s x =
    requeued (put h s (next_process (process_at w s) x) (next_process (process_at v s) x) (next_alike (is_slot q s) (process_at w s) (process_at v s) x (at h s))) _ _
    (ap (λ l. slice_set l x.terms.level (list_at l x.terms.level ++ s ∷ [])) (ready_of h))

-- ---- lines and the clock

pub alarm_twins : {q : ℕ} {w v : TableState} → Twins q w v → (s : ℕ) (due : Option ℕ) → Twins q (with_alarm w s due) (with_alarm v s due)
alarm_twins h s due = quiet h s (λ (p : Process). let n : Process = record p { alarm = due } in n) (λ b p. refl) (λ p. refl) (λ p. refl)

line_twins : {q : ℕ} {w v : TableState} → Twins q w v → (s line : ℕ) → Twins q (with_line w s line) (with_line v s line)
line_twins h s line = quiet h s (λ (p : Process). let n : Process = record p { lines = bit_or p.lines (2 ^ line) } in n) (λ b p. refl) (λ p. refl) (λ p. refl)

pub line_raised_twins : {q : ℕ} {w v : TableState} → Twins q w v → (line s : ℕ) → Twins q (table_after_line w line s) (table_after_line v line s)
line_raised_twins h line s = notifying_twins (line_twins h s line) Hardware s

rings_twins : (ps : List ℕ) {q : ℕ} (w v : TableState) → Twins q w v → Twins q (table_after_rings w ps) (table_after_rings v ps)
rings_twins [] w v h = h
rings_twins (s ∷ ps) w v h = rings_twins ps (table_after_ring w s) (table_after_ring v s) (notifying_twins (alarm_twins h s None) Clock s)

one_tick_twins : {q : ℕ} {w v : TableState} → Twins q w v → Twins q (with_tick w) (with_tick v)
one_tick_twins {q} {w} {v} h = record { rest = ap (λ (x : TableState). let y : TableState = record x { uptime = x.uptime + 1 } in y) h.rest; slots = h.slots }

pub tick_twins : {q : ℕ} {w v : TableState} → Twins q w v → Twins q (table_after_tick w) (table_after_tick v)
unfolding table_after_tick
tick_twins {q} {w} {v} h =
    let k = one_tick_twins h in
    let e : due_slots (with_tick w).uptime 0 w.slots ≡ due_slots (with_tick v).uptime 0 v.slots = ap (λ n. due_slots n 0 w.slots) (uptime_of k) ∙ due_same q (with_tick v).uptime 0 w.slots v.slots h.slots in
    subst (λ ps. Twins q (table_after_rings (with_tick w) (due_slots (with_tick w).uptime 0 w.slots)) (table_after_rings (with_tick v) ps)) e (rings_twins (due_slots (with_tick w).uptime 0 w.slots) (with_tick w) (with_tick v) k)

-- ---- images out and home

moved_alike : (b : Bool) (p r : Process) → Alike b p r → Alike b (let n : Process = record p { state = Out; image = blank } in n) (record r { state = Out; image = blank })
moved_alike true p r h = record { same = ap (λ (x : Process). let n : Process = record x { state = Out; image = blank } in n) h.same; limit = refl; left = λ t z. cc; right = λ t z. cc }
moved_alike false p r h = record { same = ap (λ (x : Process). let n : Process = record x { state = Out; image = blank } in n) h.same; limit = refl; left = λ t z. cc; right = λ t z. cc }

pub sending_out_twins : {q : ℕ} {w v : TableState} → Twins q w v → (s : ℕ) → Twins q (table_after_sending_out w s) (table_after_sending_out v s)
unfolding table_after_sending_out
sending_out_twins {q} {w} {v} h s = let k = dequeue_twins h s in put k s _ _ (moved_alike (is_slot q s) (process_at (table_after_dequeue w s) s) (process_at (table_after_dequeue v s) s) (at k s))

-- an image of another comes home
pub home_twins : {q : ℕ} {w v : TableState} → Twins q w v → (l : HeldProcess) → is_slot q l.slot ≡ false → Twins q (table_after_coming_home w l) (table_after_coming_home v l)
unfolding table_after_coming_home
home_twins {q} {w} {v} h l n =
    let p : Process = record (process_at w l.slot) { state = Home; image = l.out.image } in
    let r : Process = record (process_at v l.slot) { state = Home; image = l.out.image } in
    let e : p ≡ r = ap (λ (x : Process). let y : Process = record x { state = Home; image = l.out.image } in y) (all_but_image_at h l.slot) in
    quiet (put h l.slot p r (record { same = ap (process_seen (is_slot q l.slot)) e; limit = refl; left = λ t z. cc; right = λ t z. cc })) l.slot
    (stepped l.out.count) (λ b x. refl) (λ x. refl) (λ x. refl)
