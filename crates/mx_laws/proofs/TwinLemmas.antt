-- Each change of a table leaves two that are the same but for one image so.
use Rattle.std.proofs.Common.{◌≡◌, ◌≢◌, ◌∙◌, ℕ, zero, suc, ◌+◌, ◌*◌, ◌≤◌, nat_lt, Bool, true, false, cond, List, [], ◌∷◌, ◌++◌, length, drop, take, Option, Some, refl, sym, ap, subst, get_or, slice_set, arith}
use Rattle.std.proofs.lemmas.List.{length-append, length-take, length-drop}
use Rattle.circular_buffer.specs.Buffer.{keep_last}
use Rattle.mx_word.specs.Word.{bytes_of}
use Rattle.mx_mem.specs.Segment.{with_bytes_at}
use Rattle.mx_exec.specs.declared.image.Image.{Image}
use Rattle.mx_proc.specs.declared.process.Process.{Process}
use Rattle.mx_proc.specs.declared.process.State.{State}
use Rattle.mx_proc.specs.declared.process.State.TheVariants.{Home, Ready}
use Rattle.mx_proc.specs.declared.devices.Devices.{Devices}
use Rattle.mx_proc.specs.declared.deliveries.Delivery.{Delivery}
use Rattle.mx_proc.specs.declared.deliveries.DeliveryKind.{DeliveryKind}
use Rattle.mx_proc.specs.declared.deliveries.DeliveryKind.TheVariants.{Message}
use Rattle.mx_proc.specs.Messages.{with_source, type_of}
use Rattle.mx_proc.specs.Queues.{list_at, without}
use Rattle.mx_proc.specs.Waits.{without_from}
use Rattle.mx_proc.specs.States.{is_blocked}
use Rattle.mx_proc.specs.TableState.{TableState, nobody, process_at, with_process, with_result, with_state, with_pending, renewed, table_with_first, table_with_last, table_after_dequeue, table_after_unblock, table_after_block, endpoint_of, with_message, with_delivery_kept, table_after_delivery, message_of, memory_at, buffer_at}
use Rattle.mx_kcall.specs.Queueing.{table_after_queueing, next_level, is_last_renewed}
use Rattle.mx_kcall.specs.Calls.{goes_on}
use Rattle.mx_laws.specs.Same.{rest_of}
use Rattle.mx_laws.proofs.Twins.{process_seen, is_slot, Alike, AllAlike, Twins}

-- ---- processes

same_alike : (p r : Process) → p ≡ r → Alike false p r
same_alike p r e = record { same = e; limit = ap (λ (x : Process). length x.image.memory) e; left = λ h. cc; right = λ h. cc }

pub alike_same : (p r : Process) → Alike false p r → p ≡ r
alike_same p r h = h.same

nobody_alike : (b : Bool) → Alike b nobody nobody
nobody_alike true = record { same = refl; limit = refl; left = λ h k. cc; right = λ h k. cc }
nobody_alike false = same_alike nobody nobody refl

pub alike_at : (q : ℕ) (ps rs : List Process) → AllAlike q ps rs → (s : ℕ) → Alike (is_slot q s) (get_or ps s nobody) (get_or rs s nobody)
alike_at q [] [] h s = nobody_alike (is_slot q s)
alike_at q [] (r ∷ rs) h s = absurd h
alike_at q (p ∷ ps) [] h s = absurd h
alike_at zero (p ∷ ps) (r ∷ rs) h zero = h.0
alike_at zero (p ∷ ps) (r ∷ rs) h (suc s) = same_alike (get_or ps s nobody) (get_or rs s nobody) (ap (λ xs. get_or xs s nobody) h.1)
alike_at (suc q) (p ∷ ps) (r ∷ rs) h zero = same_alike p r h.0
alike_at (suc q) (p ∷ ps) (r ∷ rs) h (suc s) = alike_at q ps rs h.1 s

pub alike_set : (q : ℕ) (ps rs : List Process) → AllAlike q ps rs → (s : ℕ) (p r : Process) → Alike (is_slot q s) p r → AllAlike q (slice_set ps s p) (slice_set rs s r)
alike_set q [] [] h s x y e = tt
alike_set q [] (r ∷ rs) h s x y e = absurd h
alike_set q (p ∷ ps) [] h s x y e = absurd h
alike_set zero (p ∷ ps) (r ∷ rs) h zero x y e = (e, h.1)
alike_set zero (p ∷ ps) (r ∷ rs) h (suc s) x y e = (h.0, ap (λ xs. slice_set xs s x) h.1 ∙ ap (slice_set rs s) (alike_same x y e))
alike_set (suc q) (p ∷ ps) (r ∷ rs) h zero x y e = (alike_same x y e, h.1)
alike_set (suc q) (p ∷ ps) (r ∷ rs) h (suc s) x y e = (h.0, alike_set q ps rs h.1 s x y e)

pub alike_length : (q : ℕ) (ps rs : List Process) → AllAlike q ps rs → length ps ≡ length rs
alike_length q [] [] h = refl
alike_length q [] (r ∷ rs) h = absurd h
alike_length q (p ∷ ps) [] h = absurd h
alike_length zero (p ∷ ps) (r ∷ rs) h = ap (λ (xs : List Process). suc (length xs)) h.1
alike_length (suc q) (p ∷ ps) (r ∷ rs) h = ap suc (alike_length q ps rs h.1)

-- all but the image is the same, hidden or not
pub all_but_image : (b : Bool) (p r : Process) → Alike b p r → process_seen true p ≡ process_seen true r
all_but_image b p r h = ap (process_seen true) h.same

pub is_slot_same : (q s : ℕ) → is_slot q s ≡ true → q ≡ s
is_slot_same zero zero h = refl
is_slot_same zero (suc s) h = cc
is_slot_same (suc q) zero h = cc
is_slot_same (suc q) (suc s) h = ap suc (is_slot_same q s h)

pub other_slot : (q s : ℕ) → q ≢ s → is_slot q s ≡ false
other_slot q s n = by_bool (is_slot q s) refl
  where
    by_bool : (b : Bool) → is_slot q s ≡ b → b ≡ false
    by_bool true e = absurd (n (is_slot_same q s e))
    by_bool false e = refl

-- ---- tables

pub at : {q : ℕ} {w v : TableState} → Twins q w v → (s : ℕ) → Alike (is_slot q s) (process_at w s) (process_at v s)
at {q} {w} {v} h s = alike_at q w.slots v.slots h.slots s

pub all_but_image_at : {q : ℕ} {w v : TableState} → Twins q w v → (s : ℕ) → process_seen true (process_at w s) ≡ process_seen true (process_at v s)
all_but_image_at {q} {w} {v} h s = all_but_image (is_slot q s) (process_at w s) (process_at v s) (at h s)

pub state_at : {q : ℕ} {w v : TableState} → Twins q w v → (s : ℕ) → (process_at w s).state ≡ (process_at v s).state
state_at h s = ap (λ (p : Process). p.state) (all_but_image_at h s)

-- another slot's process is the same
pub other_at : {q : ℕ} {w v : TableState} → Twins q w v → (s : ℕ) → is_slot q s ≡ false → process_at w s ≡ process_at v s
other_at {q} {w} {v} h s n = alike_same (process_at w s) (process_at v s) (subst (λ b. Alike b (process_at w s) (process_at v s)) n (at h s))

pub put : {q : ℕ} {w v : TableState} → Twins q w v → (s : ℕ) (p r : Process) → Alike (is_slot q s) p r → Twins q (with_process w s p) (with_process v s r)
put {q} {w} {v} h s p r e = record { rest = h.rest; slots = alike_set q w.slots v.slots h.slots s p r e }

pub requeued : {q : ℕ} {w v : TableState} → Twins q w v → (a b : List (List ℕ)) → a ≡ b → Twins q (record w { ready = a }) (record v { ready = b })
requeued {q} {w} {v} h a b e = record { rest = ap (λ (x : TableState). let y : TableState = record x { ready = a } in y) h.rest ∙ ap (λ c. let y : TableState = record (rest_of v) { ready = c } in y) e; slots = h.slots }

pub rewaited : {q : ℕ} {w v : TableState} → Twins q w v → (a b : List (ℕ × ℕ)) → a ≡ b → Twins q (record w { waits = a }) (record v { waits = b })
rewaited {q} {w} {v} h a b e = record { rest = ap (λ (x : TableState). let y : TableState = record x { waits = a } in y) h.rest ∙ ap (λ c. let y : TableState = record (rest_of v) { waits = c } in y) e; slots = h.slots }

pub redeviced : {q : ℕ} {w v : TableState} → Twins q w v → (a b : Devices) → a ≡ b → Twins q (record w { devices = a }) (record v { devices = b })
redeviced {q} {w} {v} h a b e = record { rest = ap (λ (x : TableState). let y : TableState = record x { devices = a } in y) h.rest ∙ ap (λ c. let y : TableState = record (rest_of v) { devices = c } in y) e; slots = h.slots }

pub relogged : {q : ℕ} {w v : TableState} → Twins q w v → (a b : List Delivery) → a ≡ b → Twins q (record w { deliveries = a }) (record v { deliveries = b })
relogged {q} {w} {v} h a b e = record { rest = ap (λ (x : TableState). let y : TableState = record x { deliveries = a } in y) h.rest ∙ ap (λ c. let y : TableState = record (rest_of v) { deliveries = c } in y) e; slots = h.slots }

pub renewed_by : {q : ℕ} {w v : TableState} → Twins q w v → (a : Option ℕ) → Twins q (record w { renewed = a }) (record v { renewed = a })
renewed_by {q} {w} {v} h a = record { rest = ap (λ (x : TableState). let y : TableState = record x { renewed = a } in y) h.rest; slots = h.slots }

pub ready_of : {q : ℕ} {w v : TableState} → Twins q w v → w.ready ≡ v.ready
ready_of h = ap (λ (x : TableState). x.ready) h.rest

pub waits_of : {q : ℕ} {w v : TableState} → Twins q w v → w.waits ≡ v.waits
waits_of h = ap (λ (x : TableState). x.waits) h.rest

pub uptime_of : {q : ℕ} {w v : TableState} → Twins q w v → w.uptime ≡ v.uptime
uptime_of h = ap (λ (x : TableState). x.uptime) h.rest

pub devices_of : {q : ℕ} {w v : TableState} → Twins q w v → w.devices ≡ v.devices
devices_of h = ap (λ (x : TableState). x.devices) h.rest

pub slots_of : {q : ℕ} {w v : TableState} → Twins q w v → length w.slots ≡ length v.slots
slots_of {q} {w} {v} h = alike_length q w.slots v.slots h.slots

-- a test that both answer alike
pub by_test : {q : ℕ} {w x v y : TableState} (b c : Bool) → b ≡ c → (b ≡ true → Twins q w v) → (b ≡ false → Twins q x y) → Twins q (cond b w x) (cond c v y)
by_test true true e f g = f refl
by_test true false e f g = cc
by_test false true e f g = cc
by_test false false e f g = g refl

-- ---- changes that read no image and change none

abbrev stated : State → Process → Process
stated st p = record p { state = st }

state_alike : (b : Bool) (p r : Process) (st : State) → Alike b p r → (b ≡ true → is_blocked st ≡ true → is_blocked p.state ≡ true) → (b ≡ true → is_blocked st ≡ true → is_blocked r.state ≡ true) → Alike b (stated st p) (stated st r)
state_alike b p r st h f g = record { same = ap (stated st) h.same; limit = h.limit; left = λ t k. h.left t (f t k); right = λ t k. h.right t (g t k) }

-- a state that waits for nothing, or a process that isn't hidden
pub state_twins : {q : ℕ} {w v : TableState} → Twins q w v → (s : ℕ) (st : State) → is_blocked st ≡ false → Twins q (with_state w s st) (with_state v s st)
state_twins {q} {w} {v} h s st e = put h s _ _ (state_alike (is_slot q s) (process_at w s) (process_at v s) st (at h s) (λ t k. cc) (λ t k. cc))

pub state_other : {q : ℕ} {w v : TableState} → Twins q w v → (s : ℕ) (st : State) → is_slot q s ≡ false → Twins q (with_state w s st) (with_state v s st)
state_other {q} {w} {v} h s st e = put h s _ _ (state_alike (is_slot q s) (process_at w s) (process_at v s) st (at h s) (λ t k. cc) (λ t k. cc))

-- a change that keeps state and image
pub quiet_alike : (b : Bool) (p r : Process) (f : Process → Process) → Alike b p r → process_seen b (f p) ≡ f (process_seen b p) → f (process_seen b r) ≡ process_seen b (f r)
    → (f p).image ≡ p.image → (f r).image ≡ r.image → (f p).state ≡ p.state → (f r).state ≡ r.state → Alike b (f p) (f r)
quiet_alike b p r f h e g i j k l = record {
  same = e ∙ ap f h.same ∙ g;
  limit = ap (λ (m : Image). length m.memory) i ∙ h.limit ∙ ap (λ (m : Image). length m.memory) (sym j);
  left = λ t z. subst (λ (m : Image). m.regs.ebx + 36 ≤ length m.memory) (sym i) (h.left t (ap is_blocked (sym k) ∙ z));
  right = λ t z. subst (λ (m : Image). m.regs.ebx + 36 ≤ length m.memory) (sym j) (h.right t (ap is_blocked (sym l) ∙ z));
}

pub quiet : {q : ℕ} {w v : TableState} → Twins q w v → (s : ℕ) (f : Process → Process) → ((b : Bool) (p : Process) → process_seen b (f p) ≡ f (process_seen b p)) → ((p : Process) → (f p).image ≡ p.image) → ((p : Process) → (f p).state ≡ p.state) → Twins q (with_process w s (f (process_at w s))) (with_process v s (f (process_at v s)))
quiet {q} {w} {v} h s f e i k = let p = process_at w s in let r = process_at v s in let b = is_slot q s in put h s (f p) (f r) (quiet_alike b p r f (at h s) (e b p) (sym (e b r)) (i p) (i r) (k p) (k r))

pub pending_twins : {q : ℕ} {w v : TableState} → Twins q w v → (s place : ℕ) (bit : Bool) → Twins q (with_pending w s place bit) (with_pending v s place bit)
pending_twins h s place bit = quiet h s (λ (p : Process). let n : Process = record p { pending = slice_set p.pending place bit } in n) (λ b p. refl) (λ p. refl) (λ p. refl)

-- ---- queues

abbrev renewed_at : Bool → Process → Process
renewed_at again p = renewed (next_level p again) p

pub front_twins : {q : ℕ} {w v : TableState} → Twins q w v → (s : ℕ) → Twins q (table_with_first w s) (table_with_first v s)
front_twins {q} {w} {v} h s =
    let lv : (process_at w s).schedule.level ≡ (process_at v s).schedule.level = ap (λ (p : Process). p.schedule.level) (all_but_image_at h s) in
    requeued (state_twins h s Ready refl) _ _ (ap (λ l. slice_set w.ready l (s ∷ list_at w.ready l)) lv ∙ ap (λ x. slice_set x (process_at v s).schedule.level (s ∷ list_at x (process_at v s).schedule.level)) (ready_of h))

pub end_twins : {q : ℕ} {w v : TableState} → Twins q w v → (s : ℕ) (again : Bool) → Twins q (table_with_last w s (next_level (process_at w s) again)) (table_with_last v s (next_level (process_at v s) again))
end_twins {q} {w} {v} h s again =
    let lv : (renewed_at again (process_at w s)).schedule.level ≡ (renewed_at again (process_at v s)).schedule.level = ap (λ (p : Process). (renewed_at again p).schedule.level) (all_but_image_at h s) in
    let k = at h s in
    renewed_by (requeued (put h s (renewed_at again (process_at w s)) (renewed_at again (process_at v s)) (record { same = ap (renewed_at again) k.same; limit = k.limit; left = λ t z. cc; right = λ t z. cc })) _ _
    (ap (λ l. slice_set w.ready l (list_at w.ready l ++ s ∷ [])) lv ∙ ap (λ x. slice_set x (renewed_at again (process_at v s)).schedule.level (list_at x (renewed_at again (process_at v s)).schedule.level ++ s ∷ [])) (ready_of h))) (Some s)

again_same : {q : ℕ} {w v : TableState} → Twins q w v → (s : ℕ) → is_last_renewed w s ≡ is_last_renewed v s
again_same h s = ap (λ (x : TableState). is_last_renewed x s) h.rest

pub queueing_twins : {q : ℕ} {w v : TableState} → Twins q w v → (s : ℕ) → Twins q (table_after_queueing w s) (table_after_queueing v s)
unfolding table_after_queueing
queueing_twins {q} {w} {v} h s = by_test _ _ (ap (λ (p : Process). nat_lt 0 p.schedule.ticks) (all_but_image_at h s)) (λ t. front_twins h s)
    (λ t. subst (λ b. Twins q (table_with_last w s (next_level (process_at w s) (is_last_renewed w s))) (table_with_last v s (next_level (process_at v s) b))) (again_same h s) (end_twins h s (is_last_renewed w s)))

pub dequeue_twins : {q : ℕ} {w v : TableState} → Twins q w v → (s : ℕ) → Twins q (table_after_dequeue w s) (table_after_dequeue v s)
dequeue_twins {q} {w} {v} h s =
    let lv : (process_at w s).schedule.level ≡ (process_at v s).schedule.level = ap (λ (p : Process). p.schedule.level) (all_but_image_at h s) in
    requeued (state_twins h s Home refl) _ _ (ap (λ l. slice_set w.ready l (without s (list_at w.ready l))) lv ∙ ap (λ x. slice_set x (process_at v s).schedule.level (without s (list_at x (process_at v s).schedule.level))) (ready_of h))

pub unblock_twins : {q : ℕ} {w v : TableState} → Twins q w v → (s : ℕ) → Twins q (table_after_unblock w s) (table_after_unblock v s)
unblock_twins h s = rewaited (state_twins h s Home refl) _ _ (ap (without_from s) (waits_of h))

pub block_twins : {q : ℕ} {w v : TableState} → Twins q w v → (s d : ℕ) (st : State) → is_slot q s ≡ false → Twins q (table_after_block w s d st) (table_after_block v s d st)
block_twins h s d st n = rewaited (state_other h s st n) _ _ (ap (λ (x : List (ℕ × ℕ)). x ++ (s, d) ∷ []) (waits_of h))

-- ---- results

abbrev resulted : ℕ → Process → Process
resulted n p = record p { image = record p.image { regs = record p.image.regs { eax = n } } }

result_alike : (b : Bool) (p r : Process) (n : ℕ) → Alike b p r → Alike b (resulted n p) (resulted n r)
result_alike true p r n h = record { same = h.same; limit = h.limit; left = h.left; right = h.right }
result_alike false p r n h = same_alike (resulted n p) (resulted n r) (ap (resulted n) h.same)

pub result_twins : {q : ℕ} {w v : TableState} → Twins q w v → (s n : ℕ) → Twins q (with_result w s n) (with_result v s n)
result_twins {q} {w} {v} h s n = put h s (resulted n (process_at w s)) (resulted n (process_at v s)) (result_alike (is_slot q s) (process_at w s) (process_at v s) n (at h s))

pub goes_on_twins : {q : ℕ} {w v : TableState} → Twins q w v → (s n : ℕ) → Twins q (goes_on w s n) (goes_on v s n)
unfolding goes_on
goes_on_twins h s n = queueing_twins (result_twins h s n) s

-- ---- bytes into a buffer

pub with_bytes_long : (xs : List ℕ) (k : ℕ) (ys : List ℕ) → k + length ys ≤ length xs → length (with_bytes_at xs k ys) ≡ length xs
with_bytes_long xs k ys le =
    omega (arith, length-append (take k xs ++ ys) (drop (k + length ys) xs), length-append (take k xs) ys, length-take k xs, length-drop (k + length ys) xs)

abbrev pub with_bytes : ℕ → List ℕ → Process → Process
with_bytes k bytes p = record p { image = record p.image { memory = with_bytes_at p.image.memory k bytes } }

pub with_bytes_alike : (b : Bool) (p r : Process) (k l : ℕ) (bytes : List ℕ) → Alike b p r → (b ≡ false → k ≡ l) → (b ≡ true → k + length bytes ≤ length p.image.memory) → (b ≡ true → l + length bytes ≤ length r.image.memory) → Alike b (with_bytes k bytes p) (with_bytes l bytes r)
with_bytes_alike true p r k l bytes h e f g =
    let x : length (with_bytes_at p.image.memory k bytes) ≡ length p.image.memory = with_bytes_long p.image.memory k bytes (f refl) in
    let y : length (with_bytes_at r.image.memory l bytes) ≡ length r.image.memory = with_bytes_long r.image.memory l bytes (g refl) in
    record {
      same = h.same;
      limit = x ∙ h.limit ∙ sym y;
      left = λ t z. subst (λ n. p.image.regs.ebx + 36 ≤ n) (sym x) (h.left t z);
      right = λ t z. subst (λ n. r.image.regs.ebx + 36 ≤ n) (sym y) (h.right t z);
    }
with_bytes_alike false p r k l bytes h e f g = same_alike (with_bytes k bytes p) (with_bytes l bytes r) (ap (with_bytes k bytes) h.same ∙ ap (λ n. with_bytes n bytes r) (e refl))

-- who is hidden is written to where it waits for a message
pub message_twins : {q : ℕ} {w v : TableState} → Twins q w v → (s : ℕ) (bytes : List ℕ) → length bytes ≤ 36 → is_blocked (process_at w s).state ≡ true → Twins q (with_message w s bytes) (with_message v s bytes)
message_twins {q} {w} {v} h s bytes n st =
    let p = process_at w s in let r = process_at v s in let k = at h s in
    let su : is_blocked r.state ≡ true = ap is_blocked (sym (state_at h s)) ∙ st in
    put h s (with_bytes p.image.regs.ebx bytes p) (with_bytes r.image.regs.ebx bytes r) (with_bytes_alike (is_slot q s) p r p.image.regs.ebx r.image.regs.ebx bytes k
    (λ e. ap (λ (x : Process). x.image.regs.ebx) (other_at h s e))
    (λ e. let z = k.left e st in omega (arith, z, n)) (λ e. let z = k.right e su in omega (arith, z, n)))

-- another's buffer may be written to at any time
pub message_other : {q : ℕ} {w v : TableState} → Twins q w v → (s : ℕ) (bytes : List ℕ) → is_slot q s ≡ false → Twins q (with_message w s bytes) (with_message v s bytes)
message_other {q} {w} {v} h s bytes n =
    let p = process_at w s in let r = process_at v s in
    put h s (with_bytes p.image.regs.ebx bytes p) (with_bytes r.image.regs.ebx bytes r) (with_bytes_alike (is_slot q s) p r p.image.regs.ebx r.image.regs.ebx bytes (at h s)
    (λ e. ap (λ (x : Process). x.image.regs.ebx) (other_at h s n)) (λ e. cc) (λ e. cc))

pub endpoint_same : {q : ℕ} {w v : TableState} → Twins q w v → (s : ℕ) → endpoint_of w s ≡ endpoint_of v s
endpoint_same h s = ap (λ (p : Process). p.generation * 1024 + s) (all_but_image_at h s)

abbrev entry : ℕ → ℕ → ℕ → DeliveryKind → Delivery
entry from to message_type kind = record { from = from; to = to; message_type = message_type; kind = kind }

pub delivery_kept_twins : {q : ℕ} {w v : TableState} → Twins q w v → (from from' to to' t : ℕ) (kind : DeliveryKind) → from ≡ from' → to ≡ to' → Twins q (with_delivery_kept w from to t kind) (with_delivery_kept v from' to' t kind)
delivery_kept_twins {q} {w} {v} h from from' to to' t kind e f = relogged h _ _
    (ap (λ (x : TableState). keep_last 1024 (x.deliveries ++ entry from to t kind ∷ [])) h.rest
    ∙ ap (λ n. keep_last 1024 (v.deliveries ++ entry n to t kind ∷ [])) e
    ∙ ap (λ n. keep_last 1024 (v.deliveries ++ entry from' n t kind ∷ [])) f)

message_short : (n : ℕ) (xs : List ℕ) → length (with_source n (take 36 xs)) ≤ 36
message_short n xs = omega (arith, length-append (bytes_of 4 n) (drop 4 (take 36 xs)), length-drop 4 (take 36 xs), length-take 36 xs)

message_same : {q : ℕ} {w v : TableState} → Twins q w v → (s : ℕ) → is_slot q s ≡ false → message_of w s ≡ message_of v s
message_same h s n = ap (λ (p : Process). with_source (p.generation * 1024 + s) (take 36 (drop p.image.regs.ebx p.image.memory))) (other_at h s n)

-- a message of another comes to whoever waits for one
pub delivery_twins : {q : ℕ} {w v : TableState} → Twins q w v → (from to : ℕ) → is_slot q from ≡ false → is_blocked (process_at w to).state ≡ true → Twins q (table_after_delivery w from to) (table_after_delivery v from to)
unfolding table_after_delivery
delivery_twins {q} {w} {v} h from to n st =
    subst (λ m. Twins q (with_delivery_kept (with_message w to (message_of w from)) (endpoint_of w from) (endpoint_of w to) (type_of (message_of w from)) Message) (with_delivery_kept (with_message v to m) (endpoint_of v from) (endpoint_of v to) (type_of m) Message)) (message_same h from n)
    (delivery_kept_twins (message_twins h to (message_of w from) (message_short (endpoint_of w from) (drop (buffer_at w from) (memory_at w from))) st) _ _ _ _ (type_of (message_of w from)) Message (endpoint_same h from) (endpoint_same h to))

-- or to another that needn't
pub delivery_other : {q : ℕ} {w v : TableState} → Twins q w v → (from to : ℕ) → is_slot q from ≡ false → is_slot q to ≡ false → Twins q (table_after_delivery w from to) (table_after_delivery v from to)
unfolding table_after_delivery
delivery_other {q} {w} {v} h from to n st =
    subst (λ m. Twins q (with_delivery_kept (with_message w to (message_of w from)) (endpoint_of w from) (endpoint_of w to) (type_of (message_of w from)) Message) (with_delivery_kept (with_message v to m) (endpoint_of v from) (endpoint_of v to) (type_of m) Message)) (message_same h from n)
    (delivery_kept_twins (message_other h to (message_of w from) st) _ _ _ _ (type_of (message_of w from)) Message (endpoint_same h from) (endpoint_same h to))
