-- Deliveries of one event are to different slots, in their order; alarms one after another.
use Rattle.std.proofs.Common.{◌≡◌, ◌∙◌, ℕ, ◌+◌, ◌<◌, ◌≤◌, ◌==◌, ◌&&◌, ◌||◌, nat_lt, Bool, true, false, cond, List, [], ◌∷◌, ◌++◌, length, Option, Some, None, refl, sym, ap, subst, inl, inr, arith}
use Rattle.std.proofs.lemmas.Bool.{cases_eq, ne_eqb}
use Rattle.std.proofs.lemmas.List.{length-map}
use Rattle.mx_proc.specs.declared.deliveries.Delivery.{Delivery}
use Rattle.mx_proc.specs.declared.errors.Errno.{Errno}
use Rattle.mx_proc.specs.declared.process.Partner.{Partner}
use Rattle.mx_proc.specs.declared.process.Partner.TheVariants as partner
use Rattle.mx_proc.specs.declared.process.Process.{Process}
use Rattle.mx_proc.specs.declared.process.Source.{Source}
use Rattle.mx_proc.specs.declared.process.Source.TheVariants as source
use Rattle.mx_proc.specs.declared.process.State.TheVariants.{Home}
use Rattle.mx_proc.specs.Partners.{order_of_source}
use Rattle.mx_proc.specs.Serving.{with_alarm}
use Rattle.mx_proc.specs.TableState.{TableState, pending_source, process_at, table_after_notice, table_with_first, table_with_last, with_pending, with_process, with_result, without_pending}
use Rattle.mx_proc.specs.Waits.{caller_of}
use Rattle.mx_ipc.specs.declared.trap_calls.Call.{Call}
use Rattle.mx_ipc.specs.declared.trap_calls.Call.TheVariants as call
use Rattle.mx_ipc.specs.declared.trap_calls.Party.{Party}
use Rattle.mx_ipc.specs.declared.trap_calls.Party.TheVariants.{Any, Hardware, Clock, System, Process as Named}
use Rattle.mx_ipc.specs.Checks.{call_of, party_of, call_refusal}
use Rattle.mx_kcall.specs.Calls.{accepts, goes_on, hears, partner_of, table_after_notifying}
use Rattle.mx_kcall.specs.Clock.{due_slots, is_due, table_after_ring}
use Rattle.mx_kcall.specs.Queueing.{is_last_renewed, next_level, table_after_queueing}
use Rattle.mx_kcall.specs.TrapAnswer.{TrapAnswer}
use Rattle.mx_kcall.specs.TrapAnswer.TheVariants as trap_ends
use Rattle.mx_laws.specs.Diary.{Item, items_for}
use Rattle.mx_laws.specs.Diary.Item.{Ran, Result, Message, Copy}
use Rattle.mx_laws.specs.Diaries.{items_of_rings}
use Rattle.mx_laws.specs.Entries.{is_receiving}
use Rattle.mx_laws.specs.Items.{bytes_of_notice, items_of_notifying}
use Rattle.mx_laws.proofs.EntryLemmas.{after_set, Receives}
use Rattle.mx_look.specs.Going.{is_zero}
use Rattle.mx_laws.specs.Made.{slot_to}
use Rattle.mx_laws.specs.Told.{result_after}
use Rattle.mx_laws.proofs.Getting.{accepts_receiving, AreFew, hears_receiving, home_few, home_within, items_for-append, message_slot, notice_slot, receives_within, receiving_few, to_one}
use Rattle.mx_laws.proofs.Keeping.{made_of_call, made_of_checked_call, made_of_notifying, made_of_receive, made_of_rings, made_of_send, made_of_sendrec, made_of_taking, made_of_trap, made_of_trap_by, message_made, notice_made, table_after_asking}
use Rattle.mx_laws.proofs.Latest.{Ascend, ascend_from, is_to}
use Rattle.mx_laws.proofs.ReadyCalls.{asking_caller, IsQueued, length_mark}
use Rattle.mx_laws.proofs.Readies.{notifying_readies, readies, readies-kept, ready_of}

true_false : {b : Bool} → b ≡ true → b ≡ false → ⊥
true_false e f = cc

-- ---- alarms

queueing_receives : (t : TableState) (s q : ℕ) → Receives (process_at (table_after_queueing t s) q) → Receives (process_at t q)
unfolding table_after_queueing
queueing_receives t s q h = by_bool (nat_lt 0 (process_at t s).schedule.ticks) h
  where
    by_bool : (b : Bool) → Receives (process_at (cond b (table_with_first t s) (table_with_last t s (next_level (process_at t s) (is_last_renewed t s)))) q) → Receives (process_at t q)
    by_bool true k = after_set Receives t.slots s q _ k (λ z. cc)
    by_bool false k = after_set Receives t.slots s q _ k (λ z. cc)

goes_on_receives : (t : TableState) (s r q : ℕ) → Receives (process_at (goes_on t s r) q) → Receives (process_at t q)
unfolding goes_on
goes_on_receives t s r q h = after_set Receives t.slots s q _ (queueing_receives (with_result t s r) s q h) (λ z. z)

notice_receives : (t : TableState) (d : ℕ) (x : Source) (q : ℕ) → Receives (process_at (table_after_notice t d x) q) → Receives (process_at t q)
unfolding table_after_notice
notice_receives t d x q h =
    let p = without_pending (process_at t d) x in
    let v = with_process t d p in
    after_set Receives t.slots d q p (after_set Receives v.slots d q _ h (λ z. z)) (λ z. z)

notifying_receives : (t : TableState) (x : Source) (d q : ℕ) → Receives (process_at (table_after_notifying t x d) q) → Receives (process_at t q)
unfolding table_after_notifying
notifying_receives t x d q h = by_bool (hears (process_at t d).state x) h
  where
    by_bool : (b : Bool) → Receives (process_at (cond b (goes_on (table_after_notice t d x) d 0) (with_pending t d (order_of_source x) true)) q) → Receives (process_at t q)
    by_bool true k = notice_receives t d x q (goes_on_receives (table_after_notice t d x) d 0 q k)
    by_bool false k = after_set Receives t.slots d q _ k (λ z. z)

alarm_receives : (t : TableState) (s q : ℕ) → Receives (process_at (with_alarm t s None) q) → Receives (process_at t q)
alarm_receives t s q h = after_set Receives t.slots s q _ h (λ z. z)

-- a notification that is delivered
notified_receives : (t : TableState) (x : Source) (d q : ℕ) → AreFew t → is_to q (made_of_notifying t x d) ≡ true → Receives (process_at t q)
notified_receives t x d q few e = by_bool (hears (process_at t d).state x) refl e
  where
    by_bool : (b : Bool) → hears (process_at t d).state x ≡ b → is_to q (cond b (notice_made t x d ∷ []) []) ≡ true → Receives (process_at t q)
    by_bool false f k = cc
    by_bool true f k =
        let hear = hears_receiving (process_at t d).state x f in
        let lt = receiving_few t d few hear in
        elim (cases_eq d q) [
          | inl g ↦ subst (λ z. is_receiving (process_at t z).state ≡ true) g hear
          | inr n ↦ absurd (true_false k (to_one (notice_made t x d) d q (notice_slot t x d lt) ∙ ne_eqb d q n))
        ]

to-append : (q : ℕ) (xs ys : List Delivery) → is_to q (xs ++ ys) ≡ (is_to q xs || is_to q ys)
to-append q [] ys = refl
to-append q (x ∷ xs) ys = by_bool (slot_to x == q) (to-append q xs ys)
  where
    by_bool : (b : Bool) → is_to q (xs ++ ys) ≡ (is_to q xs || is_to q ys) → (b || is_to q (xs ++ ys)) ≡ (b || is_to q xs || is_to q ys)
    by_bool true e = refl
    by_bool false e = e

-- the table after an alarm has as many slots
ring_long : (t : TableState) (s : ℕ) → length (table_after_ring t s).slots ≡ length t.slots
ring_long t s =
    let v = with_alarm t s None in
    let items = items_of_notifying v source.Clock s in
    sym (length-map (table_after_ring t s).slots ready_of)
    ∙ ap length (notifying_readies v source.Clock s) ∙ length_mark items (readies v)
    ∙ ap length (readies-kept t.slots s _ refl) ∙ length-map t.slots ready_of

ring_few : (t : TableState) (s : ℕ) → AreFew t → AreFew (table_after_ring t s)
ring_few t s few = omega (arith, few, ring_long t s)

result_after-append : (xs ys : List Item) (r : Option ℕ) → result_after r (xs ++ ys) ≡ result_after (result_after r xs) ys
result_after-append [] ys r = refl
result_after-append (Ran ∷ xs) ys r = result_after-append xs ys r
result_after-append (Result n ∷ xs) ys r = result_after-append xs ys (Some n)
result_after-append (Message m ∷ xs) ys r = result_after-append xs ys r
result_after-append (Copy at m ∷ xs) ys r = result_after-append xs ys r

alarm_few : (t : TableState) (s : ℕ) → AreFew t → AreFew (with_alarm t s None)
alarm_few t s few = omega (arith, few, sym (length-map (with_alarm t s None).slots ready_of) ∙ ap length (readies-kept t.slots s _ refl) ∙ length-map t.slots ready_of)

notifying_result : (t : TableState) (x : Source) (d q : ℕ) (r : Option ℕ) → AreFew t → result_after r (items_for q (items_of_notifying t x d)) ≡ cond (is_to q (made_of_notifying t x d)) (Some 0) r
notifying_result t x d q r few = by_bool (hears (process_at t d).state x) refl
  where
    by_bools : (b : Bool) → result_after r (cond b (Message (bytes_of_notice t d x) ∷ cond b (Result 0 ∷ []) []) (cond b (Result 0 ∷ []) [])) ≡ cond b (Some 0) r
    by_bools true = refl
    by_bools false = refl

    by_bool : (b : Bool) → hears (process_at t d).state x ≡ b → result_after r (items_for q (cond b ((d, Message (bytes_of_notice t d x)) ∷ (d, Result 0) ∷ []) [])) ≡ cond (is_to q (cond b (notice_made t x d ∷ []) [])) (Some 0) r
    by_bool false e = refl
    by_bool true e =
        let hear = hears_receiving (process_at t d).state x e in
        by_bools (d == q) ∙ ap (λ b. cond b (Some 0) r) (sym (to_one (notice_made t x d) d q (notice_slot t x d (receiving_few t d few hear))))

rings_result : (ps : List ℕ) (t : TableState) (q : ℕ) (r : Option ℕ) → AreFew t → result_after r (items_for q (items_of_rings ps t)) ≡ cond (is_to q (made_of_rings ps t)) (Some 0) r
rings_result [] t q r few = refl
rings_result (s ∷ ps) t q r few =
    let v = with_alarm t s None in
    let items = items_of_notifying v source.Clock s in
    let rest = items_of_rings ps (table_after_ring t s) in
    let made = made_of_notifying v source.Clock s in
    let more = made_of_rings ps (table_after_ring t s) in
    ap (result_after r) (items_for-append q items rest)
    ∙ result_after-append (items_for q items) (items_for q rest) r
    ∙ ap (λ o. result_after o (items_for q rest)) (notifying_result v source.Clock s q r (alarm_few t s few))
    ∙ rings_result ps (table_after_ring t s) q (cond (is_to q made) (Some 0) r) (ring_few t s few)
    ∙ joined (is_to q made) (is_to q more)
    ∙ ap (λ b. cond b (Some 0) r) (sym (to-append q made more))
  where
    joined : (b c : Bool) → cond c (Some 0) (cond b (Some 0) r) ≡ cond (b || c) (Some 0) r
    joined true true = refl
    joined true false = refl
    joined false c = refl

rings_receives : (ps : List ℕ) (t : TableState) (q : ℕ) → AreFew t → is_to q (made_of_rings ps t) ≡ true → Receives (process_at t q)
rings_receives [] t q few e = cc
rings_receives (s ∷ ps) t q few e = by_bool (is_to q made) refl (sym (to-append q made more) ∙ e) (rings_receives ps (table_after_ring t s) q (ring_few t s few))
  where
    v : TableState
    v = with_alarm t s None

    made : List Delivery
    made = made_of_notifying v source.Clock s

    more : List Delivery
    more = made_of_rings ps (table_after_ring t s)

    by_bool : (b : Bool) → is_to q made ≡ b → (b || is_to q more) ≡ true → (is_to q more ≡ true → Receives (process_at (table_after_ring t s) q)) → Receives (process_at t q)
    by_bool true f k rest = alarm_receives t s q (notified_receives v source.Clock s q (alarm_few t s few) f)
    by_bool false f k rest = alarm_receives t s q (notifying_receives v source.Clock s q (rest k))

-- who gets a notification at a tick
pub rings_got : (ps : List ℕ) (t : TableState) (q : ℕ) → AreFew t → (is_zero (result_after None (items_for q (items_of_rings ps t))) && is_receiving (process_at t q).state) ≡ is_to q (made_of_rings ps t)
rings_got ps t q few = ap (λ o. is_zero o && is_receiving (process_at t q).state) (rings_result ps t q None few) ∙ by_bool (is_to q (made_of_rings ps t)) refl
  where
    by_bool : (b : Bool) → is_to q (made_of_rings ps t) ≡ b → (is_zero (cond b (Some 0) None) && is_receiving (process_at t q).state) ≡ b
    by_bool true e = rings_receives ps t q few e
    by_bool false e = refl

-- ---- in order

one_ascends : (x : Delivery) (d n : ℕ) → slot_to x ≡ d → d < n → Ascend 0 n (x ∷ [])
one_ascends x d n e lt = (omega arith, omega (arith, e, lt), tt)

case_ascends : (b : Bool) (n : ℕ) (ds : List Delivery) → (b ≡ true → Ascend 0 n ds) → Ascend 0 n (cond b ds [])
case_ascends true n ds f = f refl
case_ascends false n ds f = tt

pub notifying_ascends : (t : TableState) (x : Source) (d : ℕ) → AreFew t → Ascend 0 (length t.slots) (made_of_notifying t x d)
notifying_ascends t x d few = case_ascends (hears (process_at t d).state x) (length t.slots) (notice_made t x d ∷ []) (λ e.
    let hear = hears_receiving (process_at t d).state x e in
    one_ascends (notice_made t x d) d (length t.slots) (notice_slot t x d (receiving_few t d few hear)) (receives_within t.slots d hear))

message_ascends : (t : TableState) (s d : ℕ) → AreFew t → is_receiving (process_at t d).state ≡ true → Ascend 0 (length t.slots) (message_made t s d ∷ [])
message_ascends t s d few hear = one_ascends (message_made t s d) d (length t.slots) (message_slot t s d (receiving_few t d few hear)) (receives_within t.slots d hear)

send_ascends : (t : TableState) (s d : ℕ) → AreFew t → Ascend 0 (length t.slots) (made_of_send t s d)
send_ascends t s d few = case_ascends (accepts (process_at t d).state s) (length t.slots) (message_made t s d ∷ []) (λ e. message_ascends t s d few (accepts_receiving (process_at t d).state s e))

receive_ascends : (t : TableState) (s : ℕ) (p : Partner) (o : Option Source) → AreFew t → (process_at t s).state ≡ Home → Ascend 0 (length t.slots) (made_of_receive t s p o)
receive_ascends t s p (Some x) few home = one_ascends (notice_made t x s) s (length t.slots) (notice_slot t x s (home_few t s few home)) (home_within t.slots s home)
receive_ascends t s p None few home = by_option (caller_of s p t.waits)
  where
    by_option : (o : Option ℕ) → Ascend 0 (length t.slots) (made_of_taking t s o)
    by_option None = tt
    by_option (Some q) = one_ascends (message_made t q s) s (length t.slots) (message_slot t q s (home_few t s few home)) (home_within t.slots s home)

sendrec_ascends : (t : TableState) (s d : ℕ) → AreFew t → IsQueued t → Ascend 0 (length t.slots) (made_of_sendrec t s d)
sendrec_ascends t s d few queued =
    let v = table_after_asking t s d in
    case_ascends (accepts (process_at t d).state s) (length t.slots) (message_made t s d ∷ made_of_taking v s (caller_of s (partner.Only (source.Slot d)) v.waits)) (λ e.
    subst (λ o. Ascend 0 (length t.slots) (message_made t s d ∷ made_of_taking v s o)) (sym (asking_caller t s d queued e))
    (message_ascends t s d few (accepts_receiving (process_at t d).state s e)))

checked_call_ascends : (t : TableState) (s : ℕ) (c : Call) (x : Party) → AreFew t → IsQueued t → (process_at t s).state ≡ Home → Ascend 0 (length t.slots) (made_of_checked_call t s c x)
checked_call_ascends t s call.Send Any few queued home = tt
checked_call_ascends t s call.Send Hardware few queued home = tt
checked_call_ascends t s call.Send Clock few queued home = tt
checked_call_ascends t s call.Send System few queued home = tt
checked_call_ascends t s call.Send (Named d g) few queued home = send_ascends t s d few
checked_call_ascends t s call.Receive x few queued home = receive_ascends t s (partner_of x) (pending_source t s (partner_of x)) few home
checked_call_ascends t s call.Sendrec Any few queued home = tt
checked_call_ascends t s call.Sendrec Hardware few queued home = tt
checked_call_ascends t s call.Sendrec Clock few queued home = tt
checked_call_ascends t s call.Sendrec System few queued home = tt
checked_call_ascends t s call.Sendrec (Named d g) few queued home = sendrec_ascends t s d few queued
checked_call_ascends t s call.Notify Any few queued home = tt
checked_call_ascends t s call.Notify Hardware few queued home = tt
checked_call_ascends t s call.Notify Clock few queued home = tt
checked_call_ascends t s call.Notify System few queued home = tt
checked_call_ascends t s call.Notify (Named d g) few queued home = notifying_ascends t (source.Slot s) d few

call_ascends : (t : TableState) (s : ℕ) (c : Call) (x : Option Party) (e : Option Errno) → AreFew t → IsQueued t → (process_at t s).state ≡ Home → Ascend 0 (length t.slots) (made_of_call t s c x e)
call_ascends t s c x (Some e) few queued home = tt
call_ascends t s c None None few queued home = tt
call_ascends t s c (Some x) None few queued home = checked_call_ascends t s c x few queued home

pub trap_ascends : (t : TableState) (s : ℕ) (x : TrapAnswer) → AreFew t → IsQueued t → (process_at t s).state ≡ Home → Ascend 0 (length t.slots) (made_of_trap t s x)
trap_ascends t s trap_ends.Kernel few queued home = tt
trap_ascends t s trap_ends.Done few queued home = by_option (call_of (process_at t s).image.regs.ecx)
  where
    by_option : (c : Option Call) → Ascend 0 (length t.slots) (made_of_trap_by t s c (process_at t s).image.regs.eax)
    by_option None = tt
    by_option (Some c) = let x = party_of t (process_at t s).image.regs.eax in call_ascends t s c x (call_refusal t s c x) few queued home

-- alarms ring in slot order
pub rings_ascend : (ps : List Process) (uptime n bound : ℕ) (t : TableState) → n + length ps ≤ bound → bound ≤ 32 → Ascend n bound (made_of_rings (due_slots uptime n ps) t)
rings_ascend [] uptime n bound t within few = tt
rings_ascend (p ∷ ps) uptime n bound t within few = by_due (is_due uptime p.alarm) (λ u. rings_ascend ps uptime (n + 1) bound u (omega (arith, within)) few)
  where
    v : TableState
    v = with_alarm t n None

    own : slot_to (notice_made v source.Clock n) ≡ n
    own = notice_slot v source.Clock n (omega (arith, within, few))

    by_hears : (b : Bool) (ds : List Delivery) → Ascend (n + 1) bound ds → Ascend n bound (cond b (notice_made v source.Clock n ∷ []) [] ++ ds)
    by_hears true ds h = (omega (arith, own), omega (arith, own, within), subst (λ k. Ascend (k + 1) bound ds) (sym own) h)
    by_hears false ds h = ascend_from (n + 1) n bound ds (omega arith) h

    by_due : (b : Bool) → ((u : TableState) → Ascend (n + 1) bound (made_of_rings (due_slots uptime (n + 1) ps) u)) → Ascend n bound (made_of_rings (cond b (n ∷ due_slots uptime (n + 1) ps) (due_slots uptime (n + 1) ps)) t)
    by_due true later = by_hears (hears (process_at v n).state source.Clock) (made_of_rings (due_slots uptime (n + 1) ps) (table_after_ring t n)) (later (table_after_ring t n))
    by_due false later = ascend_from (n + 1) n bound (made_of_rings (due_slots uptime (n + 1) ps) t) (omega arith) (later t)
