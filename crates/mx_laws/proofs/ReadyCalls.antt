-- Who is ready after the end of a turn, and after each other event.
use Rattle.std.proofs.Common.{◌≡◌, ◌≢◌, ◌∙◌, ℕ, ◌+◌, ◌<◌, ◌≤◌, ◌%◌, ◌==◌, ◌&&◌, ◌||◌, not, Bool, true, false, cond, List, [], ◌∷◌, ◌++◌, map, filter, Option, Some, None, refl, sym, ap, subst, slice_set, length, get_or-set_same, get_or-set_other, length-set, inl, inr, arith}
use Rattle.std.proofs.lemmas.Bool.{cases_eq, eq-eqb, ne_eqb}
use Rattle.std.proofs.lemmas.List.{length-map}
use Rattle.mx_proc.specs.declared.errors.Errno.{Errno}
use Rattle.mx_proc.specs.declared.errors.Errno.TheVariants.{Denied}
use Rattle.mx_proc.specs.declared.process.DeathCause.{DeathCause}
use Rattle.mx_proc.specs.declared.process.DeathCause.TheVariants as cause
use Rattle.mx_proc.specs.declared.process.Partner.{Partner}
use Rattle.mx_proc.specs.declared.process.Partner.TheVariants as partner
use Rattle.mx_proc.specs.declared.process.Process.{Process}
use Rattle.mx_proc.specs.declared.process.Source.{Source}
use Rattle.mx_proc.specs.declared.process.Source.TheVariants as source
use Rattle.mx_proc.specs.declared.process.State.{State}
use Rattle.mx_proc.specs.declared.process.State.TheVariants.{Home, Ready, Out, Doomed, Sending, Calling, Receiving, Awaiting, Down}
use Rattle.mx_proc.specs.Errors.{errno_bits}
use Rattle.mx_proc.specs.Partners.{may_be}
use Rattle.mx_proc.specs.Queues.{tally}
use Rattle.mx_proc.specs.Serving.{with_alarm, with_line, with_tick}
use Rattle.mx_proc.specs.States.{is_out, is_ready, is_sending}
use Rattle.mx_proc.specs.TableState.{TableState, message_of, process_at, pending_source, table_after_block, table_after_delivery, table_after_dequeue, table_after_unblock, with_message, with_state}
use Rattle.mx_proc.specs.Waits.{caller_of, sends_of, without_from}
use Rattle.mx_ipc.specs.declared.trap_calls.Call.{Call}
use Rattle.mx_ipc.specs.declared.trap_calls.Call.TheVariants as call
use Rattle.mx_ipc.specs.declared.trap_calls.Party.{Party}
use Rattle.mx_ipc.specs.declared.trap_calls.Party.TheVariants.{Any, Hardware, Clock, System, Process as Named}
use Rattle.mx_ipc.specs.Checks.{call_of, party_of, call_refusal}
use Rattle.mx_kcall.specs.Calls.{accepts, goes_on, partner_of, table_after_taking, table_after_receive_by, table_after_receive, table_after_sendrec, table_after_notifying, table_after_checked_call, table_after_call_by, table_after_call, table_after_trap_by, table_after_trap}
use Rattle.mx_kcall.specs.Clock.{due_slots, table_after_line, table_after_ring, table_after_rings, table_after_tick}
use Rattle.mx_kcall.specs.Death.{callers, receivers, receives_from_alone, table_after_taking_out, waiting_for, table_after_death}
use Rattle.mx_kcall.specs.Queueing.{table_after_queueing}
use Rattle.mx_kcall.specs.Refusals.{kernel_call_refusal}
use Rattle.mx_kcall.specs.Requests.{kernel_call_under, message_words_at, reply_bytes, no_reply_words}
use Rattle.mx_kcall.specs.Effects.{Effect, table_after_effect}
use Rattle.mx_kcall.specs.Effects.Effect.{SetsAlarm, Copies, Kills, SetsWindow}
use Rattle.mx_kcall.specs.Known.{known}
use Rattle.mx_kcall.specs.Serving.{effect_of, words_of_reply, ends_caller, table_after_reply, table_after_serving, table_after_kernel_call_by, table_after_kernel_call}
use Rattle.mx_kcall.specs.TrapAnswer.{TrapAnswer}
use Rattle.mx_kcall.specs.TrapAnswer.TheVariants as trap_ends
use Rattle.mx_kcall.specs.declared.request.KernelCall.{KernelCall}
use Rattle.mx_kcall.specs.declared.request.ReplyWords.{ReplyWords}
use Rattle.mx_machine.specs.Move.{table_after_kill, table_after_trap_at_back}
use Rattle.mx_laws.specs.Diary.{Item}
use Rattle.mx_laws.specs.Diary.Item.{Ran, Result, Message, Copy}
use Rattle.mx_laws.specs.Diaries.{items_of_kill, items_of_line, items_of_rings}
use Rattle.mx_laws.specs.Items.{items_of_call, items_of_effect, items_of_checked_call, items_of_death, items_of_freeing, items_of_kernel_call, items_of_notifying, items_of_receive, items_of_reply, items_of_sendrec, items_of_serving, items_of_taking, items_of_trap, items_of_trap_by}
use Rattle.mx_laws.proofs.Readies.{death_readies, delivery_readies, flag, goes_on_readies, idle_set, IsIdle, IsIdleIfAny, mark, mark-append, marked, notice_readies, notifying_readies, readies, readies-at, readies-kept, ready_of, send_readies, taking_from_readies, then_goes_on}

-- ---- blocked sends

-- who isn't sending is in no blocked send
pub record IsQueued (t : TableState) : Type 0 where
  pub each : (p : ℕ) → is_sending (process_at t p).state ≡ false → sends_of p t.waits ≡ 0

sending_idle : (st : State) → is_sending st ≡ true → is_ready st ≡ false
sending_idle Home e = refl
sending_idle Ready e = cc
sending_idle Out e = refl
sending_idle Doomed e = refl
sending_idle Sending e = refl
sending_idle Calling e = refl
sending_idle (Receiving p) e = refl
sending_idle (Awaiting d) e = refl
sending_idle (Down c) e = refl

accepting : (st : State) (s : ℕ) → accepts st s ≡ true → is_sending st ≡ false
accepting Home s e = cc
accepting Ready s e = cc
accepting Out s e = cc
accepting Doomed s e = cc
accepting Sending s e = cc
accepting Calling s e = cc
accepting (Receiving p) s e = refl
accepting (Awaiting d) s e = refl
accepting (Down c) s e = cc

home_accepts : (st : State) (s : ℕ) → st ≡ Home → accepts st s ≡ false
home_accepts st s e = ap (λ x. accepts x s) e

-- a caller that may be this partner sends
caller_sends : (s : ℕ) (x : Partner) (pairs : List (ℕ × ℕ)) (p : ℕ) → caller_of s x pairs ≡ Some p → 1 ≤ sends_of p pairs
caller_sends s x [] p e = cc
caller_sends s x (a ∷ rest) p e = by_bool ((a.1 == s) && may_be x (2 + a.0)) (λ f. caller_sends s x rest p f) e
  where
    some_is : (i j : ℕ) → Some i ≡ Some j → i ≡ j
    some_is i j e = cc

    by_bool : (b : Bool) → (caller_of s x rest ≡ Some p → 1 ≤ sends_of p rest) → cond b (Some a.0) (caller_of s x rest) ≡ Some p → 1 ≤ tally (a.0 == p) + sends_of p rest
    by_bool true f e = omega (arith, ap tally (eq-eqb a.0 p (some_is a.0 p e)))
    by_bool false f e = omega (arith, f e)

-- who is taken from is sending
pub sending_caller : (t : TableState) (s : ℕ) (x : Partner) → IsQueued t → (p : ℕ) → caller_of s x t.waits ≡ Some p → is_sending (process_at t p).state ≡ true
sending_caller t s x h p e = by_bool (is_sending (process_at t p).state) refl (caller_sends s x t.waits p e)
  where
    by_bool : (b : Bool) → is_sending (process_at t p).state ≡ b → 1 ≤ sends_of p t.waits → b ≡ true
    by_bool true f le = refl
    by_bool false f le = absurd (omega (arith, h.each p f, le))

idle_caller : (t : TableState) (s : ℕ) (x : Partner) → IsQueued t → IsIdleIfAny t (caller_of s x t.waits)
idle_caller t s x h = by_option (caller_of s x t.waits) refl
  where
    by_option : (o : Option ℕ) → caller_of s x t.waits ≡ o → IsIdleIfAny t o
    by_option None e = tt
    by_option (Some p) e = readies-at t.slots p ∙ sending_idle (process_at t p).state (sending_caller t s x h p e)

-- nobody else is taken only from d, if d is in no blocked send
no_caller : (s d : ℕ) (pairs : List (ℕ × ℕ)) → sends_of d pairs ≡ 0 → caller_of s (partner.Only (source.Slot d)) pairs ≡ None
no_caller s d [] e = refl
no_caller s d (a ∷ rest) e = by_bool (a.0 == d) refl (λ f. no_caller s d rest f) e
  where
    differs : (i j : ℕ) → (i == j) ≡ false → (2 + j == 2 + i) ≡ false
    differs i j g = ne_eqb (2 + j) (2 + i) (λ k. true_false (sym (eq-eqb i j (omega (arith, k))) ∙ g))
      where
        true_false : true ≡ false → ⊥
        true_false z = cc

    skipped : (b c : Bool) (x y : Option ℕ) → c ≡ false → cond (b && c) x y ≡ y
    skipped true true x y e = cc
    skipped true false x y e = refl
    skipped false c x y e = refl

    by_bool : (b : Bool) → (a.0 == d) ≡ b → (sends_of d rest ≡ 0 → caller_of s (partner.Only (source.Slot d)) rest ≡ None) → tally b + sends_of d rest ≡ 0
        → caller_of s (partner.Only (source.Slot d)) (a ∷ rest) ≡ None
    by_bool true g f z = absurd (omega (arith, z))
    by_bool false g f z = skipped (a.1 == s) (2 + d == 2 + a.0) (Some a.0) (caller_of s (partner.Only (source.Slot d)) rest) (differs a.0 d g) ∙ f (omega (arith, z))

-- ---- messages

taking_readies : (t : TableState) (s : ℕ) (p : Partner) (st : State) → is_ready st ≡ false → IsIdle t s → IsIdleIfAny t (caller_of s p t.waits)
    → readies (table_after_taking t s p st) ≡ mark (items_of_taking t s (caller_of s p t.waits)) (readies t)
unfolding table_after_taking
taking_readies t s p st e idle other = taking_from_readies t s st (caller_of s p t.waits) e idle other

receive_by_readies : (t : TableState) (s : ℕ) (p : Partner) (x : Option Source) → IsQueued t → IsIdle t s → readies (table_after_receive_by t s p x) ≡ mark (items_of_receive t s p x) (readies t)
receive_by_readies t s p None h idle = taking_readies t s p (Receiving p) refl idle (idle_caller t s p h)
receive_by_readies t s p (Some x) h idle = goes_on_readies _ s 0 ∙ ap (λ fs. slice_set fs s true) (notice_readies t s x)

receive_readies : (t : TableState) (s : ℕ) (p : Partner) → IsQueued t → IsIdle t s → readies (table_after_receive t s p) ≡ mark (items_of_receive t s p (pending_source t s p)) (readies t)
unfolding table_after_receive
receive_readies t s p h idle = receive_by_readies t s p (pending_source t s p) h idle

goes_on_waits : (t : TableState) (s r : ℕ) → (goes_on t s r).waits ≡ t.waits
unfolding goes_on table_after_queueing
goes_on_waits t s r = both _ _ _ refl refl
  where
    both : (b : Bool) (x y : TableState) → x.waits ≡ t.waits → y.waits ≡ t.waits → (cond b x y).waits ≡ t.waits
    both true x y e f = e
    both false x y e f = f

delivery_waits : (t : TableState) (s d : ℕ) → (table_after_delivery t s d).waits ≡ t.waits
unfolding table_after_delivery
delivery_waits t s d = refl

-- who was asked by a SENDREC hasn't sent
pub asking_caller : (t : TableState) (s d : ℕ) → IsQueued t → accepts (process_at t d).state s ≡ true
    → caller_of s (partner.Only (source.Slot d)) (goes_on (table_after_delivery t s d) d 0).waits ≡ None
asking_caller t s d h e =
    let waits = goes_on_waits (table_after_delivery t s d) d 0 ∙ delivery_waits t s d in
    no_caller s d (goes_on (table_after_delivery t s d) d 0).waits (ap (sends_of d) waits ∙ h.each d (accepting (process_at t d).state s e))

flag_other : (fs : List Bool) (d s : ℕ) → s ≢ d → flag (slice_set fs d true) s ≡ flag fs s
flag_other fs d s n = get_or-set_other fs d s true false n

sendrec_readies : (t : TableState) (s d : ℕ) → IsQueued t → (process_at t s).state ≡ Home → IsIdle t s → readies (table_after_sendrec t s d) ≡ mark (items_of_sendrec t s d) (readies t)
unfolding table_after_sendrec
sendrec_readies t s d h home idle = by_bool (accepts (process_at t d).state s) refl
  where
    v : TableState
    v = goes_on (table_after_delivery t s d) d 0

    made : readies v ≡ slice_set (readies t) d true
    made = goes_on_readies (table_after_delivery t s d) d 0 ∙ ap (λ fs. slice_set fs d true) (delivery_readies t s d)

    true_false : {b : Bool} → b ≡ true → b ≡ false → ⊥
    true_false e f = cc

    apart : accepts (process_at t d).state s ≡ true → s ≢ d
    apart e g = true_false e (home_accepts (process_at t d).state s (subst (λ k. (process_at t k).state ≡ Home) g home))

    by_bool : (b : Bool) → accepts (process_at t d).state s ≡ b
        → readies (cond b (table_after_taking v s (partner.Only (source.Slot d)) (Awaiting d)) (table_after_block t s d Calling))
        ≡ mark (cond b ((d, Message (message_of t s)) ∷ (d, Result 0) ∷ items_of_taking v s (caller_of s (partner.Only (source.Slot d)) v.waits)) []) (readies t)
    by_bool true e =
        let none : caller_of s (partner.Only (source.Slot d)) v.waits ≡ None = asking_caller t s d h e in
        let quiet : IsIdle v s = ap (λ fs. flag fs s) made ∙ flag_other (readies t) d s (apart e) ∙ idle in
        taking_readies v s (partner.Only (source.Slot d)) (Awaiting d) refl quiet (subst (IsIdleIfAny v) (sym none) tt)
        ∙ ap (mark (items_of_taking v s (caller_of s (partner.Only (source.Slot d)) v.waits))) made
    by_bool false e = idle_set t s _ refl idle

checked_call_readies : (t : TableState) (s : ℕ) (c : Call) (x : Party) → IsQueued t → (process_at t s).state ≡ Home → IsIdle t s
    → readies (table_after_checked_call t s c x) ≡ mark (items_of_checked_call t s c x) (readies t)
checked_call_readies t s call.Send Any h home idle = refl
checked_call_readies t s call.Send Hardware h home idle = refl
checked_call_readies t s call.Send Clock h home idle = refl
checked_call_readies t s call.Send System h home idle = refl
checked_call_readies t s call.Send (Named d g) h home idle = send_readies t s d idle
checked_call_readies t s call.Receive x h home idle = receive_readies t s (partner_of x) h idle
checked_call_readies t s call.Sendrec Any h home idle = refl
checked_call_readies t s call.Sendrec Hardware h home idle = refl
checked_call_readies t s call.Sendrec Clock h home idle = refl
checked_call_readies t s call.Sendrec System h home idle = refl
checked_call_readies t s call.Sendrec (Named d g) h home idle = sendrec_readies t s d h home idle
checked_call_readies t s call.Notify Any h home idle = refl
checked_call_readies t s call.Notify Hardware h home idle = refl
checked_call_readies t s call.Notify Clock h home idle = refl
checked_call_readies t s call.Notify System h home idle = refl
checked_call_readies t s call.Notify (Named d g) h home idle = then_goes_on t (table_after_notifying t (source.Slot s) d) (items_of_notifying t (source.Slot s) d) s 0 (notifying_readies t (source.Slot s) d)

call_by_readies : (t : TableState) (s : ℕ) (c : Call) (x : Option Party) (e : Option Errno) → IsQueued t → (process_at t s).state ≡ Home → IsIdle t s
    → readies (table_after_call_by t s c x e) ≡ mark (items_of_call t s c x e) (readies t)
call_by_readies t s c x (Some e) h home idle = goes_on_readies t s (errno_bits e)
call_by_readies t s c None None h home idle = refl
call_by_readies t s c (Some x) None h home idle = checked_call_readies t s c x h home idle

trap_by_readies : (t : TableState) (s : ℕ) (c : Option Call) (n : ℕ) → IsQueued t → (process_at t s).state ≡ Home → IsIdle t s
    → readies (table_after_trap_by t s c n) ≡ mark (items_of_trap_by t s c n) (readies t)
unfolding table_after_call
trap_by_readies t s None n h home idle = goes_on_readies t s (errno_bits Denied)
trap_by_readies t s (Some c) n h home idle = call_by_readies t s c (party_of t n) (call_refusal t s c (party_of t n)) h home idle

-- ---- who is ready, by the facts: a slot that wasn't is ready exactly if it has a result

-- whether a slot has a result
abbrev pub is_result : Item → Bool
is_result Ran = false
is_result (Result r) = true
is_result (Message bytes) = false
is_result (Copy place bytes) = false

abbrev pub gives : ℕ → List (ℕ × Item) → Bool
gives q [] = false
gives q (x ∷ xs) = ((x.0 == q) && is_result x.1) || gives q xs

or_false : (b : Bool) → (b || false) ≡ b
or_false true = refl
or_false false = refl

or_first : (a b c : Bool) → ((a || b) || c) ≡ (a || (b || c))
or_first true b c = refl
or_first false b c = refl

or_swap : (a b c : Bool) → (a || (b || c)) ≡ (b || (a || c))
or_swap true true c = refl
or_swap true false c = refl
or_swap false b c = refl

pub gives-append : (q : ℕ) (xs ys : List (ℕ × Item)) → gives q (xs ++ ys) ≡ (gives q xs || gives q ys)
gives-append q [] ys = refl
gives-append q (x ∷ xs) ys = ap (λ b. ((x.0 == q) && is_result x.1) || b) (gives-append q xs ys) ∙ sym (or_first ((x.0 == q) && is_result x.1) (gives q xs) (gives q ys))

length_marked : (x : Item) (s : ℕ) (fs : List Bool) → length (marked x s fs) ≡ length fs
length_marked Ran s fs = refl
length_marked (Result r) s fs = length-set fs s true
length_marked (Message bytes) s fs = refl
length_marked (Copy place bytes) s fs = refl

set_flag : (fs : List Bool) (s q : ℕ) → q < length fs → flag (slice_set fs s true) q ≡ ((s == q) || flag fs q)
set_flag fs s q b = elim (cases_eq s q) [
  | inl e ↦ subst (λ k. flag (slice_set fs k true) q ≡ ((k == q) || flag fs q)) (sym e) (get_or-set_same fs q true false b ∙ sym (ap (λ z. z || flag fs q) (eq-eqb q q refl)))
  | inr n ↦ get_or-set_other fs s q true false (λ e. n (sym e)) ∙ sym (ap (λ z. z || flag fs q) (ne_eqb s q n))
]

pub and_true : (b : Bool) → (b && true) ≡ b
and_true true = refl
and_true false = refl

pub and_false : (b : Bool) → (b && false) ≡ false
and_false true = refl
and_false false = refl

marked_flag : (x : Item) (s : ℕ) (fs : List Bool) (q : ℕ) → q < length fs → flag (marked x s fs) q ≡ (((s == q) && is_result x) || flag fs q)
marked_flag Ran s fs q b = sym (ap (λ z. z || flag fs q) (and_false (s == q)))
marked_flag (Result r) s fs q b = set_flag fs s q b ∙ sym (ap (λ z. z || flag fs q) (and_true (s == q)))
marked_flag (Message bytes) s fs q b = sym (ap (λ z. z || flag fs q) (and_false (s == q)))
marked_flag (Copy place bytes) s fs q b = sym (ap (λ z. z || flag fs q) (and_false (s == q)))

pub mark_flag : (xs : List (ℕ × Item)) (fs : List Bool) (q : ℕ) → q < length fs → flag (mark xs fs) q ≡ (gives q xs || flag fs q)
mark_flag [] fs q b = refl
mark_flag (x ∷ xs) fs q b =
    mark_flag xs (marked x.1 x.0 fs) q (omega (arith, b, length_marked x.1 x.0 fs))
    ∙ ap (λ z. gives q xs || z) (marked_flag x.1 x.0 fs q b)
    ∙ or_swap (gives q xs) ((x.0 == q) && is_result x.1) (flag fs q)
    ∙ sym (or_first ((x.0 == q) && is_result x.1) (gives q xs) (flag fs q))

-- WHO WASN'T READY IS READY exactly if it has a result
abbrev pub Tells : TableState → TableState → List (ℕ × Item) → ℕ → Type 0
Tells t u items q = q < length t.slots → IsIdle t q → flag (readies u) q ≡ gives q items

pub tells_marked : (t u : TableState) (items : List (ℕ × Item)) (q : ℕ) → readies u ≡ mark items (readies t) → Tells t u items q
tells_marked t u items q made within idle =
    let long : q < length (readies t) = omega (arith, within, length-map t.slots ready_of) in
    ap (λ fs. flag fs q) made ∙ mark_flag items (readies t) q long ∙ ap (λ z. gives q items || z) idle ∙ or_false (gives q items)

-- ---- a death

-- a slot is none of these
abbrev pub Misses : ℕ → List ℕ → Type 0
Misses q [] = Unit {0}
Misses q (p ∷ ps) = (p ≢ q) × Misses q ps

freed : (q : ℕ) (ps : List ℕ) → Misses q ps → gives q (items_of_freeing ps) ≡ false
freed q [] m = refl
freed q (p ∷ ps) m = ap (λ z. (z && true) || gives q (items_of_freeing ps)) (ne_eqb p q m.0) ∙ freed q ps m.1

misses-append : (q : ℕ) (xs ys : List ℕ) → Misses q xs → Misses q ys → Misses q (xs ++ ys)
misses-append q [] ys h k = k
misses-append q (x ∷ xs) ys h k = (h.0, misses-append q xs ys h.1 k)

differs : (n s : ℕ) → (n == s) ≡ false → n ≢ s
differs n s b e = true_false (sym (eq-eqb n s e) ∙ b)
  where
    true_false : true ≡ false → ⊥
    true_false z = cc

misses_callers : (s : ℕ) (pairs : List (ℕ × ℕ)) → sends_of s pairs ≡ 0 → Misses s (callers s pairs)
misses_callers s [] e = tt
misses_callers s (a ∷ rest) e = by_bools (a.0 == s) (a.1 == s) refl (λ f. misses_callers s rest f) e
  where
    by_bools : (b c : Bool) → (a.0 == s) ≡ b → (sends_of s rest ≡ 0 → Misses s (callers s rest)) → tally b + sends_of s rest ≡ 0
        → Misses s (map (λ (p : ℕ × ℕ). p.0) (cond c (a ∷ filter (λ (p : ℕ × ℕ). p.1 == s) rest) (filter (λ (p : ℕ × ℕ). p.1 == s) rest)))
    by_bools true c g f z = absurd (omega (arith, z))
    by_bools false true g f z = (differs a.0 s g, f (omega (arith, z)))
    by_bools false false g f z = f (omega (arith, z))

misses_receivers : (s n : ℕ) (ps : List Process) → Misses s (receivers s n ps)
misses_receivers s n [] = tt
misses_receivers s n (p ∷ ps) = by_bools (n == s) (receives_from_alone p.state s) refl (misses_receivers s (n + 1) ps)
  where
    by_bools : (b c : Bool) → (n == s) ≡ b → Misses s (receivers s (n + 1) ps) → Misses s (cond (not b && c) (n ∷ receivers s (n + 1) ps) (receivers s (n + 1) ps))
    by_bools true c g f = f
    by_bools false false g f = f
    by_bools false true g f = (differs n s g, f)

none_from : (s : ℕ) (pairs : List (ℕ × ℕ)) → sends_of s (without_from s pairs) ≡ 0
none_from s [] = refl
none_from s (a ∷ rest) = by_bool (a.0 == s) refl (none_from s rest)
  where
    by_bool : (b : Bool) → (a.0 == s) ≡ b → sends_of s (without_from s rest) ≡ 0 → sends_of s (cond (not b) (a ∷ without_from s rest) (without_from s rest)) ≡ 0
    by_bool true g f = f
    by_bool false g f = omega (arith, ap tally g, f)

ready_unsending : (st : State) → is_ready st ≡ true → is_sending st ≡ false
ready_unsending Home e = cc
ready_unsending Ready e = refl
ready_unsending Out e = cc
ready_unsending Doomed e = cc
ready_unsending Sending e = cc
ready_unsending Calling e = cc
ready_unsending (Receiving p) e = cc
ready_unsending (Awaiting d) e = cc
ready_unsending (Down c) e = cc

left_sends : (t : TableState) (s : ℕ) → IsQueued t → sends_of s (table_after_taking_out t s).waits ≡ 0
unfolding table_after_taking_out
left_sends t s h = by_bools (is_ready (process_at t s).state) (is_sending (process_at t s).state) refl refl
  where
    by_bools : (a b : Bool) → is_ready (process_at t s).state ≡ a → is_sending (process_at t s).state ≡ b
        → sends_of s (cond a (table_after_dequeue t s) (cond b (table_after_unblock t s) t)).waits ≡ 0
    by_bools true b e f = h.each s (ready_unsending (process_at t s).state e)
    by_bools false true e f = none_from s t.waits
    by_bools false false e f = h.each s f

pub misses_waiting : (t : TableState) (s : ℕ) → IsQueued t → gives s (items_of_death t s) ≡ false
misses_waiting t s h =
    let left = table_after_taking_out t s in
    freed s (waiting_for left s) (misses-append s (callers s left.waits) (receivers s 0 left.slots) (misses_callers s left.waits (left_sends t s h)) (misses_receivers s 0 left.slots))

pub length_mark : (xs : List (ℕ × Item)) (fs : List Bool) → length (mark xs fs) ≡ length fs
length_mark [] fs = refl
length_mark (x ∷ xs) fs = length_mark xs (marked x.1 x.0 fs) ∙ length_marked x.1 x.0 fs

death_long : (t : TableState) (s : ℕ) (why : DeathCause) → length (readies (table_after_death t s why)) ≡ length (readies t)
death_long t s why =
    let before = slice_set (readies t) s false in
    ap length (death_readies t s why) ∙ length-set (mark (items_of_death t s) before) s false ∙ length_mark (items_of_death t s) before ∙ length-set (readies t) s false

pub death_tells : (t : TableState) (s : ℕ) (why : DeathCause) (q : ℕ) → IsQueued t → Tells t (table_after_death t s why) (items_of_death t s) q
death_tells t s why q h within idle =
    let before = slice_set (readies t) s false in
    let items = items_of_death t s in
    let long : q < length before = omega (arith, within, length-map t.slots ready_of, length-set (readies t) s false) in
    let room : q < length (mark items before) = omega (arith, long, length_mark items before) in
    ap (λ fs. flag fs q) (death_readies t s why) ∙ elim (cases_eq s q) [
      | inl e ↦ subst (λ k. flag (slice_set (mark items before) k false) q ≡ gives q items) (sym e)
          (get_or-set_same (mark items before) q false false room ∙ sym (subst (λ k. gives k items ≡ false) e (misses_waiting t s h)))
      | inr n ↦
          get_or-set_other (mark items before) s q false false (λ e. n (sym e)) ∙ mark_flag items before q long
          ∙ ap (λ z. gives q items || z) (get_or-set_other (readies t) s q false false (λ e. n (sym e)) ∙ idle) ∙ or_false (gives q items)
    ]

-- ---- kernel calls

-- no fact changes
quiet : (t u : TableState) (items : List (ℕ × Item)) (q : ℕ) → readies u ≡ readies t → gives q items ≡ false → Tells t u items q
quiet t u items q same none within idle = ap (λ fs. flag fs q) same ∙ idle ∙ sym none

effect_tells : (t : TableState) (s : ℕ) (e : Effect) (q : ℕ) → IsQueued t → Tells t (table_after_effect t s e) (items_of_effect t e) q
effect_tells t s (SetsAlarm due) q h = quiet t (table_after_effect t s (SetsAlarm due)) [] q (readies-kept t.slots s _ refl) refl
effect_tells t s (Copies c) q h = quiet t (table_after_effect t s (Copies c)) (items_of_effect t (Copies c)) q (readies-kept t.slots (c.target.endpoint % 1024) _ refl) (ap (λ z. z || false) (and_false (c.target.endpoint % 1024 == q)))
effect_tells t s (Kills d) q h = death_tells t d cause.Kill q h
effect_tells t s (SetsWindow user window) q h = quiet t (table_after_effect t s (SetsWindow user window)) [] q (readies-kept t.slots s _ refl) refl
effect_tells t s e q h = quiet t (table_after_effect t s e) [] q refl refl

effect_long : (t : TableState) (s : ℕ) (e : Effect) → length (readies (table_after_effect t s e)) ≡ length (readies t)
effect_long t s (SetsAlarm due) = ap length (readies-kept t.slots s _ refl)
effect_long t s (Copies c) = ap length (readies-kept t.slots (c.target.endpoint % 1024) _ refl)
effect_long t s (Kills d) = death_long t d cause.Kill
effect_long t s (SetsWindow user window) = ap length (readies-kept t.slots s _ refl)
effect_long t s _ = refl

reply_readies : (t : TableState) (s n : ℕ) (a : ReplyWords) → readies (table_after_reply t s n a) ≡ slice_set (readies t) s true
unfolding table_after_reply
reply_readies t s n a = goes_on_readies (with_message t s (reply_bytes n a)) s 0 ∙ ap (λ fs. slice_set fs s true) (readies-kept t.slots s _ refl)

reply_gives : (s n : ℕ) (a : ReplyWords) (q : ℕ) → gives q (items_of_reply s n a) ≡ (s == q)
reply_gives s n a q = by_bool (s == q)
  where
    by_bool : (b : Bool) → ((b && false) || ((b && true) || false)) ≡ b
    by_bool true = refl
    by_bool false = refl

or_turned : (a b : Bool) → (a || b) ≡ (b || a)
or_turned true true = refl
or_turned true false = refl
or_turned false true = refl
or_turned false false = refl

-- a reply after a change
reply_tells : (t v : TableState) (xs : List (ℕ × Item)) (s n m : ℕ) (a b : ReplyWords) (q : ℕ) → length (readies v) ≡ length (readies t) → Tells t v xs q
    → Tells t (table_after_reply v s n a) (xs ++ items_of_reply s m b) q
reply_tells t v xs s n m a b q long so_far within idle =
    let room : q < length (readies v) = omega (arith, within, long, length-map t.slots ready_of) in
    ap (λ fs. flag fs q) (reply_readies v s n a) ∙ set_flag (readies v) s q room ∙ ap (λ z. (s == q) || z) (so_far within idle)
    ∙ or_turned (s == q) (gives q xs) ∙ sym (gives-append q xs (items_of_reply s m b) ∙ ap (λ z. gives q xs || z) (reply_gives s m b q))

by_bool_tells : (b : Bool) (t x y : TableState) (xs ys : List (ℕ × Item)) (q : ℕ) → Tells t x xs q → Tells t y ys q → Tells t (cond b x y) (cond b xs ys) q
by_bool_tells true t x y xs ys q h k = h
by_bool_tells false t x y xs ys q h k = k

serving_tells : (t : TableState) (s : ℕ) (r : KernelCall) (q : ℕ) → IsQueued t → Tells t (table_after_serving t s r) (items_of_serving t s r) q
unfolding table_after_serving
serving_tells t s r q h =
    let e = effect_of (known t s) s r in
    by_bool_tells (ends_caller s r) t _ _ _ _ q (death_tells t s cause.Exit q h)
    (reply_tells t (table_after_effect t s e) (items_of_effect t e) s 0 0 (words_of_reply t s r) (words_of_reply t s r) q (effect_long t s e) (effect_tells t s e q h))

kernel_call_tells : (t : TableState) (s : ℕ) (r : Option KernelCall) (e : Option Errno) (q : ℕ) → IsQueued t → Tells t (table_after_kernel_call_by t s r e) (items_of_kernel_call t s r e) q
kernel_call_tells t s r (Some e) q h = reply_tells t t [] s (errno_bits e) (errno_bits e) no_reply_words no_reply_words q refl (quiet t t [] q refl refl)
kernel_call_tells t s None None q h = quiet t t [] q refl refl
kernel_call_tells t s (Some r) None q h = serving_tells t s r q h

pub trap_tells : (t : TableState) (s : ℕ) (x : TrapAnswer) (q : ℕ) → IsQueued t → (process_at t s).state ≡ Home → IsIdle t s → Tells t (table_after_trap_at_back t s x) (items_of_trap t s x) q
unfolding table_after_trap table_after_kernel_call
trap_tells t s trap_ends.Done q h home idle =
    tells_marked t (table_after_trap t s) (items_of_trap t s trap_ends.Done) q (trap_by_readies t s (call_of (process_at t s).image.regs.ecx) (process_at t s).image.regs.eax h home idle)
trap_tells t s trap_ends.Kernel q h home idle = kernel_call_tells t s (kernel_call_under t.rules (message_words_at t s)) (kernel_call_refusal t s) q h

-- ---- other events

out_idle : (st : State) → is_out st ≡ true → is_ready st ≡ false
out_idle Home e = refl
out_idle Ready e = cc
out_idle Out e = refl
out_idle Doomed e = refl
out_idle Sending e = refl
out_idle Calling e = refl
out_idle (Receiving p) e = refl
out_idle (Awaiting d) e = refl
out_idle (Down c) e = refl

pub kill_tells : (t : TableState) (s : ℕ) (q : ℕ) → IsQueued t → Tells t (table_after_kill t s) (items_of_kill t s) q
unfolding table_after_kill
kill_tells t s q h = by_bool (is_out (process_at t s).state) refl
  where
    by_bool : (b : Bool) → is_out (process_at t s).state ≡ b → Tells t (cond b (with_state t s Doomed) (table_after_death t s cause.Kill)) (cond b [] (items_of_death t s)) q
    by_bool true e = quiet t (with_state t s Doomed) [] q (idle_set t s _ refl (readies-at t.slots s ∙ out_idle (process_at t s).state e)) refl
    by_bool false e = death_tells t s cause.Kill q h

pub line_tells : (t : TableState) (l s : ℕ) (q : ℕ) → Tells t (table_after_line t l s) (items_of_line t l (Some s)) q
line_tells t l s q = tells_marked t (table_after_line t l s) (items_of_line t l (Some s)) q
    (notifying_readies (with_line t s l) source.Hardware s ∙ ap (mark (items_of_notifying (with_line t s l) source.Hardware s)) (readies-kept t.slots s _ refl))

rings_readies : (ps : List ℕ) (t : TableState) → readies (table_after_rings t ps) ≡ mark (items_of_rings ps t) (readies t)
rings_readies [] t = refl
rings_readies (s ∷ ps) t =
    let items = items_of_notifying (with_alarm t s None) source.Clock s in
    let first : readies (table_after_ring t s) ≡ mark items (readies t) = notifying_readies (with_alarm t s None) source.Clock s ∙ ap (mark items) (readies-kept t.slots s _ refl) in
    rings_readies ps (table_after_ring t s) ∙ ap (mark (items_of_rings ps (table_after_ring t s))) first ∙ sym (mark-append items (items_of_rings ps (table_after_ring t s)) (readies t))

pub tick_tells : (t : TableState) (q : ℕ) → Tells t (table_after_tick t) (let later = with_tick t in items_of_rings (due_slots later.uptime 0 later.slots) later) q
unfolding table_after_tick
tick_tells t q = let later = with_tick t in tells_marked t (table_after_tick t) (items_of_rings (due_slots later.uptime 0 later.slots) later) q (rings_readies (due_slots later.uptime 0 later.slots) later)
