-- Traps of another process leave two tables that are the same but for one image so, unless they take a message of it.
use Rattle.std.proofs.Common.{◌≡◌, ◌∙◌, ℕ, zero, suc, ◌+◌, ◌/◌, ◌%◌, ◌-◌, ◌^◌, ◌≤◌, ◌==◌, ◌&&◌, ◌||◌, nat_lt, Bool, true, false, cond, not, List, [], ◌∷◌, length, take, Option, Some, None, refl, ap, subst, get_or, slice_set, arith}
use Rattle.std.specs.Option.{option_map}
use Rattle.std.specs.Prelude.{is_none}
use Rattle.mx_proc.specs.declared.process.Process.{Process}
use Rattle.mx_proc.specs.declared.process.Masks.{Masks}
use Rattle.mx_proc.specs.declared.process.State.{State}
use Rattle.mx_proc.specs.declared.process.State.TheVariants.{Home, Ready, Out, Doomed, Sending, Calling, Receiving, Awaiting, Down}
use Rattle.mx_proc.specs.declared.process.Source.{Source}
use Rattle.mx_proc.specs.declared.process.Source.TheVariants as source
use Rattle.mx_proc.specs.declared.process.Partner.{Partner}
use Rattle.mx_proc.specs.declared.process.Partner.TheVariants as partner
use Rattle.mx_proc.specs.declared.errors.Errno.{Errno}
use Rattle.mx_proc.specs.declared.errors.Errno.TheVariants.{BadAddress, Locked, BadEndpoint, Denied, Dead}
use Rattle.mx_proc.specs.declared.deliveries.DeliveryKind.TheVariants.{Notification}
use Rattle.mx_proc.specs.Errors.{errno_bits}
use Rattle.mx_proc.specs.Messages.{notification}
use Rattle.mx_proc.specs.Endpoints.{is_current}
use Rattle.mx_proc.specs.Partners.{order_of_source, lines_in_notification, first_pending, source_in_order}
use Rattle.mx_proc.specs.States.{is_blocked, is_down}
use Rattle.mx_proc.specs.Waits.{caller_of, leads}
use Rattle.mx_proc.specs.TableState.{TableState, nobody, process_at, with_process, with_message, with_delivery_kept, table_after_delivery, table_after_notice, without_pending, source_endpoint, endpoint_of, pending_source}
use Rattle.mx_ipc.specs.declared.trap_calls.Call.{Call}
use Rattle.mx_ipc.specs.declared.trap_calls.Call.TheVariants as call
use Rattle.mx_ipc.specs.declared.trap_calls.Party.{Party}
use Rattle.mx_ipc.specs.declared.trap_calls.Party.TheVariants.{Any, Hardware, Clock, System, Process as Named}
use Rattle.mx_word.specs.Bits.{has_bit}
use Rattle.mx_ipc.specs.Checks.{call_of, party_of, call_refusal, first_error, call_number, of_party, of_process, out_of_place, to_pseudo, is_notify, is_outside, is_receive, is_send}
use Rattle.mx_kcall.specs.Calls.{goes_on, accepts, hears, table_after_send, table_after_release, table_after_taking_from, table_after_taking, table_after_receive_by, table_after_receive, table_after_sendrec, table_after_notifying, partner_of, table_after_checked_call, table_after_call_by, table_after_call, call_answer_by, call_answer, table_after_trap_by, trap_answer_by, table_after_trap, trap_answer}
use Rattle.mx_laws.proofs.Twins.{is_slot, Twins}
use Rattle.mx_laws.specs.Senders.{IsNot, sender_of_receive, sender_of_sendrec, sender_of_checked_call, sender_of_call, sender_of_trap}
use Rattle.mx_laws.proofs.TwinLemmas.{other_slot, all_but_image_at, state_at, other_at, by_test, quiet, state_other, pending_twins, unblock_twins, block_twins, goes_on_twins, message_twins, message_other, endpoint_same, delivery_kept_twins, delivery_twins, delivery_other, slots_of, waits_of, uptime_of}

-- ---- who waits

accepts_blocked : (st : State) (s : ℕ) → accepts st s ≡ true → is_blocked st ≡ true
accepts_blocked Home s h = cc
accepts_blocked Ready s h = cc
accepts_blocked Out s h = cc
accepts_blocked Doomed s h = cc
accepts_blocked Sending s h = refl
accepts_blocked Calling s h = refl
accepts_blocked (Receiving p) s h = refl
accepts_blocked (Awaiting d) s h = refl
accepts_blocked (Down c) s h = cc

hears_blocked : (st : State) (x : Source) → hears st x ≡ true → is_blocked st ≡ true
hears_blocked Home x h = cc
hears_blocked Ready x h = cc
hears_blocked Out x h = cc
hears_blocked Doomed x h = cc
hears_blocked Sending x h = refl
hears_blocked Calling x h = refl
hears_blocked (Receiving p) x h = refl
hears_blocked (Awaiting d) x h = cc
hears_blocked (Down c) x h = cc

-- ---- notifications

source_same : {q : ℕ} {w v : TableState} → Twins q w v → (x : Source) → source_endpoint w x ≡ source_endpoint v x
source_same h source.Hardware = refl
source_same h source.Clock = refl
source_same h (source.Slot s) = endpoint_same h s

notice_short : (a b c : ℕ) → length (notification a b c) ≤ 36
notice_short a b c = omega arith

waiting_twins : {q : ℕ} {w v : TableState} → Twins q w v → (d : ℕ) (x : Source) → Twins q (with_process w d (without_pending (process_at w d) x)) (with_process v d (without_pending (process_at v d) x))
waiting_twins h d x = quiet h d (λ p. without_pending p x) (λ b p. refl) (λ p. refl) (λ p. refl)

-- the bytes of a notification are the same
notice_same : {q : ℕ} {w v : TableState} → Twins q w v → (d : ℕ) (x : Source) → notification (source_endpoint w x) w.uptime (lines_in_notification x (process_at w d).lines) ≡ notification (source_endpoint v x) v.uptime (lines_in_notification x (process_at v d).lines)
notice_same {q} {w} {v} h d x =
    ap (λ n. notification n w.uptime (lines_in_notification x (process_at w d).lines)) (source_same h x)
    ∙ ap (λ n. notification (source_endpoint v x) n (lines_in_notification x (process_at w d).lines)) (uptime_of h)
    ∙ ap (λ (p : Process). notification (source_endpoint v x) v.uptime (lines_in_notification x p.lines)) (all_but_image_at h d)

blocked_after : (w : TableState) (d : ℕ) (x : Source) → is_blocked (process_at w d).state ≡ true → is_blocked (process_at (with_process w d (without_pending (process_at w d) x)) d).state ≡ true
blocked_after w d x h = state_kept w.slots d x h
  where
    state_kept : (ps : List Process) (d : ℕ) (x : Source) → is_blocked (get_or ps d nobody).state ≡ true → is_blocked (get_or (slice_set ps d (without_pending (get_or ps d nobody) x)) d nobody).state ≡ true
    state_kept [] d x h = h
    state_kept (p ∷ ps) zero x h = h
    state_kept (p ∷ ps) (suc d) x h = state_kept ps d x h

-- a notification comes to whoever waits, or to another
notice_by : {q : ℕ} {w v : TableState} → Twins q w v → (d : ℕ) (x : Source)
    → ((bytes : List ℕ) → length bytes ≤ 36 → Twins q (with_message (with_process w d (without_pending (process_at w d) x)) d bytes) (with_message (with_process v d (without_pending (process_at v d) x)) d bytes)) → Twins q (table_after_notice w d x) (table_after_notice v d x)
unfolding table_after_notice
notice_by {q} {w} {v} h d x f =
    let m = notification (source_endpoint w x) w.uptime (lines_in_notification x (process_at w d).lines) in
    subst (λ bytes. Twins q (table_after_notice w d x) (with_delivery_kept (with_message (with_process v d (without_pending (process_at v d) x)) d bytes) (source_endpoint v x) (endpoint_of v d) 4096 Notification)) (notice_same h d x)
    (delivery_kept_twins (f m (notice_short (source_endpoint w x) w.uptime (lines_in_notification x (process_at w d).lines))) _ _ _ _ 4096 Notification (source_same h x) (endpoint_same h d))

notice_twins : {q : ℕ} {w v : TableState} → Twins q w v → (d : ℕ) (x : Source) → is_blocked (process_at w d).state ≡ true → Twins q (table_after_notice w d x) (table_after_notice v d x)
notice_twins {q} {w} {v} h d x st = notice_by h d x (λ bytes n. message_twins (waiting_twins h d x) d bytes n (blocked_after w d x st))

notice_other : {q : ℕ} {w v : TableState} → Twins q w v → (d : ℕ) (x : Source) → is_slot q d ≡ false → Twins q (table_after_notice w d x) (table_after_notice v d x)
notice_other {q} {w} {v} h d x st = notice_by h d x (λ bytes n. message_other (waiting_twins h d x) d bytes st)

pub notifying_twins : {q : ℕ} {w v : TableState} → Twins q w v → (x : Source) (d : ℕ) → Twins q (table_after_notifying w x d) (table_after_notifying v x d)
unfolding table_after_notifying
notifying_twins {q} {w} {v} h x d = by_test _ _ (ap (λ (st : State). hears st x) (state_at h d))
    (λ t. goes_on_twins (notice_twins h d x (hears_blocked (process_at w d).state x t)) d 0)
    (λ t. pending_twins h d (order_of_source x) true)

-- ---- the four calls

send_twins : {q : ℕ} {w v : TableState} → Twins q w v → (s d : ℕ) → is_slot q s ≡ false → Twins q (table_after_send w s d) (table_after_send v s d)
unfolding table_after_send
send_twins {q} {w} {v} h s d n = by_test _ _ (ap (λ (st : State). accepts st s) (state_at h d))
    (λ t. goes_on_twins (goes_on_twins (delivery_twins h s d n (accepts_blocked (process_at w d).state s t)) d 0) s 0)
    (λ t. block_twins h s d Sending n)

release_twins : {q : ℕ} {w v : TableState} → Twins q w v → (s p : ℕ) (st : State) → is_slot q p ≡ false → Twins q (table_after_release w s p st) (table_after_release v s p st)
unfolding table_after_release
release_twins h s p Calling n = state_other (unblock_twins h p) p (Awaiting s) n
release_twins h s p Home n = goes_on_twins (unblock_twins h p) p 0
release_twins h s p Ready n = goes_on_twins (unblock_twins h p) p 0
release_twins h s p Out n = goes_on_twins (unblock_twins h p) p 0
release_twins h s p Doomed n = goes_on_twins (unblock_twins h p) p 0
release_twins h s p Sending n = goes_on_twins (unblock_twins h p) p 0
release_twins h s p (Receiving x) n = goes_on_twins (unblock_twins h p) p 0
release_twins h s p (Awaiting x) n = goes_on_twins (unblock_twins h p) p 0
release_twins h s p (Down x) n = goes_on_twins (unblock_twins h p) p 0

-- a message is taken, but not of q
taking_from_twins : {q : ℕ} {w v : TableState} → Twins q w v → (s : ℕ) (st : State) (p : Option ℕ) → is_slot q s ≡ false → IsNot q p → Twins q (table_after_taking_from w s st p) (table_after_taking_from v s st p)
taking_from_twins h s st None n m = state_other h s st n
taking_from_twins {q} {w} {v} h s st (Some p) n m =
    subst (λ x. Twins q (goes_on (table_after_release (table_after_delivery w p s) s p (process_at w p).state) s 0) (goes_on (table_after_release (table_after_delivery v p s) s p x) s 0)) (state_at h p)
    (goes_on_twins (release_twins (delivery_other h p s (other_slot q p m) n) s p (process_at w p).state (other_slot q p m)) s 0)

taking_twins : {q : ℕ} {w v : TableState} → Twins q w v → (s : ℕ) (p : Partner) (st : State) → is_slot q s ≡ false → IsNot q (caller_of s p w.waits) → Twins q (table_after_taking w s p st) (table_after_taking v s p st)
unfolding table_after_taking
taking_twins {q} {w} {v} h s p st n m = subst (λ x. Twins q (table_after_taking_from w s st (caller_of s p w.waits)) (table_after_taking_from v s st (caller_of s p x))) (waits_of h) (taking_from_twins h s st (caller_of s p w.waits) n m)

pending_same : {q : ℕ} {w v : TableState} → Twins q w v → (s : ℕ) (p : Partner) → pending_source w s p ≡ pending_source v s p
pending_same {q} {w} {v} h s p =
    ap (λ n. option_map source_in_order (first_pending p 0 (take (2 + n) (process_at w s).pending))) (slots_of h)
    ∙ ap (λ (x : Process). option_map source_in_order (first_pending p 0 (take (2 + length v.slots) x.pending))) (all_but_image_at h s)

receive_by_twins : {q : ℕ} {w v : TableState} → Twins q w v → (s : ℕ) (p : Partner) (x : Option Source) → is_slot q s ≡ false → IsNot q (sender_of_receive w s p x) → Twins q (table_after_receive_by w s p x) (table_after_receive_by v s p x)
receive_by_twins h s p None n m = taking_twins h s p (Receiving p) n m
receive_by_twins h s p (Some x) n m = goes_on_twins (notice_other h s x n) s 0

receive_twins : {q : ℕ} {w v : TableState} → Twins q w v → (s : ℕ) (p : Partner) → is_slot q s ≡ false → IsNot q (sender_of_receive w s p (pending_source w s p)) → Twins q (table_after_receive w s p) (table_after_receive v s p)
unfolding table_after_receive
receive_twins {q} {w} {v} h s p n m = subst (λ x. Twins q (table_after_receive_by w s p (pending_source w s p)) (table_after_receive_by v s p x)) (pending_same h s p) (receive_by_twins h s p (pending_source w s p) n m)

sendrec_twins : {q : ℕ} {w v : TableState} → Twins q w v → (s d : ℕ) → is_slot q s ≡ false → IsNot q (sender_of_sendrec w s d) → Twins q (table_after_sendrec w s d) (table_after_sendrec v s d)
unfolding table_after_sendrec
sendrec_twins {q} {w} {v} h s d n m = by_test _ _ (ap (λ (st : State). accepts st s) (state_at h d))
    (λ t. taking_twins (goes_on_twins (delivery_twins h s d n (accepts_blocked (process_at w d).state s t)) d 0) s (partner.Only (source.Slot d)) (Awaiting d) n (subst (λ b. IsNot q (cond b (caller_of s (partner.Only (source.Slot d)) (goes_on (table_after_delivery w s d) d 0).waits) None)) t m))
    (λ t. block_twins h s d Calling n)

checked_call_twins : {q : ℕ} {w v : TableState} → Twins q w v → (s : ℕ) (c : Call) (party : Party) → is_slot q s ≡ false → IsNot q (sender_of_checked_call w s c party) → Twins q (table_after_checked_call w s c party) (table_after_checked_call v s c party)
checked_call_twins h s call.Send Any n m = h
checked_call_twins h s call.Send Hardware n m = h
checked_call_twins h s call.Send Clock n m = h
checked_call_twins h s call.Send System n m = h
checked_call_twins h s call.Send (Named d g) n m = send_twins h s d n
checked_call_twins h s call.Receive x n m = receive_twins h s (partner_of x) n m
checked_call_twins h s call.Sendrec Any n m = h
checked_call_twins h s call.Sendrec Hardware n m = h
checked_call_twins h s call.Sendrec Clock n m = h
checked_call_twins h s call.Sendrec System n m = h
checked_call_twins h s call.Sendrec (Named d g) n m = sendrec_twins h s d n m
checked_call_twins h s call.Notify Any n m = h
checked_call_twins h s call.Notify Hardware n m = h
checked_call_twins h s call.Notify Clock n m = h
checked_call_twins h s call.Notify System n m = h
checked_call_twins h s call.Notify (Named d g) n m = goes_on_twins (notifying_twins h (source.Slot s) d) s 0

-- ---- the six checks

-- what they read
abbrev checks_of : Masks → Bool → (ℕ → ℕ → Bool) → List (ℕ × ℕ) → ℕ → Call → Option Party → List (Bool × Errno)
checks_of m outside current waits s c party =
    (not (has_bit m.traps (call_number c)) || of_party party (to_pseudo c), Denied)
    ∷ (is_none party || of_party party (out_of_place c), BadEndpoint)
    ∷ (not (is_notify c) && outside, BadAddress)
    ∷ (of_process party (λ d g. not (is_receive c) && not (has_bit m.sends d)), Denied)
    ∷ (of_process party (λ d g. not (current d g)), Dead)
    ∷ (of_process party (λ d g. is_send c && ((d == s) || leads waits d s)), Locked)
    ∷ []

current_same : {q : ℕ} {w v : TableState} → Twins q w v → is_current w ≡ is_current v
current_same h = λ i d g. (ap (λ (p : Process). not (is_down p.state) && (p.generation == g)) (all_but_image_at h d)) i

pub call_refusal_same : {q : ℕ} {w v : TableState} → Twins q w v → (s : ℕ) (c : Call) (party : Option Party) → is_slot q s ≡ false → call_refusal w s c party ≡ call_refusal v s c party
unfolding call_refusal
call_refusal_same {q} {w} {v} h s c party n =
    ap (λ (p : Process). first_error (checks_of p.schedule.terms.masks (nat_lt (length p.image.memory) (p.image.regs.ebx + 36)) (is_current w) w.waits s c party)) (other_at h s n)
    ∙ ap (λ f. first_error (checks_of (process_at v s).schedule.terms.masks (is_outside v s) f w.waits s c party)) (current_same h)
    ∙ ap (λ x. first_error (checks_of (process_at v s).schedule.terms.masks (is_outside v s) (is_current v) x s c party)) (waits_of h)

party_same : {q : ℕ} {w v : TableState} → Twins q w v → (n : ℕ) → party_of w n ≡ party_of v n
unfolding party_of
party_same h n = ap (λ k. party_at k n) (slots_of h)
  where
    party_at : ℕ → ℕ → Option Party
    party_at k n =
        cond (n == 31438) (Some Any) (
        cond (n == 2 ^ 32 - 1) (Some Hardware) (
        cond (n == 2 ^ 32 - 2) (Some System) (
        cond (n == 2 ^ 32 - 3) (Some Clock) (
        cond (nat_lt n (2 ^ 31) && nat_lt (n % 1024) k) (Some (Named (n % 1024) (n / 1024))) None))))

-- ---- a trap

call_by_twins : {q : ℕ} {w v : TableState} → Twins q w v → (s : ℕ) (c : Call) (party : Option Party) (e : Option Errno) → is_slot q s ≡ false → IsNot q (sender_of_call w s c party e) → Twins q (table_after_call_by w s c party e) (table_after_call_by v s c party e)
call_by_twins h s c party (Some e) n m = goes_on_twins h s (errno_bits e)
call_by_twins h s c None None n m = h
call_by_twins h s c (Some party) None n m = checked_call_twins h s c party n m

call_twins : {q : ℕ} {w v : TableState} → Twins q w v → (s : ℕ) (c : Call) (k : ℕ) → is_slot q s ≡ false → IsNot q (sender_of_call w s c (party_of w k) (call_refusal w s c (party_of w k))) → Twins q (table_after_call w s c k) (table_after_call v s c k)
unfolding table_after_call
call_twins {q} {w} {v} h s c k n m =
    let first = call_by_twins h s c (party_of w k) (call_refusal w s c (party_of w k)) n m in
    subst (λ x. Twins q (table_after_call w s c k) (table_after_call_by v s c x (call_refusal v s c x))) (party_same h k)
    (subst (λ e. Twins q (table_after_call w s c k) (table_after_call_by v s c (party_of w k) e)) (call_refusal_same h s c (party_of w k) n) first)

trap_by_twins : {q : ℕ} {w v : TableState} → Twins q w v → (s : ℕ) (c : Option Call) (k : ℕ) → is_slot q s ≡ false → IsNot q (sender_of_trap w s c k) → Twins q (table_after_trap_by w s c k) (table_after_trap_by v s c k)
trap_by_twins h s None k n m = goes_on_twins h s (errno_bits Denied)
trap_by_twins h s (Some c) k n m = call_twins h s c k n m

pub trap_twins : {q : ℕ} {w v : TableState} → Twins q w v → (s : ℕ) → is_slot q s ≡ false → IsNot q (sender_of_trap w s (call_of (process_at w s).image.regs.ecx) (process_at w s).image.regs.eax) → Twins q (table_after_trap w s) (table_after_trap v s)
unfolding table_after_trap
trap_twins {q} {w} {v} h s n m =
    subst (λ (p : Process). Twins q (table_after_trap w s) (table_after_trap_by v s (call_of p.image.regs.ecx) p.image.regs.eax)) (other_at h s n)
    (trap_by_twins h s (call_of (process_at w s).image.regs.ecx) (process_at w s).image.regs.eax n m)

call_answer_same : {q : ℕ} {w v : TableState} → Twins q w v → (s : ℕ) (c : Option Call) (k : ℕ) → is_slot q s ≡ false → trap_answer_by w s c k ≡ trap_answer_by v s c k
unfolding call_answer
call_answer_same h s None k n = refl
call_answer_same {q} {w} {v} h s (Some c) k n =
    ap (λ e. call_answer_by c (party_of w k) e) (call_refusal_same h s c (party_of w k) n)
    ∙ ap (λ x. call_answer_by c x (call_refusal v s c x)) (party_same h k)

pub trap_answer_same : {q : ℕ} {w v : TableState} → Twins q w v → (s : ℕ) → is_slot q s ≡ false → trap_answer w s ≡ trap_answer v s
unfolding trap_answer
trap_answer_same {q} {w} {v} h s n =
    call_answer_same h s (call_of (process_at w s).image.regs.ecx) (process_at w s).image.regs.eax n
    ∙ ap (λ (p : Process). trap_answer_by v s (call_of p.image.regs.ecx) p.image.regs.eax) (other_at h s n)
