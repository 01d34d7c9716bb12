-- Slots that are shut: each of them waits for one of them, or for what never comes. A call of another keeps them.
use Rattle.std.proofs.Common.{◌≡◌, ◌∙◌, ℕ, zero, suc, ◌+◌, ◌-◌, ◌^◌, ◌%◌, ◌==◌, ◌<◌, Bool, true, false, cond, not, nat_le, ◌||◌, ◌&&◌, List, [], ◌∷◌, ◌++◌, length, map, filter, Option, Some, None, refl, sym, ap, subst, get_or, get_or-set_same, slice_get, inl, inr, ◌⊎◌, arith}
use Rattle.std.proofs.lemmas.Bool.{and_from, and_parts, both_ways, eqb-true, false≢true, not-false, or_parts, true≢false}
use Rattle.mx_proc.specs.declared.errors.Errno.{Errno}
use Rattle.mx_proc.specs.declared.errors.Errno.TheVariants.{Denied, Dead}
use Rattle.mx_proc.specs.declared.process.DeathCause.{DeathCause}
use Rattle.mx_proc.specs.declared.process.DeathCause.TheVariants as cause
use Rattle.mx_proc.specs.declared.process.Partner.{Partner}
use Rattle.mx_proc.specs.declared.process.Partner.TheVariants as partner
use Rattle.mx_proc.specs.declared.process.Process.{Process}
use Rattle.mx_proc.specs.declared.process.Source.{Source}
use Rattle.mx_proc.specs.declared.process.Source.TheVariants as source
use Rattle.mx_proc.specs.declared.process.State.{State}
use Rattle.mx_proc.specs.declared.process.Terms.{Terms}
use Rattle.mx_proc.specs.declared.process.State.TheVariants.{Home, Ready, Out, Doomed, Sending, Calling, Receiving, Awaiting, Down}
use Rattle.mx_proc.specs.EndpointNumbers.{slot_of}
use Rattle.mx_proc.specs.Errors.{errno_bits}
use Rattle.mx_proc.specs.Partners.{order_of_source}
use Rattle.mx_proc.specs.Serving.{table_after_forgetting}
use Rattle.mx_proc.specs.States.{is_out, is_ready, is_sending}
use Rattle.mx_proc.specs.TableState.{TableState, nobody, pending_source, process_at, table_after_delivery, table_after_notice, table_after_unblock, with_message}
use Rattle.mx_proc.specs.Waits.{IsPair, caller_of}
use Rattle.mx_proc.proofs.WaitLemmas.{pair_caller}
use Rattle.mx_word.specs.Bits.{has_bit}
use Rattle.mx_ipc.specs.declared.trap_calls.Call.{Call}
use Rattle.mx_ipc.specs.declared.trap_calls.Call.TheVariants as call
use Rattle.mx_ipc.specs.declared.trap_calls.Party.{Party}
use Rattle.mx_ipc.specs.declared.trap_calls.Party.TheVariants.{Any, Hardware, Clock, System, Process as Named}
use Rattle.mx_ipc.specs.Checks.{call_of, call_refusal, checks, first_error, is_receive, party_of}
use Rattle.mx_kcall.specs.Calls.{accepts, goes_on, hears, partner_of, table_after_call, table_after_call_by, table_after_checked_call, table_after_notifying, table_after_receive, table_after_receive_by, table_after_release, table_after_send, table_after_sendrec, table_after_taking, table_after_taking_from, table_after_trap, table_after_trap_by}
use Rattle.mx_kcall.specs.Death.{callers, receivers, receives_from_alone, table_after_death, table_after_freeing, table_after_freeing_all, table_after_taking_out, waiting_for}
use Rattle.mx_kcall.specs.Effects.{Effect, table_after_effect}
use Rattle.mx_kcall.specs.Effects.Effect.{Nothing, SetsAlarm, SetsOwner, WritesConsole, SetsRegister, Copies, Kills, SetsWindow}
use Rattle.mx_kcall.specs.Known.{Known, known}
use Rattle.mx_kcall.specs.Refusals.{kernel_call_refusal, owner_of}
use Rattle.mx_kcall.specs.Requests.{kernel_call_under, message_words_at, no_reply_words, reply_bytes}
use Rattle.mx_kcall.specs.Respawn.{is_worn}
use Rattle.mx_kcall.specs.Service.{Service}
use Rattle.mx_kcall.specs.Serving.{effect_of, ends_caller, table_after_change, table_after_kernel_call, table_after_kernel_call_by, table_after_reply, table_after_serving, words_of_reply}
use Rattle.mx_kcall.specs.declared.request.KernelCall.{KernelCall}
use Rattle.mx_kcall.specs.declared.request.KernelCall.TheVariants as request
use Rattle.mx_kcall.specs.declared.request.ReplyWords.{ReplyWords}
use Rattle.mx_why.proofs.Kept.{Keeps, keeps_alarm, keeps_all, keeps_block, keeps_burial, keeps_copy, keeps_delivery, keeps_dequeue, keeps_either, keeps_forgetting, keeps_goes_on, keeps_message, keeps_notice, keeps_owner, keeps_pending, keeps_rest, keeps_state, keeps_then, keeps_unblock, keeps_window, then_goes_on}

-- ---- shut

-- by its masks the process of a slot may send to another, or notify it
abbrev pub may_send_to : TableState → ℕ → ℕ → Bool
may_send_to t s d =
    let m = (process_at t s).schedule.terms.masks in
    has_bit m.sends d && (has_bit m.traps 1 || has_bit m.traps 3 || has_bit m.traps 4)

abbrev pub OwnsNone : TableState → ℕ → Type 0
OwnsNone t p = (l : ℕ) → owner_of t l ≡ Some p → ⊥

-- Whoever may send to it is of C, and it has neither a line nor an alarm.
pub record HearsNobody (C : ℕ → Type 0) (t : TableState) (p : ℕ) : Type 0 where
  pub lines : OwnsNone t p
  pub alarm : (process_at t p).alarm ≡ None
  pub senders : (q : ℕ) → (C q → ⊥) → q < length t.slots → may_send_to t q p ≡ false

-- a process of C that does this waits for one of C, or for what never comes; or no new one comes to its slot
abbrev pub IsShut : (ℕ → Type 0) → List Service → TableState → ℕ → State → Type 0
IsShut C vs t p Home = ⊥
IsShut C vs t p Ready = ⊥
IsShut C vs t p Out = ⊥
IsShut C vs t p Doomed = ⊥
IsShut C vs t p Sending = Unit {0}
IsShut C vs t p Calling = Unit {0}
IsShut C vs t p (Receiving partner.Any) = HearsNobody C t p
IsShut C vs t p (Receiving partner.System) = Unit {0}
IsShut C vs t p (Receiving (partner.Only source.Hardware)) = OwnsNone t p
IsShut C vs t p (Receiving (partner.Only source.Clock)) = (process_at t p).alarm ≡ None
IsShut C vs t p (Receiving (partner.Only (source.Slot q))) = C q
IsShut C vs t p (Awaiting q) = C q
IsShut C vs t p (Down c) = (v : Service) → slice_get vs p ≡ Some v → is_worn (process_at t p) v ≡ true

-- All slots of C are.
pub record Shut (C : ℕ → Type 0) (vs : List Service) (t : TableState) : Type 0 where
  pub each : (p : ℕ) → C p → IsShut C vs t p (process_at t p).state
  pub pairs : (p q : ℕ) → IsPair t.waits p q → C p → C q

shut_state : (C : ℕ → Type 0) (vs : List Service) (t u : TableState) (p : ℕ) (st : State) → Keeps C t u → C p → IsShut C vs t p st → IsShut C vs u p st
shut_state C vs t u p Home k c h = h
shut_state C vs t u p Ready k c h = h
shut_state C vs t u p Out k c h = h
shut_state C vs t u p Doomed k c h = h
shut_state C vs t u p Sending k c h = h
shut_state C vs t u p Calling k c h = h
shut_state C vs t u p (Receiving partner.Any) k c h = record {
  lines = λ l e. h.lines l (k.owned p l c e);
  alarm = k.alarm p c h.alarm;
  senders = λ q n lies.
      ap (λ (m : Terms). has_bit m.masks.sends p && (has_bit m.masks.traps 1 || has_bit m.masks.traps 3 || has_bit m.masks.traps 4)) (k.terms q)
      ∙ h.senders q n (subst (λ i. q < i) k.long lies);
}
shut_state C vs t u p (Receiving partner.System) k c h = h
shut_state C vs t u p (Receiving (partner.Only source.Hardware)) k c h = λ l e. h l (k.owned p l c e)
shut_state C vs t u p (Receiving (partner.Only source.Clock)) k c h = k.alarm p c h
shut_state C vs t u p (Receiving (partner.Only (source.Slot q))) k c h = h
shut_state C vs t u p (Awaiting q) k c h = h
shut_state C vs t u p (Down x) k c h = λ v at.
    ap (λ (y : State × ℕ × ℕ). nat_le v.terms.restarts y.2 || nat_le (2 ^ 20 - 1) y.1) (k.inside p c) ∙ h v at

pub shut_on : (C : ℕ → Type 0) (vs : List Service) (t u : TableState) → Shut C vs t → Keeps C t u → Shut C vs u
shut_on C vs t u h k = record {
  each = λ p c. subst (IsShut C vs u p) (sym (ap (λ (y : State × ℕ × ℕ). y.0) (k.inside p c))) (shut_state C vs t u p (process_at t p).state k c (h.each p c));
  pairs = λ p q e c. h.pairs p q (k.pairs p q c e) c;
}

pub shut_stays : (C : ℕ → Type 0) (vs : List Service) (t : TableState) (p : ℕ) (st : State) → IsShut C vs t p st → (is_out st ≡ false) × (is_ready st ≡ false)
shut_stays C vs t p Home h = absurd h
shut_stays C vs t p Ready h = absurd h
shut_stays C vs t p Out h = absurd h
shut_stays C vs t p Doomed h = absurd h
shut_stays C vs t p Sending h = (refl, refl)
shut_stays C vs t p Calling h = (refl, refl)
shut_stays C vs t p (Receiving x) h = (refl, refl)
shut_stays C vs t p (Awaiting q) h = (refl, refl)
shut_stays C vs t p (Down c) h = (refl, refl)

-- none at all
abbrev pub NoSlot : ℕ → Type 0
NoSlot p = ⊥

pub none_shut : (vs : List Service) (t : TableState) → Shut NoSlot vs t
none_shut vs t = record { each = λ p c. absurd c; pairs = λ p q h c. absurd c }

-- ---- checks

some_none : {X : Type 0} {x : X} → Some x ≡ None → ⊥
some_none e = cc

abbrev pub AllFail : List (Bool × Errno) → Type 0
AllFail [] = Unit {0}
AllFail (x ∷ xs) = (x.0 ≡ false) × AllFail xs

pub none_fails : (xs : List (Bool × Errno)) → first_error xs ≡ None → AllFail xs
none_fails [] h = tt
none_fails (x ∷ xs) h = let k = by_bool x.0 h in (k.0, none_fails xs k.1)
  where
    by_bool : (b : Bool) → cond b (Some x.1) (first_error xs) ≡ None → (b ≡ false) × (first_error xs ≡ None)
    by_bool true e = absurd (some_none e)
    by_bool false e = (refl, e)

first_true : (a b c : Bool) → a ≡ true → (a || b || c) ≡ true
first_true true b c e = refl
first_true false b c e = absurd (false≢true e)

second_true : (a b c : Bool) → b ≡ true → (a || b || c) ≡ true
second_true true b c e = refl
second_true false true c e = refl
second_true false false c e = absurd (false≢true e)

third_true : (a b c : Bool) → c ≡ true → (a || b || c) ≡ true
third_true true b c e = refl
third_true false true c e = refl
third_true false false true e = refl
third_true false false false e = absurd (false≢true e)

-- a call that names a process, and isn't a RECEIVE, is by the masks
named_masks : (t : TableState) (s : ℕ) (c : Call) (d g : ℕ) → call_refusal t s c (Some (Named d g)) ≡ None → is_receive c ≡ false → may_send_to t s d ≡ true
unfolding call_refusal
named_masks t s call.Send d g h e =
    let m = (process_at t s).schedule.terms.masks in
    let k = none_fails (checks t s call.Send (Some (Named d g))) h in
    and_from _ _ (not-false _ k.1.1.1.0) (first_true (has_bit m.traps 1) (has_bit m.traps 3) (has_bit m.traps 4) (not-false _ (or_parts _ _ k.0).0))
named_masks t s call.Receive d g h e = absurd (true≢false e)
named_masks t s call.Sendrec d g h e =
    let m = (process_at t s).schedule.terms.masks in
    let k = none_fails (checks t s call.Sendrec (Some (Named d g))) h in
    and_from _ _ (not-false _ k.1.1.1.0) (second_true (has_bit m.traps 1) (has_bit m.traps 3) (has_bit m.traps 4) (not-false _ (or_parts _ _ k.0).0))
named_masks t s call.Notify d g h e =
    let m = (process_at t s).schedule.terms.masks in
    let k = none_fails (checks t s call.Notify (Some (Named d g))) h in
    and_from _ _ (not-false _ k.1.1.1.0) (third_true (has_bit m.traps 1) (has_bit m.traps 3) (has_bit m.traps 4) (not-false _ (or_parts _ _ k.0).0))

-- ---- messages of a process that isn't of C

keeps_release : (C : ℕ → Type 0) (t : TableState) (s q : ℕ) (st : State) → (C q → ⊥) → Keeps C t (table_after_release t s q st)
unfolding table_after_release
keeps_release C t s q Calling m = keeps_then C t (table_after_unblock t q) _ (keeps_unblock C t q m) (keeps_state C (table_after_unblock t q) q m (Awaiting s))
keeps_release C t s q Home m = then_goes_on C t (table_after_unblock t q) q 0 m (keeps_unblock C t q m)
keeps_release C t s q Ready m = then_goes_on C t (table_after_unblock t q) q 0 m (keeps_unblock C t q m)
keeps_release C t s q Out m = then_goes_on C t (table_after_unblock t q) q 0 m (keeps_unblock C t q m)
keeps_release C t s q Doomed m = then_goes_on C t (table_after_unblock t q) q 0 m (keeps_unblock C t q m)
keeps_release C t s q Sending m = then_goes_on C t (table_after_unblock t q) q 0 m (keeps_unblock C t q m)
keeps_release C t s q (Receiving x) m = then_goes_on C t (table_after_unblock t q) q 0 m (keeps_unblock C t q m)
keeps_release C t s q (Awaiting x) m = then_goes_on C t (table_after_unblock t q) q 0 m (keeps_unblock C t q m)
keeps_release C t s q (Down x) m = then_goes_on C t (table_after_unblock t q) q 0 m (keeps_unblock C t q m)

keeps_taking_from : (C : ℕ → Type 0) (t : TableState) (s : ℕ) (st : State) (o : Option ℕ) → (C s → ⊥) → ((q : ℕ) → o ≡ Some q → C q → ⊥) → Keeps C t (table_after_taking_from t s st o)
keeps_taking_from C t s st None n m = keeps_state C t s n st
keeps_taking_from C t s st (Some q) n m =
    let v = table_after_delivery t q s in
    then_goes_on C t (table_after_release v s q (process_at t q).state) s 0 n
    (keeps_then C t v _ (keeps_delivery C t s q) (keeps_release C v s q (process_at t q).state (m q refl)))

keeps_taking : (C : ℕ → Type 0) (vs : List Service) (t : TableState) (s : ℕ) (p : Partner) (st : State) → Shut C vs t → (C s → ⊥) → Keeps C t (table_after_taking t s p st)
unfolding table_after_taking
keeps_taking C vs t s p st h n = keeps_taking_from C t s st (caller_of s p t.waits) n (λ q e c. n (h.pairs q s (pair_caller t.waits s q p e) c))

pub keeps_notifying : (C : ℕ → Type 0) (t : TableState) (x : Source) (d : ℕ) → (hears (process_at t d).state x ≡ true → C d → ⊥) → Keeps C t (table_after_notifying t x d)
unfolding table_after_notifying
keeps_notifying C t x d m =
    keeps_either C t _ _ (hears (process_at t d).state x)
    (λ e. then_goes_on C t (table_after_notice t d x) d 0 (m e) (keeps_notice C t d x))
    (λ e. keeps_pending C t d (order_of_source x) true)

module _ (C : ℕ → Type 0) (vs : List Service) (t : TableState) (s : ℕ) (h : Shut C vs t) (n : C s → ⊥) (lies : s < length t.slots) where
  accepting : (d : ℕ) (st : State) → IsShut C vs t d st → accepts st s ≡ true → may_send_to t s d ≡ true → ⊥
  accepting d Home k a m = k
  accepting d Ready k a m = k
  accepting d Out k a m = k
  accepting d Doomed k a m = k
  accepting d Sending k a m = false≢true a
  accepting d Calling k a m = false≢true a
  accepting d (Receiving partner.Any) k a m = both_ways _ (k.senders s n lies) m
  accepting d (Receiving partner.System) k a m = false≢true a
  accepting d (Receiving (partner.Only source.Hardware)) k a m = omega (arith, eqb-true 0 (2 + s) a)
  accepting d (Receiving (partner.Only source.Clock)) k a m = omega (arith, eqb-true 1 (2 + s) a)
  accepting d (Receiving (partner.Only (source.Slot q))) k a m = let e : q ≡ s = omega (arith, eqb-true (2 + q) (2 + s) a) in n (subst C e k)
  accepting d (Awaiting q) k a m = n (subst C (eqb-true q s a) k)
  accepting d (Down c) k a m = false≢true a

  hearing : (d : ℕ) (st : State) → IsShut C vs t d st → hears st (source.Slot s) ≡ true → may_send_to t s d ≡ true → ⊥
  hearing d Home k a m = k
  hearing d Ready k a m = k
  hearing d Out k a m = k
  hearing d Doomed k a m = k
  hearing d Sending k a m = false≢true a
  hearing d Calling k a m = false≢true a
  hearing d (Receiving p) k a m = accepting d (Receiving p) k a m
  hearing d (Awaiting q) k a m = false≢true a
  hearing d (Down c) k a m = false≢true a

  keeps_asking : (d : ℕ) → accepts (process_at t d).state s ≡ true → may_send_to t s d ≡ true → Keeps C t (goes_on (table_after_delivery t s d) d 0)
  keeps_asking d a m = then_goes_on C t (table_after_delivery t s d) d 0 (λ c. accepting d (process_at t d).state (h.each d c) a m) (keeps_delivery C t d s)

  keeps_send : (d : ℕ) → may_send_to t s d ≡ true → Keeps C t (table_after_send t s d)
  unfolding table_after_send
  keeps_send d m =
      keeps_either C t _ _ (accepts (process_at t d).state s)
      (λ a. then_goes_on C t (goes_on (table_after_delivery t s d) d 0) s 0 n (keeps_asking d a m))
      (λ a. keeps_block C t s n d Sending)

  keeps_sendrec : (d : ℕ) → may_send_to t s d ≡ true → Keeps C t (table_after_sendrec t s d)
  unfolding table_after_sendrec
  keeps_sendrec d m =
      let v = goes_on (table_after_delivery t s d) d 0 in
      keeps_either C t _ _ (accepts (process_at t d).state s)
      (λ a. keeps_then C t v _ (keeps_asking d a m) (keeps_taking C vs v s (partner.Only (source.Slot d)) (Awaiting d) (shut_on C vs t v h (keeps_asking d a m)) n))
      (λ a. keeps_block C t s n d Calling)

  keeps_receive_by : (p : Partner) (o : Option Source) → Keeps C t (table_after_receive_by t s p o)
  keeps_receive_by p None = keeps_taking C vs t s p (Receiving p) h n
  keeps_receive_by p (Some x) = then_goes_on C t (table_after_notice t s x) s 0 n (keeps_notice C t s x)

  keeps_receive : (p : Partner) → Keeps C t (table_after_receive t s p)
  unfolding table_after_receive
  keeps_receive p = keeps_receive_by p (pending_source t s p)

  keeps_checked_call : (c : Call) (x : Party) → call_refusal t s c (Some x) ≡ None → Keeps C t (table_after_checked_call t s c x)
  keeps_checked_call call.Send Any e = keeps_all C t
  keeps_checked_call call.Send Hardware e = keeps_all C t
  keeps_checked_call call.Send Clock e = keeps_all C t
  keeps_checked_call call.Send System e = keeps_all C t
  keeps_checked_call call.Send (Named d g) e = keeps_send d (named_masks t s call.Send d g e refl)
  keeps_checked_call call.Receive x e = keeps_receive (partner_of x)
  keeps_checked_call call.Sendrec Any e = keeps_all C t
  keeps_checked_call call.Sendrec Hardware e = keeps_all C t
  keeps_checked_call call.Sendrec Clock e = keeps_all C t
  keeps_checked_call call.Sendrec System e = keeps_all C t
  keeps_checked_call call.Sendrec (Named d g) e = keeps_sendrec d (named_masks t s call.Sendrec d g e refl)
  keeps_checked_call call.Notify Any e = keeps_all C t
  keeps_checked_call call.Notify Hardware e = keeps_all C t
  keeps_checked_call call.Notify Clock e = keeps_all C t
  keeps_checked_call call.Notify System e = keeps_all C t
  keeps_checked_call call.Notify (Named d g) e =
      then_goes_on C t (table_after_notifying t (source.Slot s) d) s 0 n
      (keeps_notifying C t (source.Slot s) d (λ a c. hearing d (process_at t d).state (h.each d c) a (named_masks t s call.Notify d g e refl)))

  keeps_call_by : (c : Call) (x : Option Party) (e : Option Errno) → call_refusal t s c x ≡ e → Keeps C t (table_after_call_by t s c x e)
  keeps_call_by c x (Some e) is = keeps_goes_on C t s (errno_bits e) n
  keeps_call_by c None None is = keeps_all C t
  keeps_call_by c (Some x) None is = keeps_checked_call c x is

  keeps_trap_by : (c : Option Call) (k : ℕ) → Keeps C t (table_after_trap_by t s c k)
  unfolding table_after_call
  keeps_trap_by None k = keeps_goes_on C t s (errno_bits Denied) n
  keeps_trap_by (Some c) k = keeps_call_by c (party_of t k) (call_refusal t s c (party_of t k)) refl

  pub keeps_trap : Keeps C t (table_after_trap t s)
  unfolding table_after_trap
  keeps_trap = keeps_trap_by (call_of (process_at t s).image.regs.ecx) (process_at t s).image.regs.eax

-- ---- a death of one that isn't of C

abbrev pub AllOut : (ℕ → Type 0) → List ℕ → Type 0
AllOut C [] = Unit {0}
AllOut C (p ∷ ps) = (C p → ⊥) × AllOut C ps

out_append : (C : ℕ → Type 0) (xs ys : List ℕ) → AllOut C xs → AllOut C ys → AllOut C (xs ++ ys)
out_append C [] ys h k = k
out_append C (x ∷ xs) ys h k = (h.0, out_append C xs ys h.1 k)

out_callers : (C : ℕ → Type 0) (s : ℕ) (pairs : List (ℕ × ℕ)) → ((p q : ℕ) → IsPair pairs p q → C p → C q) → (C s → ⊥) → AllOut C (callers s pairs)
out_callers C s [] h n = tt
out_callers C s (x ∷ xs) h n = by_bool (x.1 == s) refl (out_callers C s xs (λ p q k. h p q (inr k)) n)
  where
    by_bool : (b : Bool) → (x.1 == s) ≡ b → AllOut C (callers s xs) → AllOut C (map (λ (p : ℕ × ℕ). p.0) (cond b (x ∷ filter (λ (p : ℕ × ℕ). p.1 == s) xs) (filter (λ (p : ℕ × ℕ). p.1 == s) xs)))
    by_bool true e k = (λ c. n (subst C (eqb-true x.1 s e) (h x.0 x.1 (inl (refl, refl)) c)), k)
    by_bool false e k = k

out_receivers : (C : ℕ → Type 0) (s k : ℕ) (ps : List Process) → ((i : ℕ) → receives_from_alone (get_or ps i nobody).state s ≡ true → C (k + i) → ⊥) → AllOut C (receivers s k ps)
out_receivers C s k [] h = tt
out_receivers C s k (p ∷ ps) h =
    by_bool (not (k == s) && receives_from_alone p.state s) refl
    (out_receivers C s (k + 1) ps (λ i e c. let same : k + 1 + i ≡ k + suc i = omega arith in h (suc i) e (subst C same c)))
  where
    by_bool : (b : Bool) → (not (k == s) && receives_from_alone p.state s) ≡ b → AllOut C (receivers s (k + 1) ps) → AllOut C (cond b (k ∷ receivers s (k + 1) ps) (receivers s (k + 1) ps))
    by_bool true e r = let same : k ≡ k + zero = omega arith in (λ c. h zero (and_parts (not (k == s)) (receives_from_alone p.state s) e).1 (subst C same c), r)
    by_bool false e r = r

alone_shut : (C : ℕ → Type 0) (vs : List Service) (t : TableState) (s p : ℕ) (st : State) → IsShut C vs t p st → receives_from_alone st s ≡ true → C s
alone_shut C vs t s p Home h e = absurd h
alone_shut C vs t s p Ready h e = absurd h
alone_shut C vs t s p Out h e = absurd h
alone_shut C vs t s p Doomed h e = absurd h
alone_shut C vs t s p Sending h e = absurd (false≢true e)
alone_shut C vs t s p Calling h e = absurd (false≢true e)
alone_shut C vs t s p (Receiving partner.Any) h e = absurd (false≢true e)
alone_shut C vs t s p (Receiving partner.System) h e = absurd (false≢true e)
alone_shut C vs t s p (Receiving (partner.Only source.Hardware)) h e = absurd (false≢true e)
alone_shut C vs t s p (Receiving (partner.Only source.Clock)) h e = absurd (false≢true e)
alone_shut C vs t s p (Receiving (partner.Only (source.Slot f))) h e = subst C (eqb-true f s e) h
alone_shut C vs t s p (Awaiting f) h e = subst C (eqb-true f s e) h
alone_shut C vs t s p (Down c) h e = absurd (false≢true e)

waiting_out : (C : ℕ → Type 0) (vs : List Service) (t : TableState) (s : ℕ) → Shut C vs t → (C s → ⊥) → AllOut C (waiting_for t s)
waiting_out C vs t s h n =
    out_append C (callers s t.waits) (receivers s 0 t.slots) (out_callers C s t.waits h.pairs n)
    (out_receivers C s 0 t.slots (λ i e c. let same : 0 + i ≡ i = omega arith in n (alone_shut C vs t s i (process_at t i).state (h.each i (subst C same c)) e)))

keeps_taking_out : (C : ℕ → Type 0) (t : TableState) (s : ℕ) → (C s → ⊥) → Keeps C t (table_after_taking_out t s)
unfolding table_after_taking_out
keeps_taking_out C t s n =
    keeps_either C t _ _ (is_ready (process_at t s).state) (λ e. keeps_dequeue C t s n)
    (λ e. keeps_either C t _ _ (is_sending (process_at t s).state) (λ f. keeps_unblock C t s n) (λ f. keeps_all C t))

keeps_freeing_all : (C : ℕ → Type 0) (ps : List ℕ) (t : TableState) → AllOut C ps → Keeps C t (table_after_freeing_all t ps)
keeps_freeing_all C [] t h = keeps_all C t
keeps_freeing_all C (p ∷ ps) t h =
    keeps_then C t (table_after_freeing t p) _ (then_goes_on C t (table_after_taking_out t p) p (errno_bits Dead) h.0 (keeps_taking_out C t p h.0))
    (keeps_freeing_all C ps (table_after_freeing t p) h.1)

-- just before the burial
abbrev before_burial : TableState → ℕ → TableState
before_burial t s = let left = table_after_taking_out t s in table_after_forgetting (table_after_freeing_all left (waiting_for left s)) s

keeps_before_burial : (C : ℕ → Type 0) (vs : List Service) (t : TableState) (s : ℕ) → Shut C vs t → (C s → ⊥) → Keeps C t (before_burial t s)
keeps_before_burial C vs t s h n =
    let left = table_after_taking_out t s in
    let all = table_after_freeing_all left (waiting_for left s) in
    let first = keeps_taking_out C t s n in
    let second = keeps_freeing_all C (waiting_for left s) left (waiting_out C vs left s (shut_on C vs t left h first) n) in
    keeps_then C t all _ (keeps_then C t left all first second) (keeps_forgetting C all s)

pub keeps_death : (C : ℕ → Type 0) (vs : List Service) (t : TableState) (s : ℕ) (x : DeathCause) → Shut C vs t → (C s → ⊥) → Keeps C t (table_after_death t s x)
unfolding table_after_death
keeps_death C vs t s x h n = keeps_then C t (before_burial t s) _ (keeps_before_burial C vs t s h n) (keeps_burial C (before_burial t s) s n x)

-- who dies is down then
pub death_down : (t : TableState) (s : ℕ) (x : DeathCause) → s < length t.slots → (process_at (table_after_death t s x) s).state ≡ Down x
unfolding table_after_death
death_down t s x lies =
    let v = before_burial t s in
    let room : s < length v.slots = subst (λ i. s < i) (sym (keeps_before_burial NoSlot [] t s (none_shut [] t) (λ c. c)).long) lies in
    ap (λ (p : Process). p.state) (get_or-set_same v.slots s _ nobody room)

-- ---- a kernel call of one that isn't of C

-- a line's owner is nobody or the caller
abbrev IsOwn : ℕ → Effect → Type 0
IsOwn s (SetsOwner l o) = (o ≡ None) ⊎ (o ≡ Some s)
IsOwn s _ = Unit {0}

own_effect : (k : Known) (s : ℕ) (r : KernelCall) → IsOwn s (effect_of k s r)
own_effect k s request.Exit = tt
own_effect k s request.Times = tt
own_effect k s (request.SetAlarm delay) = tt
own_effect k s (request.Irqctl action line) = by_bool (action == 1)
  where
    by_bool : (b : Bool) → (cond b (Some s) None ≡ None) ⊎ (cond b (Some s) None ≡ Some s)
    by_bool true = inr refl
    by_bool false = inl refl
own_effect k s (request.Devio action register value) = by_bools (action == 0) (register == 0)
  where
    by_bools : (a b : Bool) → IsOwn s (cond a Nothing (cond b (WritesConsole (value % 256)) (SetsRegister register value)))
    by_bools true b = tt
    by_bools false true = tt
    by_bools false false = tt
own_effect k s (request.Vircopy copy) = tt
own_effect k s (request.Kill endpoint) = tt
own_effect k s (request.Whois slot) = tt
own_effect k s (request.Grant grant) = tt

-- what a call kills isn't of C
abbrev pub Spares : (ℕ → Type 0) → Effect → Type 0
Spares C x = (d : ℕ) → x ≡ Kills d → C d → ⊥

pub keeps_reply : (C : ℕ → Type 0) (t : TableState) (s r : ℕ) (a : ReplyWords) → (C s → ⊥) → Keeps C t (table_after_reply t s r a)
unfolding table_after_reply
keeps_reply C t s r a n = then_goes_on C t (with_message t s (reply_bytes r a)) s 0 n (keeps_message C t s (reply_bytes r a))

module _ (C : ℕ → Type 0) (vs : List Service) (t : TableState) (s : ℕ) (h : Shut C vs t) (n : C s → ⊥) where
  keeps_effect : (x : Effect) → IsOwn s x → Spares C x → Keeps C t (table_after_effect t s x)
  keeps_effect Nothing own spares = keeps_all C t
  keeps_effect (SetsAlarm due) own spares = keeps_alarm C t s due n
  keeps_effect (SetsOwner l o) own spares = keeps_owner C t s n l o own
  keeps_effect (WritesConsole byte) own spares = keeps_rest C t _ refl refl refl
  keeps_effect (SetsRegister register value) own spares = keeps_rest C t _ refl refl refl
  keeps_effect (Copies copy) own spares =
      keeps_copy C t (slot_of copy.target.endpoint) (slot_of copy.source.endpoint) copy.source.offset copy.target.offset copy.count
  keeps_effect (Kills d) own spares = keeps_death C vs t d cause.Kill h (spares d refl)
  keeps_effect (SetsWindow user window) own spares = keeps_window C t s user window

  keeps_serving : (r : KernelCall) → (ends_caller s r ≡ false → Spares C (effect_of (known t s) s r)) → Keeps C t (table_after_serving t s r)
  unfolding table_after_serving
  keeps_serving r spares =
      let v = table_after_change t s r in
      keeps_either C t _ _ (ends_caller s r) (λ e. keeps_death C vs t s cause.Exit h n)
      (λ e. keeps_then C t v _ (keeps_effect (effect_of (known t s) s r) (own_effect (known t s) s r) (spares e)) (keeps_reply C v s 0 (words_of_reply t s r) n))

  keeps_kernel_call_by : (r : Option KernelCall) (e : Option Errno)
      → ((q : KernelCall) → r ≡ Some q → e ≡ None → ends_caller s q ≡ false → Spares C (effect_of (known t s) s q)) → Keeps C t (table_after_kernel_call_by t s r e)
  keeps_kernel_call_by r (Some e) spares = keeps_reply C t s (errno_bits e) no_reply_words n
  keeps_kernel_call_by None None spares = keeps_all C t
  keeps_kernel_call_by (Some r) None spares = keeps_serving r (spares r refl refl)

  pub keeps_kernel_call : ((q : KernelCall) → kernel_call_under t.rules (message_words_at t s) ≡ Some q → kernel_call_refusal t s ≡ None → ends_caller s q ≡ false
      → Spares C (effect_of (known t s) s q)) → Keeps C t (table_after_kernel_call t s)
  unfolding table_after_kernel_call
  keeps_kernel_call spares = keeps_kernel_call_by (kernel_call_under t.rules (message_words_at t s)) (kernel_call_refusal t s) spares
