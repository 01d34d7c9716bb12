-- Who gets a message by a call is whom it makes a delivery to.
use Rattle.std.proofs.Common.{◌≡◌, ◌≢◌, ◌∙◌, ℕ, zero, suc, ◌+◌, ◌*◌, ◌<◌, ◌≤◌, ◌%◌, ◌==◌, ◌&&◌, ◌||◌, Bool, true, false, cond, List, [], ◌∷◌, ◌++◌, length, Option, Some, None, refl, sym, ap, subst, get_or, arith}
use Rattle.std.proofs.lemmas.Bool.{eq-eqb, eqb-true, ne_eqb}
use Rattle.std.proofs.lemmas.Nat.{mod-mul-add}
use Rattle.mx_mem.specs.Segment.{part}
use Rattle.mx_proc.specs.declared.errors.Errno.{Errno}
use Rattle.mx_proc.specs.declared.errors.Errno.TheVariants.{NotPermitted, BadAddress, Invalid, Locked, BadEndpoint, Denied, Dead, NotReady, BadRequest}
use Rattle.mx_proc.specs.declared.deliveries.Delivery.{Delivery}
use Rattle.mx_proc.specs.declared.process.Partner.{Partner}
use Rattle.mx_proc.specs.declared.process.Partner.TheVariants as partner
use Rattle.mx_proc.specs.declared.process.Process.{Process}
use Rattle.mx_proc.specs.declared.process.Source.{Source}
use Rattle.mx_proc.specs.declared.process.Source.TheVariants as source
use Rattle.mx_proc.specs.declared.process.State.{State}
use Rattle.mx_proc.specs.declared.process.State.TheVariants.{Home, Ready, Out, Doomed, Sending, Calling, Receiving, Awaiting, Down}
use Rattle.mx_proc.specs.Errors.{errno_bits}
use Rattle.mx_proc.specs.States.{is_sending}
use Rattle.mx_proc.specs.TableState.{TableState, memory_at, message_of, nobody, pending_source, process_at}
use Rattle.mx_proc.specs.Waits.{caller_of}
use Rattle.mx_ipc.specs.declared.trap_calls.Call.{Call}
use Rattle.mx_ipc.specs.declared.trap_calls.Call.TheVariants as call
use Rattle.mx_ipc.specs.declared.trap_calls.Party.{Party}
use Rattle.mx_ipc.specs.declared.trap_calls.Party.TheVariants.{Any, Hardware, Clock, System, Process as Named}
use Rattle.mx_ipc.specs.Checks.{call_of, party_of, call_refusal}
use Rattle.mx_kcall.specs.Calls.{accepts, call_answer, hears, partner_of, trap_answer, trap_answer_by}
use Rattle.mx_kcall.specs.Death.{table_after_taking_out, waiting_for}
use Rattle.mx_kcall.specs.Refusals.{kernel_call_refusal}
use Rattle.mx_kcall.specs.Requests.{kernel_call_under, message_words_at, no_reply_words, reply_bytes}
use Rattle.mx_kcall.specs.Effects.{Effect}
use Rattle.mx_kcall.specs.Effects.Effect.{Copies, Kills}
use Rattle.mx_kcall.specs.Known.{known}
use Rattle.mx_kcall.specs.Serving.{effect_of, ends_caller, words_of_reply}
use Rattle.mx_kcall.specs.TrapAnswer.{TrapAnswer}
use Rattle.mx_kcall.specs.TrapAnswer.TheVariants as trap_ends
use Rattle.mx_kcall.specs.declared.request.KernelCall.{KernelCall}
use Rattle.mx_kcall.specs.declared.request.ReplyWords.{ReplyWords}
use Rattle.mx_laws.specs.Diary.{Item, items_for}
use Rattle.mx_laws.specs.Diary.Item.{Ran, Result, Message, Copy}
use Rattle.mx_laws.specs.Entries.{is_receiving}
use Rattle.mx_laws.specs.Items.{bytes_of_notice, items_of_call, items_of_effect, items_of_checked_call, items_of_death, items_of_freeing, items_of_kernel_call, items_of_notifying, items_of_receive, items_of_release, items_of_reply, items_of_send, items_of_sendrec, items_of_taking, items_of_trap, items_of_trap_by}
use Rattle.mx_look.specs.Going.{is_zero}
use Rattle.mx_laws.specs.Made.{slot_to}
use Rattle.mx_laws.specs.Told.{result_after, result_written}
use Rattle.mx_laws.proofs.Keeping.{made_of_call, made_of_checked_call, made_of_notifying, made_of_receive, made_of_send, made_of_sendrec, made_of_taking, made_of_trap, made_of_trap_by, message_made, notice_made, table_after_asking}
use Rattle.mx_laws.proofs.Latest.{is_to}
use Rattle.mx_laws.proofs.ReadyCalls.{and_false, asking_caller, IsQueued, sending_caller}

true_false : {b : Bool} → b ≡ true → b ≡ false → ⊥
true_false e f = cc

-- ---- states

pub accepts_receiving : (st : State) (s : ℕ) → accepts st s ≡ true → is_receiving st ≡ true
accepts_receiving Home s h = cc
accepts_receiving Ready s h = cc
accepts_receiving Out s h = cc
accepts_receiving Doomed s h = cc
accepts_receiving Sending s h = cc
accepts_receiving Calling s h = cc
accepts_receiving (Receiving p) s h = refl
accepts_receiving (Awaiting d) s h = refl
accepts_receiving (Down c) s h = cc

pub hears_receiving : (st : State) (x : Source) → hears st x ≡ true → is_receiving st ≡ true
hears_receiving Home x h = cc
hears_receiving Ready x h = cc
hears_receiving Out x h = cc
hears_receiving Doomed x h = cc
hears_receiving Sending x h = cc
hears_receiving Calling x h = cc
hears_receiving (Receiving p) x h = refl
hears_receiving (Awaiting d) x h = cc
hears_receiving (Down c) x h = cc

sending_deaf : (st : State) → is_sending st ≡ true → is_receiving st ≡ false
sending_deaf Home h = cc
sending_deaf Ready h = cc
sending_deaf Out h = cc
sending_deaf Doomed h = cc
sending_deaf Sending h = refl
sending_deaf Calling h = refl
sending_deaf (Receiving p) h = cc
sending_deaf (Awaiting d) h = cc
sending_deaf (Down c) h = cc

pub receives_within : (ps : List Process) (s : ℕ) → is_receiving (get_or ps s nobody).state ≡ true → s < length ps
receives_within [] s e = cc
receives_within (p ∷ ps) zero e = omega arith
receives_within (p ∷ ps) (suc s) e = let h = receives_within ps s e in omega (arith, h)

pub home_within : (ps : List Process) (s : ℕ) → (get_or ps s nobody).state ≡ Home → s < length ps
home_within [] s e = cc
home_within (p ∷ ps) zero e = omega arith
home_within (p ∷ ps) (suc s) e = let h = home_within ps s e in omega (arith, h)

-- ---- slots of deliveries

-- few slots
abbrev pub AreFew : TableState → Type 0
AreFew t = length t.slots ≤ 32

named_slot : (t : TableState) (d : ℕ) → d < 1024 → ((process_at t d).generation * 1024 + d) % 1024 ≡ d
named_slot t d lt = mod-mul-add (process_at t d).generation 1024 d lt

pub message_slot : (t : TableState) (from to : ℕ) → to < 1024 → slot_to (message_made t from to) ≡ to
message_slot t from to lt = named_slot t to lt

pub notice_slot : (t : TableState) (x : Source) (d : ℕ) → d < 1024 → slot_to (notice_made t x d) ≡ d
notice_slot t x d lt = named_slot t d lt

pub receiving_few : (t : TableState) (d : ℕ) → AreFew t → is_receiving (process_at t d).state ≡ true → d < 1024
receiving_few t d few e = let h = receives_within t.slots d e in omega (arith, few, h)

pub home_few : (t : TableState) (s : ℕ) → AreFew t → (process_at t s).state ≡ Home → s < 1024
home_few t s few e = let h = home_within t.slots s e in omega (arith, few, h)

-- one delivery
pub to_one : (x : Delivery) (d q : ℕ) → slot_to x ≡ d → is_to q (x ∷ []) ≡ (d == q)
to_one x d q e = or_false (slot_to x == q) ∙ ap (λ z. z == q) e
  where
    or_false : (b : Bool) → (b || false) ≡ b
    or_false true = refl
    or_false false = refl

-- ---- results

-- its last result is 0
abbrev pub is_told_zero : List Item → Bool
is_told_zero xs = is_zero (result_written xs)

errno_some : (e : Errno) → (errno_bits e == 0) ≡ false
errno_some NotPermitted = refl
errno_some BadAddress = refl
errno_some Invalid = refl
errno_some Locked = refl
errno_some BadEndpoint = refl
errno_some Denied = refl
errno_some Dead = refl
errno_some NotReady = refl
errno_some BadRequest = refl

-- WHO IS TOLD to have got a message, not being the caller, is to whom a delivery is made
abbrev pub IsGot : TableState → List (ℕ × Item) → List Delivery → ℕ → Type 0
IsGot t items ds q = (is_told_zero (items_for q items) && is_receiving (process_at t q).state) ≡ is_to q ds

-- a message with the result 0, and nothing more for a slot
told_pair : (d q : ℕ) (m : List ℕ) (rest : List (ℕ × Item)) → items_for q rest ≡ [] → is_told_zero (items_for q ((d, Message m) ∷ (d, Result 0) ∷ rest)) ≡ (d == q)
told_pair d q m rest e = by_bool (d == q)
  where
    by_bool : (b : Bool) → is_told_zero (cond b (Message m ∷ cond b (Result 0 ∷ items_for q rest) (items_for q rest)) (cond b (Result 0 ∷ items_for q rest) (items_for q rest))) ≡ b
    by_bool true = ap (λ l. is_zero (result_after (Some 0) l)) e
    by_bool false = ap is_told_zero e

-- a result for another
told_other : (s q r : ℕ) → s ≢ q → items_for q ((s, Result r) ∷ []) ≡ []
told_other s q r n = ap (λ b. cond b (Result r ∷ []) []) (ne_eqb s q n)

and_receiving : (t : TableState) (d q : ℕ) → is_receiving (process_at t d).state ≡ true → ((d == q) && is_receiving (process_at t q).state) ≡ (d == q)
and_receiving t d q e = by_bool (d == q) refl
  where
    by_bool : (b : Bool) → (d == q) ≡ b → (b && is_receiving (process_at t q).state) ≡ b
    by_bool true f = subst (λ k. is_receiving (process_at t k).state ≡ true) (eqb-true d q f) e
    by_bool false f = refl

pair_got : (t : TableState) (d q : ℕ) (m : List ℕ) (rest : List (ℕ × Item)) (x : Delivery) → AreFew t → is_receiving (process_at t d).state ≡ true → (d < 1024 → slot_to x ≡ d) → items_for q rest ≡ []
    → IsGot t ((d, Message m) ∷ (d, Result 0) ∷ rest) (x ∷ []) q
pair_got t d q m rest x few hear slot none =
    ap (λ b. b && is_receiving (process_at t q).state) (told_pair d q m rest none)
    ∙ and_receiving t d q hear
    ∙ sym (to_one x d q (slot (receiving_few t d few hear)))

-- nothing
pub none_got : (t : TableState) (items : List (ℕ × Item)) (q : ℕ) → is_told_zero (items_for q items) ≡ false → IsGot t items [] q
none_got t items q e = ap (λ b. b && is_receiving (process_at t q).state) e

-- ---- each call, for others than its caller

by_case : (b : Bool) (t : TableState) (xs ys : List (ℕ × Item)) (ds es : List Delivery) (q : ℕ) → (b ≡ true → IsGot t xs ds q) → (b ≡ false → IsGot t ys es q) → IsGot t (cond b xs ys) (cond b ds es) q
by_case true t xs ys ds es q f g = f refl
by_case false t xs ys ds es q f g = g refl

pub notifying_got : (t : TableState) (x : Source) (d q : ℕ) → AreFew t → IsGot t (items_of_notifying t x d) (made_of_notifying t x d) q
notifying_got t x d q few = by_case (hears (process_at t d).state x) t _ [] (notice_made t x d ∷ []) [] q
    (λ e. pair_got t d q _ [] (notice_made t x d) few (hears_receiving (process_at t d).state x e) (notice_slot t x d) refl)
    (λ e. refl)

send_got : (t : TableState) (s d q : ℕ) → AreFew t → s ≢ q → IsGot t (items_of_send t s d) (made_of_send t s d) q
send_got t s d q few n = by_case (accepts (process_at t d).state s) t _ [] (message_made t s d ∷ []) [] q
    (λ e. pair_got t d q _ ((s, Result 0) ∷ []) (message_made t s d) few (accepts_receiving (process_at t d).state s e) (message_slot t s d) (told_other s q 0 n))
    (λ e. refl)

pub items_for-append : (q : ℕ) (xs ys : List (ℕ × Item)) → items_for q (xs ++ ys) ≡ items_for q xs ++ items_for q ys
items_for-append q [] ys = refl
items_for-append q (x ∷ xs) ys = by_bool (x.0 == q) (items_for-append q xs ys)
  where
    by_bool : (b : Bool) → items_for q (xs ++ ys) ≡ items_for q xs ++ items_for q ys → cond b (x.1 ∷ items_for q (xs ++ ys)) (items_for q (xs ++ ys)) ≡ cond b (x.1 ∷ items_for q xs) (items_for q xs) ++ items_for q ys
    by_bool true e = ap (λ l. x.1 ∷ l) e
    by_bool false e = e

append-nil : (xs : List Item) → xs ++ [] ≡ xs
append-nil [] = refl
append-nil (x ∷ xs) = ap (λ l. x ∷ l) (append-nil xs)

-- with a result for another
with_other : (t : TableState) (items : List (ℕ × Item)) (ds : List Delivery) (s r q : ℕ) → s ≢ q → IsGot t items ds q → IsGot t (items ++ (s, Result r) ∷ []) ds q
with_other t items ds s r q n h =
    ap (λ l. is_told_zero l && is_receiving (process_at t q).state) (items_for-append q items ((s, Result r) ∷ []) ∙ ap (λ l. items_for q items ++ l) (told_other s q r n) ∙ append-nil (items_for q items)) ∙ h

-- who is taken from was sending, so it gets no message
release_got : (t : TableState) (p q : ℕ) (st : State) → is_sending (process_at t p).state ≡ true → IsGot t (items_of_release p st) [] q
release_got t p q st sends = by_state st
  where
    one : IsGot t ((p, Result 0) ∷ []) [] q
    one = by_bool (p == q) refl
      where
        by_bool : (b : Bool) → (p == q) ≡ b → (is_told_zero (cond b (Result 0 ∷ []) []) && is_receiving (process_at t q).state) ≡ false
        by_bool true f = subst (λ k. is_receiving (process_at t k).state ≡ false) (eqb-true p q f) (sending_deaf (process_at t p).state sends)
        by_bool false f = refl

    by_state : (x : State) → IsGot t (items_of_release p x) [] q
    by_state Calling = refl
    by_state Home = one
    by_state Ready = one
    by_state Out = one
    by_state Doomed = one
    by_state Sending = one
    by_state (Receiving x) = one
    by_state (Awaiting x) = one
    by_state (Down x) = one

-- who is taken from is sending
abbrev SendsIfAny : TableState → Option ℕ → Type 0
SendsIfAny t None = Unit {0}
SendsIfAny t (Some p) = is_sending (process_at t p).state ≡ true

taking_got : (t : TableState) (s : ℕ) (o : Option ℕ) (q : ℕ) → s < 1024 → s ≢ q → SendsIfAny t o → IsGot t (items_of_taking t s o) (made_of_taking t s o) q
taking_got t s None q lt n sends = refl
taking_got t s (Some p) q lt n sends =
    let rest = items_of_release p (process_at t p).state ++ (s, Result 0) ∷ [] in
    ap (λ b. is_told_zero (cond b (Message (message_of t p) ∷ items_for q rest) (items_for q rest)) && is_receiving (process_at t q).state) (ne_eqb s q n)
    ∙ with_other t (items_of_release p (process_at t p).state) [] s 0 q n (release_got t p q (process_at t p).state sends)
    ∙ sym (to_one (message_made t p s) s q (message_slot t p s lt) ∙ ne_eqb s q n)

receive_got : (t : TableState) (s : ℕ) (p : Partner) (o : Option Source) (q : ℕ) → s < 1024 → s ≢ q → SendsIfAny t (caller_of s p t.waits) → IsGot t (items_of_receive t s p o) (made_of_receive t s p o) q
receive_got t s p None q lt n sends = taking_got t s (caller_of s p t.waits) q lt n sends
receive_got t s p (Some x) q lt n sends =
    ap (λ b. is_told_zero (cond b (Message (bytes_of_notice t s x) ∷ cond b (Result 0 ∷ []) []) (cond b (Result 0 ∷ []) [])) && is_receiving (process_at t q).state) (ne_eqb s q n)
    ∙ sym (to_one (notice_made t x s) s q (notice_slot t x s lt) ∙ ne_eqb s q n)

sendrec_got : (t : TableState) (s d q : ℕ) → AreFew t → IsQueued t → s ≢ q → IsGot t (items_of_sendrec t s d) (made_of_sendrec t s d) q
sendrec_got t s d q few queued n = by_case (accepts (process_at t d).state s) t _ [] _ [] q
    (λ e.
    let v = table_after_asking t s d in
    let none : caller_of s (partner.Only (source.Slot d)) v.waits ≡ None = asking_caller t s d queued e in
    subst (λ o. IsGot t ((d, Message (message_of t s)) ∷ (d, Result 0) ∷ items_of_taking v s o) (message_made t s d ∷ made_of_taking v s o) q) (sym none)
    (pair_got t d q (message_of t s) [] (message_made t s d) few (accepts_receiving (process_at t d).state s e) (message_slot t s d) refl))
    (λ e. refl)

checked_call_got : (t : TableState) (s : ℕ) (c : Call) (x : Party) (q : ℕ) → AreFew t → IsQueued t → s < 1024 → s ≢ q → IsGot t (items_of_checked_call t s c x) (made_of_checked_call t s c x) q
checked_call_got t s call.Send Any q few queued lt n = refl
checked_call_got t s call.Send Hardware q few queued lt n = refl
checked_call_got t s call.Send Clock q few queued lt n = refl
checked_call_got t s call.Send System q few queued lt n = refl
checked_call_got t s call.Send (Named d g) q few queued lt n = send_got t s d q few n
checked_call_got t s call.Receive x q few queued lt n = receive_got t s (partner_of x) (pending_source t s (partner_of x)) q lt n (sends_if_any (caller_of s (partner_of x) t.waits) (sending_caller t s (partner_of x) queued))
  where
    sends_if_any : (o : Option ℕ) → ((p : ℕ) → o ≡ Some p → is_sending (process_at t p).state ≡ true) → SendsIfAny t o
    sends_if_any None f = tt
    sends_if_any (Some p) f = f p refl
checked_call_got t s call.Sendrec Any q few queued lt n = refl
checked_call_got t s call.Sendrec Hardware q few queued lt n = refl
checked_call_got t s call.Sendrec Clock q few queued lt n = refl
checked_call_got t s call.Sendrec System q few queued lt n = refl
checked_call_got t s call.Sendrec (Named d g) q few queued lt n = sendrec_got t s d q few queued n
checked_call_got t s call.Notify Any q few queued lt n = refl
checked_call_got t s call.Notify Hardware q few queued lt n = refl
checked_call_got t s call.Notify Clock q few queued lt n = refl
checked_call_got t s call.Notify System q few queued lt n = refl
checked_call_got t s call.Notify (Named d g) q few queued lt n = with_other t (items_of_notifying t (source.Slot s) d) (made_of_notifying t (source.Slot s) d) s 0 q n (notifying_got t (source.Slot s) d q few)

call_got : (t : TableState) (s : ℕ) (c : Call) (x : Option Party) (e : Option Errno) (q : ℕ) → AreFew t → IsQueued t → s < 1024 → s ≢ q → IsGot t (items_of_call t s c x e) (made_of_call t s c x e) q
call_got t s c x (Some e) q few queued lt n = none_got t ((s, Result (errno_bits e)) ∷ []) q (ap is_told_zero (told_other s q (errno_bits e) n))
call_got t s c None None q few queued lt n = refl
call_got t s c (Some x) None q few queued lt n = checked_call_got t s c x q few queued lt n

trap_by_got : (t : TableState) (s : ℕ) (c : Option Call) (n q : ℕ) → AreFew t → IsQueued t → s < 1024 → s ≢ q → IsGot t (items_of_trap_by t s c n) (made_of_trap_by t s c n) q
trap_by_got t s None n q few queued lt m = none_got t ((s, Result (errno_bits Denied)) ∷ []) q (ap is_told_zero (told_other s q (errno_bits Denied) m))
trap_by_got t s (Some c) n q few queued lt m = call_got t s c (party_of t n) (call_refusal t s c (party_of t n)) q few queued lt m

-- ---- deaths and kernel calls make no delivery

-- who is freed has another result than 0
freed_some : (q : ℕ) (ps : List ℕ) (r : Option ℕ) → is_zero r ≡ false → is_zero (result_after r (items_for q (items_of_freeing ps))) ≡ false
freed_some q [] r e = e
freed_some q (p ∷ ps) r e = by_bool (p == q) (freed_some q ps)
  where
    by_bool : (b : Bool) → ((o : Option ℕ) → is_zero o ≡ false → is_zero (result_after o (items_for q (items_of_freeing ps))) ≡ false) → is_zero (result_after r (cond b (Result (errno_bits Dead) ∷ items_for q (items_of_freeing ps)) (items_for q (items_of_freeing ps)))) ≡ false
    by_bool true rest = rest (Some (errno_bits Dead)) (errno_some Dead)
    by_bool false rest = rest r e

pub death_zero : (t : TableState) (s q : ℕ) → is_told_zero (items_for q (items_of_death t s)) ≡ false
death_zero t s q = freed_some q (waiting_for (table_after_taking_out t s) s) None refl

effect_zero : (t : TableState) (e : Effect) (q : ℕ) → is_told_zero (items_for q (items_of_effect t e)) ≡ false
effect_zero t (Copies c) q = by_bool (c.target.endpoint % 1024 == q)
  where
    by_bool : (b : Bool) → is_told_zero (cond b (Copy c.target.offset (part (memory_at t (c.source.endpoint % 1024)) c.source.offset c.count) ∷ []) []) ≡ false
    by_bool true = refl
    by_bool false = refl
effect_zero t (Kills s) q = death_zero t s q
effect_zero t _ q = refl

reply_other : (s n : ℕ) (a : ReplyWords) (q : ℕ) → s ≢ q → items_for q (items_of_reply s n a) ≡ []
reply_other s n a q m = ap (λ b. cond b (Message (reply_bytes n a) ∷ cond b (Result 0 ∷ []) []) (cond b (Result 0 ∷ []) [])) (ne_eqb s q m)

kernel_call_zero : (t : TableState) (s : ℕ) (r : Option KernelCall) (e : Option Errno) (q : ℕ) → s ≢ q → is_told_zero (items_for q (items_of_kernel_call t s r e)) ≡ false
kernel_call_zero t s r (Some e) q m = ap is_told_zero (reply_other s (errno_bits e) no_reply_words q m)
kernel_call_zero t s None None q m = refl
kernel_call_zero t s (Some r) None q m = by_bool (ends_caller s r)
  where
    changed : List (ℕ × Item)
    changed = items_of_effect t (effect_of (known t s) s r)

    reply : List (ℕ × Item)
    reply = items_of_reply s 0 (words_of_reply t s r)

    by_bool : (b : Bool) → is_told_zero (items_for q (cond b (items_of_death t s) (changed ++ reply))) ≡ false
    by_bool true = death_zero t s q
    by_bool false =
        ap is_told_zero (items_for-append q changed reply ∙ ap (λ l. items_for q changed ++ l) (reply_other s 0 (words_of_reply t s r) q m) ∙ append-nil (items_for q changed))
        ∙ effect_zero t (effect_of (known t s) s r) q

pub trap_got : (t : TableState) (s : ℕ) (x : TrapAnswer) (q : ℕ) → AreFew t → IsQueued t → (process_at t s).state ≡ Home → s ≢ q → IsGot t (items_of_trap t s x) (made_of_trap t s x) q
trap_got t s trap_ends.Done q few queued home n = trap_by_got t s (call_of (process_at t s).image.regs.ecx) (process_at t s).image.regs.eax q few queued (home_few t s few home) n
trap_got t s trap_ends.Kernel q few queued home n =
    none_got t (items_of_trap t s trap_ends.Kernel) q (kernel_call_zero t s (kernel_call_under t.rules (message_words_at t s)) (kernel_call_refusal t s) q n)

-- ---- the caller

-- RECEIVE
abbrev receives : Option Call → Bool
receives None = false
receives (Some call.Send) = false
receives (Some call.Receive) = true
receives (Some call.Sendrec) = false
receives (Some call.Notify) = false

receives_is : (n : ℕ) → (n == 2) ≡ receives (call_of n)
receives_is n = by_bools (n == 1) (n == 2) (n == 3) (n == 4) refl refl
  where
    by_bools : (a b c d : Bool) → (n == 1) ≡ a → (n == 2) ≡ b → b ≡ receives (cond a (Some call.Send) (cond b (Some call.Receive) (cond c (Some call.Sendrec) (cond d (Some call.Notify) None))))
    by_bools true true c d e f = absurd (omega (arith, eqb-true n 1 e, eqb-true n 2 f))
    by_bools true false c d e f = refl
    by_bools false true c d e f = refl
    by_bools false false true d e f = refl
    by_bools false false false true e f = refl
    by_bools false false false false e f = refl

-- THE CALLER got a message, by the facts, exactly if one is delivered to it: then it called RECEIVE
abbrev pub OwnIsGot : Bool → List (ℕ × Item) → List Delivery → ℕ → Type 0
OwnIsGot b items ds s = (is_told_zero (items_for s items) && b) ≡ is_to s ds

-- another call: what it makes goes to another
not_own : (items : List (ℕ × Item)) (ds : List Delivery) (s : ℕ) → is_to s ds ≡ false → OwnIsGot false items ds s
not_own items ds s e = and_false (is_told_zero (items_for s items)) ∙ sym e

apart_from : (t : TableState) (s d : ℕ) → (process_at t s).state ≡ Home → is_receiving (process_at t d).state ≡ true → d ≢ s
apart_from t s d home e g = true_false (subst (λ k. is_receiving (process_at t k).state ≡ true) g e) (ap is_receiving home)

send_misses : (t : TableState) (s d : ℕ) → AreFew t → (process_at t s).state ≡ Home → is_to s (made_of_send t s d) ≡ false
send_misses t s d few home = by_bool (accepts (process_at t d).state s) refl
  where
    by_bool : (b : Bool) → accepts (process_at t d).state s ≡ b → is_to s (cond b (message_made t s d ∷ []) []) ≡ false
    by_bool false e = refl
    by_bool true e =
        let hear = accepts_receiving (process_at t d).state s e in
        to_one (message_made t s d) d s (message_slot t s d (receiving_few t d few hear)) ∙ ne_eqb d s (apart_from t s d home hear)

notifying_misses : (t : TableState) (s d : ℕ) → AreFew t → (process_at t s).state ≡ Home → is_to s (made_of_notifying t (source.Slot s) d) ≡ false
notifying_misses t s d few home = by_bool (hears (process_at t d).state (source.Slot s)) refl
  where
    by_bool : (b : Bool) → hears (process_at t d).state (source.Slot s) ≡ b → is_to s (cond b (notice_made t (source.Slot s) d ∷ []) []) ≡ false
    by_bool false e = refl
    by_bool true e =
        let hear = hears_receiving (process_at t d).state (source.Slot s) e in
        to_one (notice_made t (source.Slot s) d) d s (notice_slot t (source.Slot s) d (receiving_few t d few hear)) ∙ ne_eqb d s (apart_from t s d home hear)

sendrec_misses : (t : TableState) (s d : ℕ) → AreFew t → IsQueued t → (process_at t s).state ≡ Home → is_to s (made_of_sendrec t s d) ≡ false
sendrec_misses t s d few queued home = by_bool (accepts (process_at t d).state s) refl
  where
    v : TableState
    v = table_after_asking t s d

    by_bool : (b : Bool) → accepts (process_at t d).state s ≡ b → is_to s (cond b (message_made t s d ∷ made_of_taking v s (caller_of s (partner.Only (source.Slot d)) v.waits)) []) ≡ false
    by_bool false e = refl
    by_bool true e =
        let hear = accepts_receiving (process_at t d).state s e in
        ap (λ o. is_to s (message_made t s d ∷ made_of_taking v s o)) (asking_caller t s d queued e)
        ∙ to_one (message_made t s d) d s (message_slot t s d (receiving_few t d few hear)) ∙ ne_eqb d s (apart_from t s d home hear)

-- the last item is the caller's result
last_zero : (xs : List (ℕ × Item)) (s : ℕ) (r : Option ℕ) → result_after r (items_for s (xs ++ (s, Result 0) ∷ [])) ≡ Some 0
last_zero [] s r = ap (λ b. result_after r (cond b (Result 0 ∷ []) [])) (eq-eqb s s refl)
last_zero (x ∷ xs) s r = by_item (x.0 == s) x.1 (last_zero xs s)
  where
    rest : List Item
    rest = items_for s (xs ++ (s, Result 0) ∷ [])

    by_item : (b : Bool) (i : Item) → ((o : Option ℕ) → result_after o rest ≡ Some 0) → result_after r (cond b (i ∷ rest) rest) ≡ Some 0
    by_item false i f = f r
    by_item true Ran f = f r
    by_item true (Result n) f = f (Some n)
    by_item true (Message m) f = f r
    by_item true (Copy at m) f = f r

and_true : (b : Bool) → (b && true) ≡ b
and_true true = refl
and_true false = refl

own_receive : (t : TableState) (s : ℕ) (p : Partner) (o : Option Source) → s < 1024 → OwnIsGot true (items_of_receive t s p o) (made_of_receive t s p o) s
own_receive t s p None lt = by_option (caller_of s p t.waits)
  where
    by_option : (o : Option ℕ) → OwnIsGot true (items_of_taking t s o) (made_of_taking t s o) s
    by_option None = refl
    by_option (Some q) =
        and_true (is_told_zero (items_for s (items_of_taking t s (Some q))))
        ∙ ap is_zero (last_zero ((s, Message (message_of t q)) ∷ items_of_release q (process_at t q).state) s None)
        ∙ sym (to_one (message_made t q s) s s (message_slot t q s lt) ∙ eq-eqb s s refl)
own_receive t s p (Some x) lt =
    and_true (is_told_zero (items_for s (items_of_receive t s p (Some x))))
    ∙ ap is_zero (last_zero ((s, Message (bytes_of_notice t s x)) ∷ []) s None)
    ∙ sym (to_one (notice_made t x s) s s (notice_slot t x s lt) ∙ eq-eqb s s refl)

own_refused : (s : ℕ) (e : Errno) (b : Bool) → OwnIsGot b ((s, Result (errno_bits e)) ∷ []) [] s
own_refused s e b = ap (λ c. is_told_zero (cond c (Result (errno_bits e) ∷ []) []) && b) (eq-eqb s s refl) ∙ ap (λ c. c && b) (errno_some e)

own_call : (t : TableState) (s : ℕ) (c : Call) (x : Option Party) (e : Option Errno) → AreFew t → IsQueued t → (process_at t s).state ≡ Home → OwnIsGot (receives (Some c)) (items_of_call t s c x e) (made_of_call t s c x e) s
own_call t s c x (Some e) few queued home = own_refused s e (receives (Some c))
own_call t s c None None few queued home = refl
own_call t s call.Send (Some Any) None few queued home = refl
own_call t s call.Send (Some Hardware) None few queued home = refl
own_call t s call.Send (Some Clock) None few queued home = refl
own_call t s call.Send (Some System) None few queued home = refl
own_call t s call.Send (Some (Named d g)) None few queued home = not_own (items_of_send t s d) (made_of_send t s d) s (send_misses t s d few home)
own_call t s call.Receive (Some x) None few queued home = own_receive t s (partner_of x) (pending_source t s (partner_of x)) (home_few t s few home)
own_call t s call.Sendrec (Some Any) None few queued home = refl
own_call t s call.Sendrec (Some Hardware) None few queued home = refl
own_call t s call.Sendrec (Some Clock) None few queued home = refl
own_call t s call.Sendrec (Some System) None few queued home = refl
own_call t s call.Sendrec (Some (Named d g)) None few queued home = not_own (items_of_sendrec t s d) (made_of_sendrec t s d) s (sendrec_misses t s d few queued home)
own_call t s call.Notify (Some Any) None few queued home = refl
own_call t s call.Notify (Some Hardware) None few queued home = refl
own_call t s call.Notify (Some Clock) None few queued home = refl
own_call t s call.Notify (Some System) None few queued home = refl
own_call t s call.Notify (Some (Named d g)) None few queued home =
    not_own (items_of_checked_call t s call.Notify (Named d g)) (made_of_notifying t (source.Slot s) d) s (notifying_misses t s d few home)

own_trap_by : (t : TableState) (s : ℕ) (c : Option Call) (n : ℕ) → AreFew t → IsQueued t → (process_at t s).state ≡ Home → OwnIsGot (receives c) (items_of_trap_by t s c n) (made_of_trap_by t s c n) s
own_trap_by t s None n few queued home = own_refused s Denied false
own_trap_by t s (Some c) n few queued home = own_call t s c (party_of t n) (call_refusal t s c (party_of t n)) few queued home

-- a kernel call is no RECEIVE
kernel_receives : (t : TableState) (s : ℕ) (c : Option Call) (n : ℕ) → trap_answer_by t s c n ≡ trap_ends.Kernel → receives c ≡ false
unfolding call_answer
kernel_receives t s None n e = refl
kernel_receives t s (Some call.Send) n e = refl
kernel_receives t s (Some call.Receive) n e = cc
kernel_receives t s (Some call.Sendrec) n e = refl
kernel_receives t s (Some call.Notify) n e = refl

pub own_got : (t : TableState) (s : ℕ) → AreFew t → IsQueued t → (process_at t s).state ≡ Home
    → OwnIsGot ((process_at t s).image.regs.ecx == 2) (items_of_trap t s (trap_answer t s)) (made_of_trap t s (trap_answer t s)) s
unfolding trap_answer
own_got t s few queued home = by_answer (trap_answer_by t s (call_of ecx) eax) refl
  where
    ecx : ℕ
    ecx = (process_at t s).image.regs.ecx

    eax : ℕ
    eax = (process_at t s).image.regs.eax

    by_answer : (x : TrapAnswer) → trap_answer_by t s (call_of ecx) eax ≡ x → OwnIsGot (ecx == 2) (items_of_trap t s x) (made_of_trap t s x) s
    by_answer trap_ends.Done e =
        ap (λ b. is_told_zero (items_for s (items_of_trap t s trap_ends.Done)) && b) (receives_is ecx) ∙ own_trap_by t s (call_of ecx) eax few queued home
    by_answer trap_ends.Kernel e =
        ap (λ b. is_told_zero (items_for s (items_of_trap t s trap_ends.Kernel)) && b) (receives_is ecx ∙ kernel_receives t s (call_of ecx) eax e)
        ∙ not_own (items_of_trap t s trap_ends.Kernel) [] s refl
