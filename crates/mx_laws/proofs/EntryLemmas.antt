-- Each item of a call goes to its caller, to who waits, or is a copy.
use Rattle.std.proofs.Common.{◌≡◌, ◌≢◌, ◌∙◌, ℕ, zero, suc, ◌+◌, ◌≤◌, ◌==◌, ◌&&◌, Bool, true, false, cond, not, List, [], ◌∷◌, ◌++◌, map, filter, length, take, drop, Option, Some, None, refl, sym, ap, subst, get_or, slice_set, get_or-set_other, nat_lt, ◌⊎◌, inl, inr, arith}
use Rattle.std.proofs.lemmas.Bool.{cases_eq, eq-eqb, ltb-false, ne_eqb}
use Rattle.std.proofs.lemmas.List.{length-append, length-drop, length-take}
use Rattle.mx_word.specs.Word.{bytes_of}
use Rattle.mx_image.specs.declared.runs.Stop.{Stop}
use Rattle.mx_image.specs.declared.runs.Stop.TheVariants.{Spent, Trap, Fault}
use Rattle.mx_proc.specs.declared.errors.Errno.{Errno}
use Rattle.mx_proc.specs.declared.process.Partner.{Partner}
use Rattle.mx_proc.specs.declared.process.Partner.TheVariants as partner
use Rattle.mx_proc.specs.declared.process.Process.{Process}
use Rattle.mx_proc.specs.declared.process.Source.{Source}
use Rattle.mx_proc.specs.declared.process.Source.TheVariants as source
use Rattle.mx_proc.specs.declared.process.State.{State}
use Rattle.mx_proc.specs.declared.process.State.TheVariants.{Home, Ready, Out, Doomed, Sending, Calling, Receiving, Awaiting, Down}
use Rattle.mx_proc.specs.Errors.{errno_bits}
use Rattle.mx_proc.specs.Messages.{with_source}
use Rattle.mx_proc.specs.Partners.{may_be}
use Rattle.mx_proc.specs.Sound.{HasBuffer}
use Rattle.mx_proc.specs.States.{is_blocked, is_ready, is_sending}
use Rattle.mx_proc.specs.TableState.{TableState, buffer_at, endpoint_of, memory_at, message_of, nobody, pending_source, process_at, table_after_delivery, table_after_dequeue, table_after_unblock, with_result}
use Rattle.mx_proc.specs.Waits.{caller_of, without_from}
use Rattle.mx_ipc.specs.declared.trap_calls.Call.{Call}
use Rattle.mx_ipc.specs.declared.trap_calls.Call.TheVariants as call
use Rattle.mx_ipc.specs.declared.trap_calls.Party.{Party}
use Rattle.mx_ipc.specs.declared.trap_calls.Party.TheVariants.{Any, Hardware, Clock, System, Process as Named}
use Rattle.mx_ipc.specs.Checks.{call_of, call_refusal, checks, first_error, is_notify, is_outside, party_of}
use Rattle.mx_kcall.specs.declared.request.KernelCall.{KernelCall}
use Rattle.mx_kcall.specs.Effects.{Effect}
use Rattle.mx_kcall.specs.Effects.Effect.{Copies, Kills}
use Rattle.mx_kcall.specs.Known.{known}
use Rattle.mx_kcall.specs.declared.request.ReplyWords.{ReplyWords}
use Rattle.mx_kcall.specs.Calls.{accepts, goes_on, hears, partner_of, trap_answer}
use Rattle.mx_kcall.specs.Death.{callers, receivers, receives_from_alone, table_after_taking_out, waiting_for}
use Rattle.mx_kcall.specs.Queueing.{table_after_queueing}
use Rattle.mx_kcall.specs.Refusals.{kernel_call_refusal}
use Rattle.mx_kcall.specs.Requests.{kernel_call_under, message_words_at, reply_bytes, no_reply_words}
use Rattle.mx_kcall.specs.Serving.{effect_of, ends_caller, words_of_reply}
use Rattle.mx_kcall.specs.TrapAnswer.{TrapAnswer}
use Rattle.mx_kcall.specs.TrapAnswer.TheVariants as trap_ends
use Rattle.mx_laws.specs.Diary.{Item}
use Rattle.mx_laws.specs.Diary.Item.{Ran, Result, Message, Copy}
use Rattle.mx_laws.specs.Items.{bytes_of_notice, items_of_call, items_of_effect, items_of_checked_call, items_of_death, items_of_end_of_turn, items_of_freeing, items_of_kernel_call, items_of_notifying, items_of_receive, items_of_release, items_of_reply, items_of_send, items_of_sendrec, items_of_taking, items_of_trap, items_of_trap_by}
use Rattle.mx_laws.specs.Entries.{CopyMade, copy_made, copy_at_end, copy_at_trap, copy_by, copy_of_effect, is_receiving, IsOfCopy}

-- ---- items of several slots

-- who may get a result, who a message, and which copy is made
abbrev pub Goes : (ℕ → Type 0) → (ℕ → Type 0) → Option CopyMade → ℕ → Item → Type 0
Goes R M made s Ran = ⊥
Goes R M made s (Result r) = R s
Goes R M made s (Message bytes) = (length bytes ≡ 36) × M s
Goes R M made s (Copy place bytes) = IsOfCopy made s place bytes

abbrev pub Each : (ℕ → Item → Type 0) → List (ℕ × Item) → Type 0
Each P [] = Unit {0}
Each P (x ∷ xs) = P x.0 x.1 × Each P xs

pub each-append : (P : ℕ → Item → Type 0) (xs ys : List (ℕ × Item)) → Each P xs → Each P ys → Each P (xs ++ ys)
each-append P [] ys h k = k
each-append P (x ∷ xs) ys h k = (h.0, each-append P xs ys h.1 k)

pub each-case : (P : ℕ → Item → Type 0) (b : Bool) (xs ys : List (ℕ × Item)) → (b ≡ true → Each P xs) → (b ≡ false → Each P ys) → Each P (cond b xs ys)
each-case P true xs ys f g = f refl
each-case P false xs ys f g = g refl

-- ---- tables in which who waits is known

abbrev pub Sends : List (ℕ × ℕ) → ℕ → Type 0
Sends [] p = ⊥
Sends (e ∷ es) p = (e.0 ≡ p) ⊎ Sends es p

-- Who waits may get a result, who receives also a message.
pub record Scene (w : TableState) (R M : ℕ → Type 0) : Type 0 where
  pub blocked : (s : ℕ) → is_blocked (process_at w s).state ≡ true → R s
  pub receiving : (s : ℕ) → is_receiving (process_at w s).state ≡ true → M s
  pub sends : (s : ℕ) → Sends w.waits s → R s

-- Who sends has its buffer inside, and doesn't receive.
pub record AreReady (w : TableState) : Type 0 where
  pub room : (p : ℕ) → Sends w.waits p → HasBuffer (process_at w p)
  pub apart : (p : ℕ) → Sends w.waits p → is_receiving (process_at w p).state ≡ false

-- what holds of a slot's process after a change of one holds before, if it does at that one
pub after_set : (T : Process → Type 0) (ps : List Process) (s p : ℕ) (x : Process) → T (get_or (slice_set ps s x) p nobody) → (T x → T (get_or ps s nobody)) → T (get_or ps p nobody)
after_set T [] s p x e f = e
after_set T (r ∷ ps) zero zero x e f = f e
after_set T (r ∷ ps) zero (suc p) x e f = e
after_set T (r ∷ ps) (suc s) zero x e f = e
after_set T (r ∷ ps) (suc s) (suc p) x e f = after_set T ps s p x e f

abbrev pub Blocked : Process → Type 0
Blocked p = is_blocked p.state ≡ true

abbrev pub Receives : Process → Type 0
Receives p = is_receiving p.state ≡ true

-- ---- states

accepts_receiving : (st : State) (s : ℕ) → accepts st s ≡ true → is_receiving st ≡ true
accepts_receiving Home s h = cc
accepts_receiving Ready s h = cc
accepts_receiving Out s h = cc
accepts_receiving Doomed s h = cc
accepts_receiving Sending s h = cc
accepts_receiving Calling s h = cc
accepts_receiving (Receiving p) s h = refl
accepts_receiving (Awaiting d) s h = refl
accepts_receiving (Down c) s h = cc

hears_receiving : (st : State) (x : Source) → hears st x ≡ true → is_receiving st ≡ true
hears_receiving Home x h = cc
hears_receiving Ready x h = cc
hears_receiving Out x h = cc
hears_receiving Doomed x h = cc
hears_receiving Sending x h = cc
hears_receiving Calling x h = cc
hears_receiving (Receiving p) x h = refl
hears_receiving (Awaiting d) x h = cc
hears_receiving (Down c) x h = cc

alone_blocked : (st : State) (s : ℕ) → receives_from_alone st s ≡ true → is_blocked st ≡ true
alone_blocked Home s h = cc
alone_blocked Ready s h = cc
alone_blocked Out s h = cc
alone_blocked Doomed s h = cc
alone_blocked Sending s h = cc
alone_blocked Calling s h = cc
alone_blocked (Receiving p) s h = refl
alone_blocked (Awaiting d) s h = refl
alone_blocked (Down c) s h = cc

pub receiving_blocked : (st : State) → is_receiving st ≡ true → is_blocked st ≡ true
receiving_blocked Home h = cc
receiving_blocked Ready h = cc
receiving_blocked Out h = cc
receiving_blocked Doomed h = cc
receiving_blocked Sending h = cc
receiving_blocked Calling h = cc
receiving_blocked (Receiving p) h = refl
receiving_blocked (Awaiting d) h = refl
receiving_blocked (Down c) h = cc

-- ---- bytes

message_long : (w : TableState) (s : ℕ) → HasBuffer (process_at w s) → length (message_of w s) ≡ 36
message_long w s room = long (endpoint_of w s) (drop (buffer_at w s) (memory_at w s)) (omega (arith, length-drop (buffer_at w s) (memory_at w s), room))
  where
    long : (n : ℕ) (xs : List ℕ) → 36 ≤ length xs → length (with_source n (take 36 xs)) ≡ 36
    long n xs le = omega (arith, length-append (bytes_of 4 n) (drop 4 (take 36 xs)), length-drop 4 (take 36 xs), length-take 36 xs, le)

notice_long : (w : TableState) (d : ℕ) (x : Source) → length (bytes_of_notice w d x) ≡ 36
notice_long w d x = omega arith

reply_long : (n : ℕ) (a : ReplyWords) → length (reply_bytes n a) ≡ 36
reply_long n a = omega arith

-- ---- a call that isn't refused

abbrev pub NoneHolds : List (Bool × Errno) → Type 0
NoneHolds [] = Unit {0}
NoneHolds (c ∷ cs) = (c.0 ≡ false) × NoneHolds cs

first_none : (b : Bool) (x : Errno) (r : Option Errno) → cond b (Some x) r ≡ None → (b ≡ false) × (r ≡ None)
first_none true x r e = cc
first_none false x r e = (refl, e)

pub none_holds : (cs : List (Bool × Errno)) → first_error cs ≡ None → NoneHolds cs
none_holds [] e = tt
none_holds (c ∷ cs) e = let h = first_none c.0 c.1 (first_error cs) e in (h.0, none_holds cs h.1)

-- its buffer is inside, but for NOTIFY
abbrev HasOwnBuffer : TableState → ℕ → Call → Type 0
HasOwnBuffer w s c = is_notify c ≡ false → HasBuffer (process_at w s)

passed_buffer : (w : TableState) (s : ℕ) (c : Call) (x : Option Party) → call_refusal w s c x ≡ None → HasOwnBuffer w s c
unfolding call_refusal
passed_buffer w s c x e n =
    let h = none_holds (checks w s c x) e in
    ltb-false (length (memory_at w s)) (buffer_at w s + 36) (second (is_notify c) (is_outside w s) n h.1.1.0)
  where
    second : (a b : Bool) → a ≡ false → (not a && b) ≡ false → b ≡ false
    second true b f g = cc
    second false b f g = g

-- ---- messages

send_each : {w : TableState} {R M : ℕ → Type 0} → Scene w R M → (made : Option CopyMade) (s d : ℕ) → R s → HasBuffer (process_at w s) → Each (Goes R M made) (items_of_send w s d)
send_each {w} {R} {M} h made s d own room = each-case (Goes R M made) (accepts (process_at w d).state s) _ [] (λ t. let r = accepts_receiving (process_at w d).state s t in ((message_long w s room, h.receiving d r), (h.blocked d (receiving_blocked (process_at w d).state r), (own, tt)))) (λ t. tt)

pub notifying_each : {w : TableState} {R M : ℕ → Type 0} → Scene w R M → (made : Option CopyMade) (x : Source) (d : ℕ) → Each (Goes R M made) (items_of_notifying w x d)
notifying_each {w} {R} {M} h made x d = each-case (Goes R M made) (hears (process_at w d).state x) _ [] (λ t. let r = hears_receiving (process_at w d).state x t in ((notice_long w d x, h.receiving d r), (h.blocked d (receiving_blocked (process_at w d).state r), tt))) (λ t. tt)

release_each : (R M : ℕ → Type 0) (made : Option CopyMade) (p : ℕ) (st : State) → R p → Each (Goes R M made) (items_of_release p st)
release_each R M made p Home r = (r, tt)
release_each R M made p Ready r = (r, tt)
release_each R M made p Out r = (r, tt)
release_each R M made p Doomed r = (r, tt)
release_each R M made p Sending r = (r, tt)
release_each R M made p Calling r = tt
release_each R M made p (Receiving x) r = (r, tt)
release_each R M made p (Awaiting x) r = (r, tt)
release_each R M made p (Down x) r = (r, tt)

abbrev IfAny : (ℕ → Type 0) → Option ℕ → Type 0
IfAny R None = Unit {0}
IfAny R (Some p) = R p

taking_each : (R M : ℕ → Type 0) (w : TableState) (made : Option CopyMade) (s : ℕ) (p : Option ℕ) → R s → M s → IfAny R p → IfAny (λ q. HasBuffer (process_at w q)) p → Each (Goes R M made) (items_of_taking w s p)
taking_each R M w made s None own heard r room = tt
taking_each R M w made s (Some p) own heard r room =
    ((message_long w p room, heard), each-append (Goes R M made) (items_of_release p (process_at w p).state) ((s, Result 0) ∷ []) (release_each R M made p (process_at w p).state r) (own, tt))

caller_sends : (R : ℕ → Type 0) (d : ℕ) (x : Partner) (pairs : List (ℕ × ℕ)) → ((p : ℕ) → Sends pairs p → R p) → IfAny R (caller_of d x pairs)
caller_sends R d x [] f = tt
caller_sends R d x (e ∷ es) f = by_bool ((e.1 == d) && may_be x (2 + e.0)) (caller_sends R d x es (λ p k. f p (inr k)))
  where
    by_bool : (b : Bool) → IfAny R (caller_of d x es) → IfAny R (cond b (Some e.0) (caller_of d x es))
    by_bool true rest = f e.0 (inl refl)
    by_bool false rest = rest

receive_each : {w : TableState} {R M : ℕ → Type 0} → Scene w R M → AreReady w → (made : Option CopyMade) (s : ℕ) (p : Partner) (x : Option Source) → R s → M s → Each (Goes R M made) (items_of_receive w s p x)
receive_each {w} {R} {M} h k made s p None own heard = taking_each R M w made s (caller_of s p w.waits) own heard (caller_sends R s p w.waits h.sends) (caller_sends (λ q. HasBuffer (process_at w q)) s p w.waits k.room)
receive_each {w} h k made s p (Some x) own heard = ((notice_long w s x, heard), (own, tt))

-- who receives doesn't send: a SENDREC that is delivered finds no answer yet
caller_only : (d s : ℕ) (pairs : List (ℕ × ℕ)) → (Sends pairs d → ⊥) → caller_of s (partner.Only (source.Slot d)) pairs ≡ None
caller_only d s [] f = refl
caller_only d s (e ∷ es) f = elim (cases_eq (2 + d) (2 + e.0)) [
  | inl g ↦ absurd (f (inl (omega (arith, g))))
  | inr n ↦ by_bool (e.1 == s) ((2 + d) == (2 + e.0)) (ne_eqb (2 + d) (2 + e.0) n) (caller_only d s es (λ k. f (inr k)))
]
  where
    by_bool : (a b : Bool) → b ≡ false → caller_of s (partner.Only (source.Slot d)) es ≡ None → cond (a && b) (Some e.0) (caller_of s (partner.Only (source.Slot d)) es) ≡ None
    by_bool a true g rest = cc
    by_bool true false g rest = rest
    by_bool false false g rest = rest

pub goes_on_waits : (w : TableState) (s r : ℕ) → (goes_on w s r).waits ≡ w.waits
unfolding goes_on table_after_queueing
goes_on_waits w s r = either (nat_lt 0 (process_at (with_result w s r) s).schedule.ticks) _ _ refl refl
  where
    either : (b : Bool) (x y : TableState) → x.waits ≡ w.waits → y.waits ≡ w.waits → (cond b x y).waits ≡ w.waits
    either true x y e f = e
    either false x y e f = f

delivery_waits : (w : TableState) (s d : ℕ) → (table_after_delivery w s d).waits ≡ w.waits
unfolding table_after_delivery
delivery_waits w s d = refl

not_both : (b : Bool) → b ≡ true → b ≡ false → ⊥
not_both true e f = cc
not_both false e f = cc

sendrec_each : {w : TableState} {R M : ℕ → Type 0} → Scene w R M → AreReady w → (made : Option CopyMade) (s d : ℕ) → R s → HasBuffer (process_at w s) → Each (Goes R M made) (items_of_sendrec w s d)
sendrec_each {w} {R} {M} h k made s d own room =
    let v = goes_on (table_after_delivery w s d) d 0 in
    let same : v.waits ≡ w.waits = goes_on_waits (table_after_delivery w s d) d 0 ∙ delivery_waits w s d in
    let first = caller_of s (partner.Only (source.Slot d)) v.waits in
    each-case (Goes R M made) (accepts (process_at w d).state s) _ [] (λ t.
    let r = accepts_receiving (process_at w d).state s t in
    let none : first ≡ None = caller_only d s v.waits (λ z. not_both (is_receiving (process_at w d).state) r (k.apart d (subst (λ ps. Sends ps d) same z))) in
    ((message_long w s room, h.receiving d r), (h.blocked d (receiving_blocked (process_at w d).state r), subst (λ o. Each (Goes R M made) (items_of_taking v s o)) (sym none) tt))) (λ t. tt)

checked_call_each : {w : TableState} {R M : ℕ → Type 0} → Scene w R M → AreReady w → (made : Option CopyMade) (s : ℕ) (c : Call) (x : Party) → R s → M s → HasOwnBuffer w s c → Each (Goes R M made) (items_of_checked_call w s c x)
checked_call_each h k made s call.Send Any own heard room = tt
checked_call_each h k made s call.Send Hardware own heard room = tt
checked_call_each h k made s call.Send Clock own heard room = tt
checked_call_each h k made s call.Send System own heard room = tt
checked_call_each h k made s call.Send (Named d g) own heard room = send_each h made s d own (room refl)
checked_call_each {w} h k made s call.Receive x own heard room = receive_each h k made s (partner_of x) (pending_source w s (partner_of x)) own heard
checked_call_each h k made s call.Sendrec Any own heard room = tt
checked_call_each h k made s call.Sendrec Hardware own heard room = tt
checked_call_each h k made s call.Sendrec Clock own heard room = tt
checked_call_each h k made s call.Sendrec System own heard room = tt
checked_call_each h k made s call.Sendrec (Named d g) own heard room = sendrec_each h k made s d own (room refl)
checked_call_each h k made s call.Notify Any own heard room = tt
checked_call_each h k made s call.Notify Hardware own heard room = tt
checked_call_each h k made s call.Notify Clock own heard room = tt
checked_call_each h k made s call.Notify System own heard room = tt
checked_call_each {w} {R} {M} h k made s call.Notify (Named d g) own heard room = each-append (Goes R M made) (items_of_notifying w (source.Slot s) d) ((s, Result 0) ∷ []) (notifying_each h made (source.Slot s) d) (own, tt)

call_each : {w : TableState} {R M : ℕ → Type 0} → Scene w R M → AreReady w → (made : Option CopyMade) (s : ℕ) (c : Call) (x : Option Party) (e : Option Errno) → call_refusal w s c x ≡ e → R s → M s → Each (Goes R M made) (items_of_call w s c x e)
call_each h k made s c x (Some e) f own heard = (own, tt)
call_each h k made s c None None f own heard = tt
call_each {w} h k made s c (Some x) None f own heard = checked_call_each h k made s c x own heard (passed_buffer w s c (Some x) f)

trap_by_each : {w : TableState} {R M : ℕ → Type 0} → Scene w R M → AreReady w → (made : Option CopyMade) (s : ℕ) (c : Option Call) (n : ℕ) → R s → M s → Each (Goes R M made) (items_of_trap_by w s c n)
trap_by_each h k made s None n own heard = (own, tt)
trap_by_each {w} h k made s (Some c) n own heard = call_each h k made s c (party_of w n) (call_refusal w s c (party_of w n)) refl own heard

-- ---- deaths

abbrev AllMay : (ℕ → Type 0) → List ℕ → Type 0
AllMay R [] = Unit {0}
AllMay R (p ∷ ps) = R p × AllMay R ps

freeing_each : (R M : ℕ → Type 0) (made : Option CopyMade) (ps : List ℕ) → AllMay R ps → Each (Goes R M made) (items_of_freeing ps)
freeing_each R M made [] h = tt
freeing_each R M made (p ∷ ps) h = (h.0, freeing_each R M made ps h.1)

all_append : (R : ℕ → Type 0) (xs ys : List ℕ) → AllMay R xs → AllMay R ys → AllMay R (xs ++ ys)
all_append R [] ys h k = k
all_append R (x ∷ xs) ys h k = (h.0, all_append R xs ys h.1 k)

callers_may : (R : ℕ → Type 0) (s : ℕ) (pairs : List (ℕ × ℕ)) → ((p : ℕ) → Sends pairs p → R p) → AllMay R (callers s pairs)
callers_may R s [] f = tt
callers_may R s (e ∷ es) f = by_bool (e.1 == s) (callers_may R s es (λ p k. f p (inr k)))
  where
    by_bool : (b : Bool) → AllMay R (callers s es) → AllMay R (map (λ (p : ℕ × ℕ). p.0) (cond b (e ∷ filter (λ (p : ℕ × ℕ). p.1 == s) es) (filter (λ (p : ℕ × ℕ). p.1 == s) es)))
    by_bool true rest = (f e.0 (inl refl), rest)
    by_bool false rest = rest

differs : (n s : ℕ) → (n == s) ≡ false → n ≢ s
differs n s b e = true_false (sym (eq-eqb n s e) ∙ b)
  where
    true_false : true ≡ false → ⊥
    true_false z = cc

receivers_may : (R : ℕ → Type 0) (s n : ℕ) (ps : List Process) → ((i m : ℕ) → m ≡ n + i → m ≢ s → is_blocked (get_or ps i nobody).state ≡ true → R m) → AllMay R (receivers s n ps)
receivers_may R s n [] f = tt
receivers_may R s n (p ∷ ps) f = by_bools (n == s) (receives_from_alone p.state s) refl refl (receivers_may R s (n + 1) ps (λ i m e. f (suc i) m (omega (arith, e))))
  where
    by_bools : (b c : Bool) → (n == s) ≡ b → receives_from_alone p.state s ≡ c → AllMay R (receivers s (n + 1) ps) → AllMay R (cond (not b && c) (n ∷ receivers s (n + 1) ps) (receivers s (n + 1) ps))
    by_bools true c g k rest = rest
    by_bools false false g k rest = rest
    by_bools false true g k rest = (f zero n (omega arith) (differs n s g) (alone_blocked p.state s k), rest)

sends_without : (s p : ℕ) (pairs : List (ℕ × ℕ)) → Sends (without_from s pairs) p → Sends pairs p
sends_without s p [] h = h
sends_without s p (e ∷ es) h = by_bool (not (e.0 == s)) (sends_without s p es) h
  where
    by_bool : (b : Bool) → (Sends (without_from s es) p → Sends es p) → Sends (cond b (e ∷ without_from s es) (without_from s es)) p → Sends (e ∷ es) p
    by_bool true f (inl k) = inl k
    by_bool true f (inr k) = inr (f k)
    by_bool false f k = inr (f k)

taking_out_sends : (w : TableState) (s p : ℕ) → Sends (table_after_taking_out w s).waits p → Sends w.waits p
unfolding table_after_taking_out
taking_out_sends w s p h = by_bools (is_ready (process_at w s).state) (is_sending (process_at w s).state) h
  where
    by_bools : (a b : Bool) → Sends (cond a (table_after_dequeue w s) (cond b (table_after_unblock w s) w)).waits p → Sends w.waits p
    by_bools true b k = k
    by_bools false true k = sends_without s p w.waits k
    by_bools false false k = k

taking_out_at : (w : TableState) (s p : ℕ) → p ≢ s → process_at (table_after_taking_out w s) p ≡ process_at w p
unfolding table_after_taking_out
taking_out_at w s p n = by_bools (is_ready (process_at w s).state) (is_sending (process_at w s).state)
  where
    by_bools : (a b : Bool) → process_at (cond a (table_after_dequeue w s) (cond b (table_after_unblock w s) w)) p ≡ process_at w p
    by_bools true b = get_or-set_other w.slots s p _ nobody n
    by_bools false true = get_or-set_other w.slots s p _ nobody n
    by_bools false false = refl

pub death_each : {w : TableState} {R M : ℕ → Type 0} → Scene w R M → (made : Option CopyMade) (s : ℕ) → Each (Goes R M made) (items_of_death w s)
death_each {w} {R} {M} h made s =
    let left = table_after_taking_out w s in
    freeing_each R M made (waiting_for left s) (all_append R (callers s left.waits) (receivers s 0 left.slots)
    (callers_may R s left.waits (λ p k. h.sends p (taking_out_sends w s p k)))
    (receivers_may R s 0 left.slots (λ i m e n b. let g : m ≡ i = omega (arith, e) in h.blocked m (ap (λ (p : Process). is_blocked p.state) (sym (taking_out_at w s m n)) ∙ subst (λ j. is_blocked (process_at left j).state ≡ true) (sym g) b))))

-- ---- kernel calls

reply_each : (R M : ℕ → Type 0) (made : Option CopyMade) (s n : ℕ) (a : ReplyWords) → R s → M s → Each (Goes R M made) (items_of_reply s n a)
reply_each R M made s n a own heard = ((reply_long n a, heard), (own, tt))

effect_each : {w : TableState} {R M : ℕ → Type 0} → Scene w R M → (made : Option CopyMade) (e : Effect) → made ≡ copy_of_effect w e → Each (Goes R M made) (items_of_effect w e)
effect_each {w} h made (Copies c) e = (record { copy = copy_made w c; is_made = e; slot = refl; place = refl; same = refl }, tt)
effect_each h made (Kills s) e = death_each h made s
effect_each h made _ e = tt

kernel_call_each : {w : TableState} {R M : ℕ → Type 0} → Scene w R M → (made : Option CopyMade) (s : ℕ) (r : Option KernelCall) (e : Option Errno) → made ≡ copy_by w s r e → R s → M s → Each (Goes R M made) (items_of_kernel_call w s r e)
kernel_call_each {w} {R} {M} h made s r (Some e) f own heard = reply_each R M made s (errno_bits e) no_reply_words own heard
kernel_call_each h made s None None f own heard = tt
kernel_call_each {w} {R} {M} h made s (Some r) None f own heard =
    each-case (Goes R M made) (ends_caller s r) _ _ (λ t. death_each h made s) (λ t. each-append (Goes R M made) (items_of_effect w (effect_of (known w s) s r)) (items_of_reply s 0 (words_of_reply w s r)) (effect_each h made (effect_of (known w s) s r) f) (reply_each R M made s 0 (words_of_reply w s r) own heard))

trap_each : {w : TableState} {R M : ℕ → Type 0} → Scene w R M → AreReady w → (s : ℕ) (x : TrapAnswer) → R s → M s → Each (Goes R M (copy_at_trap w s x)) (items_of_trap w s x)
trap_each {w} h k s trap_ends.Done own heard = trap_by_each h k None s (call_of (process_at w s).image.regs.ecx) (process_at w s).image.regs.eax own heard
trap_each {w} h k s trap_ends.Kernel own heard = kernel_call_each h (copy_at_trap w s trap_ends.Kernel) s (kernel_call_under w.rules (message_words_at w s)) (kernel_call_refusal w s) refl own heard

-- THE END OF A TURN
pub end_of_turn_each : {w : TableState} {R M : ℕ → Type 0} → Scene w R M → AreReady w → (s : ℕ) (b : Bool) (x : Stop) → R s → M s → Each (Goes R M (copy_at_end w s b x)) (items_of_end_of_turn w s b x)
end_of_turn_each {w} h k s true x own heard = death_each h (copy_at_end w s true x) s
end_of_turn_each h k s false Spent own heard = tt
end_of_turn_each {w} h k s false Trap own heard = trap_each h k s (trap_answer w s) own heard
end_of_turn_each {w} h k s false (Fault v) own heard = death_each h None s
