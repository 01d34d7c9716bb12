-- No event reads the recorded deliveries: whatever they are, it makes these deliveries, and all else is as without
-- them.
use Rattle.std.proofs.Common.{◌≡◌, ◌∙◌, ℕ, ◌-◌, ◌%◌, nat_lt, slice_get, Bool, true, false, cond, List, [], ◌∷◌, ◌++◌, Option, Some, None, refl, sym, ap}
use Rattle.circular_buffer.specs.Buffer.{keep_last}
use Rattle.mx_image.specs.declared.runs.Stop.{Stop}
use Rattle.mx_image.specs.declared.runs.Stop.TheVariants.{Spent, Trap, Fault}
use Rattle.mx_proc.specs.declared.deliveries.Delivery.{Delivery}
use Rattle.mx_proc.specs.declared.deliveries.DeliveryKind.TheVariants.{Message, Notification}
use Rattle.mx_proc.specs.declared.errors.Errno.{Errno}
use Rattle.mx_proc.specs.declared.errors.Errno.TheVariants.{Denied, Dead}
use Rattle.mx_proc.specs.declared.process.DeathCause.{DeathCause}
use Rattle.mx_proc.specs.declared.process.DeathCause.TheVariants as cause
use Rattle.mx_proc.specs.declared.process.Partner.{Partner}
use Rattle.mx_proc.specs.declared.process.Partner.TheVariants as partner
use Rattle.mx_proc.specs.declared.process.Source.{Source}
use Rattle.mx_proc.specs.declared.process.Source.TheVariants as source
use Rattle.mx_proc.specs.declared.process.State.{State}
use Rattle.mx_proc.specs.declared.process.State.TheVariants.{Home, Ready, Out, Doomed, Sending, Calling, Receiving, Awaiting, Down}
use Rattle.mx_proc.specs.Errors.{errno_bits}
use Rattle.mx_proc.specs.Messages.{type_of}
use Rattle.mx_proc.specs.Partners.{order_of_source}
use Rattle.mx_proc.specs.Serving.{table_after_burial, table_after_forgetting, with_alarm, with_line, with_tick}
use Rattle.mx_proc.specs.Queues.{first_ready}
use Rattle.mx_proc.specs.States.{is_out, is_ready, is_sending}
use Rattle.mx_proc.specs.TableState.{TableState, endpoint_of, message_of, pending_source, process_at, source_endpoint, table_after_block, table_after_delivery, table_after_dequeue, table_after_notice, table_after_unblock, table_with_first, table_with_last, with_message, with_pending, with_result, with_state}
use Rattle.mx_proc.specs.Waits.{caller_of}
use Rattle.mx_ipc.specs.declared.trap_calls.Call.{Call}
use Rattle.mx_ipc.specs.declared.trap_calls.Call.TheVariants as call
use Rattle.mx_ipc.specs.declared.trap_calls.Party.{Party}
use Rattle.mx_ipc.specs.declared.trap_calls.Party.TheVariants.{Any, Hardware, Clock, System, Process as Named}
use Rattle.mx_ipc.specs.Checks.{call_of, call_refusal, party_of}
use Rattle.mx_kcall.specs.Calls.{accepts, call_answer, goes_on, hears, partner_of, trap_answer, table_after_call, table_after_call_by, table_after_checked_call, table_after_notifying, table_after_receive, table_after_receive_by, table_after_release, table_after_send, table_after_sendrec, table_after_taking, table_after_taking_from, table_after_trap, table_after_trap_by}
use Rattle.mx_kcall.specs.Clock.{due_slots, table_after_ring, table_after_rings, table_after_tick}
use Rattle.mx_kcall.specs.Death.{table_after_death, table_after_freeing, table_after_freeing_all, table_after_taking_out, waiting_for}
use Rattle.mx_kcall.specs.Queueing.{is_last_renewed, next_level, table_after_queueing}
use Rattle.mx_kcall.specs.Refusals.{kernel_call_refusal, kernel_call_refusal_by, owner_of}
use Rattle.mx_kcall.specs.Requests.{kernel_call_under, message_words_at, no_reply_words, reply_bytes}
use Rattle.mx_kcall.specs.Respawn.{table_after_respawn}
use Rattle.mx_kcall.specs.Service.{Service}
use Rattle.mx_kcall.specs.Effects.{Effect, table_after_effect}
use Rattle.mx_kcall.specs.Effects.Effect.{Kills}
use Rattle.mx_kcall.specs.Known.{known}
use Rattle.mx_kcall.specs.Rows.{first_call}
use Rattle.mx_kcall.specs.Serving.{effect_of, ends_caller, table_after_change, table_after_kernel_call, table_after_kernel_call_by, table_after_reply, table_after_serving, words_of_reply}
use Rattle.mx_kcall.specs.TrapAnswer.{TrapAnswer}
use Rattle.mx_kcall.specs.TrapAnswer.TheVariants as trap_ends
use Rattle.mx_kcall.specs.declared.request.KernelCall.{KernelCall}
use Rattle.mx_kcall.specs.declared.request.ReplyWords.{ReplyWords}
use Rattle.mx_machine.specs.declared.events.Event.{Event}
use Rattle.mx_machine.specs.declared.events.Event.TheVariants as event
use Rattle.mx_machine.specs.Move.{is_doomed, table_after_back, table_after_coming_home, table_after_end_of_turn, table_after_kill, table_after_sending_out, table_after_trap_at_back, world_after_back, world_after_event, world_after_line, world_after_respawn, world_after_step, world_after_take}
use Rattle.mx_machine.specs.World.{World, HeldProcess, held_by}

-- a table with these recorded deliveries
abbrev pub kept : TableState → List Delivery → TableState
kept t xs = record t { deliveries = xs }

-- those that are recorded after more are made
abbrev pub keep : List Delivery → List Delivery → List Delivery
keep xs [] = xs
keep xs (d ∷ ds) = keep (keep_last 1024 (xs ++ d ∷ [])) ds

pub keep-append : (ds es xs : List Delivery) → keep xs (ds ++ es) ≡ keep (keep xs ds) es
keep-append [] es xs = refl
keep-append (d ∷ ds) es xs = keep-append ds es (keep_last 1024 (xs ++ d ∷ []))

-- ---- what is made

abbrev pub message_made : TableState → ℕ → ℕ → Delivery
message_made t from to = record { from = endpoint_of t from; to = endpoint_of t to; message_type = type_of (message_of t from); kind = Message }

abbrev pub notice_made : TableState → Source → ℕ → Delivery
notice_made t x d = record { from = source_endpoint t x; to = endpoint_of t d; message_type = 4096; kind = Notification }

abbrev pub made_of_send : TableState → ℕ → ℕ → List Delivery
made_of_send t s d = cond (accepts (process_at t d).state s) (message_made t s d ∷ []) []

abbrev pub made_of_notifying : TableState → Source → ℕ → List Delivery
made_of_notifying t x d = cond (hears (process_at t d).state x) (notice_made t x d ∷ []) []

abbrev pub made_of_taking : TableState → ℕ → Option ℕ → List Delivery
made_of_taking t s None = []
made_of_taking t s (Some p) = message_made t p s ∷ []

abbrev pub made_of_receive : TableState → ℕ → Partner → Option Source → List Delivery
made_of_receive t s p None = made_of_taking t s (caller_of s p t.waits)
made_of_receive t s p (Some x) = notice_made t x s ∷ []

abbrev pub table_after_asking : TableState → ℕ → ℕ → TableState
table_after_asking t s d = goes_on (table_after_delivery t s d) d 0

abbrev pub made_of_sendrec : TableState → ℕ → ℕ → List Delivery
made_of_sendrec t s d = cond (accepts (process_at t d).state s) (message_made t s d ∷ made_of_taking (table_after_asking t s d) s (caller_of s (partner.Only (source.Slot d)) (table_after_asking t s d).waits)) []

abbrev pub made_of_checked_call : TableState → ℕ → Call → Party → List Delivery
made_of_checked_call t s call.Send (Named d g) = made_of_send t s d
made_of_checked_call t s call.Receive x = made_of_receive t s (partner_of x) (pending_source t s (partner_of x))
made_of_checked_call t s call.Sendrec (Named d g) = made_of_sendrec t s d
made_of_checked_call t s call.Notify (Named d g) = made_of_notifying t (source.Slot s) d
made_of_checked_call t s _ _ = []

abbrev pub made_of_call : TableState → ℕ → Call → Option Party → Option Errno → List Delivery
made_of_call t s c x (Some e) = []
made_of_call t s c None None = []
made_of_call t s c (Some x) None = made_of_checked_call t s c x

abbrev pub made_of_trap_by : TableState → ℕ → Option Call → ℕ → List Delivery
made_of_trap_by t s None n = []
made_of_trap_by t s (Some c) n = made_of_call t s c (party_of t n) (call_refusal t s c (party_of t n))

abbrev pub made_of_trap : TableState → ℕ → TrapAnswer → List Delivery
made_of_trap t s trap_ends.Done = made_of_trap_by t s (call_of (process_at t s).image.regs.ecx) (process_at t s).image.regs.eax
made_of_trap t s trap_ends.Kernel = []

abbrev pub made_of_end_of_turn : TableState → ℕ → Bool → Stop → List Delivery
made_of_end_of_turn t s true stop = []
made_of_end_of_turn t s false Spent = []
made_of_end_of_turn t s false Trap = made_of_trap t s (trap_answer t s)
made_of_end_of_turn t s false (Fault v) = []

abbrev pub made_of_back : TableState → Option HeldProcess → List Delivery
made_of_back t None = []
made_of_back t (Some l) = made_of_end_of_turn (table_after_coming_home t l) l.slot (is_doomed (process_at t l.slot).state) l.out.stop

abbrev pub made_of_line : TableState → ℕ → Option ℕ → List Delivery
made_of_line t l None = []
made_of_line t l (Some s) = made_of_notifying (with_line t s l) source.Hardware s

abbrev pub made_of_rings : List ℕ → TableState → List Delivery
made_of_rings [] t = []
made_of_rings (s ∷ ps) t = made_of_notifying (with_alarm t s None) source.Clock s ++ made_of_rings ps (table_after_ring t s)

abbrev pub made_in : World → ℕ → Event → List Delivery
made_in w a event.Back = made_of_back w.table (held_by w a)
made_in w a (event.Line l) = made_of_line w.table l (owner_of w.table l)
made_in w a event.Tick = let later = with_tick w.table in made_of_rings (due_slots later.uptime 0 later.slots) later
made_in w a _ = []

-- ---- calls

both : (b : Bool) (x y u v : TableState) (xs ds es : List Delivery) → x ≡ kept u (keep xs ds) → y ≡ kept v (keep xs es) → cond b x y ≡ kept (cond b u v) (keep xs (cond b ds es))
both true x y u v xs ds es e f = e
both false x y u v xs ds es e f = f

quiet : (b : Bool) (x y u v : TableState) (xs : List Delivery) → x ≡ kept u xs → y ≡ kept v xs → cond b x y ≡ kept (cond b u v) xs
quiet true x y u v xs e f = e
quiet false x y u v xs e f = f

queueing_kept : (t : TableState) (s : ℕ) (xs : List Delivery) → table_after_queueing (kept t xs) s ≡ kept (table_after_queueing t s) xs
unfolding table_after_queueing
queueing_kept t s xs = quiet (nat_lt 0 (process_at t s).schedule.ticks) _ _ (table_with_first t s) (table_with_last t s (next_level (process_at t s) (is_last_renewed t s))) xs refl refl

goes_on_kept : (t : TableState) (s r : ℕ) (xs : List Delivery) → goes_on (kept t xs) s r ≡ kept (goes_on t s r) xs
unfolding goes_on
goes_on_kept t s r xs = queueing_kept (with_result t s r) s xs

then_goes_on : (x t : TableState) (s r : ℕ) (xs : List Delivery) → x ≡ kept t xs → goes_on x s r ≡ kept (goes_on t s r) xs
then_goes_on x t s r xs e = ap (λ z. goes_on z s r) e ∙ goes_on_kept t s r xs

delivery_kept : (t : TableState) (from to : ℕ) (xs : List Delivery) → table_after_delivery (kept t xs) from to ≡ kept (table_after_delivery t from to) (keep xs (message_made t from to ∷ []))
unfolding table_after_delivery
delivery_kept t from to xs = refl

notice_kept : (t : TableState) (d : ℕ) (x : Source) (xs : List Delivery) → table_after_notice (kept t xs) d x ≡ kept (table_after_notice t d x) (keep xs (notice_made t x d ∷ []))
unfolding table_after_notice
notice_kept t d source.Hardware xs = refl
notice_kept t d source.Clock xs = refl
notice_kept t d (source.Slot s) xs = refl

send_kept : (t : TableState) (s d : ℕ) (xs : List Delivery) → table_after_send (kept t xs) s d ≡ kept (table_after_send t s d) (keep xs (made_of_send t s d))
unfolding table_after_send
send_kept t s d xs = both (accepts (process_at t d).state s) _ _ (goes_on (table_after_asking t s d) s 0) (table_after_block t s d Sending) xs (message_made t s d ∷ []) []
    (then_goes_on _ (table_after_asking t s d) s 0 (keep xs (message_made t s d ∷ [])) (then_goes_on _ (table_after_delivery t s d) d 0 (keep xs (message_made t s d ∷ [])) (delivery_kept t s d xs)))
    refl

notifying_kept : (t : TableState) (x : Source) (d : ℕ) (xs : List Delivery) → table_after_notifying (kept t xs) x d ≡ kept (table_after_notifying t x d) (keep xs (made_of_notifying t x d))
unfolding table_after_notifying
notifying_kept t x d xs = both (hears (process_at t d).state x) _ _ (goes_on (table_after_notice t d x) d 0) (with_pending t d (order_of_source x) true) xs (notice_made t x d ∷ []) []
    (then_goes_on _ (table_after_notice t d x) d 0 (keep xs (notice_made t x d ∷ [])) (notice_kept t d x xs))
    refl

release_kept : (t : TableState) (s p : ℕ) (st : State) (xs : List Delivery) → table_after_release (kept t xs) s p st ≡ kept (table_after_release t s p st) xs
unfolding table_after_release
release_kept t s p Calling xs = refl
release_kept t s p Home xs = goes_on_kept (table_after_unblock t p) p 0 xs
release_kept t s p Ready xs = goes_on_kept (table_after_unblock t p) p 0 xs
release_kept t s p Out xs = goes_on_kept (table_after_unblock t p) p 0 xs
release_kept t s p Doomed xs = goes_on_kept (table_after_unblock t p) p 0 xs
release_kept t s p Sending xs = goes_on_kept (table_after_unblock t p) p 0 xs
release_kept t s p (Receiving x) xs = goes_on_kept (table_after_unblock t p) p 0 xs
release_kept t s p (Awaiting x) xs = goes_on_kept (table_after_unblock t p) p 0 xs
release_kept t s p (Down x) xs = goes_on_kept (table_after_unblock t p) p 0 xs

taking_from_kept : (t : TableState) (s : ℕ) (st : State) (o : Option ℕ) (xs : List Delivery) → table_after_taking_from (kept t xs) s st o ≡ kept (table_after_taking_from t s st o) (keep xs (made_of_taking t s o))
taking_from_kept t s st None xs = refl
taking_from_kept t s st (Some p) xs =
    let ys = keep xs (message_made t p s ∷ []) in
    let was = (process_at t p).state in
    then_goes_on _ (table_after_release (table_after_delivery t p s) s p was) s 0 ys
    (ap (λ z. table_after_release z s p was) (delivery_kept t p s xs) ∙ release_kept (table_after_delivery t p s) s p was ys)

taking_kept : (t : TableState) (s : ℕ) (p : Partner) (st : State) (xs : List Delivery) → table_after_taking (kept t xs) s p st ≡ kept (table_after_taking t s p st) (keep xs (made_of_taking t s (caller_of s p t.waits)))
unfolding table_after_taking
taking_kept t s p st xs = taking_from_kept t s st (caller_of s p t.waits) xs

receive_by_kept : (t : TableState) (s : ℕ) (p : Partner) (o : Option Source) (xs : List Delivery) → table_after_receive_by (kept t xs) s p o ≡ kept (table_after_receive_by t s p o) (keep xs (made_of_receive t s p o))
receive_by_kept t s p None xs = taking_kept t s p (Receiving p) xs
receive_by_kept t s p (Some x) xs = then_goes_on _ (table_after_notice t s x) s 0 (keep xs (notice_made t x s ∷ [])) (notice_kept t s x xs)

receive_kept : (t : TableState) (s : ℕ) (p : Partner) (xs : List Delivery) → table_after_receive (kept t xs) s p ≡ kept (table_after_receive t s p) (keep xs (made_of_receive t s p (pending_source t s p)))
unfolding table_after_receive
receive_kept t s p xs = receive_by_kept t s p (pending_source t s p) xs

sendrec_kept : (t : TableState) (s d : ℕ) (xs : List Delivery) → table_after_sendrec (kept t xs) s d ≡ kept (table_after_sendrec t s d) (keep xs (made_of_sendrec t s d))
unfolding table_after_sendrec
sendrec_kept t s d xs =
    let ys = keep xs (message_made t s d ∷ []) in
    let v = table_after_asking t s d in
    both (accepts (process_at t d).state s) _ _ (table_after_taking v s (partner.Only (source.Slot d)) (Awaiting d)) (table_after_block t s d Calling) xs
    (message_made t s d ∷ made_of_taking v s (caller_of s (partner.Only (source.Slot d)) v.waits)) []
    (ap (λ z. table_after_taking z s (partner.Only (source.Slot d)) (Awaiting d)) (then_goes_on _ (table_after_delivery t s d) d 0 ys (delivery_kept t s d xs)) ∙ taking_kept v s (partner.Only (source.Slot d)) (Awaiting d) ys)
    refl

checked_call_kept : (t : TableState) (s : ℕ) (c : Call) (x : Party) (xs : List Delivery) → table_after_checked_call (kept t xs) s c x ≡ kept (table_after_checked_call t s c x) (keep xs (made_of_checked_call t s c x))
checked_call_kept t s call.Send Any xs = refl
checked_call_kept t s call.Send Hardware xs = refl
checked_call_kept t s call.Send Clock xs = refl
checked_call_kept t s call.Send System xs = refl
checked_call_kept t s call.Send (Named d g) xs = send_kept t s d xs
checked_call_kept t s call.Receive x xs = receive_kept t s (partner_of x) xs
checked_call_kept t s call.Sendrec Any xs = refl
checked_call_kept t s call.Sendrec Hardware xs = refl
checked_call_kept t s call.Sendrec Clock xs = refl
checked_call_kept t s call.Sendrec System xs = refl
checked_call_kept t s call.Sendrec (Named d g) xs = sendrec_kept t s d xs
checked_call_kept t s call.Notify Any xs = refl
checked_call_kept t s call.Notify Hardware xs = refl
checked_call_kept t s call.Notify Clock xs = refl
checked_call_kept t s call.Notify System xs = refl
checked_call_kept t s call.Notify (Named d g) xs =
    then_goes_on _ (table_after_notifying t (source.Slot s) d) s 0 (keep xs (made_of_notifying t (source.Slot s) d)) (notifying_kept t (source.Slot s) d xs)

call_by_kept : (t : TableState) (s : ℕ) (c : Call) (x : Option Party) (e : Option Errno) (xs : List Delivery) → table_after_call_by (kept t xs) s c x e ≡ kept (table_after_call_by t s c x e) (keep xs (made_of_call t s c x e))
call_by_kept t s c x (Some e) xs = goes_on_kept t s (errno_bits e) xs
call_by_kept t s c None None xs = refl
call_by_kept t s c (Some x) None xs = checked_call_kept t s c x xs

party_kept : (t : TableState) (n : ℕ) (xs : List Delivery) → party_of (kept t xs) n ≡ party_of t n
unfolding party_of
party_kept t n xs = refl

refusal_kept : (t : TableState) (s : ℕ) (c : Call) (x : Option Party) (xs : List Delivery) → call_refusal (kept t xs) s c x ≡ call_refusal t s c x
unfolding call_refusal
refusal_kept t s c x xs = refl

call_kept : (t : TableState) (s : ℕ) (c : Call) (n : ℕ) (xs : List Delivery)
    → table_after_call (kept t xs) s c n ≡ kept (table_after_call t s c n) (keep xs (made_of_call t s c (party_of t n) (call_refusal t s c (party_of t n))))
unfolding table_after_call
call_kept t s c n xs =
    ap (λ p. table_after_call_by (kept t xs) s c p (call_refusal (kept t xs) s c p)) (party_kept t n xs)
    ∙ ap (table_after_call_by (kept t xs) s c (party_of t n)) (refusal_kept t s c (party_of t n) xs)
    ∙ call_by_kept t s c (party_of t n) (call_refusal t s c (party_of t n)) xs

trap_by_kept : (t : TableState) (s : ℕ) (c : Option Call) (n : ℕ) (xs : List Delivery) → table_after_trap_by (kept t xs) s c n ≡ kept (table_after_trap_by t s c n) (keep xs (made_of_trap_by t s c n))
trap_by_kept t s None n xs = goes_on_kept t s (errno_bits Denied) xs
trap_by_kept t s (Some c) n xs = call_kept t s c n xs

answer_kept : (t : TableState) (s : ℕ) (xs : List Delivery) → trap_answer (kept t xs) s ≡ trap_answer t s
unfolding trap_answer call_answer party_of call_refusal
answer_kept t s xs = refl

-- ---- deaths and kernel calls

taking_out_kept : (t : TableState) (s : ℕ) (xs : List Delivery) → table_after_taking_out (kept t xs) s ≡ kept (table_after_taking_out t s) xs
unfolding table_after_taking_out
taking_out_kept t s xs =
    let st = (process_at t s).state in
    quiet (is_ready st) _ _ (table_after_dequeue t s) (cond (is_sending st) (table_after_unblock t s) t) xs refl (quiet (is_sending st) _ _ (table_after_unblock t s) t xs refl refl)

freeing_kept : (ps : List ℕ) (t : TableState) (xs : List Delivery) → table_after_freeing_all (kept t xs) ps ≡ kept (table_after_freeing_all t ps) xs
freeing_kept [] t xs = refl
freeing_kept (p ∷ ps) t xs =
    ap (λ z. table_after_freeing_all z ps) (then_goes_on _ (table_after_taking_out t p) p (errno_bits Dead) xs (taking_out_kept t p xs))
    ∙ freeing_kept ps (table_after_freeing t p) xs

death_kept : (t : TableState) (s : ℕ) (why : DeathCause) (xs : List Delivery) → table_after_death (kept t xs) s why ≡ kept (table_after_death t s why) xs
unfolding table_after_death
death_kept t s why xs =
    let left = table_after_taking_out t s in
    ap (λ z. table_after_burial (table_after_forgetting (table_after_freeing_all z (waiting_for z s)) s) s why) (taking_out_kept t s xs)
    ∙ ap (λ z. table_after_burial (table_after_forgetting z s) s why) (freeing_kept (waiting_for left s) left xs)

effect_kept : (t : TableState) (s : ℕ) (e : Effect) (xs : List Delivery) → table_after_effect (kept t xs) s e ≡ kept (table_after_effect t s e) xs
effect_kept t s (Kills d) xs = death_kept t d cause.Kill xs
effect_kept t s _ xs = refl

reply_kept : (t : TableState) (s n : ℕ) (a : ReplyWords) (xs : List Delivery) → table_after_reply (kept t xs) s n a ≡ kept (table_after_reply t s n a) xs
unfolding table_after_reply
reply_kept t s n a xs = goes_on_kept (with_message t s (reply_bytes n a)) s 0 xs

serving_kept : (t : TableState) (s : ℕ) (r : KernelCall) (xs : List Delivery) → table_after_serving (kept t xs) s r ≡ kept (table_after_serving t s r) xs
unfolding table_after_serving
serving_kept t s r xs = quiet (ends_caller s r) _ _ (table_after_death t s cause.Exit) (table_after_reply (table_after_change t s r) s 0 (words_of_reply t s r)) xs
    (death_kept t s cause.Exit xs)
    (ap (λ z. table_after_reply z s 0 (words_of_reply t s r)) (effect_kept t s (effect_of (known t s) s r) xs)
    ∙ reply_kept (table_after_change t s r) s 0 (words_of_reply t s r) xs)

kernel_call_by_kept : (t : TableState) (s : ℕ) (r : Option KernelCall) (e : Option Errno) (xs : List Delivery) → table_after_kernel_call_by (kept t xs) s r e ≡ kept (table_after_kernel_call_by t s r e) xs
kernel_call_by_kept t s r (Some e) xs = reply_kept t s (errno_bits e) no_reply_words xs
kernel_call_by_kept t s (Some r) None xs = serving_kept t s r xs
kernel_call_by_kept t s None None xs = refl

refusal_by_kept : (t : TableState) (s bit : ℕ) (r : Option KernelCall) (xs : List Delivery) → kernel_call_refusal_by (kept t xs) s bit r ≡ kernel_call_refusal_by t s bit r
refusal_by_kept t s bit None xs = refl
refusal_by_kept t s bit (Some r) xs = refl

words_at_kept : (t : TableState) (s : ℕ) (xs : List Delivery) → message_words_at (kept t xs) s ≡ message_words_at t s
unfolding message_words_at
words_at_kept t s xs = refl

kernel_call_kept : (t : TableState) (s : ℕ) (xs : List Delivery) → table_after_kernel_call (kept t xs) s ≡ kept (table_after_kernel_call t s) xs
unfolding table_after_kernel_call kernel_call_refusal
kernel_call_kept t s xs =
    ap (λ m. table_after_kernel_call_by (kept t xs) s (kernel_call_under t.rules m) (kernel_call_refusal_by (kept t xs) s (m.kind - first_call) (kernel_call_under t.rules m))) (words_at_kept t s xs)
    ∙ ap (table_after_kernel_call_by (kept t xs) s asked) (refusal_by_kept t s bit asked xs)
    ∙ kernel_call_by_kept t s asked (kernel_call_refusal_by t s bit asked) xs
  where
    asked : Option KernelCall
    asked = kernel_call_under t.rules (message_words_at t s)

    bit : ℕ
    bit = (message_words_at t s).kind - first_call

-- ---- events

trap_at_back_kept : (t : TableState) (s : ℕ) (x : TrapAnswer) (xs : List Delivery) → table_after_trap_at_back (kept t xs) s x ≡ kept (table_after_trap_at_back t s x) (keep xs (made_of_trap t s x))
unfolding table_after_trap
trap_at_back_kept t s trap_ends.Done xs = trap_by_kept t s (call_of (process_at t s).image.regs.ecx) (process_at t s).image.regs.eax xs
trap_at_back_kept t s trap_ends.Kernel xs = kernel_call_kept t s xs

end_of_turn_kept : (t : TableState) (s : ℕ) (b : Bool) (x : Stop) (xs : List Delivery) → table_after_end_of_turn (kept t xs) s b x ≡ kept (table_after_end_of_turn t s b x) (keep xs (made_of_end_of_turn t s b x))
end_of_turn_kept t s true x xs = death_kept t s cause.Kill xs
end_of_turn_kept t s false Spent xs = queueing_kept t s xs
end_of_turn_kept t s false Trap xs = ap (table_after_trap_at_back (kept t xs) s) (answer_kept t s xs) ∙ trap_at_back_kept t s (trap_answer t s) xs
end_of_turn_kept t s false (Fault v) xs = death_kept t s (cause.Fault v) xs

coming_home_kept : (t : TableState) (l : HeldProcess) (xs : List Delivery) → table_after_coming_home (kept t xs) l ≡ kept (table_after_coming_home t l) xs
unfolding table_after_coming_home
coming_home_kept t l xs = refl

back_kept : (t : TableState) (l : HeldProcess) (xs : List Delivery) → table_after_back (kept t xs) l ≡ kept (table_after_back t l) (keep xs (made_of_back t (Some l)))
unfolding table_after_back
back_kept t l xs =
    let doomed = is_doomed (process_at t l.slot).state in
    ap (λ z. table_after_end_of_turn z l.slot doomed l.out.stop) (coming_home_kept t l xs) ∙ end_of_turn_kept (table_after_coming_home t l) l.slot doomed l.out.stop xs

rings_kept : (ps : List ℕ) (t : TableState) (xs : List Delivery) → table_after_rings (kept t xs) ps ≡ kept (table_after_rings t ps) (keep xs (made_of_rings ps t))
rings_kept [] t xs = refl
rings_kept (s ∷ ps) t xs =
    let first = made_of_notifying (with_alarm t s None) source.Clock s in
    let rest = made_of_rings ps (table_after_ring t s) in
    ap (λ z. table_after_rings z ps) (notifying_kept (with_alarm t s None) source.Clock s xs)
    ∙ rings_kept ps (table_after_ring t s) (keep xs first)
    ∙ ap (kept (table_after_rings (table_after_ring t s) ps)) (sym (keep-append first rest xs))

tick_kept : (t : TableState) (xs : List Delivery) → table_after_tick (kept t xs) ≡ kept (table_after_tick t) (keep xs (let later = with_tick t in made_of_rings (due_slots later.uptime 0 later.slots) later))
unfolding table_after_tick
tick_kept t xs = let later = with_tick t in rings_kept (due_slots later.uptime 0 later.slots) later xs

kill_kept : (t : TableState) (s : ℕ) (xs : List Delivery) → table_after_kill (kept t xs) s ≡ kept (table_after_kill t s) xs
unfolding table_after_kill
kill_kept t s xs = quiet (is_out (process_at t s).state) _ _ (with_state t s Doomed) (table_after_death t s cause.Kill) xs refl (death_kept t s cause.Kill xs)

-- a world with these recorded deliveries
abbrev pub keeping : World → List Delivery → World
keeping w xs = record w { table = kept w.table xs }

-- WHAT IS RECORDED AFTER AN EVENT, whatever was recorded before
pub event_keeps : (w : World) (a : ℕ) (e : Event) (xs : List Delivery) → (world_after_event (keeping w xs) a e).table.deliveries ≡ keep xs (made_in w a e)
unfolding world_after_event table_after_sending_out table_after_respawn
event_keeps w a event.Step xs = by_option (held_by w a)
  where
    by_option : (o : Option HeldProcess) → (world_after_step (keeping w xs) a o).table.deliveries ≡ xs
    by_option None = refl
    by_option (Some l) = refl
event_keeps w a event.Take xs = by_option (first_ready w.table.ready)
  where
    by_option : (o : Option ℕ) → (world_after_take (keeping w xs) a o).table.deliveries ≡ xs
    by_option None = refl
    by_option (Some s) = refl
event_keeps w a event.Back xs = by_option (held_by w a)
  where
    by_option : (o : Option HeldProcess) → (world_after_back (keeping w xs) a o).table.deliveries ≡ keep xs (made_of_back w.table o)
    by_option None = refl
    by_option (Some l) = ap (λ (t : TableState). t.deliveries) (back_kept w.table l xs)
event_keeps w a (event.Line l) xs = by_option (owner_of w.table l)
  where
    by_option : (o : Option ℕ) → (world_after_line (keeping w xs) l o).table.deliveries ≡ keep xs (made_of_line w.table l o)
    by_option None = refl
    by_option (Some s) = ap (λ (t : TableState). t.deliveries) (notifying_kept (with_line w.table s l) source.Hardware s xs)
event_keeps w a event.Tick xs = ap (λ (t : TableState). t.deliveries) (tick_kept w.table xs)
event_keeps w a (event.Kill e) xs = ap (λ (t : TableState). t.deliveries) (kill_kept w.table (e % 1024) xs)
event_keeps w a (event.Respawn s) xs = by_option (slice_get w.services s)
  where
    by_option : (o : Option Service) → (world_after_respawn (keeping w xs) s o).table.deliveries ≡ xs
    by_option None = refl
    by_option (Some v) = refl
