-- What a return does to the images of a table is what it writes down.
use Rattle.std.proofs.Common.{◌≡◌, ◌∙◌, ℕ, ◌%◌, Bool, true, false, [], ◌∷◌, Option, Some, None, refl, sym, ap}
use Rattle.mx_image.specs.declared.runs.Stop.{Stop}
use Rattle.mx_image.specs.declared.runs.Stop.TheVariants.{Spent, Trap, Fault}
use Rattle.mx_proc.specs.declared.process.DeathCause.TheVariants as cause
use Rattle.mx_proc.specs.declared.errors.Errno.{Errno}
use Rattle.mx_proc.specs.declared.errors.Errno.TheVariants.{Denied}
use Rattle.mx_proc.specs.declared.process.Partner.{Partner}
use Rattle.mx_proc.specs.declared.process.Partner.TheVariants as partner
use Rattle.mx_proc.specs.declared.process.State.TheVariants.{Receiving, Awaiting}
use Rattle.mx_proc.specs.declared.process.Source.{Source}
use Rattle.mx_proc.specs.declared.process.Source.TheVariants as source
use Rattle.mx_proc.specs.declared.process.State.{State}
use Rattle.mx_proc.specs.Errors.{errno_bits}
use Rattle.mx_proc.specs.Waits.{caller_of}
use Rattle.mx_mem.specs.Segment.{part}
use Rattle.mx_proc.specs.TableState.{TableState, process_at, message_of, memory_at, table_after_delivery, pending_source, with_message}
use Rattle.mx_ipc.specs.declared.trap_calls.Call.{Call}
use Rattle.mx_ipc.specs.declared.trap_calls.Call.TheVariants as call
use Rattle.mx_ipc.specs.declared.trap_calls.Party.{Party}
use Rattle.mx_ipc.specs.declared.trap_calls.Party.TheVariants.{Any, Hardware, Clock, System, Process}
use Rattle.mx_kcall.specs.TrapAnswer.{TrapAnswer}
use Rattle.mx_kcall.specs.TrapAnswer.TheVariants as trap_ends
use Rattle.mx_ipc.specs.Checks.{call_of, party_of, call_refusal}
use Rattle.mx_kcall.specs.Calls.{accepts, goes_on, partner_of, trap_answer, table_after_taking, table_after_receive_by, table_after_receive, table_after_sendrec, table_after_notifying, table_after_checked_call, table_after_call_by, table_after_call, table_after_trap_by, table_after_trap}
use Rattle.mx_kcall.specs.declared.request.KernelCall.{KernelCall}
use Rattle.mx_kcall.specs.Effects.{Effect, table_after_effect}
use Rattle.mx_kcall.specs.Effects.Effect.{SetsAlarm, Copies, Kills, SetsWindow}
use Rattle.mx_kcall.specs.Known.{known}
use Rattle.mx_kcall.specs.declared.request.ReplyWords.{ReplyWords}
use Rattle.mx_kcall.specs.Requests.{kernel_call_under, message_words_at, reply_bytes, no_reply_words}
use Rattle.mx_kcall.specs.Refusals.{kernel_call_refusal}
use Rattle.mx_kcall.specs.Serving.{effect_of, words_of_reply, ends_caller, table_after_reply, table_after_serving, table_after_kernel_call_by, table_after_kernel_call}
use Rattle.mx_machine.specs.Move.{table_after_trap_at_back, table_after_end_of_turn}
use Rattle.mx_laws.specs.Diary.{play_all, images}
use Rattle.mx_laws.specs.Items.{bytes_of_notice, items_of_taking, items_of_notifying, items_of_receive, items_of_sendrec, items_of_checked_call, items_of_call, items_of_trap_by, items_of_effect, items_of_reply, items_of_serving, items_of_kernel_call, items_of_trap, items_of_end_of_turn}
use Rattle.mx_laws.specs.Diary.Item.{Message, Copy}
use Rattle.mx_laws.proofs.DiaryLemmas.{images-kept, play_all-append, one_given, by_case, queueing_images, goes_on_images, then_goes_on, delivery_images, notice_images, send_images, notifying_images, taking_from_images, death_images}

taking_images : (w : TableState) (s : ℕ) (p : Partner) (st : State) → images (table_after_taking w s p st) ≡ play_all (items_of_taking w s (caller_of s p w.waits)) (images w)
unfolding table_after_taking
taking_images w s p st = taking_from_images w s st (caller_of s p w.waits)

receive_by_images : (w : TableState) (s : ℕ) (p : Partner) (x : Option Source) → images (table_after_receive_by w s p x) ≡ play_all (items_of_receive w s p x) (images w)
receive_by_images w s p None = taking_images w s p (Receiving p)
receive_by_images w s p (Some x) = then_goes_on w _ ((s, Message (bytes_of_notice w s x)) ∷ []) s 0 (notice_images w s x)

receive_images : (w : TableState) (s : ℕ) (p : Partner) → images (table_after_receive w s p) ≡ play_all (items_of_receive w s p (pending_source w s p)) (images w)
unfolding table_after_receive
receive_images w s p = receive_by_images w s p (pending_source w s p)

sendrec_images : (w : TableState) (s d : ℕ) → images (table_after_sendrec w s d) ≡ play_all (items_of_sendrec w s d) (images w)
unfolding table_after_sendrec
sendrec_images w s d =
    let v = goes_on (table_after_delivery w s d) d 0 in
    by_case (accepts (process_at w d).state s) _ _ _ _ (images w)
    (taking_images v s (partner.Only (source.Slot d)) (Awaiting d) ∙ ap (play_all (items_of_taking v s (caller_of s (partner.Only (source.Slot d)) v.waits))) (then_goes_on w (table_after_delivery w s d) ((d, Message (message_of w s)) ∷ []) d 0 (delivery_images w s d)))
    (images-kept w.slots s _ refl)

checked_call_images : (w : TableState) (s : ℕ) (c : Call) (x : Party) → images (table_after_checked_call w s c x) ≡ play_all (items_of_checked_call w s c x) (images w)
checked_call_images w s call.Send Any = refl
checked_call_images w s call.Send Hardware = refl
checked_call_images w s call.Send Clock = refl
checked_call_images w s call.Send System = refl
checked_call_images w s call.Send (Process d g) = send_images w s d
checked_call_images w s call.Receive x = receive_images w s (partner_of x)
checked_call_images w s call.Sendrec Any = refl
checked_call_images w s call.Sendrec Hardware = refl
checked_call_images w s call.Sendrec Clock = refl
checked_call_images w s call.Sendrec System = refl
checked_call_images w s call.Sendrec (Process d g) = sendrec_images w s d
checked_call_images w s call.Notify Any = refl
checked_call_images w s call.Notify Hardware = refl
checked_call_images w s call.Notify Clock = refl
checked_call_images w s call.Notify System = refl
checked_call_images w s call.Notify (Process d g) = then_goes_on w (table_after_notifying w (source.Slot s) d) (items_of_notifying w (source.Slot s) d) s 0 (notifying_images w (source.Slot s) d)

call_by_images : (w : TableState) (s : ℕ) (c : Call) (x : Option Party) (e : Option Errno) → images (table_after_call_by w s c x e) ≡ play_all (items_of_call w s c x e) (images w)
call_by_images w s c x (Some e) = goes_on_images w s (errno_bits e)
call_by_images w s c None None = refl
call_by_images w s c (Some x) None = checked_call_images w s c x

trap_by_images : (w : TableState) (s : ℕ) (c : Option Call) (n : ℕ) → images (table_after_trap_by w s c n) ≡ play_all (items_of_trap_by w s c n) (images w)
unfolding table_after_call
trap_by_images w s None n = goes_on_images w s (errno_bits Denied)
trap_by_images w s (Some c) n = call_by_images w s c (party_of w n) (call_refusal w s c (party_of w n))

-- ---- kernel calls

effect_images : (w : TableState) (s : ℕ) (e : Effect) → images (table_after_effect w s e) ≡ play_all (items_of_effect w e) (images w)
effect_images w s (SetsAlarm due) = images-kept w.slots s _ refl
effect_images w s (Copies c) = one_given w (c.target.endpoint % 1024) (Copy c.target.offset (part (memory_at w (c.source.endpoint % 1024)) c.source.offset c.count)) _ refl
effect_images w s (Kills d) = death_images w d cause.Kill
effect_images w s (SetsWindow user window) = images-kept w.slots s _ refl
effect_images w s _ = refl

reply_images : (w : TableState) (s n : ℕ) (a : ReplyWords) → images (table_after_reply w s n a) ≡ play_all (items_of_reply s n a) (images w)
unfolding table_after_reply
reply_images w s n a = then_goes_on w (with_message w s (reply_bytes n a)) ((s, Message (reply_bytes n a)) ∷ []) s 0 (one_given w s (Message (reply_bytes n a)) _ refl)

serving_images : (w : TableState) (s : ℕ) (r : KernelCall) → images (table_after_serving w s r) ≡ play_all (items_of_serving w s r) (images w)
unfolding table_after_serving
serving_images w s r =
    let e = effect_of (known w s) s r in
    by_case (ends_caller s r) _ _ _ _ (images w) (death_images w s cause.Exit)
    (reply_images (table_after_effect w s e) s 0 (words_of_reply w s r) ∙ ap (play_all (items_of_reply s 0 (words_of_reply w s r))) (effect_images w s e) ∙ sym (play_all-append (items_of_effect w e) (items_of_reply s 0 (words_of_reply w s r)) (images w)))

kernel_call_by_images : (w : TableState) (s : ℕ) (r : Option KernelCall) (e : Option Errno) → images (table_after_kernel_call_by w s r e) ≡ play_all (items_of_kernel_call w s r e) (images w)
kernel_call_by_images w s r (Some e) = reply_images w s (errno_bits e) no_reply_words
kernel_call_by_images w s None None = refl
kernel_call_by_images w s (Some r) None = serving_images w s r

trap_images : (t : TableState) (s : ℕ) (x : TrapAnswer) → images (table_after_trap_at_back t s x) ≡ play_all (items_of_trap t s x) (images t)
unfolding table_after_trap table_after_kernel_call
trap_images t s trap_ends.Done = trap_by_images t s (call_of (process_at t s).image.regs.ecx) (process_at t s).image.regs.eax
trap_images t s trap_ends.Kernel = kernel_call_by_images t s (kernel_call_under t.rules (message_words_at t s)) (kernel_call_refusal t s)

pub end_of_turn_images : (t : TableState) (s : ℕ) (b : Bool) (x : Stop) → images (table_after_end_of_turn t s b x) ≡ play_all (items_of_end_of_turn t s b x) (images t)
end_of_turn_images t s true x = death_images t s cause.Kill
end_of_turn_images t s false Spent = queueing_images t s
end_of_turn_images t s false Trap = trap_images t s (trap_answer t s)
end_of_turn_images t s false (Fault v) = death_images t s (cause.Fault v)
