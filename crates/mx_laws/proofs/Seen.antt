-- What is seen of a world, slot by slot.
use Rattle.std.proofs.Common.{◌≡◌, ◌∙◌, ℕ, ◌<◌, ◌&&◌, not, cond, Some, None, refl, ap, get_or, slice_get, arith}
use Rattle.std.proofs.lemmas.Bool.{lt-ltb}
use Rattle.std.proofs.lemmas.List.FromFn.{get_or-map-range_with_len}
use Rattle.std.specs.Option.{option_map}
use Rattle.mx_proc.specs.declared.process.State.{State}
use Rattle.mx_proc.specs.declared.process.State.TheVariants.{Home, Ready, Out, Doomed, Sending, Calling, Receiving, Awaiting, Down}
use Rattle.mx_proc.specs.States.{is_blocked, is_out, is_ready}
use Rattle.mx_proc.specs.TableState.{TableState, process_at}
use Rattle.mx_kcall.specs.Service.{Service}
use Rattle.mx_machine.specs.Move.{is_doomed}
use Rattle.mx_machine.specs.World.{World, held_by}
use Rattle.mx_print_report.specs.declared.doing.Naming.TheVariants.{Endpoints}
use Rattle.mx_print_report.specs.SlotDoing.{doing_of}
use Rattle.mx_look.specs.Glances.{cpu_glance, cpu_glances, glance_of, glance_of_slot, held_glance, slot_glance, slot_glances}
use Rattle.mx_look.specs.Images.{image_glance}
use Rattle.mx_look.specs.Doings.{is_ready as is_ready_doing, is_out as is_out_doing, is_waiting, seen_is}
use Rattle.mx_look.specs.Going.{result_in}
use Rattle.mx_look.specs.Transition.{cpu_in, slot_in}

pub slot_seen : (w : World) (s : ℕ) (v : Service) → s < 32 → slice_get w.services s ≡ Some v → slot_in (glance_of w) s ≡ Some (glance_of_slot w.table s v)
unfolding slot_glances
slot_seen w s v lt e =
    ap (λ b. cond b (get_or (slot_glances w.table w.services) s None) None) (lt-ltb s 32 lt)
    ∙ get_or-map-range_with_len (slot_glance w.table w.services) 0 32 s s None lt (omega arith) ∙ ap (option_map (glance_of_slot w.table s)) e

pub cpu_seen : (w : World) (a : ℕ) → a < 8 → cpu_in (glance_of w) a ≡ option_map held_glance (held_by w a)
unfolding cpu_glances
cpu_seen w a lt =
    ap (λ b. cond b (get_or (cpu_glances w) a None) None) (lt-ltb a 8 lt)
    ∙ get_or-map-range_with_len (cpu_glance w) 0 8 a a None lt (omega arith)

waiting_is : (t : TableState) (s : ℕ) (st : State) → is_waiting (doing_of Endpoints t s st) ≡ is_blocked st
unfolding doing_of
waiting_is t s Home = refl
waiting_is t s Ready = refl
waiting_is t s Out = refl
waiting_is t s Doomed = refl
waiting_is t s Sending = refl
waiting_is t s Calling = refl
waiting_is t s (Receiving p) = refl
waiting_is t s (Awaiting d) = refl
waiting_is t s (Down c) = refl

ready_is : (t : TableState) (s : ℕ) (st : State) → is_ready_doing (doing_of Endpoints t s st) ≡ is_ready st
unfolding doing_of
ready_is t s Home = refl
ready_is t s Ready = refl
ready_is t s Out = refl
ready_is t s Doomed = refl
ready_is t s Sending = refl
ready_is t s Calling = refl
ready_is t s (Receiving p) = refl
ready_is t s (Awaiting d) = refl
ready_is t s (Down c) = refl

out_is : (t : TableState) (s : ℕ) (st : State) → is_out_doing (doing_of Endpoints t s st) ≡ (is_out st && not (is_doomed st))
unfolding doing_of
out_is t s Home = refl
out_is t s Ready = refl
out_is t s Out = refl
out_is t s Doomed = refl
out_is t s Sending = refl
out_is t s Calling = refl
out_is t s (Receiving p) = refl
out_is t s (Awaiting d) = refl
out_is t s (Down c) = refl

pub waiting_seen : (w : World) (s : ℕ) (v : Service) → s < 32 → slice_get w.services s ≡ Some v → seen_is is_waiting (slot_in (glance_of w) s) ≡ is_blocked (process_at w.table s).state
unfolding glance_of_slot
waiting_seen w s v lt e = ap (seen_is is_waiting) (slot_seen w s v lt e) ∙ waiting_is w.table s (process_at w.table s).state

pub out_seen : (w : World) (s : ℕ) (v : Service) → s < 32 → slice_get w.services s ≡ Some v
    → seen_is is_out_doing (slot_in (glance_of w) s) ≡ (is_out (process_at w.table s).state && not (is_doomed (process_at w.table s).state))
unfolding glance_of_slot
out_seen w s v lt e = ap (seen_is is_out_doing) (slot_seen w s v lt e) ∙ out_is w.table s (process_at w.table s).state

pub result_seen : (w : World) (s : ℕ) (v : Service) → s < 32 → slice_get w.services s ≡ Some v
    → result_in (slot_in (glance_of w) s) ≡ cond (is_ready (process_at w.table s).state) (Some (process_at w.table s).image.regs.eax) None
unfolding glance_of_slot image_glance
result_seen w s v lt e =
    ap result_in (slot_seen w s v lt e)
    ∙ ap (λ b. cond b (Some (process_at w.table s).image.regs.eax) None) (ready_is w.table s (process_at w.table s).state)
