use Rattle.std.proofs.Common.{◌≡◌, ◌≢◌, ◌∙◌, ◌<◌, inl, inr, ap, sym, subst, length, length-set}
use Rattle.std.proofs.lemmas.Bool.{cases_eq}
use Rattle.mx_ipc.specs.Proc.declared.process.State.TheVariants.{Home, Down}
use Rattle.mx_ipc.specs.Proc.declared.process.Process.{Process}
use Rattle.mx_ipc.specs.Proc.declared.devices.Devices.{Devices}
use Rattle.mx_ipc.specs.Proc.Frame.{Frame, frame}
use Rattle.mx_ipc.specs.Proc.TableState.{TableState, process_at}
use Rattle.mx_ipc.specs.Proc.Serving.{without_bit_of}
use Rattle.mx_ipc.specs.Proc.States.{IsAlone, is_out}
use Rattle.mx_respawn.proofs.DeathLemmas.{died_is, forgotten-at, forgotten-used, forgotten-state, buried-state, same_devices, apart_at, home_used}
use Rattle.mx_respawn.proofs.death.die.Goals as goal

-- how many slots are used before it is forgotten
used_before : (c : goal.After-bury-arg-1) → length c.wake_receivers.new.table.slots ≡ length c.args.table.now.slots
used_before c = c.wake_receivers.ensures.used ∙ c.free_callers.ensures.used ∙ c.take_out.ensures.used

-- the slot as it left its queue
own_now : (c : goal.After-bury-arg-1) → process_at c.forget.new.self c.args.slot ≡ without_bit_of c.args.slot (process_at c.take_out.new.table c.args.slot)
own_now c = ap (λ (w : TableState). process_at w c.args.slot) c.forget.ensures.value
    ∙ forgotten-at c.wake_receivers.new.table c.args.slot c.args.slot (subst (λ n. c.args.slot < n) (sym (used_before c)) c.requires.slot)
    ∙ ap (without_bit_of c.args.slot) (c.wake_receivers.ensures.own ∙ c.free_callers.ensures.own)

pub bury-requires-clause-alone : goal.bury-requires-clause-alone
bury-requires-clause-alone c = subst (λ (p : Process). IsAlone p.state) (sym (own_now c)) c.take_out.ensures.alone

pub bury-requires-clause-home : goal.bury-requires-clause-home
bury-requires-clause-home c = ap (λ (p : Process). is_out p.state) (own_now c) ∙ c.take_out.ensures.home

pub returns-clause-value : goal.returns-clause-value
returns-clause-value c = died_is c.args.table.now c.take_out.new.table c.free_callers.new.table c.wake_receivers.new.table c.forget.new.self c.bury.new.self c.args.slot c.args.cause
    c.take_out.ensures.value c.free_callers.ensures.value c.wake_receivers.ensures.value c.free_callers.ensures.receivers c.forget.ensures.value c.bury.ensures.value

pub returns-clause-frame : goal.returns-clause-frame
returns-clause-frame c =
    c.bury.ensures.frame ∙ c.forget.ensures.frame
    ∙ ap (λ (x : Frame). let f : Frame = record x { devices = c.forget.new.self.devices } in f) (c.wake_receivers.ensures.frame ∙ c.free_callers.ensures.frame ∙ c.take_out.ensures.frame)
    ∙ ap (λ (w : TableState). let f : Frame = record (frame c.args.table.now) { devices = w.devices } in f) (sym c.bury.ensures.value)

pub returns-clause-used : goal.returns-clause-used
returns-clause-used c = ap (λ (w : TableState). length w.slots) c.bury.ensures.value ∙ length-set c.forget.new.self.slots _ _
    ∙ ap (λ (w : TableState). length w.slots) c.forget.ensures.value ∙ forgotten-used c.wake_receivers.new.table c.args.slot ∙ c.wake_receivers.ensures.used ∙ c.free_callers.ensures.used ∙ c.take_out.ensures.used

pub returns-clause-home : goal.returns-clause-home
returns-clause-home c s n h =
    let a : process_at c.take_out.new.table s ≡ process_at c.args.table.now s = c.take_out.ensures.others s n in
    let b : process_at c.free_callers.new.table s ≡ process_at c.take_out.new.table s = c.free_callers.ensures.others s (ap (λ (p : Process). p.state) a ∙ h) in
    let d : process_at c.wake_receivers.new.table s ≡ process_at c.free_callers.new.table s = c.wake_receivers.ensures.others s (ap (λ (p : Process). p.state) (b ∙ a) ∙ h) in
    ap (λ (w : TableState). process_at w s) c.bury.ensures.value ∙ apart_at c.forget.new.self.slots c.args.slot s _ n
    ∙ ap (λ (w : TableState). process_at w s) c.forget.ensures.value
    ∙ forgotten-at c.wake_receivers.new.table c.args.slot s (home_used c.wake_receivers.new.table s (ap (λ (p : Process). p.state) (d ∙ b ∙ a) ∙ h))
    ∙ ap (without_bit_of c.args.slot) (d ∙ b ∙ a)

pub returns-clause-console : goal.returns-clause-console
returns-clause-console c = ap (λ (w : TableState). w.devices.console) c.bury.ensures.value ∙ ap (λ (w : TableState). w.devices.console) c.forget.ensures.value
    ∙ ap (λ (d : Devices). d.console) (same_devices _ _ (c.wake_receivers.ensures.frame ∙ c.free_callers.ensures.frame ∙ c.take_out.ensures.frame))

used_then : (c : goal.After-bury-arg-1) → length c.forget.new.self.slots ≡ length c.args.table.now.slots
used_then c = ap (λ (w : TableState). length w.slots) c.forget.ensures.value ∙ forgotten-used c.wake_receivers.new.table c.args.slot ∙ used_before c

pub returns-clause-down : goal.returns-clause-down
returns-clause-down c = ap (λ (w : TableState). (process_at w c.args.slot).state) c.bury.ensures.value
    ∙ buried-state c.forget.new.self c.args.slot c.args.cause (subst (λ n. c.args.slot < n) (sym (used_then c.before)) c.requires.slot)

pub returns-clause-settled : goal.returns-clause-settled
returns-clause-settled c s h = elim (cases_eq s c.args.slot) [
  | inl e ↦ subst (λ x. (process_at c.bury.new.self x).state ≢ Home) (sym e) (λ k. let f : Down c.args.cause ≡ Home = sym (returns-clause-down c) ∙ k in cc)
  | inr n ↦ subst (λ st. st ≢ Home)
      (sym (ap (λ (w : TableState). (process_at w s).state) c.bury.ensures.value ∙ ap (λ (p : Process). p.state) (apart_at c.forget.new.self.slots c.args.slot s _ n)
      ∙ ap (λ (w : TableState). (process_at w s).state) c.forget.ensures.value ∙ forgotten-state c.args.slot c.wake_receivers.new.table.slots s))
      (c.wake_receivers.ensures.settled s (c.free_callers.ensures.settled s (subst (λ (p : Process). p.state ≢ Home) (sym (c.take_out.ensures.others s n)) h)))
]
