-- A kernel's history in two parts: who is said to wait for ever after the first does so after the second.
use Rattle.std.proofs.Common.{◌≡◌, ◌∙◌, ℕ, List, [], ◌∷◌, ◌++◌, Some, append_assoc, ap, sym, refl, subst}
use Rattle.mx_machine.specs.declared.events.Event.{Event}
use Rattle.mx_machine.specs.declared.history.Record.{Record}
use Rattle.mx_machine.specs.Agrees.{IsBoot}
use Rattle.mx_machine.specs.History.{AreAccepted, BootAndHistory, events_of, events_of_history, replay}
use Rattle.mx_machine.specs.Laws.{Replays}
use Rattle.mx_machine.specs.Machine.{AreSound}
use Rattle.mx_machine.specs.Move.{move, moves, world_after_event}
use Rattle.mx_machine.specs.World.{World}
use Rattle.mx_why.specs.declared.verdicts.Verdict.{Verdict}
use Rattle.mx_why.specs.Never.{AreNoKills, KernelStaysWaiting}
use Rattle.mx_why.specs.Seats.{doing_in}
use Rattle.mx_why.specs.Seeing.{end_of}
use Rattle.mx_why.specs.Verdicts.{verdict}
use Rattle.mx_why.proofs.Staying.{stays_waiting}

events_append : (rs qs : List Record) → events_of_history (rs ++ qs) ≡ events_of_history rs ++ events_of_history qs
events_append [] qs = refl
events_append (r ∷ rs) qs =
    ap (λ (xs : List (ℕ × Event)). events_of r.actor r.event ++ xs) (events_append rs qs)
    ∙ sym (append_assoc (events_of r.actor r.event) (events_of_history rs) (events_of_history qs))

moves_append : (xs ys : List (ℕ × Event)) (w : World) → (moves w (xs ++ ys)).1 ≡ (moves (moves w xs).1 ys).1
moves_append [] ys w = refl
moves_append (x ∷ xs) ys w = moves_append xs ys (move w x.0 x.1).1

sound_parts : (xs ys : List (ℕ × Event)) (w : World) → AreSound w (xs ++ ys) → AreSound w xs × AreSound (moves w xs).1 ys
sound_parts [] ys w h = (tt, h)
sound_parts (x ∷ xs) ys w h = let k = sound_parts xs ys (move w x.0 x.1).1 h.1 in ((h.0, k.0), k.1)

accepted_front : (xs ys : List (ℕ × Event)) (w : World) → AreAccepted w (xs ++ ys) → AreAccepted w xs
accepted_front [] ys w h = tt
accepted_front (x ∷ xs) ys w h = (h.0, accepted_front xs ys (world_after_event w x.0 x.1) h.1)

-- What is known of a kernel's history.
pub record IsKernels (k : BootAndHistory) : Type 0 where
  pub booted : IsBoot k.boot
  pub sound : AreSound k.boot (events_of_history k.history)
  pub accepted : AreAccepted k.boot (events_of_history k.history)
  pub replays : (m : BootAndHistory) → AreAccepted m.boot (events_of_history m.history) → Replays m

pub kernel_stays_waiting : (k : BootAndHistory) → IsKernels k → (before later : List Record) (s : ℕ) (said : Verdict) → KernelStaysWaiting k before later s said
kernel_stays_waiting k known before later s said same spared h never =
    let xs = events_of_history before in
    let ys = events_of_history later in
    let m : BootAndHistory = record k { history = before } in
    let parts : events_of_history k.history ≡ xs ++ ys = ap events_of_history same ∙ events_append before later in
    let sound = sound_parts xs ys k.boot (subst (AreSound k.boot) parts known.sound) in
    let front = accepted_front xs ys k.boot (subst (AreAccepted k.boot) parts known.accepted) in
    let first : (moves k.boot xs).1 ≡ replay m = (known.replays m front).world in
    let last : (moves (moves k.boot xs).1 ys).1 ≡ replay k =
    sym (moves_append xs ys k.boot) ∙ ap (λ (zs : List (ℕ × Event)). (moves k.boot zs).1) (sym parts) ∙ (known.replays k known.accepted).world in
    ap (λ (v : World). doing_in (end_of v) s) (sym last)
    ∙ stays_waiting k.boot xs s said ys known.booted sound.0 sound.1 (subst (λ (v : World). AreNoKills v ys) (sym first) spared)
    (subst (λ (v : World). verdict (end_of v) s ≡ Some said) (sym first) h) never
    ∙ ap (λ (v : World). doing_in (end_of v) s) first
