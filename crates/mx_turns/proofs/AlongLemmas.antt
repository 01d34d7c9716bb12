-- A machine that goes along a history.
use Rattle.std.proofs.Common.{◌≡◌, ◌∙◌, ◌<◌, ◌≤◌, ◌+◌, ◌-◌, ℕ, ◌++◌, All, List, [], ◌∷◌, append_assoc, Result, Ok, Err, IfOk, drop, length, take, refl, ap, arith, subst, sym}
use Rattle.std.proofs.lemmas.List.{drop-take, take-append-drop, take-take}
use Rattle.std.proofs.lemmas.List.Elements.{All-drop, All-take}
use Rattle.mx_app_step.proofs.AcceptedLemmas.{front_accepted}
use Rattle.mx_app_step.specs.Kept.{kept_of}
use Rattle.mx_app_step.specs.Machine.{MachineState, world_of}
use Rattle.mx_machine.specs.Boot.{world_at_boot}
use Rattle.mx_machine.specs.declared.config.Config.{Config}
use Rattle.mx_machine.specs.declared.events.Event.{Event}
use Rattle.mx_machine.specs.declared.history.Record.{Record}
use Rattle.mx_machine.specs.History.{AreAccepted, BootAndHistory, events_of, events_of_history, world_after_events}
use Rattle.mx_machine.specs.Move.{moves, world_after_event}
use Rattle.mx_machine.specs.Service.{Service}
use Rattle.mx_machine.specs.World.{World, actors}
use Rattle.mx_machine.proofs.ActorLemmas.{actors_after_events}
use Rattle.mx_machine.proofs.ReplayLemmas.{after_append}
use Rattle.mx_turns.specs.declared.pairs.Pair.{Pair}
use Rattle.mx_turns.specs.Swept.{IsAlong, IsComing, IsPair}
use Rattle.mx_turns.proofs.MadeLemmas.{kept_append, kept_boot}

events_both : (xs ys : List Record) → events_of_history (xs ++ ys) ≡ events_of_history xs ++ events_of_history ys
events_both [] ys = refl
events_both (x ∷ xs) ys = ap (λ l. events_of x.actor x.event ++ l) (events_both xs ys) ∙ sym (append_assoc (events_of x.actor x.event) (events_of_history xs) (events_of_history ys))

accepted_after : (w : World) (xs ys : List (ℕ × Event)) → AreAccepted w (xs ++ ys) → AreAccepted (world_after_events w xs) ys
accepted_after w [] ys h = h
accepted_after w (x ∷ xs) ys h = accepted_after (world_after_event w x.0 x.1) xs ys h.1

abbrev first : World → BootAndHistory
first boot = record { boot = boot; history = [] }

-- at its boot
pub along_at_boot : (records : List Record) (m : MachineState) → m.kernel ≡ record { boot = world_of m; history = [] } → IsAlong records 0 m
along_at_boot records m is =
    let here : m.kernel.boot ≡ world_of m = ap (λ (k : BootAndHistory). k.boot) is in
    record { world = sym here; kernel = is ∙ ap first (sym here) }

-- and has no records there
no_records : (p : Pair) → p.along.kernel ≡ record { boot = world_of p.along; history = [] } → take (length p.along.kernel.history) p.copy.kernel.history ≡ p.along.kernel.history
no_records p is =
    let none : p.along.kernel.history ≡ [] = ap (λ (k : BootAndHistory). k.history) is in
    ap (λ (xs : List Record). take (length xs) p.copy.kernel.history) none ∙ sym none

-- A PAIR AT BOOT, by what is known of it where there was memory for it
module _ (E : Type 0) (records : List Record) (r : Result Pair E) where
  pub first_pair : IfOk r (λ p. p.position ≡ 0) → IfOk r (λ p. p.along.kernel ≡ record { boot = world_of p.along; history = [] }) → IfOk r (λ p. p.copy.kernel.boot ≡ p.along.kernel.boot)
      → IfOk r (λ p. IsComing records 0 p.coming) → IfOk r (λ p. IsPair records p)
  first_pair = by r
    where
      by : (x : Result Pair E) → IfOk x (λ p. p.position ≡ 0) → IfOk x (λ p. p.along.kernel ≡ record { boot = world_of p.along; history = [] }) → IfOk x (λ p. p.copy.kernel.boot ≡ p.along.kernel.boot)
          → IfOk x (λ p. IsComing records 0 p.coming) → IfOk x (λ p. IsPair records p)
      by (Ok p) none kernel boot coming = record {
        along = subst (λ k. IsAlong records k p.along) (sym none) (along_at_boot records p.along kernel);
        coming = subst (λ k. IsComing records k p.coming) (sym none) coming;
        within = omega (arith, none);
        boot = boot;
        begins = no_records p kernel;
      }
      by (Err e) none kernel boot coming = tt

  pub first_boot : (c : Config) (boot : World) (vs : List Service) → vs ≡ boot.services → boot ≡ world_at_boot c boot.services → IfOk r (λ p. world_of p.along ≡ world_at_boot c vs)
      → IfOk r (λ p. p.along.kernel ≡ record { boot = world_of p.along; history = [] }) → IfOk r (λ p. p.along.kernel.boot ≡ boot)
  first_boot c boot vs same is = by r
    where
      by : (x : Result Pair E) → IfOk x (λ p. world_of p.along ≡ world_at_boot c vs) → IfOk x (λ p. p.along.kernel ≡ record { boot = world_of p.along; history = [] }) → IfOk x (λ p. p.along.kernel.boot ≡ boot)
      by (Ok p) world kernel = ap (λ (k : BootAndHistory). k.boot) kernel ∙ world ∙ ap (world_at_boot c) same ∙ sym is
      by (Err e) world kernel = tt

-- it has the actors of its boot
pub along_actors : (records : List Record) (k : ℕ) (m : MachineState) → IsAlong records k m → actors (world_of m) ≡ actors m.kernel.boot
along_actors records k m is = ap actors is.world ∙ actors_after_events m.kernel.boot (events_of_history (take k records))

-- the records before a later position
pub taken_on : (records : List Record) (from to : ℕ) → from ≤ to → take to records ≡ take from records ++ take (to - from) (drop from records)
taken_on records from to later =
    let there : from + (to - from) ≡ to = omega (arith, later) in
    sym (take-append-drop from (take to records)) ∙ ap (λ xs. xs ++ drop from (take to records)) (take-take from to records later)
    ∙ ap (λ xs. take from records ++ xs) (ap (λ n. drop from (take n records)) (sym there) ∙ drop-take from (to - from) records)

pub events_on : (records : List Record) (from to : ℕ) → from ≤ to → events_of_history (take to records) ≡ events_of_history (take from records) ++ events_of_history (take (to - from) (drop from records))
events_on records from to later = ap events_of_history (taken_on records from to later) ∙ events_both (take from records) (take (to - from) (drop from records))

module _ (records : List Record) (from to : ℕ) (later : from ≤ to) (m : MachineState) (is : IsAlong records from m) where
  -- the records from one position to another
  abbrev pub between : List Record
  between = take (to - from) (drop from records)

  abbrev boot : World
  boot = m.kernel.boot

  abbrev made : List (ℕ × Event)
  made = events_of_history (take from records)

  events_whole : events_of_history (take to records) ≡ made ++ events_of_history between
  events_whole = events_on records from to later

  pub accepted_between : AreAccepted boot (events_of_history records) → AreAccepted (world_of m) (events_of_history between)
  accepted_between h =
      subst (λ (w : World). AreAccepted w (events_of_history between)) (sym is.world)
      (accepted_after boot made (events_of_history between) (subst (AreAccepted boot) events_whole (front_accepted boot records to h)))

  pub actors_between : All (λ (x : Record). x.actor < actors boot) records → All (λ (x : Record). x.actor < actors (world_of m)) between
  actors_between h =
      subst (λ n. All (λ (x : Record). x.actor < n) between) (sym (along_actors records from m is))
      (All-take (λ (x : Record). x.actor < actors boot) (to - from) (drop from records) (All-drop (λ (x : Record). x.actor < actors boot) from records h))

  module _ (n : MachineState) (kept : n.kernel ≡ kept_of m.kernel (world_of m) (events_of_history between)) where
    pub same_boot_on : n.kernel.boot ≡ boot
    same_boot_on = ap (λ (k : BootAndHistory). k.boot) kept ∙ kept_boot m.kernel (events_of_history between) (moves (world_of m) (events_of_history between)).0

    -- it has gone on
    pub along_on : AreAccepted boot (events_of_history records) → world_of n ≡ world_after_events (world_of m) (events_of_history between) → IsAlong records to n
    along_on accepted world =
        let front = front_accepted boot records from accepted in
        let xs = events_of_history between in
        let k : n.kernel ≡ kept_of (first boot) boot (events_of_history (take to records)) =
        kept ∙ ap (λ (u : World). kept_of m.kernel u xs) is.world ∙ ap (λ (x : BootAndHistory). kept_of x (world_after_events boot made) xs) is.kernel
        ∙ sym (kept_append boot (first boot) made xs front) ∙ ap (λ ys. kept_of (first boot) boot ys) (sym events_whole) in
        let w : world_of n ≡ world_after_events boot (events_of_history (take to records)) =
        world ∙ ap (λ (u : World). world_after_events u xs) is.world ∙ sym (after_append boot made xs) ∙ ap (world_after_events boot) (sym events_whole) in
        record {
          world = w ∙ ap (λ (u : World). world_after_events u (events_of_history (take to records))) (sym same_boot_on);
          kernel = k ∙ ap (λ (u : World). kept_of (first u) u (events_of_history (take to records))) (sym same_boot_on);
        }
