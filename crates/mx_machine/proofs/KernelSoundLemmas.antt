-- Each event of a kernel's history finds a sound world.
use Rattle.std.proofs.Common.{◌≡◌, ◌≢◌, ◌∙◌, ℕ, zero, suc, ◌+◌, ◌<◌, ◌≤◌, ◌++◌, ◌||◌, List, [], ◌∷◌, map, replicate, length, Bool, true, false, cond, nat_le, Option, Some, None, get_or, slice_set, slice_get, get_or-set_same, get_or-set_other, inl, inr, refl, ap, sym, subst, arith}
use Rattle.std.proofs.lemmas.Bool.{cases_eq, cases_lt, le-leb}
use Rattle.std.proofs.lemmas.List.{length-replicate}
use Rattle.mx_exec.specs.Lasting.{lasting}
use Rattle.mx_exec.proofs.Lasting.{step_keeps}
use Rattle.mx_ipc.specs.Proc.declared.windows.Rules.{Rules}
use Rattle.mx_machine.specs.Load.{IsLoadedFrom}
use Rattle.mx_machine.specs.Service.{Service}
use Rattle.mx_machine.specs.declared.events.Event.{Event}
use Rattle.mx_machine.specs.declared.events.Event.TheVariants.{Step}
use Rattle.mx_machine.specs.declared.events.Refusal.TheVariants.{AtStop}
use Rattle.mx_machine.specs.declared.history.Record.{Record}
use Rattle.mx_machine.specs.declared.holding.Lease.{Lease}
use Rattle.mx_machine.specs.declared.holding.Out.{Out}
use Rattle.mx_machine.specs.Boot.{first_table, world_at_boot_with}
use Rattle.mx_machine.specs.Held.{out_after_step}
use Rattle.mx_machine.specs.History.{BootAndHistory, AreAccepted, events_of_history, world_after_events}
use Rattle.mx_machine.specs.Move.{event_refusal, is_stop, move, move_by, step_refusal, world_after_event, world_after_step}
use Rattle.mx_machine.specs.Sound.{IsConsistent, IsSound, lease_of}
use Rattle.mx_machine.specs.Steps.{steps_of}
use Rattle.mx_machine.specs.World.{World, HeldProcess, held_by}
use Rattle.mx_machine.specs.Agrees.{AreSound, IsBoot}
use Rattle.mx_machine.proofs.HoldsLemmas.{holds_in}

-- ---- events in a row

moved : (w : World) (a : ℕ) (x : Event) → event_refusal w a x ≡ None → (move w a x).1 ≡ world_after_event w a x
unfolding move
moved w a x h = ap (λ r. (move_by w a x r).1) h

pub sound_append : (w : World) (xs ys : List (ℕ × Event)) → AreAccepted w xs → AreSound w xs → AreSound (world_after_events w xs) ys → AreSound w (xs ++ ys)
sound_append w [] ys a h k = k
sound_append w (x ∷ xs) ys a h k =
    let v = world_after_event w x.0 x.1 in
    let e : (move w x.0 x.1).1 ≡ v = moved w x.0 x.1 a.0 in
    (h.0, subst (λ (u : World). AreSound u (xs ++ ys)) (sym e) (sound_append v xs ys a.1 (subst (λ (u : World). AreSound u xs) e h.1) k))

-- ---- a step

leases_stay : (xs : List (Option HeldProcess)) (a : ℕ) (l m : HeldProcess) → get_or xs a None ≡ Some l → lease_of (Some m) ≡ lease_of (Some l) → map lease_of (slice_set xs a (Some m)) ≡ map lease_of xs
leases_stay [] a l m e s = refl
leases_stay (x ∷ xs) zero l m e s = ap (λ y. y ∷ map lease_of xs) (s ∙ ap lease_of (sym e))
leases_stay (x ∷ xs) (suc a) l m e s = ap (λ ys. lease_of x ∷ ys) (leases_stay xs a l m e s)

stepped_lease : (l : HeldProcess) → lease_of (Some (record l { out = out_after_step l.out })) ≡ lease_of (Some l)
unfolding out_after_step
stepped_lease l = refl

stepped_count : (o : Out) → (out_after_step o).count ≡ o.count + 1
unfolding out_after_step
stepped_count o = refl

stepped_budget : (o : Out) → (out_after_step o).budget ≡ o.budget
unfolding out_after_step
stepped_budget o = refl

stepped_lasts : (o : Out) → lasting (out_after_step o).image ≡ lasting o.image
unfolding out_after_step
stepped_lasts o = step_keeps o.image

-- an accepted step is within the budget
has_ticks : (stopped spent : Bool) → cond (stopped || spent) (Some AtStop) None ≡ None → spent ≡ false
has_ticks true spent e = cc
has_ticks false true e = cc
has_ticks false false e = refl

step_within : (o : Out) → cond (is_stop o.stop || nat_le o.budget o.count) (Some AtStop) None ≡ None → (out_after_step o).count ≤ (out_after_step o).budget
step_within o e =
    let left : nat_le o.budget o.count ≡ false = has_ticks (is_stop o.stop) (nat_le o.budget o.count) e in
    elim (cases_lt o.count o.budget) [
      | inl lt ↦ omega (arith, lt, stepped_count o, stepped_budget o)
      | inr ge ↦ let z : true ≡ false = sym (le-leb o.budget o.count ge) ∙ left in cc
    ]

step_sound_by : (w : World) (a : ℕ) (held : Option HeldProcess) → held_by w a ≡ held → IsSound w → step_refusal held ≡ None → IsSound (world_after_step w a held)
step_sound_by w a None e h r = cc
step_sound_by w a (Some l) e h r =
    let m : HeldProcess = record l { out = out_after_step l.out } in
    let below : a < length w.cpus = holds_in w.cpus a l e in
    let own : (k : HeldProcess) → get_or (slice_set w.cpus a (Some m)) a None ≡ Some k → m ≡ k = λ k g. let z : Some m ≡ Some k = sym (get_or-set_same w.cpus a (Some m) None below) ∙ g in cc in
    let older : (b : ℕ) (k : HeldProcess) → b ≢ a → get_or (slice_set w.cpus a (Some m)) b None ≡ Some k → held_by w b ≡ Some k = λ b k n g. sym (get_or-set_other w.cpus a b (Some m) None n) ∙ g in
    record {
      table = h.table;
      holds = subst (λ (x : List (Option Lease)). IsConsistent w.table x w.services w.records w.capacity) (sym (leases_stay w.cpus a l m e (stepped_lease l))) h.holds;
      counts = λ b k g. elim (cases_eq b a) [
        | inl i ↦ subst (λ (x : HeldProcess). x.out.count ≤ x.out.budget) (own k (ap (λ c. get_or (slice_set w.cpus a (Some m)) c None) (sym i) ∙ g)) (step_within l.out r)
        | inr n ↦ h.counts b k (older b k n g)
      ];
      loaded = λ b k v g s. elim (cases_eq b a) [
        | inl i ↦
            let is = own k (ap (λ c. get_or (slice_set w.cpus a (Some m)) c None) (sym i) ∙ g) in
            let first : IsLoadedFrom m.out.image v.program = stepped_lasts l.out ∙ h.loaded a l v e (ap (λ (x : HeldProcess). slice_get w.services x.slot) is ∙ s) in
            subst (λ (x : HeldProcess). IsLoadedFrom x.out.image v.program) is first
        | inr n ↦ h.loaded b k v (older b k n g) s
      ];
    }

step_sound : (w : World) (a : ℕ) → IsSound w → event_refusal w a Step ≡ None → IsSound (world_after_event w a Step)
unfolding event_refusal world_after_event
step_sound w a h r = step_sound_by w a (held_by w a) refl h r

-- ---- steps in a row

pub steps_sound : (n : ℕ) (w : World) (a : ℕ) → IsSound w → AreAccepted w (steps_of a n) → AreSound w (steps_of a n)
steps_sound zero w a h k = tt
steps_sound (suc n) w a h k = (h, subst (λ (u : World). AreSound u (steps_of a n)) (sym (moved w a Step k.0)) (steps_sound n (world_after_event w a Step) a (step_sound w a h k.0) k.1))

pub sound_after_steps : (n : ℕ) (w : World) (a : ℕ) → IsSound w → AreAccepted w (steps_of a n) → IsSound (world_after_events w (steps_of a n))
sound_after_steps zero w a h k = h
sound_after_steps (suc n) w a h k = sound_after_steps n (world_after_event w a Step) a (step_sound w a h k.0) k.1

-- ---- boot

boot_is : (rules : Rules) (ss : List Service) (cpus others capacity : ℕ) → IsBoot (world_at_boot_with rules ss cpus others capacity)
unfolding first_table
boot_is rules ss cpus others capacity = ap (λ n. world_at_boot_with rules ss n others capacity) (sym (length-replicate {A = Option HeldProcess} cpus None))

pub opened_booted : (rules : Rules) (ss : List Service) (cpus others capacity : ℕ) (records : List Record) (k : BootAndHistory) → (let m : BootAndHistory = record { boot = world_at_boot_with rules ss cpus others capacity; history = records } in m) ≡ k → IsBoot k.boot
opened_booted rules ss cpus others capacity records k v = subst (λ (m : BootAndHistory). IsBoot m.boot) v (boot_is rules ss cpus others capacity)
