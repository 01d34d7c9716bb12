-- A turn of one processor.
use Rattle.std.proofs.Common.{◌≡◌, ◌∙◌, ◌≤◌, ℕ, zero, suc, ◌+◌, ◌++◌, ◌||◌, not, nat_lt, Bool, true, false, [], ◌∷◌, cond, length, map, Option, Some, None, slice_get, refl, ap, arith, get_or-set_same}
use Rattle.std.specs.List.{range_with_len}
use Rattle.std.proofs.lemmas.Bool.{le-ltb}
use Rattle.std.proofs.lemmas.List.{append-nil}
use Rattle.mx_machine.specs.Proc.declared.process.Process.{Process}
use Rattle.mx_machine.specs.Proc.Queues.{first_ready}
use Rattle.mx_machine.specs.Proc.States.{is_down}
use Rattle.mx_machine.specs.Proc.TableState.{process_at}
use Rattle.mx_machine.specs.Respawn.{is_worn}
use Rattle.mx_machine.specs.Service.{Service}
use Rattle.mx_machine.specs.declared.events.Event.{Event}
use Rattle.mx_machine.specs.declared.events.Event.TheVariants.{Take, Back, Respawn}
use Rattle.mx_machine.specs.declared.events.Refusal.{Refusal}
use Rattle.mx_machine.specs.declared.events.Refusal.TheVariants.{CpuBusy, LogFull, NotDown, Worn}
use Rattle.mx_machine.specs.Held.{held_run, out_after_step}
use Rattle.mx_machine.specs.History.{world_after_events}
use Rattle.mx_machine.specs.Move.{back_refusal, event_refusal, held_at_take, if_full, respawn_refusal, take_refusal, with_held, world_after_event, world_after_take}
use Rattle.mx_machine.specs.Steps.{steps_of}
use Rattle.mx_machine.specs.World.{World, HeldProcess, free_records, held_by}
use Rattle.mx_machine.proofs.WorldStepLemmas.{holds_in}
use Rattle.mx_turns.specs.Turns.{NoneToRespawn, Offered, most_steps, offered, offered_first, outside, respawns, round, run_of, runs, takes, then_offered, turn}
use Rattle.mx_turns.proofs.OfferLemmas.{Offers, offered_more, steps_offered, world_of_step}

-- an offer that is accepted, and none after it
one_made : (w : World) (x : ℕ × Event) → event_refusal w x.0 x.1 ≡ None → offered w (x ∷ []) ≡ record { made = x ∷ []; full = false }
one_made w x h = ap (λ (q : Option Refusal). offered_first x q (let z : Offered = record { made = []; full = false } in z) (let z : Offered = record { made = []; full = false } in z)) h

-- ---- the take

refusal_of_take : (w : World) (s : ℕ) → length w.cpus ≡ 1 → held_by w 0 ≡ None → first_ready w.table.ready ≡ Some s → 2 ≤ free_records w → event_refusal w 0 Take ≡ None
unfolding event_refusal
refusal_of_take w s one empty ready room =
    ap (λ k. cond (nat_lt 0 k) (take_refusal (free_records w) (held_by w 0) (first_ready w.table.ready)) (Some CpuBusy)) one
    ∙ ap (λ (h : Option HeldProcess). take_refusal (free_records w) h (first_ready w.table.ready)) empty
    ∙ ap (λ (f : Option ℕ). let none : Option HeldProcess = None in take_refusal (free_records w) none f) ready
    ∙ ap (λ b. cond b (Some LogFull) None) (le-ltb (free_records w) 2 room)

world_of_take : (w : World) (s : ℕ) → first_ready w.table.ready ≡ Some s → world_after_event w 0 Take ≡ world_after_take w 0 (Some s)
unfolding world_after_event
world_of_take w s ready = ap (world_after_take w 0) ready

taken_held : (w : World) (s : ℕ) → length w.cpus ≡ 1 → first_ready w.table.ready ≡ Some s → held_by (world_after_event w 0 Take) 0 ≡ Some (held_at_take w.table s)
taken_held w s one ready =
    ap (λ (u : World). held_by u 0) (world_of_take w s ready) ∙ get_or-set_same w.cpus 0 (Some (held_at_take w.table s)) None (omega (arith, one))

-- ---- the steps, and the return

-- what a processor holds it holds after its steps too
pub still_held : (n : ℕ) (w : World) (c : ℕ) (l : HeldProcess) → held_by w c ≡ Some l → (k : HeldProcess) × (held_by (world_after_events w (steps_of c n)) c ≡ Some k)
still_held zero w c l h = (l, h)
still_held (suc n) w c l h =
    let next : HeldProcess = record l { out = out_after_step l.out } in
    let v : World = with_held w c (Some next) in
    let held : held_by v c ≡ Some next = get_or-set_same w.cpus c (Some next) None (holds_in w.cpus c l h) in
    let again = still_held n v c next held in
    (again.0, ap (λ (u : World). held_by (world_after_events u (steps_of c n)) c) (world_of_step w c (Some l) h) ∙ again.1)

pub refusal_of_back : (w : World) (c : ℕ) (l : HeldProcess) → held_by w c ≡ Some l → event_refusal w c Back ≡ None
unfolding event_refusal
refusal_of_back w c l h = ap back_refusal h

-- what a processor holds makes its steps up to its stop, and comes back
ran_alone : (w : World) (l : HeldProcess) → held_by w 0 ≡ Some l → offered w (runs 1) ≡ record { made = steps_of 0 (held_run most_steps l.out).0.0 ++ (0, Back) ∷ []; full = false }
ran_alone w l held =
    let n = (held_run most_steps l.out).0.0 in
    let u = world_after_events w (steps_of 0 n) in
    let still = still_held n w 0 l held in
    let end : Offers = (0, Back) ∷ [] in
    let steps : offered w (steps_of 0 most_steps) ≡ record { made = steps_of 0 n; full = false } = steps_offered most_steps w 0 l held in
    let back : offered u end ≡ record { made = end; full = false } = one_made u (0, Back) (refusal_of_back u 0 still.0 still.1) in
    ap (offered w) (append-nil (run_of 0))
    ∙ offered_more w (steps_of 0 most_steps) end (ap (λ (o : Offered). o.full) steps)
    ∙ ap (λ (o : Offered). then_offered w o end) steps
    ∙ ap (λ (o : Offered). let z : Offered = record { made = steps_of 0 n ++ o.made; full = o.full } in z) back

-- ---- no respawn

skipped : (left : ℕ) (p : Process) (v : Option Service) → ((u : Service) → v ≡ Some u → (not (is_down p.state) || is_worn p u) ≡ true)
    → (x : ℕ × Event) (refused accepted : Offered) → offered_first x (respawn_refusal left p v) refused accepted ≡ refused
skipped left p None h x refused accepted = refl
skipped left p (Some v) h x refused accepted = by (not (is_down p.state)) (is_worn p v) (h v refl)
  where
    by : (up worn : Bool) → (up || worn) ≡ true → offered_first x (cond up (Some NotDown) (cond worn (Some Worn) (if_full left 1))) refused accepted ≡ refused
    by true worn e = refl
    by false true e = refl
    by false false e = cc

refusal_of_respawn : (w : World) (a s : ℕ) → event_refusal w a (Respawn s) ≡ respawn_refusal (free_records w) (process_at w.table s) (slice_get w.services s)
unfolding event_refusal
refusal_of_respawn w a s = refl

none_respawned : (w : World) (a : ℕ) → NoneToRespawn w → (n s : ℕ) → offered w (map (λ i. let x : ℕ × Event = (a, Respawn i) in x) (range_with_len s n)) ≡ record { made = []; full = false }
none_respawned w a none zero s = refl
none_respawned w a none (suc n) s =
    let rest : Offers = map (λ i. let x : ℕ × Event = (a, Respawn i) in x) (range_with_len (s + 1) n) in
    let after = offered (world_after_event w a (Respawn s)) rest in
    ap (λ (q : Option Refusal). offered_first (a, Respawn s) q (offered w rest) after) (refusal_of_respawn w a s)
    ∙ skipped (free_records w) (process_at w.table s) (slice_get w.services s) (none s) (a, Respawn s) (offered w rest) after
    ∙ none_respawned w a none n (s + 1)

-- ---- the turn

-- a turn by how many processors there are and what came of the takes, with no outside event
abbrev turn_by : World → ℕ → Offered → Offered
turn_by w cpus taken =
    let ran = then_offered w taken (runs cpus) in
    cond taken.full (record ran { full = true }) (then_offered w ran (outside cpus None ++ respawns cpus (length w.services)))

pub turn_of_one : (w : World) (s : ℕ) → length w.cpus ≡ 1 → held_by w 0 ≡ None → first_ready w.table.ready ≡ Some s → 2 ≤ free_records w
    → NoneToRespawn (world_after_events w (round w s)) → turn w None ≡ record { made = round w s; full = false }
turn_of_one w s one empty ready room none =
    let v = world_after_event w 0 Take in
    let z = world_after_events w (round w s) in
    let taken : offered w (takes 1) ≡ record { made = (0, Take) ∷ []; full = false } = one_made w (0, Take) (refusal_of_take w s one empty ready room) in
    let ran = ran_alone v (held_at_take w.table s) (taken_held w s one ready) in
    let slots = length w.services in
    ap (λ k. turn_by w k (offered w (takes k))) one
    ∙ ap (turn_by w 1) taken
    ∙ ap (λ (o : Offered). then_offered w (record { made = (0, Take) ∷ o.made; full = o.full }) (respawns 1 slots)) ran
    ∙ ap (λ (o : Offered). let y : Offered = record { made = round w s ++ o.made; full = o.full } in y) (none_respawned z 1 none slots 0)
    ∙ ap (λ (l : Offers). let y : Offered = record { made = l; full = false } in y) (append-nil (round w s))
