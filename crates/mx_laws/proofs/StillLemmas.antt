-- A machine at rest in which nobody owns a line or has an alarm, one event more.
use Rattle.std.proofs.Common.{◌≡◌, ◌∙◌, ℕ, zero, suc, ◌+◌, ◌==◌, ◌&&◌, ◌||◌, Bool, true, false, List, [], ◌∷◌, length, get_or, Option, Some, None, is_none, refl, ap, sym, subst, true≢false, arith}
use Rattle.std.specs.Prelude.{nat_lt, not, slice_get, if◌then◌else◌}
use Rattle.std.proofs.lemmas.Bool.{eqb-true}
use Rattle.mx_kcall.specs.Clock.{due_slots, is_due, table_after_rings, table_after_tick}
use Rattle.mx_kcall.specs.Refusals.{owner_of}
use Rattle.mx_kcall.specs.Respawn.{is_worn}
use Rattle.mx_kcall.specs.Service.{Service}
use Rattle.mx_machine.specs.declared.events.Event.{Event}
use Rattle.mx_machine.specs.declared.events.Event.TheVariants.{Step, Take, Back, Line, Tick, Kill, Respawn}
use Rattle.mx_machine.specs.declared.events.Refusal.TheVariants.{CpuBusy, NotDown, Worn}
use Rattle.mx_machine.specs.History.{AreAccepted, world_after_events}
use Rattle.mx_machine.specs.Move.{back_refusal, event_refusal, if_full, line_refusal, respawn_refusal, step_refusal, take_refusal, world_after_event, world_with_record}
use Rattle.mx_machine.specs.Rest.{at_rest, down_are_worn}
use Rattle.mx_machine.specs.World.{HeldProcess, World, free_records, held_by, out_count}
use Rattle.mx_proc.specs.declared.process.Process.{Process}
use Rattle.mx_proc.specs.Queues.{first_ready}
use Rattle.mx_proc.specs.Serving.{with_tick}
use Rattle.mx_proc.specs.States.{is_down}
use Rattle.mx_proc.specs.TableState.{nobody, process_at}
use Rattle.mx_laws.specs.Still.{HasNoAlarm, IsNoKill, IsStill, StaysStill, ticks_later}

left : (a b : Bool) → (a && b) ≡ true → a ≡ true
left true b h = refl
left false b h = absurd (true≢false (sym h))

right : (a b : Bool) → (a && b) ≡ true → b ≡ true
right true b h = h
right false b h = absurd (true≢false (sym h))

-- ---- what rest is

module _ (w : World) (h : at_rest w ≡ true) where
  parts : ((is_none (first_ready w.table.ready) && (out_count w.cpus == 0)) && down_are_worn w.table.slots w.services) ≡ true
  unfolding at_rest
  parts = h

  none_ready : is_none (first_ready w.table.ready) ≡ true
  none_ready = left _ _ (left _ _ parts)

  none_out : (out_count w.cpus == 0) ≡ true
  none_out = right (is_none (first_ready w.table.ready)) _ (left _ _ parts)

  all_worn : down_are_worn w.table.slots w.services ≡ true
  all_worn = right (is_none (first_ready w.table.ready) && (out_count w.cpus == 0)) _ parts

none_is : {X : Type 0} (x : Option X) → is_none x ≡ true → x ≡ None
none_is None h = refl
none_is (Some x) h = absurd (true≢false (sym h))

no_outs : (n : ℕ) → (n == 0) ≡ true → n ≡ 0
no_outs n h = eqb-true n 0 h

none_held : {X : Type 0} → (xs : List (Option X)) (a : ℕ) → out_count xs ≡ 0 → get_or xs a None ≡ None
none_held [] a h = refl
none_held (None ∷ xs) zero h = refl
none_held (None ∷ xs) (suc a) h = none_held xs a h
none_held (Some x ∷ xs) a h = absurd (omega arith)

no_due : (u n : ℕ) (ps : List Process) → HasNoAlarm ps → due_slots u n ps ≡ []
no_due u n [] h = refl
no_due u n (p ∷ ps) h =
    ap (λ (a : Option ℕ). if is_due u a then n ∷ due_slots u (n + 1) ps else due_slots u (n + 1) ps) h.0 ∙ no_due u (n + 1) ps h.1

worn_at : (ps : List Process) (vs : List Service) (s : ℕ) (v : Service) → down_are_worn ps vs ≡ true → length ps ≡ length vs → slice_get vs s ≡ Some v
    → (not (is_down (get_or ps s nobody).state) || is_worn (get_or ps s nobody) v) ≡ true
worn_at ps [] s v h e at = absurd cc
worn_at [] (u ∷ vs) s v h e at = absurd (omega (arith, e))
worn_at (p ∷ ps) (u ∷ vs) zero v h e at =
    let same : Some u ≡ Some v = at in
    let one : u ≡ v = cc in
    subst (λ (x : Service). (not (is_down p.state) || is_worn p x) ≡ true) one (left _ _ h)
worn_at (p ∷ ps) (u ∷ vs) (suc s) v h e at = worn_at ps vs s v (right _ _ h) (omega (arith, e)) at

-- ---- refusals

no_step : (held : Option HeldProcess) → held ≡ None → step_refusal held ≡ None → ⊥
no_step None e r = absurd cc
no_step (Some l) e r = absurd cc

no_back : (held : Option HeldProcess) → held ≡ None → back_refusal held ≡ None → ⊥
no_back None e r = absurd cc
no_back (Some l) e r = absurd cc

no_take : (n : ℕ) (held : Option HeldProcess) (first : Option ℕ) → first ≡ None → take_refusal n held first ≡ None → ⊥
no_take n (Some l) first e r = absurd cc
no_take n None None e r = absurd cc
no_take n None (Some s) e r = absurd cc

no_line : (n : ℕ) (owner : Option ℕ) → owner ≡ None → line_refusal n owner ≡ None → ⊥
no_line n None e r = absurd cc
no_line n (Some s) e r = absurd cc

no_take_if : (b : Bool) (n : ℕ) (held : Option HeldProcess) (first : Option ℕ) → first ≡ None → (if b then take_refusal n held first else Some CpuBusy) ≡ None → ⊥
no_take_if true n held first e r = no_take n held first e r
no_take_if false n held first e r = absurd cc

no_respawn : (n : ℕ) (p : Process) (s : Option Service) → ((v : Service) → s ≡ Some v → (not (is_down p.state) || is_worn p v) ≡ true)
    → respawn_refusal n p s ≡ None → ⊥
no_respawn n p None h r = absurd cc
no_respawn n p (Some v) h r = by_down (is_down p.state) (is_worn p v) (h v refl) r
  where
    by_down : (d k : Bool) → (not d || k) ≡ true → (if not d then Some NotDown else if k then Some Worn else if_full n 1) ≡ None → ⊥
    by_down false k e q = absurd cc
    by_down true true e q = absurd cc
    by_down true false e q = true≢false (sym e)

-- ---- an event

one : (w : World) (a : ℕ) (e : Event) → IsStill w → IsNoKill e → event_refusal w a e ≡ None → world_after_event w a e ≡ ticks_later w 1
unfolding event_refusal world_after_event table_after_tick
one w a Step h n r = absurd (no_step (held_by w a) (none_held w.cpus a (no_outs (out_count w.cpus) (none_out w h.rest))) r)
one w a Take h n r =
    absurd (no_take_if (nat_lt a (length w.cpus)) (free_records w) (held_by w a) (first_ready w.table.ready) (none_is (first_ready w.table.ready) (none_ready w h.rest)) r)
one w a Back h n r = absurd (no_back (held_by w a) (none_held w.cpus a (no_outs (out_count w.cpus) (none_out w h.rest))) r)
one w a (Line l) h n r = absurd (no_line (free_records w) (owner_of w.table l) (h.owners l) r)
one w a Tick h n r =
    ap (λ (ss : List ℕ). world_with_record w (table_after_rings (with_tick w.table) ss)) (no_due (w.table.uptime + 1) 0 w.table.slots h.alarms)
one w a (Kill e) h n r = absurd n
one w a (Respawn s) h n r =
    absurd (no_respawn (free_records w) (process_at w.table s) (slice_get w.services s)
    (λ v at. worn_at w.table.slots w.services s v (all_worn w h.rest) h.slots at) r)

rest_later : (w : World) (n : ℕ) → at_rest w ≡ true → at_rest (ticks_later w n) ≡ true
unfolding at_rest
rest_later w n h = h

still_later : (w : World) (n : ℕ) → IsStill w → IsStill (ticks_later w n)
still_later w n h = record { rest = rest_later w n h.rest; slots = h.slots; owners = h.owners; alarms = h.alarms }

abbrev with_times : World → ℕ → ℕ → World
with_times w u k = record w { table = record w.table { uptime = u }; records = k }

none_later : (w : World) → w ≡ ticks_later w 0
none_later w =
    let u : w.table.uptime ≡ w.table.uptime + 0 = omega arith in
    let k : w.records ≡ w.records + 0 = omega arith in
    ap (λ n. with_times w n w.records) u ∙ ap (λ n. with_times w (w.table.uptime + 0) n) k

one_later : (w : World) (n : ℕ) → ticks_later (ticks_later w 1) n ≡ ticks_later w (suc n)
one_later w n =
    let u : w.table.uptime + 1 + n ≡ w.table.uptime + suc n = omega arith in
    let k : w.records + 1 + n ≡ w.records + suc n = omega arith in
    ap (λ m. with_times w m (w.records + 1 + n)) u ∙ ap (λ m. with_times w (w.table.uptime + suc n) m) k

pub stays_still : (w : World) (xs : List (ℕ × Event)) → StaysStill w xs
stays_still w [] h n a = none_later w
stays_still w (x ∷ xs) h n a =
    let step = one w x.0 x.1 h n.0 a.0 in
    ap (λ (v : World). world_after_events v xs) step
    ∙ stays_still (ticks_later w 1) xs (still_later w 1 h) n.1 (subst (λ (v : World). AreAccepted v xs) step a.1) ∙ one_later w (length xs)
