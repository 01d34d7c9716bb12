-- What is known after rows is what is shown.
use Rattle.std.proofs.Common.{◌≡◌, ◌∙◌, ◌<◌, ℕ, ◌+◌, Bool, true, false, cond, not, ◌||◌, ◌==◌, is_some, List, [], ◌∷◌, Option, Some, None, bytes_eq, get_or, slice_get, refl, ap, sym, arith}
use Rattle.std.specs.Prelude.{unwrap_or}
use Rattle.std.specs.Option.{option_map}
use Rattle.std.proofs.lemmas.Bool.{eqb-true, lt-ltb, not-false, or_parts}
use Rattle.std.proofs.lemmas.List.FromFn.{get_or-map-range_with_len}
use Rattle.std.proofs.lemmas.Slice.Eq.{bytes_eq-Decides}
use Rattle.mx_machine.specs.declared.events.Event.{Event}
use Rattle.mx_machine.specs.declared.events.Event.TheVariants.{Step, Take, Back, Line, Tick, Kill, Respawn}
use Rattle.mx_machine.specs.declared.history.Record.{Record}
use Rattle.mx_machine.specs.History.{world_after_events, events_of, events_of_history}
use Rattle.mx_machine.specs.Move.{world_after_event, world_after_back, world_after_line, world_after_respawn, world_after_step, world_after_take}
use Rattle.mx_machine.specs.Service.{Service}
use Rattle.mx_machine.specs.World.{World, HeldProcess}
use Rattle.mx_app_step.specs.Traces.{transition_of}
use Rattle.mx_app_step.proofs.RecordLemmas.{after_both}
use Rattle.mx_look.specs.Glances.{glance_of, glance_of_slot, slot_glance, slot_glances}
use Rattle.mx_look.specs.Transition.{slot_in}
use Rattle.mx_look.specs.declared.glance.Glance.{Glance}
use Rattle.mx_look.specs.declared.slot_glances.SlotGlance.{SlotGlance}
use Rattle.mx_look.specs.declared.transition.Transition.{Transition}
use Rattle.mx_look_page.specs.declared.shown.SlotState.{SlotState}
use Rattle.mx_look_page.specs.Rows.{differs, told_state}
use Rattle.mx_look_page.specs.Shown.{ShownWorld, slot_state, slot_state_by, slot_states, state_in}
use Rattle.mx_app_page.specs.Pages.{shown_in}
use Rattle.mx_app_page.specs.Reading.{RowsTellEnough, known_after, tells_ready, tells_state, tells_waiting, told_order}

-- ---- services stay

after_step : (w : World) (a : ℕ) (x : Option HeldProcess) → (world_after_step w a x).services ≡ w.services
after_step w a None = refl
after_step w a (Some l) = refl

after_take : (w : World) (a : ℕ) (x : Option ℕ) → (world_after_take w a x).services ≡ w.services
after_take w a None = refl
after_take w a (Some s) = refl

after_back : (w : World) (a : ℕ) (x : Option HeldProcess) → (world_after_back w a x).services ≡ w.services
after_back w a None = refl
after_back w a (Some l) = refl

after_line : (w : World) (l : ℕ) (x : Option ℕ) → (world_after_line w l x).services ≡ w.services
after_line w l None = refl
after_line w l (Some s) = refl

after_respawn : (w : World) (s : ℕ) (x : Option Service) → (world_after_respawn w s x).services ≡ w.services
after_respawn w s None = refl
after_respawn w s (Some v) = refl

after_event : (w : World) (a : ℕ) (e : Event) → (world_after_event w a e).services ≡ w.services
unfolding world_after_event
after_event w a Step = after_step w a _
after_event w a Take = after_take w a _
after_event w a Back = after_back w a _
after_event w a (Line l) = after_line w l _
after_event w a Tick = refl
after_event w a (Kill e) = refl
after_event w a (Respawn s) = after_respawn w s _

pub services_stay : (w : World) (xs : List (ℕ × Event)) → (world_after_events w xs).services ≡ w.services
services_stay w [] = refl
services_stay w (x ∷ xs) = services_stay (world_after_event w x.0 x.1) xs ∙ after_event w x.0 x.1

-- ---- who has a service is shown

by_glance : (g : Glance) (s : ℕ) (o : Option SlotGlance) → is_some (slot_state_by g s o) ≡ is_some o
by_glance g s None = refl
by_glance g s (Some u) = refl

by_service : (f : Service → SlotGlance) (o : Option Service) → is_some (option_map f o) ≡ is_some o
by_service f None = refl
by_service f (Some v) = refl

state_is : (g : Glance) (s : ℕ) → s < 32 → get_or (slot_states g) s None ≡ slot_state g s
unfolding slot_states
state_is g s lt = get_or-map-range_with_len (slot_state g) 0 32 s s None lt (omega arith)

glance_is : (w : World) (s : ℕ) → s < 32 → slot_in (glance_of w) s ≡ slot_glance w.table w.services s
unfolding slot_glances
glance_is w s lt =
    ap (λ b. cond b (get_or (slot_glances w.table w.services) s None) None) (lt-ltb s 32 lt)
    ∙ get_or-map-range_with_len (slot_glance w.table w.services) 0 32 s s None lt (omega arith)

shown_if : (w : World) (s : ℕ) → s < 32 → is_some (state_in (shown_in w) s) ≡ is_some (slice_get w.services s)
shown_if w s lt =
    ap is_some (state_is (glance_of w) s lt) ∙ by_glance (glance_of w) s (slot_in (glance_of w) s)
    ∙ ap is_some (glance_is w s lt) ∙ by_service (glance_of_slot w.table s) (slice_get w.services s)

-- ---- one row

same : (v u : SlotState) → differs v u ≡ false → v ≡ u
same v u h =
    let a = or_parts _ _ h in
    let b = or_parts _ _ a.1 in
    let c = or_parts _ _ b.1 in
    let d = or_parts _ _ c.1 in
    by_fields (alike _ _ a.0) (alike _ _ b.0) (alike _ _ c.0) (alike _ _ d.0) (alike _ _ d.1)
  where
    alike : (m n : ℕ) → not (m == n) ≡ false → m ≡ n
    alike m n e = eqb-true m n (not-false (m == n) e)

    by_fields : v.endpoint ≡ u.endpoint → v.state ≡ u.state → v.partner ≡ u.partner → v.level ≡ u.level → v.ticks ≡ u.ticks → v ≡ u
    by_fields e s p l t = λ i. record { endpoint = e i; state = s i; partner = p i; level = l i; ticks = t i }

state_told : (p q : Option SlotState) (r : Option ℕ) (v : SlotState) → p ≡ Some v → is_some q ≡ true → q ≡ Some (unwrap_or (told_state p q r) v)
state_told None q r v is some = absurd cc
state_told (Some u) None r v is some = absurd cc
state_told (Some u) (Some x) r v is some = by_test (differs u x || is_some r) refl
  where
    first : u ≡ v
    first = cc

    by_test : (b : Bool) → (differs u x || is_some r) ≡ b → Some x ≡ Some (unwrap_or (cond (differs u x || is_some r) (Some x) None) v)
    by_test true e = ap Some (ap (λ b. unwrap_or (cond b (Some x) None) v) (sym e))
    by_test false e = ap Some (sym (same u x (or_parts _ _ e).0) ∙ first ∙ ap (λ b. unwrap_or (cond b (Some x) None) v) (sym e))

order_told : (p q : List ℕ) → q ≡ unwrap_or (told_order p q) p
order_told p q = by_test (bytes_eq p q) refl
  where
    by_test : (b : Bool) → bytes_eq p q ≡ b → q ≡ unwrap_or (cond (bytes_eq p q) None (Some q)) p
    by_test true e = sym ((bytes_eq-Decides p q).0 e) ∙ ap (λ b. unwrap_or (cond b None (Some q)) p) (sym e)
    by_test false e = ap (λ b. unwrap_or (cond b None (Some q)) p) (sym e)

-- ---- all of them

module _ {X : Type 0} (of : ShownWorld → X) (tells : Transition → ShownWorld → ShownWorld → Option X)
    (enough : (x : Transition) (p q : ShownWorld) → of q ≡ unwrap_or (tells x p q) (of p)) where
  known : (w : World) (n : ℕ) (xs : List Record) → of (shown_in (world_after_events w (events_of_history xs))) ≡ known_after tells w n xs (of (shown_in w))
  known w n [] = refl
  known w n (x ∷ xs) =
      let v = world_after_events w (events_of x.actor x.event) in
      ap (λ (u : World). of (shown_in u)) (after_both w (events_of x.actor x.event) (events_of_history xs))
      ∙ known v (n + 1) xs
      ∙ ap (known_after tells v (n + 1) xs) (enough (transition_of w n x) (shown_in w) (shown_in v))

state_known : (s : ℕ) → s < 32 → (w : World) (n : ℕ) (xs : List Record) (v : SlotState) → state_in (shown_in w) s ≡ Some v
    → state_in (shown_in (world_after_events w (events_of_history xs))) s ≡ Some (known_after (tells_state s) w n xs v)
state_known s lt w n [] v is = is
state_known s lt w n (x ∷ xs) v is =
    let u = world_after_events w (events_of x.actor x.event) in
    let there : is_some (state_in (shown_in u) s) ≡ true =
    shown_if u s lt ∙ ap (λ (vs : List Service). is_some (slice_get vs s)) (services_stay w (events_of x.actor x.event)) ∙ sym (shown_if w s lt) ∙ ap is_some is in
    ap (λ (y : World). state_in (shown_in y) s) (after_both w (events_of x.actor x.event) (events_of_history xs))
    ∙ state_known s lt u (n + 1) xs (unwrap_or (tells_state s (transition_of w n x) (shown_in w) (shown_in u)) v) (state_told _ _ _ v is there)

pub rows_tell : (w : World) (n : ℕ) (xs : List Record) → RowsTellEnough w n xs
rows_tell w n xs = (
  λ s v lt is. state_known s lt w n xs v is,
  known (λ (p : ShownWorld). p.ready) tells_ready (λ x p q. order_told p.ready q.ready) w n xs,
  known (λ (p : ShownWorld). p.waiting) tells_waiting (λ x p q. order_told p.waiting q.waiting) w n xs,
)
