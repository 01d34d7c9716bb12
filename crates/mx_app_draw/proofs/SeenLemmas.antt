-- What is seen of records, one more.
use Rattle.std.proofs.Common.{◌≡◌, ◌∙◌, ◌<◌, ◌≤◌, ℕ, ◌+◌, ◌-◌, nat_lt, Bool, true, false, cond, List, [], ◌∷◌, ◌++◌, length, take, get_or, append_assoc, max, refl, ap, sym, subst, arith}
use Rattle.std.proofs.lemmas.Bool.{ltb-false}
use Rattle.std.proofs.lemmas.List.{append-nil, length-take-le, take_more, take_all}
use Rattle.mx_machine.specs.declared.events.Refusal.{Refusal}
use Rattle.mx_machine.specs.declared.history.Record.{Record}
use Rattle.mx_machine.specs.History.{AreAccepted, world_after_events, events_of, events_of_history}
use Rattle.mx_machine.specs.World.{World}
use Rattle.mx_app_step.specs.Transition.{Transition}
use Rattle.mx_app_step.specs.Glance.{Glance}
use Rattle.mx_app_step.specs.Glances.{glance_of}
use Rattle.mx_app_step.specs.Records.{IsRefusedAt}
use Rattle.mx_app_step.specs.Traces.{transition_of}
use Rattle.mx_app_step.proofs.RecordLemmas.{after_both}
use Rattle.mx_app_draw.specs.Scenes.{drawn_of, transitions_drawn}

transitions_more : (from : ℕ) (w : World) (n k : ℕ) (xs : List Record) (x : Record) → k ≡ n + length xs
    → transitions_drawn from w n (xs ++ x ∷ []) ≡ transitions_drawn from w n xs ++ drawn_of from (transition_of (world_after_events w (events_of_history xs)) k x)
transitions_more from w n k [] x e =
    let here : n ≡ k = omega (arith, e) in
    append-nil (drawn_of from (transition_of w n x)) ∙ ap (λ (m : ℕ). drawn_of from (transition_of w m x)) here
transitions_more from w n k (y ∷ ys) x e =
    let u = world_after_events w (events_of y.actor y.event) in
    let next : k ≡ n + 1 + length ys = omega (arith, e) in
    ap (λ (t : List Transition). drawn_of from (transition_of w n y) ++ t) (transitions_more from u (n + 1) k ys x next)
    ∙ sym (append_assoc (drawn_of from (transition_of w n y)) (transitions_drawn from u (n + 1) ys) (drawn_of from (transition_of (world_after_events u (events_of_history ys)) k x)))
    ∙ ap (λ (v : World). (drawn_of from (transition_of w n y) ++ transitions_drawn from u (n + 1) ys) ++ drawn_of from (transition_of v k x)) (sym (after_both w (events_of y.actor y.event) (events_of_history ys)))

pub next_seen : (from : ℕ) (w v : World) (records : List Record) (i n : ℕ) (d : Record) (x : Transition) (old new : List Transition) → i < length records
    → n ≡ i + 1 → v ≡ world_after_events w (events_of_history (take i records)) → x ≡ transition_of v n (get_or records i d)
    → old ≡ transitions_drawn from w 1 (take i records) → new ≡ old ++ drawn_of from x
    → new ≡ transitions_drawn from w 1 (take (i + 1) records)
next_seen from w v records i n d x old new within e world is so_far more =
    let at : n ≡ 1 + length (take i records) = omega (arith, e, length-take-le i records (omega arith)) in
    more ∙ ap (λ (t : List Transition). t ++ drawn_of from x) so_far
    ∙ ap (λ (s : Transition). transitions_drawn from w 1 (take i records) ++ drawn_of from s) (is ∙ ap (λ (y : World). transition_of y n (get_or records i d)) world)
    ∙ sym (ap (λ (rs : List Record). transitions_drawn from w 1 rs) (take_more records i d within) ∙ transitions_more from w 1 n (take i records) (get_or records i d) at)

-- ---- how many are drawn

drawn_least : (from : ℕ) (w : World) (n : ℕ) (xs : List Record) → length (transitions_drawn from w n xs) ≤ length xs
drawn_least from w n [] = omega arith
drawn_least from w n (x ∷ xs) = by_bool (nat_lt n from) (drawn_least from (world_after_events w (events_of x.actor x.event)) (n + 1) xs)
  where
    rest : List Transition
    rest = transitions_drawn from (world_after_events w (events_of x.actor x.event)) (n + 1) xs

    by_bool : (b : Bool) → length rest ≤ length xs → length (cond b [] (transition_of w n x ∷ []) ++ rest) ≤ length (x ∷ xs)
    by_bool true few = omega (arith, few)
    by_bool false few = omega (arith, few)

drawn_from : (from : ℕ) (w : World) (n : ℕ) (xs : List Record) → length (transitions_drawn from w n xs) ≤ (n + length xs) - from
drawn_from from w n [] = omega arith
drawn_from from w n (x ∷ xs) = by_bool (nat_lt n from) refl (drawn_from from (world_after_events w (events_of x.actor x.event)) (n + 1) xs)
  where
    rest : List Transition
    rest = transitions_drawn from (world_after_events w (events_of x.actor x.event)) (n + 1) xs

    least : length rest ≤ length xs
    least = drawn_least from (world_after_events w (events_of x.actor x.event)) (n + 1) xs

    by_bool : (b : Bool) → nat_lt n from ≡ b → length rest ≤ (n + 1 + length xs) - from → length (cond b [] (transition_of w n x ∷ []) ++ rest) ≤ (n + length (x ∷ xs)) - from
    by_bool true e few = omega (arith, few)
    by_bool false e few = let not_below : from ≤ n = ltb-false n from e in omega (arith, least, not_below)

-- at most 1,000
pub drawn_few : (from : ℕ) (w : World) (made : List Record) (k : ℕ) → length made ≤ k → k ≤ max from 1 + 999 → length (transitions_drawn from w 1 made) ≤ 1000
drawn_few from w made k short most = omega (arith, drawn_least from w 1 made, drawn_from from w 1 made, short, most)

-- ---- at the end

pub all_seen : (from : ℕ) (w : World) (records : List Record) (i : ℕ) (transitions : List Transition) (g : Glance) → length records ≤ i
    → AreAccepted w (events_of_history (take i records)) → transitions ≡ transitions_drawn from w 1 (take i records)
    → g ≡ glance_of (world_after_events w (events_of_history (take i records)))
    → (made : List Record) × (AreAccepted w (events_of_history records) × (made ≡ records))
    × (transitions ≡ transitions_drawn from w 1 made) × (g ≡ glance_of (world_after_events w (events_of_history made)))
all_seen from w records i transitions g over accepted drawn seen =
    let all : take i records ≡ records = take_all i records over in
    (take i records, (subst (λ (rs : List Record). AreAccepted w (events_of_history rs)) all accepted, all), drawn, seen)

pub refused_seen : (from : ℕ) (w : World) (records : List Record) (i n : ℕ) (r : Refusal) (transitions : List Transition) (g : Glance) → n ≡ i + 1
    → IsRefusedAt w records n r → transitions ≡ transitions_drawn from w 1 (take i records)
    → g ≡ glance_of (world_after_events w (events_of_history (take i records)))
    → (made : List Record) × (IsRefusedAt w records n r × (made ≡ take (n - 1) records))
    × (transitions ≡ transitions_drawn from w 1 made) × (g ≡ glance_of (world_after_events w (events_of_history made)))
refused_seen from w records i n r transitions g e refused drawn seen =
    let one : i ≡ n - 1 = omega (arith, e) in
    (take i records, (refused, ap (λ (k : ℕ). take k records) one), drawn, seen)
