-- Laws of turns.
use Rattle.std.proofs.Common.{◌≡◌, ◌≢◌, ◌∙◌, ℕ, zero, suc, ◌+◌, ◌++◌, Bool, true, false, List, [], cond, drop, slice_get, refl, ap, sym, arith, append_assoc}
use Rattle.std.proofs.lemmas.List.{drop-drop}
use Rattle.mx_machine.specs.History.{world_after_events}
use Rattle.mx_machine.specs.Rest.{at_rest}
use Rattle.mx_machine.specs.World.{World}
use Rattle.mx_machine.proofs.ReplayLemmas.{after_append}
use Rattle.mx_turns.specs.declared.turns.Ending.TheVariants.{Rest, Turns, Full}
use Rattle.mx_turns.specs.declared.outside.OutsideLine.{OutsideLine}
use Rattle.mx_turns.specs.Turns.{Course, is_over, joined, turn, turns, world_after}
use Rattle.mx_turns.proofs.OfferLemmas.{Offers}

-- what comes of a turn that made this and of those after it, by whether all was over before it, and whether the
-- history was too full for it
abbrev by : Bool → Bool → Offers → Course → Course
by over full made later = cond over (let z : Course = record { made = []; ending = Rest } in z) (cond full (let z : Course = record { made = made; ending = Full } in z) (joined made later))

join_by : (o f : Bool) (made : Offers) (one all : Course) (rest : Offers → Course) → (one.ending ≡ Turns → all ≡ joined one.made (rest (made ++ one.made)))
    → (by o f made one).ending ≡ Turns → by o f made all ≡ joined (by o f made one).made (rest (by o f made one).made)
join_by true f made one all rest e h = cc
join_by false true made one all rest e h = cc
join_by false false made one all rest e h =
    let later = rest (made ++ one.made) in
    ap (joined made) (e h) ∙ ap (λ (l : Offers). let z : Course = record { made = l; ending = later.ending } in z) (sym (append_assoc made one.made later.made))

-- turns that end since all are made, and then more of them
pub turns_joined : (a b : ℕ) (w : World) (coming : List OutsideLine) → (turns a w coming).ending ≡ Turns
    → turns (a + b) w coming ≡ joined (turns a w coming).made (turns b (world_after_events w (turns a w coming).made) (drop a coming))
turns_joined zero b w coming h = let z : 0 + b ≡ b = omega arith in ap (λ n. turns n w coming) z
turns_joined (suc a) b w coming h =
    let t = turn w (slice_get coming 0) in
    let u = world_after w t in
    let next = drop 1 coming in
    let one = turns a u next in
    let z : suc a + b ≡ suc (a + b) = omega arith in
    let place : 1 + a ≡ suc a = omega arith in
    let same : turns b (world_after_events u one.made) (drop a next) ≡ turns b (world_after_events w (t.made ++ one.made)) (drop (suc a) coming) =
    ap (λ (l : List OutsideLine). turns b (world_after_events u one.made) l) (drop-drop a 1 coming ∙ ap (λ n. drop n coming) place) ∙ ap (λ (v : World). turns b v (drop (suc a) coming)) (sym (after_append w t.made one.made)) in
    ap (λ n. turns n w coming) z
    ∙ join_by (is_over w coming) t.full t.made one (turns (a + b) u next) (λ l. turns b (world_after_events w l) (drop (suc a) coming))
    (λ e. turns_joined a b u next e ∙ ap (joined one.made) same) h

-- turns that end for another reason are the same, however many more are asked for
none_ended : (b : ℕ) (w : World) (coming : List OutsideLine) (over : Bool) → is_over w coming ≡ over → cond over Rest Turns ≢ Turns → turns b w coming ≡ record { made = []; ending = cond over Rest Turns }
none_ended zero w coming true o h = ap (λ x. let z : Course = record { made = []; ending = cond x Rest Turns } in z) o
none_ended (suc b) w coming true o h =
    let t = turn w (slice_get coming 0) in
    ap (λ x. by x t.full t.made (turns b (world_after w t) (drop 1 coming))) o
none_ended b w coming false o h = absurd (h refl)

end_by : (o f : Bool) (made : Offers) (one all : Course) → (one.ending ≢ Turns → all ≡ one) → (by o f made one).ending ≢ Turns → by o f made all ≡ by o f made one
end_by true f made one all e h = refl
end_by false true made one all e h = refl
end_by false false made one all e h = ap (joined made) (e h)

pub turns_ended : (a b : ℕ) (w : World) (coming : List OutsideLine) → (turns a w coming).ending ≢ Turns → turns (a + b) w coming ≡ turns a w coming
turns_ended zero b w coming h = let z : 0 + b ≡ b = omega arith in ap (λ n. turns n w coming) z ∙ none_ended b w coming (is_over w coming) refl h
turns_ended (suc a) b w coming h =
    let t = turn w (slice_get coming 0) in
    let u = world_after w t in
    let next = drop 1 coming in
    let z : suc a + b ≡ suc (a + b) = omega arith in
    ap (λ n. turns n w coming) z ∙ end_by (is_over w coming) t.full t.made (turns a u next) (turns (a + b) u next) (turns_ended a b u next) h

-- at rest, with no outside event to come, nothing happens
pub rest_still : (n : ℕ) (w : World) → at_rest w ≡ true → turns n w [] ≡ record { made = []; ending = Rest }
rest_still zero w h = ap (λ b. let z : Course = record { made = []; ending = cond b Rest Turns } in z) h
rest_still (suc n) w h = ap (λ b. by b (turn w (slice_get [] 0)).full (turn w (slice_get [] 0)).made (turns n (world_after w (turn w (slice_get [] 0))) [])) h
