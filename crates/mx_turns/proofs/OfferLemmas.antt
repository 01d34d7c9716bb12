-- What comes of offers.
use Rattle.std.proofs.Common.{◌≡◌, ◌∙◌, ℕ, zero, suc, ◌+◌, ◌-◌, ◌<◌, ◌≤◌, ◌++◌, ◌||◌, nat_le, min, true, false, List, [], ◌∷◌, map, drop, cond, Option, Some, None, inl, inr, refl, ap, sym, arith, append_assoc, get_or-set_same}
use Rattle.std.specs.List.{flat_map, range_with_len}
use Rattle.std.proofs.lemmas.Bool.{cases_Bool, cases_lt, le-leb}
use Rattle.std.proofs.lemmas.List.{take-append-drop}
use Rattle.std.proofs.lemmas.List.FromFn.{map-range_with_len_more, take-map-range_with_len}
use Rattle.mx_exec.specs.declared.image.Image.{Image}
use Rattle.mx_exec.specs.declared.image.Outcome.{Outcome}
use Rattle.mx_exec.specs.declared.image.Outcome.TheVariants.{Go, Trap, Fault}
use Rattle.mx_exec.specs.Step.{one_step}
use Rattle.mx_machine.specs.Run.{run_of, run_end_from}
use Rattle.mx_machine.specs.Stop.{Stop}
use Rattle.mx_machine.specs.Stop.TheVariants as stop
use Rattle.mx_machine.specs.declared.events.Event.{Event}
use Rattle.mx_machine.specs.declared.events.Event.TheVariants.{Step, Take, Respawn}
use Rattle.mx_machine.specs.declared.events.Refusal.{Refusal}
use Rattle.mx_machine.specs.declared.events.Refusal.TheVariants.{LogFull, AtStop, CpuEmpty}
use Rattle.mx_machine.specs.declared.holding.Out.{Out}
use Rattle.mx_machine.specs.Held.{held_run, run_by_stop, out_after_step}
use Rattle.mx_machine.specs.Move.{at_stop, is_stop, event_refusal, step_refusal, world_after_event, world_after_step, with_held}
use Rattle.mx_machine.specs.Steps.{steps_of}
use Rattle.mx_machine.specs.World.{World, HeldProcess, held_by}
use Rattle.mx_machine.proofs.JoinLemmas.{held_runs_join}
use Rattle.mx_machine.proofs.WorldStepLemmas.{holds_in}
use Rattle.mx_machine.proofs.RunLemmas.{stepped-run}
use Rattle.mx_turns.specs.Turns.{Offered, offered, offered_first, then_offered, takes, run_of as run_of_cpu, runs, respawns}

-- ---- offers in a row

abbrev pub Offers : Type 0
Offers = List (ℕ × Event)

first_more : (r : Option Refusal) (w : World) (x : ℕ × Event) (xs ys : Offers)
    → ((offered w xs).full ≡ false → offered w (xs ++ ys) ≡ then_offered w (offered w xs) ys)
    → (let v = world_after_event w x.0 x.1 in (offered v xs).full ≡ false → offered v (xs ++ ys) ≡ then_offered v (offered v xs) ys)
    → (offered_first x r (offered w xs) (offered (world_after_event w x.0 x.1) xs)).full ≡ false
    → offered_first x r (offered w (xs ++ ys)) (offered (world_after_event w x.0 x.1) (xs ++ ys)) ≡ then_offered w (offered_first x r (offered w xs) (offered (world_after_event w x.0 x.1) xs)) ys
first_more None w x xs ys skip go h = ap (λ (o : Offered). let z : Offered = record { made = x ∷ o.made; full = o.full } in z) (go h)
first_more (Some LogFull) w x xs ys skip go h = cc
first_more (Some r) w x xs ys skip go h = skip h

-- offers of which none met a full history, and then others
pub offered_more : (w : World) (xs ys : Offers) → (offered w xs).full ≡ false → offered w (xs ++ ys) ≡ then_offered w (offered w xs) ys
offered_more w [] ys h = refl
offered_more w (x ∷ xs) ys h = first_more (event_refusal w x.0 x.1) w x xs ys (offered_more w xs ys) (offered_more (world_after_event w x.0 x.1) xs ys) h

first_full : (r : Option Refusal) (w : World) (x : ℕ × Event) (xs ys : Offers)
    → ((offered w xs).full ≡ true → offered w (xs ++ ys) ≡ offered w xs)
    → (let v = world_after_event w x.0 x.1 in (offered v xs).full ≡ true → offered v (xs ++ ys) ≡ offered v xs)
    → (offered_first x r (offered w xs) (offered (world_after_event w x.0 x.1) xs)).full ≡ true
    → offered_first x r (offered w (xs ++ ys)) (offered (world_after_event w x.0 x.1) (xs ++ ys)) ≡ offered_first x r (offered w xs) (offered (world_after_event w x.0 x.1) xs)
first_full None w x xs ys skip go h = ap (λ (o : Offered). let z : Offered = record { made = x ∷ o.made; full = o.full } in z) (go h)
first_full (Some LogFull) w x xs ys skip go h = refl
first_full (Some r) w x xs ys skip go h = skip h

-- after a full history nothing more is offered
pub offered_full : (w : World) (xs ys : Offers) → (offered w xs).full ≡ true → offered w (xs ++ ys) ≡ offered w xs
offered_full w [] ys h = cc
offered_full w (x ∷ xs) ys h = first_full (event_refusal w x.0 x.1) w x xs ys (offered_full w xs ys) (offered_full (world_after_event w x.0 x.1) xs ys) h

-- ---- the steps of a processor

by_stop : (s : Stop) (o : Out) → (is_stop s || nat_le o.budget o.count) ≡ true → (k : ℕ) → (run_by_stop s k o).0.0 ≡ 0
by_stop stop.Spent o h k =
    let none : min k (o.budget - o.count) ≡ 0 = elim (cases_lt o.count o.budget) [
      | inl lt ↦ absurd (not_below o.count o.budget lt h)
      | inr ge ↦ omega arith
    ] in
    ap (λ n. (run_of n o.image).count) none
  where
    not_below : (a b : ℕ) → a < b → nat_le b a ≡ true → ⊥
    not_below a b lt h = grind arith
by_stop stop.Trap o h k = refl
by_stop (stop.Fault v) o h k = refl

-- a process at its stop makes no step
pub stopped_run : (o : Out) (k : ℕ) → at_stop o ≡ true → (held_run k o).0.0 ≡ 0
unfolding held_run
stopped_run o k h = by_stop o.stop o h k

-- a run of no steps
none_by : (s : Stop) (o : Out) → (run_by_stop s 0 o).0.0 ≡ 0
none_by stop.Spent o = let z : min 0 (o.budget - o.count) ≡ 0 = omega arith in ap (λ n. (run_of n o.image).count) z
none_by stop.Trap o = refl
none_by (stop.Fault v) o = refl

pub none_run : (o : Out) → (held_run 0 o).0.0 ≡ 0
unfolding held_run
none_run o = none_by o.stop o

one_count : (x : Outcome × Image) → (run_end_from (run_of 0) x).count ≡ 1
one_count (Go, m) = refl
one_count (Trap, m) = refl
one_count (Fault v, m) = refl

one_by : (s : Stop) (o : Out) → (is_stop s || nat_le o.budget o.count) ≡ false → (run_by_stop s 1 o).0.0 ≡ 1
one_by stop.Spent o h =
    let left : min 1 (o.budget - o.count) ≡ 1 = elim (cases_lt o.count o.budget) [
      | inl lt ↦ omega arith
      | inr ge ↦ let y = le-leb o.budget o.count ge in cc
    ] in
    ap (λ n. (run_of n o.image).count) left ∙ one_count (one_step o.image)
one_by stop.Trap o h = cc
one_by (stop.Fault v) o h = cc

one_run : (o : Out) → at_stop o ≡ false → (held_run 1 o).0.0 ≡ 1
unfolding held_run
one_run o h = one_by o.stop o h

-- a step, and then a run
more_run : (k : ℕ) (o : Out) → at_stop o ≡ false → (held_run (suc k) o).0.0 ≡ suc (held_run k (out_after_step o)).0.0
more_run k o h =
    let n : suc k ≡ 1 + k = omega arith in
    let after : (held_run k (held_run 1 o).1).0.0 ≡ (held_run k (out_after_step o)).0.0 = ap (λ (u : Out). (held_run k u).0.0) (sym (stepped-run o h)) in
    let both : (held_run (suc k) o).0.0 ≡ (held_run 1 o).0.0 + (held_run k (held_run 1 o).1).0.0 = ap (λ i. (held_run i o).0.0) n ∙ ap (λ p. p.0.0) (held_runs_join 1 k o) in
    let one = one_run o h in
    omega (arith, both, one, after)

-- what comes of as many steps as may be, and of those that are made
abbrev made_steps : ℕ → ℕ → Offered
made_steps c n = record { made = steps_of c n; full = false }

step_skipped : (w : World) (c k : ℕ) (r : Option Refusal) → event_refusal w c Step ≡ r → (o : Offered) → offered w (steps_of c k) ≡ o → offered_first (c, Step) r (offered w (steps_of c k)) (offered (world_after_event w c Step) (steps_of c k)) ≡ o → offered w (steps_of c (suc k)) ≡ o
step_skipped w c k r e o h f = ap (λ q. offered_first (c, Step) q (offered w (steps_of c k)) (offered (world_after_event w c Step) (steps_of c k))) e ∙ f

refusal_of_step : (w : World) (c : ℕ) (held : Option HeldProcess) → held_by w c ≡ held → event_refusal w c Step ≡ step_refusal held
unfolding event_refusal
refusal_of_step w c held h = ap step_refusal h

pub world_of_step : (w : World) (c : ℕ) (held : Option HeldProcess) → held_by w c ≡ held → world_after_event w c Step ≡ world_after_step w c held
unfolding world_after_event
world_of_step w c held h = ap (world_after_step w c) h

-- a processor that holds nothing makes none
pub empty_offered : (w : World) (c : ℕ) → held_by w c ≡ None → (k : ℕ) → offered w (steps_of c k) ≡ made_steps c 0
empty_offered w c h zero = refl
empty_offered w c h (suc k) =
    let again = empty_offered w c h k in
    step_skipped w c k (Some CpuEmpty) (refusal_of_step w c None h) (made_steps c 0) again again

-- after its stop a process makes none
stopped_offered : (w : World) (c : ℕ) (l : HeldProcess) → held_by w c ≡ Some l → at_stop l.out ≡ true → (k : ℕ) → offered w (steps_of c k) ≡ made_steps c 0
stopped_offered w c l h s zero = refl
stopped_offered w c l h s (suc k) =
    let again = stopped_offered w c l h s k in
    step_skipped w c k (Some AtStop) (refusal_of_step w c (Some l) h ∙ ap (λ b. cond b (Some AtStop) None) s) (made_steps c 0) again again

-- STEPS: those of the run are made
pub steps_offered : (k : ℕ) (w : World) (c : ℕ) (l : HeldProcess) → held_by w c ≡ Some l → offered w (steps_of c k) ≡ made_steps c (held_run k l.out).0.0
steps_offered zero w c l h = ap (made_steps c) (sym (none_run l.out))
steps_offered (suc k) w c l h = elim (cases_Bool (at_stop l.out)) [
  | inl s ↦ stopped_offered w c l h s (suc k) ∙ ap (made_steps c) (sym (stopped_run l.out (suc k) s))
  | inr g ↦
      let next : HeldProcess = record l { out = out_after_step l.out } in
      let v : World = with_held w c (Some next) in
      let held : held_by v c ≡ Some next = get_or-set_same w.cpus c (Some next) None (holds_in w.cpus c l h) in
      let again : offered v (steps_of c k) ≡ made_steps c (held_run k next.out).0.0 = steps_offered k v c next held in
      ap (λ q. offered_first (c, Step) q (offered w (steps_of c k)) (offered (world_after_event w c Step) (steps_of c k))) (refusal_of_step w c (Some l) h ∙ ap (λ b. cond b (Some AtStop) None) g)
      ∙ ap (λ (u : World). offered_first (c, Step) None (offered w (steps_of c k)) (offered u (steps_of c k))) (world_of_step w c (Some l) h)
      ∙ ap (λ (o : Offered). offered_first (c, Step) None (offered w (steps_of c k)) o) again
      ∙ ap (made_steps c) (sym (more_run k l.out g))
]

-- ---- the lists of offers

pub range_more : (a n : ℕ) → range_with_len a (n + 1) ≡ range_with_len a n ++ (a + n) ∷ []
range_more a n = let e = map-range_with_len_more (λ x. x) a n (a + n) refl in same a (n + 1) ∙ e ∙ ap (λ l. l ++ (a + n) ∷ []) (sym (same a n))
  where
    same : (a n : ℕ) → range_with_len a n ≡ map (λ x. x) (range_with_len a n)
    same a zero = refl
    same a (suc n) = ap (λ l. a ∷ l) (same (a + 1) n)

pub takes_more : (n : ℕ) → takes (n + 1) ≡ takes n ++ (n, Take) ∷ []
takes_more n = let z : 0 + n ≡ n = omega arith in map-range_with_len_more (λ c. let x : ℕ × Event = (c, Take) in x) 0 n n z

pub respawns_more : (other n : ℕ) → respawns other (n + 1) ≡ respawns other n ++ (other, Respawn n) ∷ []
respawns_more other n = let z : 0 + n ≡ n = omega arith in map-range_with_len_more (λ s. let x : ℕ × Event = (other, Respawn s) in x) 0 n n z

flat-append : (f : ℕ → Offers) (xs : List ℕ) (x : ℕ) → flat_map f (xs ++ x ∷ []) ≡ flat_map f xs ++ f x
flat-append f [] x = nil (f x)
  where
    nil : (l : Offers) → l ++ [] ≡ l
    nil [] = refl
    nil (y ∷ ys) = ap (λ l. y ∷ l) (nil ys)
flat-append f (y ∷ ys) x = ap (λ l. f y ++ l) (flat-append f ys x) ∙ sym (append_assoc (f y) (flat_map f ys) (f x))

pub runs_more : (n : ℕ) → runs (n + 1) ≡ runs n ++ run_of_cpu n
runs_more n =
    let z : 0 + n ≡ n = omega arith in
    ap (flat_map run_of_cpu) (range_more 0 n) ∙ flat-append run_of_cpu (range_with_len 0 n) (0 + n) ∙ ap (λ i. runs n ++ run_of_cpu i) z

-- the first of them, and the rest
pub takes_part : (k n : ℕ) → k ≤ n → takes n ≡ takes k ++ drop k (takes n)
takes_part k n h = sym (take-append-drop k (takes n)) ∙ ap (λ l. l ++ drop k (takes n)) (take-map-range_with_len (λ c. let x : ℕ × Event = (c, Take) in x) 0 n k h)

pub respawns_part : (other k n : ℕ) → k ≤ n → respawns other n ≡ respawns other k ++ drop k (respawns other n)
respawns_part other k n h = sym (take-append-drop k (respawns other n)) ∙ ap (λ l. l ++ drop k (respawns other n)) (take-map-range_with_len (λ s. let x : ℕ × Event = (other, Respawn s) in x) 0 n k h)
