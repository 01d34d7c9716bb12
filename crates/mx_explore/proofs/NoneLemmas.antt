-- Without a departure every open offer is made, so a run makes turns.
use Rattle.std.proofs.Common.{◌≡◌, ◌∙◌, ◌+◌, ◌++◌, ◌&&◌, ◌||◌, ℕ, zero, suc, not, Bool, true, false, List, [], ◌∷◌, map, drop, length, cond, nat_lt, Option, Some, None, is_none, inl, inr, refl, ap, sym, subst, arith, true≢false}
use Rattle.std.specs.Prelude.{option_map, slice_get}
use Rattle.std.specs.List.{range_with_len}
use Rattle.std.proofs.lemmas.Bool.{cases_Bool}
use Rattle.mx_walk.specs.Kept.{kept_of}
use Rattle.mx_machine.specs.declared.events.Event.{Event}
use Rattle.mx_machine.specs.declared.events.Event.TheVariants as events
use Rattle.mx_machine.specs.declared.events.Refusal.{Refusal}
use Rattle.mx_machine.specs.declared.events.Refusal.TheVariants.{CpuBusy, LogFull, NotDown, Worn}
use Rattle.mx_machine.specs.History.{AreAccepted, BootAndHistory, world_after_events}
use Rattle.mx_machine.specs.Move.{back_refusal, event_refusal, if_full, respawn_refusal, take_refusal, world_after_event}
use Rattle.mx_machine.specs.Proc.Queues.{first_ready}
use Rattle.mx_machine.specs.Proc.States.{is_down}
use Rattle.mx_machine.specs.Proc.TableState.{TableState, process_at}
use Rattle.mx_machine.specs.Respawn.{is_worn}
use Rattle.mx_machine.specs.Service.{Service}
use Rattle.mx_machine.specs.Steps.{steps_of}
use Rattle.mx_machine.specs.World.{World, HeldProcess, free_records, held_by}
use Rattle.mx_machine.proofs.ReplayLemmas.{accepted_append, after_append}
use Rattle.mx_turns.specs.Turns.{Course, Offered, is_over, most_steps, next_now, offered, offered_first, outside, respawns, run_of, runs, takes, then_offered, then_turns, turn, turns, world_after}
use Rattle.mx_turns.specs.declared.outside.OutsideLine.{OutsideLine}
use Rattle.mx_turns.specs.declared.turns.Ending.{Ending}
use Rattle.mx_turns.specs.declared.turns.Ending.TheVariants.{Rest, Full}
use Rattle.mx_turns.proofs.MadeLemmas.{back_not_full, kept_append}
use Rattle.mx_turns.proofs.OfferLemmas.{Offers, empty_offered, offered_full, offered_more, respawns_more, runs_more, steps_offered, takes_more}
use Rattle.mx_explore.specs.Offers.{can_respawn, is_outside, open_back, open_outside, open_respawn, open_take}
use Rattle.mx_explore.specs.declared.offers.Offer.{Offer}
use Rattle.mx_explore.specs.declared.offers.Offer.TheVariants.{Take, Back, Outside, Respawn}
use Rattle.mx_explore.specs.declared.passing.Met.{Met}
use Rattle.mx_explore.specs.declared.passing.TurnStart.{TurnStart}
use Rattle.mx_explore.specs.Passing.{Passage, Place, Setting, Standing, at_place, begins, events_of, from_boot, made, meets, meets_if, met_in, noted, open_at, passed_turn, passed_turns, passes, run_of_schedule, turn_start}
use Rattle.mx_explore.specs.Passing.{BackBy, FromOutside, NewIn, TakeBy}
use Rattle.mx_explore.proofs.FollowLemmas.{none_begins, none_goes}
use Rattle.mx_explore.proofs.PassageLemmas.{At, NeedsRoom, back_open, one_more, respawn_open, respawns_need, stood, take_open, takes_need}
use Rattle.mx_explore.proofs.TurnLemmas.{turn_full, turn_outside, turn_whole}
use Rattle.mx_explore.proofs.WaitLemmas.{noted_quiet}

-- ---- what is passed: nothing

abbrev Quiet : Standing → Type 0
Quiet s = (s.ahead ≡ []) × (s.waits ≡ 0)

quiet_lasts : (s : Standing) (m : Met) → Quiet s → Quiet (noted s m)
quiet_lasts s m h = subst Quiet (sym (noted_quiet s m h.0 h.1)) h

quiet_makes : (start : TurnStart) (p : Passage) (x : Offer) → Quiet p.standing
    → meets start p x ≡ made start.other (stood p (noted p.standing (met_in p.world start.records x))) x
quiet_makes start p x h =
    let q = stood p (noted p.standing (met_in p.world start.records x)) in
    let none : passes p.standing x ≡ false = ap (λ b. b || begins p.standing x) (none_goes p.standing x h.1) ∙ none_begins p.standing p.standing.ahead x h.0 in
    ap (λ b. cond b q (made start.other q x)) none

-- ---- events that are made, in a row

-- From p these events were made, each of which was accepted, and the run stands at q.
record Comes (p : Passage) (xs : Offers) (q : Passage) : Type 0 where
  kernel : q.kernel ≡ kept_of p.kernel p.world xs
  world : q.world ≡ world_after_events p.world xs
  accepted : AreAccepted p.world xs
  quiet : Quiet q.standing

nothing_comes : (p : Passage) → Quiet p.standing → Comes p [] p
nothing_comes p h = record { kernel = refl; world = refl; accepted = tt; quiet = h }

then_comes : (p q r : Passage) (xs ys : Offers) → Comes p xs q → Comes q ys r → Comes p (xs ++ ys) r
then_comes p q r xs ys h g = record {
  kernel = g.kernel ∙ ap (λ (k : BootAndHistory). kept_of k q.world ys) h.kernel ∙ ap (λ (w : World). kept_of (kept_of p.kernel p.world xs) w ys) h.world
      ∙ sym (kept_append p.world p.kernel xs ys h.accepted);
  world = g.world ∙ ap (λ (w : World). world_after_events w ys) h.world ∙ sym (after_append p.world xs ys);
  accepted = accepted_append p.world xs ys h.accepted (subst (λ (w : World). AreAccepted w ys) h.world g.accepted);
  quiet = g.quiet;
}

-- what comes of offers is accepted
first_accepted : (w : World) (x : ℕ × Event) (r : Option Refusal) → event_refusal w x.0 x.1 ≡ r → (skipped later : Offered) → AreAccepted w skipped.made → AreAccepted (world_after_event w x.0 x.1) later.made
    → AreAccepted w (offered_first x r skipped later).made
first_accepted w x None e skipped later h g = (e, g)
first_accepted w x (Some LogFull) e skipped later h g = tt
first_accepted w x (Some r) e skipped later h g = h

pub offers_accepted : (w : World) (xs : Offers) → AreAccepted w (offered w xs).made
offers_accepted w [] = tt
offers_accepted w (x ∷ xs) =
    first_accepted w x (event_refusal w x.0 x.1) refl (offered w xs) (offered (world_after_event w x.0 x.1) xs) (offers_accepted w xs) (offers_accepted (world_after_event w x.0 x.1) xs)

-- ---- offers in a row

or_false : (b : Bool) → (b || false) ≡ b
or_false true = refl
or_false false = refl

-- From p what comes of these offers was made, and the run stands at q.
record IsOffered (p : Passage) (xs : Offers) (q : Passage) : Type 0 where
  comes : Comes p (offered p.world xs).made q
  full : q.full ≡ (p.full || (offered p.world xs).full)
  coming : q.coming ≡ p.coming

none_offered : (p : Passage) → Quiet p.standing → IsOffered p [] p
none_offered p h = record { comes = nothing_comes p h; full = sym (or_false p.full); coming = refl }

then_offers : (p q r : Passage) (xs ys : Offers) → IsOffered p xs q → (offered p.world xs).full ≡ false → IsOffered q ys r → IsOffered p (xs ++ ys) r
then_offers p q r xs ys h room g =
    let first = offered p.world xs in
    let all : offered p.world (xs ++ ys) ≡ then_offered p.world first ys = offered_more p.world xs ys room in
    record {
      comes = subst (λ (o : Offered). Comes p o.made r) (sym all)
          (then_comes p q r first.made (offered (world_after_events p.world first.made) ys).made h.comes (subst (λ (w : World). Comes q (offered w ys).made r) h.comes.world g.comes));
      full = g.full ∙ ap (λ b. b || (offered q.world ys).full) (h.full ∙ ap (λ b. p.full || b) room ∙ or_false p.full)
          ∙ ap (λ (w : World). p.full || (offered w ys).full) h.comes.world ∙ sym (ap (λ (o : Offered). p.full || o.full) all);
      coming = g.coming ∙ h.coming;
    }

-- after a full history nothing more is made
full_offers : (p q : Passage) (xs ys : Offers) → IsOffered p xs q → (offered p.world xs).full ≡ true → IsOffered p (xs ++ ys) q
full_offers p q xs ys h full =
    let all : offered p.world (xs ++ ys) ≡ offered p.world xs = offered_full p.world xs ys full in
    record {
      comes = subst (λ (o : Offered). Comes p o.made q) (sym all) h.comes;
      full = h.full ∙ sym (ap (λ (o : Offered). p.full || o.full) all);
      coming = h.coming;
    }

-- ---- what isn't open is refused

abbrev pub refused : Offered
refused = record { made = []; full = false }

pub take_closed : (w : World) (c : ℕ) → open_take w c ≡ None → offered w ((c, events.Take) ∷ []) ≡ refused
unfolding event_refusal
take_closed w c h = by (nat_lt c (length w.cpus)) (held_by w c) (first_ready w.table.ready) h
  where
    by : (b : Bool) (held : Option HeldProcess) (first : Option ℕ) → cond (is_none held) (option_map (λ s. Take c s) first) None ≡ None
        → offered_first (c, events.Take) (cond b (take_refusal (free_records w) held first) (Some CpuBusy)) refused (offered (world_after_event w c events.Take) []) ≡ refused
    by false held first h = refl
    by true (Some l) first h = refl
    by true None None h = refl
    by true None (Some s) h = absurd cc

pub none_held : (c : ℕ) (held : Option HeldProcess) → option_map (λ (l : HeldProcess). Back c l.slot) held ≡ None → held ≡ None
none_held c None h = refl
none_held c (Some l) h = absurd cc

pub back_closed : (w : World) (c : ℕ) → held_by w c ≡ None → offered w (run_of c) ≡ refused
unfolding event_refusal
back_closed w c h =
    let steps = empty_offered w c h most_steps in
    offered_more w (steps_of c most_steps) ((c, events.Back) ∷ []) (ap (λ (o : Offered). o.full) steps) ∙ ap (λ (o : Offered). then_offered w o ((c, events.Back) ∷ [])) steps
    ∙ ap (λ (held : Option HeldProcess). offered_first (c, events.Back) (back_refusal held) refused (offered (world_after_event w c events.Back) [])) h

pub respawn_closed : (w : World) (other s : ℕ) → open_respawn w s ≡ None → offered w ((other, events.Respawn s) ∷ []) ≡ refused
unfolding event_refusal
respawn_closed w other s h = by (slice_get w.services s) h
  where
    by : (v : Option Service) → cond (can_respawn (process_at w.table s) v) (let z : Option Offer = Some (Respawn s) in z) None ≡ None
        → offered_first (other, events.Respawn s) (respawn_refusal (free_records w) (process_at w.table s) v) refused (offered (world_after_event w other (events.Respawn s)) []) ≡ refused
    by None h = refl
    by (Some v) h = down (is_down (process_at w.table s).state) (is_worn (process_at w.table s) v) h
      where
        down : (d worn : Bool) → cond (d && not worn) (let z : Option Offer = Some (Respawn s) in z) None ≡ None
            → offered_first (other, events.Respawn s) (cond (not d) (Some NotDown) (cond worn (Some Worn) (if_full (free_records w) 1))) refused (offered (world_after_event w other (events.Respawn s)) []) ≡ refused
        down false worn h = refl
        down true true h = refl
        down true false h = absurd cc

-- ---- one place

closed_at : (start : TurnStart) (p : Passage) (z : Place) (xs : Offers) → Quiet p.standing → open_at start p z ≡ None → offered p.world xs ≡ refused → IsOffered p xs (at_place start p z)
closed_at start p z xs quiet closed none =
    subst (λ (o : Option Offer). IsOffered p xs (meets_if start p o)) (sym closed) (record {
      comes = subst (λ (o : Offered). Comes p o.made p) (sym none) (nothing_comes p quiet);
      full = sym (or_false p.full) ∙ sym (ap (λ (o : Offered). p.full || o.full) none);
      coming = refl;
    })

open_met : (start : TurnStart) (p : Passage) (x : Offer) → Quiet p.standing → is_outside x ≡ false → IsOffered p (events_of start.other x) (meets start p x)
open_met start p x quiet inside =
    subst (IsOffered p (events_of start.other x)) (sym (quiet_makes start p x quiet)) (record {
      comes = record { kernel = refl; world = refl; accepted = offers_accepted p.world (events_of start.other x); quiet = quiet_lasts p.standing (met_in p.world start.records x) quiet };
      full = refl;
      coming = ap (λ b. cond b (drop 1 p.coming) p.coming) inside;
    })

opened_at : (start : TurnStart) (p : Passage) (z : Place) (x y : Offer) → Quiet p.standing → open_at start p z ≡ Some x → x ≡ y → is_outside y ≡ false → IsOffered p (events_of start.other y) (at_place start p z)
opened_at start p z x y quiet opened same inside =
    subst (λ (o : Option Offer). IsOffered p (events_of start.other y) (meets_if start p o)) (sym (opened ∙ ap Some same)) (open_met start p y quiet inside)

abbrev Each : (ℕ → Place) → (ℕ → Offers) → TurnStart → Type 0
Each f ev start = (p : Passage) (n : ℕ) → Quiet p.standing → p.full ≡ false → IsOffered p (ev n) (at_place start p (f n))

take_offered : (start : TurnStart) → Each TakeBy (λ c. (c, events.Take) ∷ []) start
take_offered start p c quiet room = by (open_take p.world c) refl
  where
    is : open_at start p (TakeBy c) ≡ open_take p.world c
    is = ap (λ b. cond b None (open_take p.world c)) room

    by : (o : Option Offer) → open_take p.world c ≡ o → IsOffered p ((c, events.Take) ∷ []) (at_place start p (TakeBy c))
    by None e = closed_at start p (TakeBy c) ((c, events.Take) ∷ []) quiet (is ∙ e) (take_closed p.world c e)
    by (Some x) e = let it = take_open p.world c x e in opened_at start p (TakeBy c) x (Take c it.0) quiet (is ∙ e) it.1 refl

back_offered : (start : TurnStart) (p : Passage) (c : ℕ) → Quiet p.standing → IsOffered p (run_of c) (at_place start p (BackBy c))
back_offered start p c quiet = by (open_back p.world c) refl
  where
    by : (o : Option Offer) → open_back p.world c ≡ o → IsOffered p (run_of c) (at_place start p (BackBy c))
    by None e = closed_at start p (BackBy c) (run_of c) quiet e (back_closed p.world c (none_held c (held_by p.world c) e))
    by (Some x) e = let it = back_open p.world c x e in opened_at start p (BackBy c) x (Back c it.0) quiet e it.1 refl

new_offered : (start : TurnStart) → Each NewIn (λ s. (start.other, events.Respawn s) ∷ []) start
new_offered start p s quiet room = by (open_respawn p.world s) refl
  where
    is : open_at start p (NewIn s) ≡ open_respawn p.world s
    is = ap (λ b. cond b None (open_respawn p.world s)) room

    by : (o : Option Offer) → open_respawn p.world s ≡ o → IsOffered p ((start.other, events.Respawn s) ∷ []) (at_place start p (NewIn s))
    by None e = closed_at start p (NewIn s) ((start.other, events.Respawn s) ∷ []) quiet (is ∙ e) (respawn_closed p.world start.other s e)
    by (Some x) e = opened_at start p (NewIn s) x (Respawn s) quiet (is ∙ e) (respawn_open p.world s x e) refl

-- ---- places in a row

module _ (start : TurnStart) (f : ℕ → Place) (ev list : ℕ → Offers) (more : (n : ℕ) → list (n + 1) ≡ list n ++ ev n) where
  abbrev after : Passage → ℕ → Passage
  after p n = At start p (map f (range_with_len 0 n))

  -- until one meets a full history
  module _ (needs : NeedsRoom f) (each : Each f ev start) (p : Passage) (room : p.full ≡ false) where
    row_next : (n : ℕ) → IsOffered p (list n) (after p n) → IsOffered p (list (n + 1)) (after p (n + 1))
    row_next n h =
        let q = after p n in
        let o = offered p.world (list n) in
        let full : q.full ≡ o.full = h.full ∙ ap (λ b. b || o.full) room in
        subst (λ (xs : Offers). IsOffered p xs (after p (n + 1))) (sym (more n)) (subst (IsOffered p (list n ++ ev n)) (sym (one_more start p f n))
        (elim (cases_Bool o.full) [
          | inl t ↦ subst (IsOffered p (list n ++ ev n)) (sym (ap (meets_if start q) (needs start q n (full ∙ t)))) (full_offers p q (list n) (ev n) h t)
          | inr t ↦ then_offers p q (at_place start q (f n)) (list n) (ev n) h t (each q n h.comes.quiet (full ∙ t))
        ]))

    row : list 0 ≡ [] → Quiet p.standing → (n : ℕ) → IsOffered p (list n) (after p n)
    row none quiet zero = subst (λ (xs : Offers). IsOffered p xs p) (sym none) (none_offered p quiet)
    row none quiet (suc n) =
        let next : n + 1 ≡ suc n = omega arith in
        subst (λ k. IsOffered p (list k) (after p k)) next (row_next n (row none quiet n))

-- no return meets one
run_not_full : (w : World) (c : ℕ) → (offered w (run_of c)).full ≡ false
run_not_full w c = by (held_by w c) refl
  where
    last : (offered w (steps_of c most_steps)).full ≡ false → (offered w (run_of c)).full ≡ false
    last h = ap (λ (o : Offered). o.full) (offered_more w (steps_of c most_steps) ((c, events.Back) ∷ []) h) ∙ back_not_full (world_after w (offered w (steps_of c most_steps))) c

    by : (held : Option HeldProcess) → held_by w c ≡ held → (offered w (run_of c)).full ≡ false
    by None e = last (ap (λ (o : Offered). o.full) (empty_offered w c e most_steps))
    by (Some l) e = last (ap (λ (o : Offered). o.full) (steps_offered most_steps w c l e))

runs_not_full : (w : World) (n : ℕ) → (offered w (runs n)).full ≡ false
runs_not_full w zero = refl
runs_not_full w (suc n) =
    let next : suc n ≡ n + 1 = omega arith in
    ap (λ k. (offered w (runs k)).full) next ∙ ap (λ (xs : Offers). (offered w xs).full) (runs_more n) ∙ ap (λ (o : Offered). o.full) (offered_more w (runs n) (run_of n) (runs_not_full w n))
    ∙ run_not_full (world_after w (offered w (runs n))) n

backs : (start : TurnStart) (p : Passage) → Quiet p.standing → (n : ℕ) → IsOffered p (runs n) (At start p (map BackBy (range_with_len 0 n)))
backs start p quiet zero = none_offered p quiet
backs start p quiet (suc n) =
    let next : n + 1 ≡ suc n = omega arith in
    let h = backs start p quiet n in
    let q = At start p (map BackBy (range_with_len 0 n)) in
    subst (λ k. IsOffered p (runs k) (At start p (map BackBy (range_with_len 0 k)))) next
    (subst (λ (xs : Offers). IsOffered p xs (At start p (map BackBy (range_with_len 0 (n + 1))))) (sym (runs_more n)) (subst (IsOffered p (runs n ++ run_of n)) (sym (one_more start p BackBy n))
    (then_offers p q (at_place start q (BackBy n)) (runs n) (run_of n) h (runs_not_full p.world n) (back_offered start q n h.comes.quiet))))

-- ---- a turn

pub no_event : (t : TableState) (next : Option OutsideLine) → next_now t next ≡ None → next ≡ None
no_event t None h = refl
no_event t (Some l) h = absurd cc

pub none_left : (xs : List OutsideLine) → slice_get xs 0 ≡ None → drop 1 xs ≡ xs
none_left [] h = refl
none_left (x ∷ xs) h = absurd cc

-- From p what comes of a turn was made, and the run stands at q.
record IsTurned (p : Passage) (o : Offered) (q : Passage) : Type 0 where
  comes : Comes p o.made q
  full : q.full ≡ o.full
  coming : o.full ≡ false → q.coming ≡ drop 1 p.coming

module _ (p : Passage) (quiet : Quiet p.standing) (room : p.full ≡ false) where
  abbrev w : World
  w = p.world

  abbrev cpus : ℕ
  cpus = length p.world.cpus

  abbrev slots : ℕ
  slots = length p.world.services

  abbrev taken : Offered
  taken = offered w (takes cpus)

  abbrev ran : Offered
  ran = then_offered w taken (runs cpus)

  abbrev q : Passage
  q = At (turn_start p) p (map TakeBy (range_with_len 0 cpus))

  abbrev r : Passage
  r = At (turn_start p) q (map BackBy (range_with_len 0 cpus))

  abbrev turned : Offered
  turned = turn w (slice_get p.coming 0)

  took : IsOffered p (takes cpus) q
  took = row (turn_start p) TakeBy (λ c. (c, events.Take) ∷ []) takes takes_more takes_need (take_offered (turn_start p)) p room refl quiet cpus

  backed : IsOffered q (runs cpus) r
  backed = backs (turn_start p) q took.comes.quiet cpus

  q_full : q.full ≡ taken.full
  q_full = took.full ∙ ap (λ b. b || taken.full) room

  ran_comes : Comes p ran.made r
  ran_comes = then_comes p q r taken.made (offered (world_after_events w taken.made) (runs cpus)).made took.comes (subst (λ (v : World). Comes q (offered v (runs cpus)).made r) took.comes.world backed.comes)

  -- a take met a full history
  turn_taken : taken.full ≡ true → IsTurned p turned (passed_turn p)
  turn_taken t =
      let full : r.full ≡ true = backed.full ∙ ap (λ b. b || (offered q.world (runs cpus)).full) (q_full ∙ t) in
      subst (λ (z : Passage). IsTurned p turned z) (sym (turn_full (turn_start p) p q r cpus slots refl refl full))
      (subst (λ (o : Offered). IsTurned p o r) (sym (ap (λ b. cond b (record ran { full = true }) (then_offered w ran (outside cpus (next_now w.table (slice_get p.coming 0)) ++ respawns cpus slots))) t))
      (record { comes = ran_comes; full = full; coming = λ no. absurd (true≢false no) }))

  -- or none did
  module _ (t : taken.full ≡ false) where
    r_full : r.full ≡ false
    r_full = backed.full ∙ ap (λ b. b || (offered q.world (runs cpus)).full) (q_full ∙ t) ∙ runs_not_full q.world cpus

    abbrev others : Offers
    others = outside cpus (next_now w.table (slice_get p.coming 0)) ++ respawns cpus slots

    same_coming : r.coming ≡ p.coming
    same_coming = backed.coming ∙ took.coming

    ends : (z : Passage) (ys : Offers) → others ≡ ys → passed_turn p ≡ z → Comes r (offered r.world ys).made z → z.full ≡ (offered r.world ys).full → ((offered r.world ys).full ≡ false → z.coming ≡ drop 1 r.coming) → IsTurned p turned (passed_turn p)
    ends z ys same e comes full coming =
        let made : turned ≡ then_offered w ran ys =
        ap (λ b. cond b (record ran { full = true }) (then_offered w ran others)) t ∙ ap (then_offered w ran) same in
        let after : (offered r.world ys).full ≡ (then_offered w ran ys).full = ap (λ (v : World). (offered v ys).full) ran_comes.world in
        subst (λ (x : Passage). IsTurned p turned x) (sym e) (subst (λ (o : Offered). IsTurned p o z) (sym made) (record {
          comes = then_comes p r z ran.made (offered (world_after_events w ran.made) ys).made ran_comes (subst (λ (v : World). Comes r (offered v ys).made z) ran_comes.world comes);
          full = full ∙ after;
          coming = λ no. coming (after ∙ no) ∙ ap (drop 1) same_coming;
        }))

    abbrev u : Passage
    u = at_place (turn_start p) r FromOutside

    news : (x : Passage) → Quiet x.standing → x.full ≡ false → IsOffered x (respawns cpus slots) (At (turn_start p) x (map NewIn (range_with_len 0 slots)))
    news x still free = row (turn_start p) NewIn (λ s. (cpus, events.Respawn s) ∷ []) (respawns cpus) (respawns_more cpus) respawns_need (new_offered (turn_start p)) x free refl still slots

    -- nothing is to come
    turn_alone : next_now w.table (slice_get p.coming 0) ≡ None → IsTurned p turned (passed_turn p)
    turn_alone e =
        let none : u ≡ r = ap (meets_if (turn_start p) r) (ap (λ b. cond b None (open_outside (turn_start p).event)) r_full ∙ ap open_outside e) in
        let v = At (turn_start p) r (map NewIn (range_with_len 0 slots)) in
        let h = news r ran_comes.quiet r_full in
        ends v (respawns cpus slots) (ap (λ (o : Option Event). outside cpus o ++ respawns cpus slots) e)
        (turn_whole (turn_start p) p q r u v cpus slots refl refl refl (sym (ap (λ (x : Passage). At (turn_start p) x (map NewIn (range_with_len 0 slots))) none)))
        h.comes (h.full ∙ ap (λ b. b || (offered r.world (respawns cpus slots)).full) r_full)
        (λ no. h.coming ∙ same_coming ∙ sym (none_left p.coming (no_event w.table (slice_get p.coming 0) e)) ∙ ap (drop 1) (sym same_coming))

    -- an outside event comes
    module _ (x : Event) (e : next_now w.table (slice_get p.coming 0) ≡ Some x) where
      abbrev one : Offered
      one = offered r.world ((cpus, x) ∷ [])

      abbrev then_at : Passage
      then_at = made cpus (stood r (noted r.standing (met_in r.world (turn_start p).records (Outside x)))) (Outside x)

      u_is : u ≡ then_at
      u_is =
          ap (meets_if (turn_start p) r) (ap (λ b. cond b None (open_outside (turn_start p).event)) r_full ∙ ap open_outside e)
          ∙ quiet_makes (turn_start p) r (Outside x) ran_comes.quiet

      u_comes : Comes r one.made u
      u_comes = subst (Comes r one.made) (sym u_is) (record {
        kernel = refl;
        world = refl;
        accepted = offers_accepted r.world ((cpus, x) ∷ []);
        quiet = quiet_lasts r.standing (met_in r.world (turn_start p).records (Outside x)) ran_comes.quiet;
      })

      u_full : u.full ≡ one.full
      u_full = ap (λ (z : Passage). z.full) u_is ∙ ap (λ b. b || one.full) r_full

      u_coming : u.coming ≡ drop 1 r.coming
      u_coming = ap (λ (z : Passage). z.coming) u_is

      all : others ≡ ((cpus, x) ∷ []) ++ respawns cpus slots
      all = ap (λ (o : Option Event). outside cpus o ++ respawns cpus slots) e

      turn_filled : one.full ≡ true → IsTurned p turned (passed_turn p)
      turn_filled full =
          let same : offered r.world (((cpus, x) ∷ []) ++ respawns cpus slots) ≡ one = offered_full r.world ((cpus, x) ∷ []) (respawns cpus slots) full in
          ends u (((cpus, x) ∷ []) ++ respawns cpus slots) all (turn_outside (turn_start p) p q r u cpus slots refl refl refl (u_full ∙ full))
          (subst (λ (o : Offered). Comes r o.made u) (sym same) u_comes) (u_full ∙ ap (λ (o : Offered). o.full) (sym same)) (λ no. u_coming)

      turn_all : one.full ≡ false → IsTurned p turned (passed_turn p)
      turn_all free =
          let v = At (turn_start p) u (map NewIn (range_with_len 0 slots)) in
          let h = news u u_comes.quiet (u_full ∙ free) in
          let same : offered r.world (((cpus, x) ∷ []) ++ respawns cpus slots) ≡ then_offered r.world one (respawns cpus slots) = offered_more r.world ((cpus, x) ∷ []) (respawns cpus slots) free in
          let later = offered (world_after_events r.world one.made) (respawns cpus slots) in
          ends v (((cpus, x) ∷ []) ++ respawns cpus slots) all (turn_whole (turn_start p) p q r u v cpus slots refl refl refl refl)
          (subst (λ (o : Offered). Comes r o.made v) (sym same) (then_comes r u v one.made later.made u_comes (subst (λ (y : World). Comes u (offered y (respawns cpus slots)).made v) u_comes.world h.comes)))
          (h.full ∙ ap (λ b. b || (offered u.world (respawns cpus slots)).full) (u_full ∙ free) ∙ ap (λ (y : World). (offered y (respawns cpus slots)).full) u_comes.world ∙ ap (λ (o : Offered). o.full) (sym same))
          (λ no. h.coming ∙ u_coming)

      turn_with : IsTurned p turned (passed_turn p)
      turn_with = elim (cases_Bool one.full) [ inl full ↦ turn_filled full | inr free ↦ turn_all free ]

    by_next : (o : Option Event) → next_now w.table (slice_get p.coming 0) ≡ o → IsTurned p turned (passed_turn p)
    by_next None e = turn_alone e
    by_next (Some x) e = turn_with x e

  -- A TURN without a departure
  turn_made : IsTurned p turned (passed_turn p)
  turn_made = elim (cases_Bool taken.full) [ inl t ↦ turn_taken t | inr t ↦ by_next t (next_now w.table (slice_get p.coming 0)) refl ]

-- ---- turns

abbrev IsCourse : Passage → Course → Passage × Ending → Type 0
IsCourse p c q = Comes p c.made q.0 × (q.1 ≡ c.ending)

course_ends : (p q : Passage) (t : Offered) (later : Course) (k : ℕ) (full : Bool) → q.full ≡ full → IsTurned p t q → (full ≡ false → IsCourse q later (passed_turns k q)) → IsCourse p (then_turns t later) (cond full (let z : Passage × Ending = (q, Full) in z) (passed_turns k q))
course_ends p q t later k true e h rest =
    subst (λ (c : Course). IsCourse p c (q, Full)) (sym (ap (λ b. cond b (let z : Course = record { made = t.made; ending = Full } in z) (record { made = t.made ++ later.made; ending = later.ending })) (sym h.full ∙ e))) (h.comes, refl)
course_ends p q t later k false e h rest =
    subst (λ (c : Course). IsCourse p c (passed_turns k q)) (sym (ap (λ b. cond b (let z : Course = record { made = t.made; ending = Full } in z) (record { made = t.made ++ later.made; ending = later.ending })) (sym h.full ∙ e)))
    (then_comes p q (passed_turns k q).0 t.made later.made h.comes (rest refl).0, (rest refl).1)

turns_made : (k : ℕ) (p : Passage) → Quiet p.standing → p.full ≡ false → IsCourse p (turns k p.world p.coming) (passed_turns k p)
turns_made zero p quiet room = (nothing_comes p quiet, refl)
turns_made (suc k) p quiet room = by (turns_made k (passed_turn p)) (is_over p.world p.coming)
  where
    t : Offered
    t = turn p.world (slice_get p.coming 0)

    h : IsTurned p t (passed_turn p)
    h = turn_made p quiet room

    later : Course
    later = turns k (world_after p.world t) (drop 1 p.coming)

    rest : (Quiet (passed_turn p).standing → (passed_turn p).full ≡ false → IsCourse (passed_turn p) (turns k (passed_turn p).world (passed_turn p).coming) (passed_turns k (passed_turn p))) → (passed_turn p).full ≡ false
        → IsCourse (passed_turn p) later (passed_turns k (passed_turn p))
    rest again free =
        subst (λ (l : List OutsideLine). IsCourse (passed_turn p) (turns k (world_after p.world t) l) (passed_turns k (passed_turn p))) (h.coming (sym h.full ∙ free))
        (subst (λ (v : World). IsCourse (passed_turn p) (turns k v (passed_turn p).coming) (passed_turns k (passed_turn p))) h.comes.world (again h.comes.quiet free))

    by : (Quiet (passed_turn p).standing → (passed_turn p).full ≡ false → IsCourse (passed_turn p) (turns k (passed_turn p).world (passed_turn p).coming) (passed_turns k (passed_turn p))) → (over : Bool)
        → IsCourse p (cond over (let z : Course = record { made = []; ending = Rest } in z) (then_turns t later)) (cond over (let z : Passage × Ending = (p, Rest) in z) (let q = passed_turn p in cond q.full (let z : Passage × Ending = (q, Full) in z) (passed_turns k q)))
    by again true = (nothing_comes p quiet, refl)
    by again false = course_ends p (passed_turn p) t later k (passed_turn p).full refl h (rest again)

-- WITHOUT A DEPARTURE a run makes turns
pub none_departs : (t : Setting) → (let c = turns t.turns t.boot t.coming in let r = run_of_schedule t [] in
    (r.0.kernel ≡ kept_of (record { boot = t.boot; history = [] }) t.boot c.made) × (r.0.world ≡ world_after_events t.boot c.made) × (r.1 ≡ c.ending))
unfolding run_of_schedule
none_departs t = let h = turns_made t.turns (from_boot t []) (refl, refl) refl in (h.0.kernel, h.0.world, h.1)
