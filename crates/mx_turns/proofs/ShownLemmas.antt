-- What is shown of turns in a row.
use Rattle.std.proofs.Common.{◌≡◌, ◌∙◌, ℕ, zero, suc, ◌+◌, ◌-◌, ◌<◌, ◌≤◌, ◌++◌, ◌&&◌, Bool, true, false, List, [], ◌∷◌, cond, length, map, Option, Some, None, is_none, slice_get, refl, ap, sym, subst, arith, append_assoc}
use Rattle.std.specs.Prelude.{filter}
use Rattle.std.specs.List.{range_with_len}
use Rattle.std.proofs.lemmas.List.{append-nil, map-append}
use Rattle.std.proofs.lemmas.List.Elements.{filter-append}
use Rattle.mx_machine.specs.Agrees.{IsBoot}
use Rattle.mx_machine.specs.declared.events.Event.TheVariants.{Step, Take, Back, Line, Tick, Kill, Respawn}
use Rattle.mx_machine.specs.declared.history.Record.{Record}
use Rattle.mx_machine.specs.declared.history.Recorded.{Recorded}
use Rattle.mx_machine.specs.declared.history.Recorded.TheVariants as recorded
use Rattle.mx_machine.specs.History.{AreAccepted, BootAndHistory, events_of, events_of_history, replay, world_after_events}
use Rattle.mx_machine.specs.Machine.{MachineState, world_of}
use Rattle.mx_machine.specs.Move.{world_after_event, world_after_step}
use Rattle.mx_machine.specs.Rest.{at_rest}
use Rattle.mx_machine.specs.World.{World, HeldProcess, held_by}
use Rattle.mx_machine.proofs.ReplayLemmas.{after_append}
use Rattle.mx_walk.specs.declared.progress.Part.{Part}
use Rattle.mx_turns.specs.Made.{HasOffered}
use Rattle.mx_turns.specs.Shown.{goes_on, goes_on_after, part_after, part_of, turns_shown}
use Rattle.mx_turns.specs.declared.outside.OutsideLine.{OutsideLine}
use Rattle.mx_turns.specs.Turns.{turn}
use Rattle.mx_turns.proofs.GrowthLemmas.{one_more}
use Rattle.mx_turns.proofs.OfferLemmas.{Offers, range_more}
use Rattle.mx_turns.proofs.TurnLemmas.{StandsAfter, ended_full, ended_over, going_on}

-- ---- how many records a history has

step_by : (w : World) (a : ℕ) (x : Option HeldProcess) → (world_after_step w a x).records ≡ w.records
step_by w a None = refl
step_by w a (Some l) = refl

by_step : (w : World) (a : ℕ) → (world_after_event w a Step).records ≡ w.records
unfolding world_after_event
by_step w a = step_by w a (held_by w a)

by_back : (n : ℕ) (w : World) (a : ℕ) → AreAccepted w (events_of a (recorded.Back n)) → (world_after_events w (events_of a (recorded.Back n))).records ≡ w.records + 1
by_back zero w a h = one_more w a Back tt h.0
by_back (suc n) w a h = by_back n (world_after_event w a Step) a h.1 ∙ ap (λ k. k + 1) (by_step w a)

by_record : (w : World) (a : ℕ) (e : Recorded) → AreAccepted w (events_of a e) → (world_after_events w (events_of a e)).records ≡ w.records + 1
by_record w a recorded.Take h = one_more w a Take tt h.0
by_record w a (recorded.Back n) h = by_back n w a h
by_record w a (recorded.Line l) h = one_more w a (Line l) tt h.0
by_record w a recorded.Tick h = one_more w a Tick tt h.0
by_record w a (recorded.Kill e) h = one_more w a (Kill e) tt h.0
by_record w a (recorded.Respawn s) h = one_more w a (Respawn s) tt h.0

accepted_both : (w : World) (xs ys : Offers) → AreAccepted w (xs ++ ys) → AreAccepted w xs × AreAccepted (world_after_events w xs) ys
accepted_both w [] ys h = (tt, h)
accepted_both w (x ∷ xs) ys h = let rest = accepted_both (world_after_event w x.0 x.1) xs ys h.1 in ((h.0, rest.0), rest.1)

by_history : (w : World) (h : List Record) → AreAccepted w (events_of_history h) → (world_after_events w (events_of_history h)).records ≡ w.records + length h
by_history w [] a = omega arith
by_history w (x ∷ xs) a =
    let first = events_of x.actor x.event in
    let both = accepted_both w first (events_of_history xs) a in
    let one = by_record w x.actor x.event both.0 in
    let rest = by_history (world_after_events w first) xs both.1 in
    let after = ap (λ (u : World). u.records) (after_append w first (events_of_history xs)) in
    omega (arith, one, rest, after)

-- a machine's history has as many records as its world counts
pub records_now : (m : MachineState) → IsBoot m.kernel.boot → AreAccepted m.kernel.boot (events_of_history m.kernel.history) → length m.kernel.history ≡ (world_of m).records
unfolding world_of replay
records_now m boot accepted =
    let none : m.kernel.boot.records ≡ 0 = ap (λ (w : World). w.records) boot in
    let all = by_history m.kernel.boot m.kernel.history accepted in
    omega (arith, none, all)

pub part_now : (log : ℕ) (m : MachineState) (k : BootAndHistory) (n : ℕ) → k ≡ m.kernel → IsBoot k.boot → AreAccepted k.boot (events_of_history k.history) → n ≡ length k.history → (let p : Part = record { done = n; all = log } in p ≡ part_of log (world_of m))
part_now log m k n same boot accepted many =
    let records = records_now m (subst (λ (x : BootAndHistory). IsBoot x.boot) same boot) (subst (λ (x : BootAndHistory). AreAccepted x.boot (events_of_history x.history)) same accepted) in
    ap (λ i. let p : Part = record { done = i; all = log } in p) (many ∙ ap (λ (x : BootAndHistory). length x.history) same ∙ records)

-- ---- what is shown, turn by turn

module _ (log : ℕ) (w : World) (coming : List OutsideLine) where
  -- what is shown of the turn after the first k, by whether it is made
  abbrev pub if_made : Bool → ℕ → List Part
  if_made b k = cond b (part_after log w coming k ∷ []) []

  by_made : (b : Bool) (k : ℕ) → goes_on_after w coming k ≡ b → map (part_after log w coming) (filter (goes_on_after w coming) (k ∷ [])) ≡ if_made b k
  by_made b k e = ap (λ x. map (part_after log w coming) (cond x (k ∷ []) [])) e ∙ by b
    where
      by : (b : Bool) → map (part_after log w coming) (cond b (k ∷ []) []) ≡ if_made b k
      by true = refl
      by false = refl

  pub shown_more : (b : Bool) (k : ℕ) → goes_on_after w coming k ≡ b → turns_shown log (k + 1) w coming ≡ turns_shown log k w coming ++ if_made b k
  shown_more b k e =
      let all = range_with_len 0 k in
      let z : 0 + k ≡ k = omega arith in
      ap (λ l. map (part_after log w coming) (filter (goes_on_after w coming) l)) (range_more 0 k ∙ ap (λ i. all ++ i ∷ []) z)
      ∙ ap (map (part_after log w coming)) (filter-append (goes_on_after w coming) all (k ∷ []))
      ∙ map-append (part_after log w coming) (filter (goes_on_after w coming) all) (filter (goes_on_after w coming) (k ∷ []))
      ∙ ap (λ l. turns_shown log k w coming ++ l) (by_made b k e)

  -- no more is shown once turns have ended
  shown_no_more : (made d : ℕ) → ((k : ℕ) → made ≤ k → goes_on_after w coming k ≡ false) → turns_shown log (made + d) w coming ≡ turns_shown log made w coming
  shown_no_more made zero still = let e : made + zero ≡ made = omega arith in ap (λ k. turns_shown log k w coming) e
  shown_no_more made (suc d) still =
      let e : made + suc d ≡ (made + d) + 1 = omega arith in
      let le : made ≤ made + d = omega arith in
      ap (λ k. turns_shown log k w coming) e ∙ shown_more false (made + d) (still (made + d) le) ∙ append-nil (turns_shown log (made + d) w coming) ∙ shown_no_more made d still

  pub shown_all : (made bound : ℕ) → made ≤ bound → ((k : ℕ) → made ≤ k → goes_on_after w coming k ≡ false) → turns_shown log bound w coming ≡ turns_shown log made w coming
  shown_all made bound le still =
      let e : bound ≡ made + (bound - made) = omega (arith, le) in
      ap (λ k. turns_shown log k w coming) e ∙ shown_no_more made (bound - made) still

-- nothing is shown of no turns
pub none_shown : (log : ℕ) (w : World) (coming : List OutsideLine) (before : List Part) → before ≡ before ++ turns_shown log 0 w coming
none_shown log w coming before = sym (append-nil before)

module _ (log : ℕ) (m : MachineState) (coming : List OutsideLine) (made : ℕ) (n : MachineState) (s : StandsAfter m coming made n) where
  -- what a turn more shows
  pub turn_shown : (p : MachineState) (full : Bool) (before now then : List Part) (x : Part) → (is_none (slice_get coming made) && at_rest (world_of n)) ≡ false → HasOffered n (turn (world_of n) (slice_get coming made)) full p
      → now ≡ before ++ turns_shown log made (world_of m) coming → x ≡ part_of log (world_of p) → then ≡ now ++ x ∷ [] → then ≡ before ++ turns_shown log (made + 1) (world_of m) coming
  turn_shown p full before now then x over h shown is more =
      let next = going_on m coming made n s p full over h in
      let part : x ≡ part_after log (world_of m) coming made = is ∙ ap (part_of log) next.1 in
      more ∙ ap (λ (l : List Part). l ++ x ∷ []) shown ∙ append_assoc before (turns_shown log made (world_of m) coming) (x ∷ [])
      ∙ ap (λ (y : Part). before ++ (turns_shown log made (world_of m) coming ++ y ∷ [])) part
      ∙ ap (λ (l : List Part). before ++ l) (sym (shown_more log (world_of m) coming true made (ap goes_on next.0)))

  -- all is over
  pub over_shown : (bound : ℕ) (before now : List Part) → made ≤ bound → (is_none (slice_get coming made) && at_rest (world_of n)) ≡ true → now ≡ before ++ turns_shown log made (world_of m) coming → now ≡ before ++ turns_shown log bound (world_of m) coming
  over_shown bound before now le over shown =
      shown ∙ ap (λ (l : List Part). before ++ l) (sym (shown_all log (world_of m) coming made bound le (λ k above. ap goes_on (ended_over m coming made n s over k above))))

  -- the history is full
  pub full_shown : (bound : ℕ) (p : MachineState) (before now : List Part) → made < bound → (is_none (slice_get coming made) && at_rest (world_of n)) ≡ false → HasOffered n (turn (world_of n) (slice_get coming made)) true p
      → now ≡ before ++ turns_shown log (made + 1) (world_of m) coming → now ≡ before ++ turns_shown log bound (world_of m) coming
  full_shown bound p before now lt over h shown =
      let le : made + 1 ≤ bound = omega (arith, lt) in
      shown ∙ ap (λ (l : List Part). before ++ l) (sym (shown_all log (world_of m) coming (made + 1) bound le (λ k above. ap goes_on (ended_full m coming made n s p over h k above))))
