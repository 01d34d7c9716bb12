-- Turns in a row.
use Rattle.std.proofs.Common.{◌≡◌, ◌∙◌, ℕ, zero, suc, ◌+◌, ◌-◌, ◌<◌, ◌≤◌, ◌++◌, ◌&&◌, ◌==◌, Bool, true, false, List, [], ◌∷◌, cond, drop, length, Option, Some, None, is_none, slice_get, inl, inr, refl, ap, sym, subst, arith, append_assoc}
use Rattle.std.proofs.lemmas.Bool.{cases_lt}
use Rattle.std.proofs.lemmas.List.{drop-drop, length-set}
use Rattle.mx_machine.specs.Proc.Queues.{first_ready}
use Rattle.mx_machine.specs.Service.{Service}
use Rattle.mx_machine.specs.CallRefusals.{owner_of}
use Rattle.mx_machine.specs.declared.events.Event.{Event}
use Rattle.mx_machine.specs.declared.events.Event.TheVariants.{Step, Take, Back, Line, Tick, Kill, Respawn}
use Rattle.mx_machine.specs.History.{replay, world_after_events}
use Rattle.mx_machine.specs.Move.{world_after_back, world_after_event, world_after_line, world_after_respawn, world_after_step, world_after_take}
use Rattle.mx_machine.specs.Rest.{at_rest, down_are_worn}
use Rattle.mx_machine.specs.World.{World, HeldProcess, actors, held_by}
use Rattle.mx_machine.specs.Machine.{MachineState, world_of}
use Rattle.mx_machine.proofs.ActorLemmas.{actors_after_events}
use Rattle.mx_machine.proofs.MachineLemmas.{held_now-count, held_now-length}
use Rattle.mx_turns.specs.declared.turns.Ending.{Ending}
use Rattle.mx_turns.specs.declared.turns.Ending.TheVariants.{Rest, Turns, Full}
use Rattle.mx_turns.specs.Made.{HasMade, HasOffered}
use Rattle.mx_turns.specs.declared.outside.OutsideLine.{OutsideLine}
use Rattle.mx_turns.specs.Turns.{Course, Offered, joined, next_now, offered, outside, respawns, runs, takes, then_offered, then_turns, turn, turns, world_after}
use Rattle.mx_turns.proofs.OfferLemmas.{Offers}
use Rattle.mx_turns.proofs.MadeLemmas.{none_made, then_done, then_made}

-- ---- what a machine shows of its world

pub cpus_now : (m : MachineState) → length (world_of m).cpus ≡ length (replay m.kernel).cpus
unfolding world_of
cpus_now m = held_now-length (replay m.kernel).cpus m.outs

pub slots_now : (m : MachineState) → length (world_of m).table.slots ≡ length (replay m.kernel).table.slots
unfolding world_of
slots_now m = refl

pub rest_now : (m : MachineState) → at_rest (world_of m) ≡ at_rest (replay m.kernel)
unfolding world_of at_rest
rest_now m =
    let w = replay m.kernel in
    ap (λ n. is_none (first_ready w.table.ready) && (n == 0) && down_are_worn w.table.slots w.services) (held_now-count w.cpus m.outs)

-- ---- no event changes how many processors there are

by_step : (w : World) (a : ℕ) (x : Option HeldProcess) → length (world_after_step w a x).cpus ≡ length w.cpus
by_step w a None = refl
by_step w a (Some l) = length-set w.cpus a _

by_take : (w : World) (a : ℕ) (s : Option ℕ) → length (world_after_take w a s).cpus ≡ length w.cpus
by_take w a None = refl
by_take w a (Some s) = length-set w.cpus a _

by_back : (w : World) (a : ℕ) (x : Option HeldProcess) → length (world_after_back w a x).cpus ≡ length w.cpus
by_back w a None = refl
by_back w a (Some l) = length-set w.cpus a None

by_line : (w : World) (l : ℕ) (owner : Option ℕ) → length (world_after_line w l owner).cpus ≡ length w.cpus
by_line w l None = refl
by_line w l (Some s) = refl

by_respawn : (w : World) (s : ℕ) (v : Option Service) → length (world_after_respawn w s v).cpus ≡ length w.cpus
by_respawn w s None = refl
by_respawn w s (Some v) = refl

by_event : (w : World) (a : ℕ) (x : Event) → length (world_after_event w a x).cpus ≡ length w.cpus
unfolding world_after_event
by_event w a Step = by_step w a (held_by w a)
by_event w a Take = by_take w a (first_ready w.table.ready)
by_event w a Back = by_back w a (held_by w a)
by_event w a (Line l) = by_line w l (owner_of w.table l)
by_event w a Tick = refl
by_event w a (Kill e) = refl
by_event w a (Respawn s) = by_respawn w s (slice_get w.services s)

pub cpus_stay : (w : World) (xs : Offers) → length (world_after_events w xs).cpus ≡ length w.cpus
cpus_stay w [] = refl
cpus_stay w (x ∷ xs) = cpus_stay (world_after_event w x.0 x.1) xs ∙ by_event w x.0 x.1

-- an actor that is no processor stays
pub other_stays : (m n : MachineState) (xs : Offers) → HasMade m xs n → length (world_of m).cpus < actors (world_of m) → length (world_of n).cpus < actors (world_of n)
other_stays m n xs h b =
    let cpus : length (world_of n).cpus ≡ length (world_of m).cpus = ap (λ (w : World). length w.cpus) h.world ∙ cpus_stay (world_of m) xs in
    let they : actors (world_of n) ≡ actors (world_of m) = ap actors h.world ∙ actors_after_events (world_of m) xs in
    subst (λ k. k < actors (world_of n)) (sym cpus) (subst (λ k. length (world_of m).cpus < k) (sym they) b)

-- ---- a turn

abbrev taken_of : MachineState → Offered
taken_of m = offered (world_of m) (takes (length (world_of m).cpus))

abbrev ran_of : MachineState → Offered
ran_of m = then_offered (world_of m) (taken_of m) (runs (length (world_of m).cpus))

abbrev others_of : MachineState → Option OutsideLine → Offers
others_of m next = outside (length (world_of m).cpus) (next_now (world_of m).table next) ++ respawns (length (world_of m).cpus) (length (world_of m).services)

-- the history was too full for a take
pub turn_full : (m n p : MachineState) (next : Option OutsideLine) → HasOffered m (taken_of m) true n → HasOffered n (offered (world_of n) (runs (length (world_of m).cpus))) false p → HasOffered m (turn (world_of m) next) true p
turn_full m n p next t r =
    let ran : HasOffered m (ran_of m) false p = then_done m n p (taken_of m) (runs (length (world_of m).cpus)) false t.made r in
    subst (λ b. HasOffered m (cond b (record (ran_of m) { full = true }) (then_offered (world_of m) (ran_of m) (others_of m next))) true p) (sym t.full) (record { made = ran.made; full = refl })

pub turn_done : (m n p q : MachineState) (next : Option OutsideLine) (full : Bool) → HasOffered m (taken_of m) false n → HasOffered n (offered (world_of n) (runs (length (world_of m).cpus))) false p
    → HasOffered p (offered (world_of p) (others_of m next)) full q → HasOffered m (turn (world_of m) next) full q
turn_done m n p q next full t r o =
    let ran : HasOffered m (ran_of m) false p = then_done m n p (taken_of m) (runs (length (world_of m).cpus)) false t.made r in
    subst (λ b. HasOffered m (cond b (record (ran_of m) { full = true }) (then_offered (world_of m) (ran_of m) (others_of m next))) full q) (sym t.full)
    (then_done m p q (ran_of m) (others_of m next) full ran.made o)

-- ---- turns

-- a machine that was m is n after `made` of its turns, and goes on with those that are left, however many are wanted
abbrev pub StandsAfter : MachineState → List OutsideLine → ℕ → MachineState → Type 0
StandsAfter m coming made n = (xs : Offers) × HasMade m xs n × ((bound : ℕ) → made ≤ bound → turns bound (world_of m) coming ≡ joined xs (turns (bound - made) (world_of n) (drop made coming)))

pub stands_first : (m : MachineState) (coming : List OutsideLine) → StandsAfter m coming 0 m
stands_first m coming = ([], none_made m, (λ bound le. let all : bound ≡ bound - 0 = omega arith in ap (λ n. turns n (world_of m) coming) all))

get_drop : (coming : List OutsideLine) (n : ℕ) → slice_get (drop n coming) 0 ≡ slice_get coming n
get_drop [] zero = refl
get_drop [] (suc n) = refl
get_drop (x ∷ xs) zero = refl
get_drop (x ∷ xs) (suc n) = get_drop xs n

nil_after : (xs : Offers) → xs ++ [] ≡ xs
nil_after [] = refl
nil_after (x ∷ xs) = ap (λ l. x ∷ l) (nil_after xs)

-- what comes of the next turn and of those after it, by whether all is over
abbrev by_over : Bool → ℕ → ℕ → World → List OutsideLine → Course
by_over over bound made u coming =
    let t = turn u (slice_get coming made) in
    cond over (record { made = []; ending = Rest }) (then_turns t (turns (bound - (made + 1)) (world_after u t) (drop (made + 1) coming)))

next_course : (bound made : ℕ) (u : World) (coming : List OutsideLine) → made < bound → turns (bound - made) u (drop made coming) ≡ by_over (is_none (slice_get coming made) && at_rest u) bound made u coming
next_course bound made u coming b =
    let left : bound - made ≡ suc (bound - (made + 1)) = omega (arith, b) in
    ap (λ n. turns n u (drop made coming)) left
    ∙ ap (λ (x : Option OutsideLine). cond (is_none x && at_rest u) (let z : Course = record { made = []; ending = Rest } in z) (then_turns (turn u x) (turns (bound - (made + 1)) (world_after u (turn u x)) (drop 1 (drop made coming))))) (get_drop coming made)
    ∙ ap (λ l. let t = turn u (slice_get coming made) in cond (is_none (slice_get coming made) && at_rest u) (let z : Course = record { made = []; ending = Rest } in z) (then_turns t (turns (bound - (made + 1)) (world_after u t) l))) (drop-drop 1 made coming)

-- What is to be shown of the machine after its turns.
pub record IsAfterTurns (bound : ℕ) (m : MachineState) (coming : List OutsideLine) (n : MachineState) (how : Ending) : Type 0 where
  pub made : HasMade m (turns bound (world_of m) coming).made n
  pub ending : how ≡ (turns bound (world_of m) coming).ending

-- what was made, and how it ended
ended : (bound : ℕ) (m : MachineState) (coming : List OutsideLine) (n : MachineState) (xs : Offers) (ending : Ending) → HasMade m xs n → turns bound (world_of m) coming ≡ record { made = xs; ending = ending } → IsAfterTurns bound m coming n ending
ended bound m coming n xs ending h e = record { made = subst (λ (c : Course). HasMade m c.made n) (sym e) h; ending = ap (λ (c : Course). c.ending) (sym e) }

module _ (m : MachineState) (coming : List OutsideLine) (made : ℕ) (n : MachineState) (s : StandsAfter m coming made n) where
  -- the turns made, if no more are wanted
  made_so_far : (over : Bool) → (is_none (slice_get coming made) && at_rest (world_of n)) ≡ over → turns made (world_of m) coming ≡ record { made = s.0; ending = cond over Rest Turns }
  made_so_far over o =
      let le : made ≤ made = omega arith in
      let none : made - made ≡ 0 = omega arith in
      s.2 made le
      ∙ ap (λ k. joined s.0 (turns k (world_of n) (drop made coming))) none
      ∙ ap (λ (x : Option OutsideLine). joined s.0 (let z : Course = record { made = []; ending = cond (is_none x && at_rest (world_of n)) Rest Turns } in z)) (get_drop coming made)
      ∙ ap (λ b. joined s.0 (let z : Course = record { made = []; ending = cond b Rest Turns } in z)) o
      ∙ ap (λ (l : Offers). let z : Course = record { made = l; ending = cond over Rest Turns } in z) (nil_after s.0)

  -- all is over, so no more turns are made
  over_course : (bound : ℕ) → made ≤ bound → (is_none (slice_get coming made) && at_rest (world_of n)) ≡ true → turns bound (world_of m) coming ≡ record { made = s.0; ending = Rest }
  over_course bound le o = elim (cases_lt made bound) [
    | inl lt ↦
        s.2 bound le ∙ ap (joined s.0) (next_course bound made (world_of n) coming lt) ∙ ap (λ over. joined s.0 (by_over over bound made (world_of n) coming)) o
        ∙ ap (λ (l : Offers). let z : Course = record { made = l; ending = Rest } in z) (nil_after s.0)
    | inr ge ↦ let e : made ≡ bound = omega (arith, le, ge) in ap (λ k. turns k (world_of m) coming) (sym e) ∙ made_so_far true o
  ]

  -- a turn is made, and then others, unless the history is full
  turn_course : (bound : ℕ) (p : MachineState) (full : Bool) → made < bound → (is_none (slice_get coming made) && at_rest (world_of n)) ≡ false → HasOffered n (turn (world_of n) (slice_get coming made)) full p
      → turns bound (world_of m) coming ≡ cond full (record { made = s.0 ++ (turn (world_of n) (slice_get coming made)).made; ending = Full }) (joined (s.0 ++ (turn (world_of n) (slice_get coming made)).made) (turns (bound - (made + 1)) (world_of p) (drop (made + 1) coming)))
  turn_course bound p full b o h =
      let t = turn (world_of n) (slice_get coming made) in
      let le : made ≤ bound = omega (arith, b) in
      s.2 bound le
      ∙ ap (joined s.0) (next_course bound made (world_of n) coming b)
      ∙ ap (λ over. joined s.0 (by_over over bound made (world_of n) coming)) o
      ∙ ap (λ full. joined s.0 (cond full (let z : Course = record { made = t.made; ending = Full } in z) (let c = turns (bound - (made + 1)) (world_after (world_of n) t) (drop (made + 1) coming) in joined t.made c))) h.full
      ∙ ap (λ (u : World). joined s.0 (cond full (let z : Course = record { made = t.made; ending = Full } in z) (joined t.made (turns (bound - (made + 1)) u (drop (made + 1) coming))))) (sym h.made.world)
      ∙ by full (turns (bound - (made + 1)) (world_of p) (drop (made + 1) coming))
    where
      by : (full : Bool) (c : Course)
          → joined s.0 (cond full (let z : Course = record { made = (turn (world_of n) (slice_get coming made)).made; ending = Full } in z) (joined (turn (world_of n) (slice_get coming made)).made c))
          ≡ cond full (record { made = s.0 ++ (turn (world_of n) (slice_get coming made)).made; ending = Full }) (joined (s.0 ++ (turn (world_of n) (slice_get coming made)).made) c)
      by true c = refl
      by false c = ap (λ (l : Offers). let z : Course = record { made = l; ending = c.ending } in z) (sym (append_assoc s.0 (turn (world_of n) (slice_get coming made)).made c.made))

  -- one turn more
  pub stands_next : (p : MachineState) → (is_none (slice_get coming made) && at_rest (world_of n)) ≡ false → HasOffered n (turn (world_of n) (slice_get coming made)) false p → StandsAfter m coming (made + 1) p
  stands_next p o h = (
    s.0 ++ (turn (world_of n) (slice_get coming made)).made,
    then_made m n p s.0 (turn (world_of n) (slice_get coming made)).made s.1 h.made,
    (λ bound le. let b : made < bound = omega (arith, le) in turn_course bound p false b o h),
  )

  -- all is over
  pub stands_over : (bound : ℕ) → made ≤ bound → (is_none (slice_get coming made) && at_rest (world_of n)) ≡ true → IsAfterTurns bound m coming n Rest
  stands_over bound le o = ended bound m coming n s.0 Rest s.1 (over_course bound le o)

  -- the history is full
  pub stands_full : (bound : ℕ) (p : MachineState) → made < bound → (is_none (slice_get coming made) && at_rest (world_of n)) ≡ false → HasOffered n (turn (world_of n) (slice_get coming made)) true p → IsAfterTurns bound m coming p Full
  stands_full bound p b o h =
      let t = turn (world_of n) (slice_get coming made) in
      ended bound m coming p (s.0 ++ t.made) Full (then_made m n p s.0 t.made s.1 h.made) (turn_course bound p true b o h)

  -- all turns are made
  pub stands_last : (bound : ℕ) (over : Bool) → made ≡ bound → (is_none (slice_get coming bound) && at_rest (world_of n)) ≡ over → IsAfterTurns bound m coming n (cond over Rest Turns)
  stands_last bound over e o =
      let here : (is_none (slice_get coming made) && at_rest (world_of n)) ≡ over = subst (λ k. (is_none (slice_get coming k) && at_rest (world_of n)) ≡ over) (sym e) o in
      ended bound m coming n s.0 (cond over Rest Turns) s.1 (ap (λ k. turns k (world_of m) coming) (sym e) ∙ made_so_far over here)

  -- how fewer and more turns end
  pub going_on : (p : MachineState) (full : Bool) → (is_none (slice_get coming made) && at_rest (world_of n)) ≡ false → HasOffered n (turn (world_of n) (slice_get coming made)) full p
      → ((turns made (world_of m) coming).ending ≡ Turns) × (world_of p ≡ world_after_events (world_of m) (turns (made + 1) (world_of m) coming).made)
  going_on p full o h =
      let t = turn (world_of n) (slice_get coming made) in
      let b : made < made + 1 = omega arith in
      let none : (made + 1) - (made + 1) ≡ 0 = omega arith in
      let all = turn_course (made + 1) p full b o h ∙ ap (λ k. cond full (let z : Course = record { made = s.0 ++ t.made; ending = Full } in z) (joined (s.0 ++ t.made) (turns k (world_of p) (drop (made + 1) coming)))) none in
      let made_all : (turns (made + 1) (world_of m) coming).made ≡ s.0 ++ t.made = ap (λ (c : Course). c.made) all ∙ by full in (
        ap (λ (c : Course). c.ending) (made_so_far false o),
        (then_made m n p s.0 t.made s.1 h.made).world ∙ ap (world_after_events (world_of m)) (sym made_all),
      )
    where
      by : (full : Bool) → (cond full (let z : Course = record { made = s.0 ++ (turn (world_of n) (slice_get coming made)).made; ending = Full } in z) (joined (s.0 ++ (turn (world_of n) (slice_get coming made)).made) (turns 0 (world_of p) (drop (made + 1) coming)))).made
          ≡ s.0 ++ (turn (world_of n) (slice_get coming made)).made
      by true = refl
      by false = nil_after (s.0 ++ (turn (world_of n) (slice_get coming made)).made)

  pub ended_over : (is_none (slice_get coming made) && at_rest (world_of n)) ≡ true → (k : ℕ) → made ≤ k → (turns k (world_of m) coming).ending ≡ Rest
  ended_over o k le = ap (λ (c : Course). c.ending) (over_course k le o)

  pub ended_full : (p : MachineState) → (is_none (slice_get coming made) && at_rest (world_of n)) ≡ false → HasOffered n (turn (world_of n) (slice_get coming made)) true p → (k : ℕ) → made + 1 ≤ k → (turns k (world_of m) coming).ending ≡ Full
  ended_full p o h k le = let b : made < k = omega (arith, le) in ap (λ (c : Course). c.ending) (turn_course k p true b o h)
