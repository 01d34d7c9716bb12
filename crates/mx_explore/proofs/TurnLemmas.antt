-- Turns of a machine in which open offers are passed.
use Rattle.std.proofs.Common.{◌≡◌, ◌∙◌, ℕ, zero, suc, ◌+◌, ◌-◌, ◌<◌, ◌++◌, ◌&&◌, Bool, true, false, List, [], ◌∷◌, map, drop, length, append_assoc, cond, Option, is_none, refl, ap, sym, arith}
use Rattle.std.specs.Prelude.{slice_get}
use Rattle.std.specs.List.{range_with_len}
use Rattle.std.proofs.lemmas.List.{drop-drop}
use Rattle.mx_turns.specs.declared.outside.OutsideLine.{OutsideLine}
use Rattle.mx_machine.specs.declared.events.Event.{Event}
use Rattle.mx_machine.specs.Machine.{MachineState, world_of}
use Rattle.mx_machine.specs.Rest.{at_rest}
use Rattle.mx_turns.specs.Turns.{is_over, next_now}
use Rattle.mx_turns.specs.declared.turns.Ending.{Ending}
use Rattle.mx_turns.specs.declared.turns.Ending.TheVariants.{Rest, Turns, Full}
use Rattle.mx_explore.specs.Passages.{passage}
use Rattle.mx_explore.specs.declared.passing.TurnStart.{TurnStart}
use Rattle.mx_explore.specs.Passing.{Passage, Place, Standing, at_place, meets_if, passed_turn, passed_turns, places, turn_start}
use Rattle.mx_explore.specs.Passing.{BackBy, FromOutside, NewIn, TakeBy}
use Rattle.mx_explore.proofs.PassageLemmas.{At, at_append, none_after, outside_needs, respawns_need}

-- ---- a turn

abbrev pub takes_of : ℕ → List Place
takes_of n = map TakeBy (range_with_len 0 n)

abbrev pub backs_of : ℕ → List Place
backs_of n = map BackBy (range_with_len 0 n)

abbrev pub news_of : ℕ → List Place
news_of n = map NewIn (range_with_len 0 n)

-- a turn in its parts
pub in_parts : (start : TurnStart) (p q r u : Passage) (cpus slots : ℕ) → q ≡ At start p (takes_of cpus) → r ≡ At start q (backs_of cpus) → u ≡ at_place start r FromOutside
    → At start p (places cpus slots) ≡ At start u (news_of slots)
in_parts start p q r u cpus slots e f g =
    ap (At start p) (append_assoc (takes_of cpus) (backs_of cpus) (FromOutside ∷ news_of slots))
    ∙ at_append start p (takes_of cpus) (backs_of cpus ++ FromOutside ∷ news_of slots)
    ∙ ap (λ (x : Passage). At start x (backs_of cpus ++ FromOutside ∷ news_of slots)) (sym e)
    ∙ at_append start q (backs_of cpus) (FromOutside ∷ news_of slots)
    ∙ ap (λ (x : Passage). At start x (FromOutside ∷ news_of slots)) (sym f)
    ∙ ap (λ (x : Passage). At start x (news_of slots)) (sym g)

-- after a take that met a full history there are the returns alone
pub turn_full : (start : TurnStart) (p q r : Passage) (cpus slots : ℕ) → q ≡ At start p (takes_of cpus) → r ≡ At start q (backs_of cpus) → r.full ≡ true
    → At start p (places cpus slots) ≡ r
turn_full start p q r cpus slots e f full =
    in_parts start p q r r cpus slots e f (sym (ap (meets_if start r) (outside_needs start r full)))
    ∙ none_after start NewIn respawns_need r full (range_with_len 0 slots)

-- after an outside event that met one there is nothing
pub turn_outside : (start : TurnStart) (p q r u : Passage) (cpus slots : ℕ) → q ≡ At start p (takes_of cpus) → r ≡ At start q (backs_of cpus) → u ≡ at_place start r FromOutside → u.full ≡ true
    → At start p (places cpus slots) ≡ u
turn_outside start p q r u cpus slots e f g full =
    in_parts start p q r u cpus slots e f g ∙ none_after start NewIn respawns_need u full (range_with_len 0 slots)

pub turn_whole : (start : TurnStart) (p q r u v : Passage) (cpus slots : ℕ) → q ≡ At start p (takes_of cpus) → r ≡ At start q (backs_of cpus) → u ≡ at_place start r FromOutside
    → v ≡ At start u (news_of slots) → At start p (places cpus slots) ≡ v
turn_whole start p q r u v cpus slots e f g h = in_parts start p q r u cpus slots e f g ∙ sym h

-- where it begins
pub begins_so : (p : Passage) (other records : ℕ) (event : Option Event) → other ≡ length p.world.cpus → records ≡ p.world.records → event ≡ next_now p.world.table (slice_get p.coming 0)
    → (let z : TurnStart = record { other = other; records = records; event = event } in z) ≡ turn_start p
begins_so p other records event o r e =
    ap (λ n. let z : TurnStart = record { other = n; records = records; event = event } in z) o
    ∙ ap (λ n. let z : TurnStart = record { other = length p.world.cpus; records = n; event = event } in z) r
    ∙ ap (λ (x : Option Event). let z : TurnStart = record { other = length p.world.cpus; records = p.world.records; event = x } in z) e

-- by how many processors and slots there are
pub turned_by : (p v : Passage) (cpus slots : ℕ) (start : TurnStart) → cpus ≡ length p.world.cpus → slots ≡ length p.world.services → start ≡ turn_start p → At start p (places cpus slots) ≡ v → v ≡ passed_turn p
turned_by p v cpus slots start c s b e =
    sym e ∙ ap (λ n. At start p (places n slots)) c ∙ ap (λ n. At start p (places (length p.world.cpus) n)) s
    ∙ ap (λ (x : TurnStart). At x p (places (length p.world.cpus) (length p.world.services))) b

-- ---- turns

pub get_drop : {X : Type 0} (xs : List X) (n : ℕ) → slice_get (drop n xs) 0 ≡ slice_get xs n
get_drop [] zero = refl
get_drop [] (suc n) = refl
get_drop (x ∷ xs) zero = refl
get_drop (x ∷ xs) (suc n) = get_drop xs n

pub over_turns : (k : ℕ) (p : Passage) → is_over p.world p.coming ≡ true → passed_turns k p ≡ (p, Rest)
over_turns zero p h = ap (λ b. let z : Passage × Ending = (p, cond b Rest Turns) in z) h
over_turns (suc k) p h = ap (λ b. let q = passed_turn p in cond b (let z : Passage × Ending = (p, Rest) in z) (cond q.full (let z : Passage × Ending = (q, Full) in z) (passed_turns k q))) h

pub last_turns : (p : Passage) (over : Bool) → is_over p.world p.coming ≡ over → passed_turns 0 p ≡ (p, cond over Rest Turns)
last_turns p over h = ap (λ b. let z : Passage × Ending = (p, cond b Rest Turns) in z) h

full_turns : (k : ℕ) (p q : Passage) → is_over p.world p.coming ≡ false → q ≡ passed_turn p → q.full ≡ true → passed_turns (suc k) p ≡ (q, Full)
full_turns k p q h e full =
    ap (λ b. let q = passed_turn p in cond b (let z : Passage × Ending = (p, Rest) in z) (cond q.full (let z : Passage × Ending = (q, Full) in z) (passed_turns k q))) h
    ∙ ap (λ (x : Passage). cond x.full (let z : Passage × Ending = (x, Full) in z) (passed_turns k x)) (sym e)
    ∙ ap (λ b. cond b (let z : Passage × Ending = (q, Full) in z) (passed_turns k q)) full

pub next_turns : (k : ℕ) (p q : Passage) → is_over p.world p.coming ≡ false → q ≡ passed_turn p → q.full ≡ false → passed_turns (suc k) p ≡ passed_turns k q
next_turns k p q h e full =
    ap (λ b. let q = passed_turn p in cond b (let z : Passage × Ending = (p, Rest) in z) (cond q.full (let z : Passage × Ending = (q, Full) in z) (passed_turns k q))) h
    ∙ ap (λ (x : Passage). cond x.full (let z : Passage × Ending = (x, Full) in z) (passed_turns k x)) (sym e)
    ∙ ap (λ b. cond b (let z : Passage × Ending = (q, Full) in z) (passed_turns k q)) full

-- the first i of `bound` turns are made, and `at` of the events are gone: the rest is to be made from here
module _ (p : Passage) (bound : ℕ) (all : List OutsideLine) (i at : ℕ) (m : MachineState) (s : Standing) where
  abbrev pub here : Passage
  here = passage m (drop at all) s false

  abbrev pub IsLeft : Type 0
  IsLeft = passed_turns bound p ≡ passed_turns (bound - i) here

  over_here : (next : Option OutsideLine) (b : Bool) → next ≡ slice_get all at → (is_none next && at_rest (world_of m)) ≡ b → is_over here.world here.coming ≡ b
  over_here next b e h = ap (λ (x : Option OutsideLine). is_none x && at_rest (world_of m)) (get_drop all at ∙ sym e) ∙ h

  pub ends_over : IsLeft → (next : Option OutsideLine) → next ≡ slice_get all at → (is_none next && at_rest (world_of m)) ≡ true → (here, Rest) ≡ passed_turns bound p
  ends_over left next e h = sym (left ∙ over_turns (bound - i) here (over_here next true e h))

  pub ends_last : IsLeft → i ≡ bound → (next : Option OutsideLine) (over : Bool) → next ≡ slice_get all at → (is_none next && at_rest (world_of m)) ≡ over → (here, cond over Rest Turns) ≡ passed_turns bound p
  ends_last left last next over e h =
      let none : bound - i ≡ 0 = omega (arith, last) in
      sym (left ∙ ap (λ k. passed_turns k here) none ∙ last_turns here over (over_here next over e h))

  module _ (q : Passage) (lt : i < bound) (left : IsLeft) (next : Option OutsideLine) (e : next ≡ slice_get all at) (h : (is_none next && at_rest (world_of m)) ≡ false) (turned : q ≡ passed_turn here) where
    more : bound - i ≡ suc (bound - (i + 1))
    more = omega (arith, lt)

    pub ends_full : q.full ≡ true → (q, Full) ≡ passed_turns bound p
    ends_full full = sym (left ∙ ap (λ k. passed_turns k here) more ∙ full_turns (bound - (i + 1)) here q (over_here next false e h) turned full)

    pub goes_on : q.full ≡ false → passed_turns bound p ≡ passed_turns (bound - (i + 1)) q
    goes_on full = left ∙ ap (λ k. passed_turns k here) more ∙ next_turns (bound - (i + 1)) here q (over_here next false e h) turned full

-- the events that are to come, if the next one is gone
pub coming_on : (all : List OutsideLine) (at : ℕ) (gone : Bool) → cond gone (drop 1 (drop at all)) (drop at all) ≡ drop (at + cond gone 1 0) all
coming_on all at true = drop-drop 1 at all
coming_on all at false = ap (λ n. drop n all) (let z : at ≡ at + 0 = omega arith in z)
