-- A departure lasts at most as many turns as a run has.
use Rattle.std.proofs.Common.{◌≡◌, ◌∙◌, ◌⊎◌, ◌≤◌, ◌<◌, ◌+◌, ◌-◌, ◌&&◌, ◌||◌, ◌++◌, ℕ, zero, suc, Bool, true, false, List, [], ◌∷◌, drop, length, map, cond, Option, Some, None, inl, inr, refl, ap, sym, subst, arith, true≢false}
use Rattle.std.specs.Prelude.{slice_get}
use Rattle.std.specs.List.{range_with_len}
use Rattle.std.proofs.lemmas.Bool.{eqb-true, ltb-true}
use Rattle.mx_turns.specs.Turns.{is_over}
use Rattle.mx_turns.specs.declared.turns.Ending.{Ending}
use Rattle.mx_turns.specs.declared.turns.Ending.TheVariants.{Rest, Full}
use Rattle.mx_explore.specs.Offers.{is_outside, open_respawn, open_take}
use Rattle.mx_explore.specs.declared.offers.Offer.{Offer}
use Rattle.mx_explore.specs.declared.passing.Departure.{Departure}
use Rattle.mx_explore.specs.declared.passing.Met.{Met}
use Rattle.mx_explore.specs.declared.passing.TurnStart.{TurnStart}
use Rattle.mx_explore.specs.Passing.{IsSchedule, Passage, Place, Setting, Standing, at_place, begins, begins_by, from_boot, goes_on, is_at, made, meets, meets_if, met_in, noted, open_at, passed_turn, passed_turns, passes, places, run_of_schedule, turn_start, turns_of}
use Rattle.mx_explore.specs.Passing.{BackBy, FromOutside, NewIn, TakeBy}
use Rattle.mx_explore.proofs.PassageLemmas.{At, back_open, respawn_open, stood, take_open}
use Rattle.mx_explore.proofs.AlongLemmas.{turns_last}
use Rattle.mx_explore.proofs.FollowLemmas.{departed_by, none_begins, noted_if}
use Rattle.mx_explore.proofs.ScheduleLemmas.{no_end}
use Rattle.mx_explore.proofs.TurnLemmas.{in_parts}

-- ---- how many offers of the outside a run meets

abbrev pub one_if : Bool → ℕ
one_if true = 1
one_if false = 0

abbrev pub outs : List Met → ℕ
outs [] = 0
outs (m ∷ ms) = one_if (is_outside m.offer) + outs ms

outs_more : (ms : List Met) (m : Met) → outs (ms ++ m ∷ []) ≡ outs ms + one_if (is_outside m.offer)
outs_more [] m = omega arith
outs_more (x ∷ ms) m = let again = outs_more ms m in omega (arith, again)

met_is : (s : Standing) (m : Met) (g b : Bool) → (noted_if g b s m).met ≡ s.met ++ m ∷ []
met_is s m true b = refl
met_is s m false true = refl
met_is s m false false = refl

outs_met : (start : TurnStart) (p : Passage) (x : Offer) → outs (meets start p x).standing.met ≡ outs p.standing.met + one_if (is_outside x)
outs_met start p x = by (passes p.standing x)
  where
    m : Met
    m = met_in p.world start.records x

    noted_outs : outs (noted p.standing m).met ≡ outs p.standing.met + one_if (is_outside x)
    noted_outs = ap outs (met_is p.standing m (goes_on p.standing x) (begins p.standing x)) ∙ outs_more p.standing.met m

    by : (b : Bool) → (let q = stood p (noted p.standing m) in outs (cond b q (made start.other q x)).standing.met ≡ outs p.standing.met + one_if (is_outside x))
    by true = noted_outs
    by false = noted_outs

-- a place where nothing of the outside may be open
abbrev IsInside : Place → Type 0
IsInside z = (start : TurnStart) (p : Passage) (x : Offer) → open_at start p z ≡ Some x → is_outside x ≡ false

inside_met : (start : TurnStart) (p : Passage) (o : Option Offer) → ((x : Offer) → o ≡ Some x → is_outside x ≡ false) → outs (meets_if start p o).standing.met ≡ outs p.standing.met
inside_met start p None h = refl
inside_met start p (Some x) h = let one = outs_met start p x in let none = ap one_if (h x refl) in omega (arith, one, none)

inside_at : (start : TurnStart) (p : Passage) (f : ℕ → Place) → ((n : ℕ) → IsInside (f n)) → (ns : List ℕ) → outs (At start p (map f ns)).standing.met ≡ outs p.standing.met
inside_at start p f h [] = refl
inside_at start p f h (n ∷ ns) = inside_at start (at_place start p (f n)) f h ns ∙ inside_met start p (open_at start p (f n)) (h n start p)

take_inside : (n : ℕ) → IsInside (TakeBy n)
take_inside n start p x e = by p.full e
  where
    by : (b : Bool) → cond b None (open_take p.world n) ≡ Some x → is_outside x ≡ false
    by true e = absurd cc
    by false e = let it = take_open p.world n x e in ap is_outside it.1

back_inside : (n : ℕ) → IsInside (BackBy n)
back_inside n start p x e = let it = back_open p.world n x e in ap is_outside it.1

new_inside : (n : ℕ) → IsInside (NewIn n)
new_inside n start p x e = by p.full e
  where
    by : (b : Bool) → cond b None (open_respawn p.world n) ≡ Some x → is_outside x ≡ false
    by true e = absurd cc
    by false e = ap is_outside (respawn_open p.world n x e)

one_met : (start : TurnStart) (p : Passage) (o : Option Offer) → outs (meets_if start p o).standing.met ≤ outs p.standing.met + 1
one_met start p None = omega arith
one_met start p (Some x) = by (is_outside x) (outs_met start p x)
  where
    by : (b : Bool) → outs (meets start p x).standing.met ≡ outs p.standing.met + one_if b → outs (meets start p x).standing.met ≤ outs p.standing.met + 1
    by true e = omega (arith, e)
    by false e = omega (arith, e)

-- a turn meets at most one
turn_outs : (p : Passage) → outs (passed_turn p).standing.met ≤ outs p.standing.met + 1
turn_outs p =
    let cpus = length p.world.cpus in
    let slots = length p.world.services in
    let start = turn_start p in
    let takes = map TakeBy (range_with_len 0 cpus) in
    let backs = map BackBy (range_with_len 0 cpus) in
    let news = map NewIn (range_with_len 0 slots) in
    let q = At start p takes in
    let r = At start q backs in
    let u = at_place start r FromOutside in
    let one : At start p (places cpus slots) ≡ At start u news = in_parts start p q r u cpus slots refl refl refl in
    let a = inside_at start p TakeBy take_inside (range_with_len 0 cpus) in
    let b = inside_at start q BackBy back_inside (range_with_len 0 cpus) in
    let c = one_met start r (open_at start r FromOutside) in
    let d = inside_at start u NewIn new_inside (range_with_len 0 slots) in
    let e = ap (λ (x : Passage). outs x.standing.met) one in
    omega (arith, a, b, c, d, e)

turns_outs : (k : ℕ) (p : Passage) → outs (passed_turns k p).0.standing.met ≤ outs p.standing.met + k
turns_outs zero p = omega arith
turns_outs (suc k) p = by (turns_outs k (passed_turn p)) (is_over p.world p.coming) (passed_turn p).full
  where
    turned : outs (passed_turn p).standing.met ≤ outs p.standing.met + 1
    turned = turn_outs p

    by : outs (passed_turns k (passed_turn p)).0.standing.met ≤ outs (passed_turn p).standing.met + k → (over full : Bool) → outs (cond over (let z : Passage × Ending = (p, Rest) in z) (let q = passed_turn p in cond full (let z : Passage × Ending = (q, Full) in z) (passed_turns k q))).0.standing.met ≤ outs p.standing.met + suc k
    by again true full = omega arith
    by again false true = omega (arith, turned)
    by again false false = omega (arith, turned, again)

-- ---- how long the last departure lasts

-- it is ahead; or it has begun, and each of its turns but for those that are left met an offer of the outside
abbrev Lasting : Departure → Standing → Type 0
Lasting d s = ((ahead_of : List Departure) × (s.ahead ≡ ahead_of ++ d ∷ [])) ⊎ ((s.ahead ≡ []) × ((d.turns ≤ 1) ⊎ (d.turns ≤ s.waits + outs s.met)))

last_begins : (d : Departure) (s : Standing) (m : Met) (ahead_of : List Departure) → (s.ahead ≡ ahead_of ++ d ∷ []) → begins s m.offer ≡ true → Lasting d (noted_if false true s m)
last_begins d s m [] e b =
    let is : is_at (length s.met) m.offer d ≡ true = (both_true _ _ (sym (ap (λ (l : List Departure). begins_by s m.offer (slice_get l 0)) e) ∙ b)).1 in
    let turns : turns_of (slice_get s.ahead 0) ≡ d.turns = ap (λ (l : List Departure). turns_of (slice_get l 0)) e in
    let more = outs_more s.met m in
    inr (
      ap (drop 1) e,
      elim (or_cases _ _ (both_true _ _ is).1) [
        | inl one ↦ inl (let n = eqb-true d.turns 1 one in omega (arith, n))
        | inr several ↦
            (let both = both_true _ _ several in
            let out : one_if (is_outside m.offer) ≡ 1 = ap one_if both.1 in
            let lt = ltb-true 1 d.turns both.0 in
            inr (omega (arith, turns, more, out, lt)))
      ],
    )
  where
    both_true : (a b : Bool) → (a && b) ≡ true → (a ≡ true) × (b ≡ true)
    both_true true b h = (refl, h)
    both_true false b h = absurd (true≢false (sym h))

    or_cases : (a b : Bool) → (a || b) ≡ true → (a ≡ true) ⊎ (b ≡ true)
    or_cases true b h = inl refl
    or_cases false b h = inr h
last_begins d s m (e ∷ es) i b = inl (es, ap (drop 1) i)

lasting : (d : Departure) (s : Standing) (m : Met) → Lasting d s → Lasting d (noted s m)
lasting d s m (inl h) = by (goes_on s m.offer) (begins s m.offer) refl
  where
    by : (g b : Bool) → begins s m.offer ≡ b → Lasting d (noted_if g b s m)
    by true b e = inl (h.0, h.1)
    by false true e = last_begins d s m h.0 h.1 e
    by false false e = inl (h.0, h.1)
lasting d s m (inr h) =
    subst (Lasting d) (sym (ap (λ b. noted_if (goes_on s m.offer) b s m) (none_begins s s.ahead m.offer h.0))) (by (goes_on s m.offer) refl)
  where
    more : outs (s.met ++ m ∷ []) ≡ outs s.met + one_if (is_outside m.offer)
    more = outs_more s.met m

    goes : goes_on s m.offer ≡ true → (0 < s.waits) × (one_if (is_outside m.offer) ≡ 1)
    goes e = let both = both_true _ _ e in (ltb-true 0 s.waits both.0, ap one_if both.1)
      where
        both_true : (a b : Bool) → (a && b) ≡ true → (a ≡ true) × (b ≡ true)
        both_true true b h = (refl, h)
        both_true false b h = absurd (true≢false (sym h))

    by : (g : Bool) → goes_on s m.offer ≡ g → Lasting d (noted_if g false s m)
    by true e = elim h.1 [
      | inl few ↦ inr (h.0, inl few)
      | inr most ↦ (let both = goes e in let lt = both.0 in let out = both.1 in inr (h.0, inr (omega (arith, most, more, lt, out))))
    ]
    by false e = elim h.1 [
      | inl few ↦ inr (h.0, inl few)
      | inr most ↦ inr (h.0, inr (omega (arith, most, more)))
    ]

some_turns : (k : ℕ) (t : Setting) (ds : List Departure) (d : Departure) → (passed_turns k (from_boot t (departed_by ds d))).0.standing.ahead ≡ [] → 0 < k
some_turns zero t ds d h = absurd (no_end ds d h)
some_turns (suc k) t ds d h = omega arith

-- A DEPARTURE LASTS at most as many turns as a run has
pub few_turns : (t : Setting) (ds : List Departure) (d : Departure) → IsSchedule t (departed_by ds d) → d.turns ≤ t.turns
unfolding run_of_schedule
few_turns t ds d h =
    let some = some_turns t.turns t ds d h.begun in
    let outside = turns_outs t.turns (from_boot t (departed_by ds d)) in
    elim (turns_last (Lasting d) (lasting d) t.turns (from_boot t (departed_by ds d)) (inl (ds, refl))) [
      | inl ahead ↦ absurd (no_end ahead.0 d (sym ahead.1 ∙ h.begun))
      | inr begun ↦ elim begun.1 [
        | inl one ↦ omega (arith, one, some)
        | inr most ↦ (let none : (passed_turns t.turns (from_boot t (departed_by ds d))).0.standing.waits ≡ 0 = h.ended in omega (arith, most, outside, none))
      ]
    ]
