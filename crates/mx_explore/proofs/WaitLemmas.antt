-- A run whose last departure lasts a turn more goes as the run in which it doesn't, up to the next offer of the outside.
use Rattle.std.proofs.Common.{◌≡◌, ◌∙◌, ◌⊎◌, ◌≤◌, ◌<◌, ◌+◌, ◌-◌, ◌==◌, ◌&&◌, ◌||◌, ◌++◌, ℕ, zero, suc, Bool, true, false, List, [], ◌∷◌, drop, length, length-append, cond, nat_lt, Option, Some, None, is_none, inl, inr, refl, ap, sym, subst, arith}
use Rattle.std.specs.Prelude.{slice_get}
use Rattle.std.proofs.lemmas.Bool.{cases_Bool, lt-ltb, ltb-false, ltb-true, ne_eqb}
use Rattle.std.proofs.lemmas.Bool.Decides.{nat_tests}
use Rattle.mx_explore.specs.Offers.{is_outside}
use Rattle.mx_explore.specs.declared.offers.Offer.{Offer}
use Rattle.mx_explore.specs.declared.passing.Departure.{Departure}
use Rattle.mx_explore.specs.declared.passing.Met.{Met}
use Rattle.mx_explore.specs.Passing.{Setting, Standing, begins, end_of, from_boot, goes_on, is_at, noted, passes, run_of_schedule}
use Rattle.mx_explore.specs.Tree.{waits_on}
use Rattle.mx_explore.proofs.AlongLemmas.{goes_turns}
use Rattle.mx_explore.proofs.FollowLemmas.{Bounded, begun_here, begins_now, bounded, departed_by, get_kept, get_last, longer, none_begins, none_goes, noted_if, noted_longer, parts, passes_longer}

-- for a turn more
abbrev pub longer_wait : Departure → Departure
longer_wait d = record { at = d.at; turns = d.turns + 1 }

-- ---- the first offer of the outside among some

abbrev pub first_outside : List Met → Option Met
first_outside [] = None
first_outside (m ∷ ms) = cond (is_outside m.offer) (Some m) (first_outside ms)

abbrev pub begun_of : Option Met → Bool
begun_of None = false
begun_of (Some m) = m.is_begun

pub waits_by : (ms : List Met) → waits_on ms ≡ begun_of (first_outside ms)
waits_by [] = refl
waits_by (m ∷ ms) = by (waits_by ms) (is_outside m.offer)
  where
    by : waits_on ms ≡ begun_of (first_outside ms) → (b : Bool) → cond b m.is_begun (waits_on ms) ≡ begun_of (cond b (Some m) (first_outside ms))
    by later true = refl
    by later false = later

first_kept : (ms : List Met) (m n : Met) → first_outside ms ≡ Some n → first_outside (ms ++ m ∷ []) ≡ Some n
first_kept [] m n h = absurd cc
first_kept (x ∷ ms) m n h = by (first_kept ms m n) (is_outside x.offer) h
  where
    by : (first_outside ms ≡ Some n → first_outside (ms ++ m ∷ []) ≡ Some n) → (b : Bool) → cond b (Some x) (first_outside ms) ≡ Some n → cond b (Some x) (first_outside (ms ++ m ∷ [])) ≡ Some n
    by later true h = h
    by later false h = later h

first_more : (ms : List Met) (m : Met) → first_outside ms ≡ None → first_outside (ms ++ m ∷ []) ≡ cond (is_outside m.offer) (Some m) None
first_more [] m h = refl
first_more (x ∷ ms) m h = by (first_more ms m) (is_outside x.offer) h
  where
    by : (first_outside ms ≡ None → first_outside (ms ++ m ∷ []) ≡ cond (is_outside m.offer) (Some m) None) → (b : Bool) → cond b (Some x) (first_outside ms) ≡ None → cond b (Some x) (first_outside (ms ++ m ∷ [])) ≡ cond (is_outside m.offer) (Some m) None
    by later true h = absurd cc
    by later false h = later h

drop_more : {X : Type 0} (k : ℕ) (xs : List X) (y : X) → k ≤ length xs → drop k (xs ++ y ∷ []) ≡ drop k xs ++ y ∷ []
drop_more zero xs y h = refl
drop_more (suc k) [] y h = absurd (omega (arith, h))
drop_more (suc k) (x ∷ xs) y h = drop_more k xs y (omega (arith, h))

drop_all : {X : Type 0} (xs : List X) → drop (length xs) xs ≡ []
drop_all [] = refl
drop_all (x ∷ xs) = drop_all xs

-- ---- the longer one never begins: the offer isn't the outside's

pub record IsStuck (e : Departure) (t : Standing) : Type 0 where
  pub ahead : t.ahead ≡ e ∷ []
  pub waits : t.waits ≡ 0
  pub past : e.at < length t.met

not_begun : (e : Departure) (t : Standing) (ahead : List Departure) (x : Offer) → ahead ≡ e ∷ [] → e.at < length t.met → begins (record t { ahead = ahead }) x ≡ false
not_begun e t [] x a h = absurd cc
not_begun e t (d ∷ ds) x a h =
    let same : d ≡ e = cc in
    let past : d.at < length t.met = subst (λ (y : Departure). y.at < length t.met) (sym same) h in
    by (t.waits == 0) (ne_eqb d.at (length t.met) (λ i. omega (arith, past, i)))
  where
    by : (a : Bool) → (d.at == length t.met) ≡ false → (a && ((d.at == length t.met) && ((d.turns == 1) || (nat_lt 1 d.turns && is_outside x)))) ≡ false
    by true i = ap (λ b. b && ((d.turns == 1) || (nat_lt 1 d.turns && is_outside x))) i
    by false i = refl

stuck_lasts : (e : Departure) (t : Standing) (m : Met) → IsStuck e t → IsStuck e (noted t m)
stuck_lasts e t m h =
    subst (IsStuck e) (sym (ap (λ g. noted_if g (begins t m.offer) t m) (none_goes t m.offer h.waits) ∙ ap (λ b. noted_if false b t m) (not_begun e t t.ahead m.offer h.ahead h.past)))
    (let more : length (t.met ++ m ∷ []) ≡ length t.met + 1 = length-append t.met (m ∷ []) in record { ahead = h.ahead; waits = h.waits; past = omega (arith, h.past, more) })

-- ---- the two wait

-- nothing is ahead, and no offer of the outside was made since the last departure
pub record Waits (d : Departure) (s : Standing) : Type 0 where
  pub ahead : s.ahead ≡ []
  pub none : first_outside (drop s.after s.met) ≡ None
  pub bounded : Bounded s
  pub there : (n : Met) × (slice_get s.met d.at ≡ Some n) × (is_outside n.offer ≡ true)

-- before it begins, and then with one turn more to wait
abbrev pub WaitTogether : Departure → Standing → Standing → Type 0
WaitTogether d s t =
    ((u : Standing) × Bounded u × (s ≡ longer d u) × (t ≡ longer (longer_wait d) u))
    ⊎ (Waits d s × (t ≡ record s { waits = s.waits + 1 }))

-- the shorter wait is over, and the outside's first offer after it was made; the longer wait ended there
pub record IsOver (d : Departure) (n : Met) (s t : Standing) : Type 0 where
  pub ahead : s.ahead ≡ []
  pub waits : s.waits ≡ 0
  pub first : first_outside (drop s.after s.met) ≡ Some n
  pub bounded : Bounded s
  pub there : (o : Met) × (slice_get s.met d.at ≡ Some o) × (is_outside o.offer ≡ true)
  pub then_ahead : t.ahead ≡ []
  pub then_waits : t.waits ≡ 0
  pub kept : t.kept ≡ (s.kept && n.is_begun)

-- it isn't an outside event's, so the longer wait never begins
pub record NeverWaits (d : Departure) (s t : Standing) : Type 0 where
  pub there : (o : Met) × (slice_get s.met d.at ≡ Some o) × (is_outside o.offer ≡ false)
  pub stuck : IsStuck (longer_wait d) t

abbrev pub WaitParted : Departure → Standing → Standing → Type 0
WaitParted d s t = ((n : Met) × IsOver d n s t) ⊎ NeverWaits d s t

pub noted_quiet : (s : Standing) (m : Met) → s.ahead ≡ [] → s.waits ≡ 0 → noted s m ≡ record s { met = s.met ++ m ∷ [] }
noted_quiet s m a w = ap (λ g. noted_if g (begins s m.offer) s m) (none_goes s m.offer w) ∙ ap (λ b. noted_if false b s m) (none_begins s s.ahead m.offer a)

wait_first : (d : Departure) (t s : Standing) (m : Met) → WaitParted d s t → WaitParted d (noted s m) t
wait_first d t s m (inl g) =
    let h = g.1 in
    inl (
      g.0,
      subst (λ (x : Standing). IsOver d g.0 x t) (sym (noted_quiet s m h.ahead h.waits)) (record {
        ahead = h.ahead;
        waits = h.waits;
        first = ap first_outside (drop_more s.after s.met m h.bounded) ∙ first_kept (drop s.after s.met) m g.0 h.first;
        bounded = (let more : length (s.met ++ m ∷ []) ≡ length s.met + 1 = length-append s.met (m ∷ []) in omega (arith, more, h.bounded));
        there = (h.there.0, get_kept s.met m d.at h.there.0 h.there.1, h.there.2);
        then_ahead = h.then_ahead;
        then_waits = h.then_waits;
        kept = h.kept;
      }),
    )
wait_first d t s m (inr h) = inr (record { there = (h.there.0, in_noted s m d.at h.there.0 (goes_on s m.offer) (begins s m.offer) h.there.1, h.there.2); stuck = h.stuck })
  where
    in_noted : (s : Standing) (m : Met) (k : ℕ) (o : Met) (g b : Bool) → slice_get s.met k ≡ Some o → slice_get (noted_if g b s m).met k ≡ Some o
    in_noted s m k o true b h = get_kept s.met m k o h
    in_noted s m k o false true h = get_kept s.met m k o h
    in_noted s m k o false false h = get_kept s.met m k o h

wait_second : (d : Departure) (s t : Standing) (m : Met) → WaitParted d s t → WaitParted d s (noted t m)
wait_second d s t m (inl g) =
    let h = g.1 in
    inl (
      g.0,
      subst (λ (x : Standing). IsOver d g.0 s x) (sym (noted_quiet t m h.then_ahead h.then_waits)) (record {
        ahead = h.ahead;
        waits = h.waits;
        first = h.first;
        bounded = h.bounded;
        there = h.there;
        then_ahead = h.then_ahead;
        then_waits = h.then_waits;
        kept = h.kept;
      }),
    )
wait_second d s t m (inr h) = inr (record { there = h.there; stuck = stuck_lasts (longer_wait d) t m h.stuck })

-- ---- one offer

-- where the longer one begins
longer_at : (d : Departure) (n : ℕ) (x : Offer) → 0 < d.turns → is_at n x (longer_wait d) ≡ ((d.at == n) && is_outside x)
longer_at d n x lt =
    ap (λ b. (d.at == n) && (b || (nat_lt 1 (d.turns + 1) && is_outside x))) (ne_eqb (d.turns + 1) 1 (λ e. omega (arith, lt, e)))
    ∙ ap (λ b. (d.at == n) && (b && is_outside x)) (lt-ltb 1 (d.turns + 1) (omega (arith, lt)))

outside_at : (d : Departure) (n : ℕ) (x : Offer) → 0 < d.turns → is_outside x ≡ true → is_at n x d ≡ ((d.at == n) && is_outside x)
outside_at d n x lt o = elim (cases_Bool (d.turns == 1)) [
  | inl one ↦ ap (λ b. (d.at == n) && (b || (nat_lt 1 d.turns && is_outside x))) one ∙ ap (λ b. (d.at == n) && b) (sym o)
  | inr more ↦
      ap (λ b. (d.at == n) && (b || (nat_lt 1 d.turns && is_outside x))) more
      ∙ ap (λ b. (d.at == n) && (b && is_outside x)) (lt-ltb 1 d.turns (several d.turns lt more))
]
  where
    several : (n : ℕ) → 0 < n → (n == 1) ≡ false → 1 < n
    several n lt more = grind (arith, nat_tests)

parts_same : (d : Departure) (u : Standing) (x : Offer) → 0 < d.turns → is_outside x ≡ true → parts (longer_wait d) u u.ahead x ≡ parts d u u.ahead x
parts_same d u x lt o =
    ap (λ b. is_none (slice_get u.ahead 0) && ((u.waits == 0) && b)) (longer_at d (length u.met) x lt ∙ sym (outside_at d (length u.met) x lt o))

and_false : (a b : Bool) → b ≡ false → (a && b) ≡ false
and_false true b h = h
and_false false b h = refl

parts_none : (d : Departure) (u : Standing) (x : Offer) → 0 < d.turns → is_outside x ≡ false → parts (longer_wait d) u u.ahead x ≡ false
parts_none d u x lt o =
    and_false (is_none (slice_get u.ahead 0)) ((u.waits == 0) && is_at (length u.met) x (longer_wait d))
    (and_false (u.waits == 0) (is_at (length u.met) x (longer_wait d)) (longer_at d (length u.met) x lt ∙ and_false (d.at == length u.met) (is_outside x) o))

begins_both : (d : Departure) (u : Standing) (ahead : List Departure) (m : Met) → ahead ≡ [] → 0 < d.turns
    → noted_if false true (record u { ahead = ahead ++ longer_wait d ∷ [] }) m ≡ (let s = noted_if false true (record u { ahead = ahead ++ d ∷ [] }) m in record s { waits = s.waits + 1 })
begins_both d u [] m a lt =
    let n : d.turns + 1 - 1 ≡ d.turns - 1 + 1 = omega (arith, lt) in
    ap (λ w. let z : Standing = record u { ahead = []; waits = w; met = u.met ++ m ∷ []; after = length (u.met ++ m ∷ []) } in z) n
begins_both d u (e ∷ es) m a lt = absurd cc

both_on : (d : Departure) (u : Standing) (m : Met) → Bounded u → parts d u u.ahead m.offer ≡ false → parts (longer_wait d) u u.ahead m.offer ≡ false
    → (passes (longer (longer_wait d) u) m.offer ≡ passes (longer d u) m.offer) × WaitTogether d (noted (longer d u) m) (noted (longer (longer_wait d) u) m)
both_on d u m b h g = (
  passes_longer (longer_wait d) u m.offer g ∙ sym (passes_longer d u m.offer h),
  inl (noted u m, bounded u m b, noted_longer d u m h, noted_longer (longer_wait d) u m g),
)

-- what begins is passed
begun_passes : (d : Departure) (u : Standing) (x : Offer) → parts d u u.ahead x ≡ true → passes (longer d u) x ≡ true
begun_passes d u x h =
    let here = begun_here d u x h in
    ap (λ b. goes_on u x || b) (begins_now d u u.ahead x here.0 here.1 here.3) ∙ or_true (goes_on u x)
  where
    or_true : (a : Bool) → (a || true) ≡ true
    or_true true = refl
    or_true false = refl

begun_noted : (d : Departure) (u : Standing) (m : Met) → parts d u u.ahead m.offer ≡ true → noted (longer d u) m ≡ noted_if false true (longer d u) m
begun_noted d u m h =
    let here = begun_here d u m.offer h in
    ap (λ g. noted_if g (begins (longer d u) m.offer) (longer d u) m) (none_goes u m.offer here.1) ∙ ap (λ b. noted_if false b (longer d u) m) (begins_now d u u.ahead m.offer here.0 here.1 here.3)

both_begin : (d : Departure) (u : Standing) (m : Met) → 0 < d.turns → is_outside m.offer ≡ true → parts d u u.ahead m.offer ≡ true → parts (longer_wait d) u u.ahead m.offer ≡ true
    → (passes (longer (longer_wait d) u) m.offer ≡ passes (longer d u) m.offer) × WaitTogether d (noted (longer d u) m) (noted (longer (longer_wait d) u) m)
both_begin d u m lt o h g =
    let here = begun_here d u m.offer h in
    let met = u.met ++ m ∷ [] in
    let s = noted_if false true (longer d u) m in
    let waits : Waits d s = record {
      ahead = ap (λ (l : List Departure). drop 1 (l ++ d ∷ [])) here.0;
      none = ap first_outside (drop_all met);
      bounded = omega arith;
      there = (m, ap (slice_get met) here.2 ∙ get_last u.met m, o);
    } in (
      begun_passes (longer_wait d) u m.offer g ∙ sym (begun_passes d u m.offer h),
      inr (
        subst (Waits d) (sym (begun_noted d u m h)) waits,
        begun_noted (longer_wait d) u m g ∙ begins_both d u u.ahead m here.0 lt ∙ ap (λ (x : Standing). record x { waits = x.waits + 1 }) (sym (begun_noted d u m h)),
      ),
    )

one_begins : (d : Departure) (u : Standing) (m : Met) → is_outside m.offer ≡ false → parts d u u.ahead m.offer ≡ true → parts (longer_wait d) u u.ahead m.offer ≡ false
    → NeverWaits d (noted (longer d u) m) (noted (longer (longer_wait d) u) m)
one_begins d u m o h g =
    let here = begun_here d u m.offer h in
    let met = u.met ++ m ∷ [] in
    let more : length (u.met ++ m ∷ []) ≡ length u.met + 1 = length-append u.met (m ∷ []) in
    let quiet : noted u m ≡ record u { met = met } = noted_quiet u m here.0 here.1 in
    record {
      there = (m, ap (λ (s : Standing). slice_get s.met d.at) (begun_noted d u m h) ∙ ap (slice_get met) here.2 ∙ get_last u.met m, o);
      stuck = subst (IsStuck (longer_wait d)) (sym (noted_longer (longer_wait d) u m g ∙ ap (longer (longer_wait d)) quiet)) (record {
        ahead = ap (λ (l : List Departure). l ++ longer_wait d ∷ []) here.0;
        waits = here.1;
        past = omega (arith, here.2, more);
      });
    }

step_before : (d : Departure) (u : Standing) (m : Met) → 0 < d.turns → Bounded u
    → ((passes (longer (longer_wait d) u) m.offer ≡ passes (longer d u) m.offer) × WaitTogether d (noted (longer d u) m) (noted (longer (longer_wait d) u) m))
    ⊎ WaitParted d (noted (longer d u) m) (noted (longer (longer_wait d) u) m)
step_before d u m lt b = elim (cases_Bool (is_outside m.offer)) [
  | inl o ↦ elim (cases_Bool (parts d u u.ahead m.offer)) [
    | inl h ↦ inl (both_begin d u m lt o h (parts_same d u m.offer lt o ∙ h))
    | inr h ↦ inl (both_on d u m b h (parts_same d u m.offer lt o ∙ h))
  ]
  | inr o ↦ elim (cases_Bool (parts d u u.ahead m.offer)) [
    | inl h ↦ inr (inr (one_begins d u m o h (parts_none d u m.offer lt o)))
    | inr h ↦ inl (both_on d u m b h (parts_none d u m.offer lt o))
  ]
]

-- while both wait
module _ (d : Departure) (s : Standing) (m : Met) (h : Waits d s) where
  abbrev t : Standing
  t = record s { waits = s.waits + 1 }

  abbrev met : List Met
  met = s.met ++ m ∷ []

  waits_more : goes_on t m.offer ≡ is_outside m.offer
  waits_more = ap (λ b. b && is_outside m.offer) (lt-ltb 0 (s.waits + 1) (omega arith))

  there_still : (n : Met) × (slice_get met d.at ≡ Some n) × (is_outside n.offer ≡ true)
  there_still = (h.there.0, get_kept s.met m d.at h.there.0 h.there.1, h.there.2)

  passed_by : (g : Bool) → goes_on s m.offer ≡ g → (k : Bool) → is_outside m.offer ≡ k → (passes s m.offer ≡ g) × (passes t m.offer ≡ k)
  passed_by g e k f = (
    ap (λ b. goes_on s m.offer || b) (none_begins s s.ahead m.offer h.ahead) ∙ or_false (goes_on s m.offer) ∙ e,
    ap (λ b. goes_on t m.offer || b) (none_begins t s.ahead m.offer h.ahead) ∙ or_false (goes_on t m.offer) ∙ waits_more ∙ f,
  )
    where
      or_false : (a : Bool) → (a || false) ≡ a
      or_false true = refl
      or_false false = refl

  s_noted : (g : Bool) → goes_on s m.offer ≡ g → noted s m ≡ noted_if g false s m
  s_noted g e = ap (λ x. noted_if x (begins s m.offer) s m) e ∙ ap (λ b. noted_if g b s m) (none_begins s s.ahead m.offer h.ahead)

  t_noted : (g : Bool) → is_outside m.offer ≡ g → noted t m ≡ noted_if g false t m
  t_noted g e = ap (λ x. noted_if x (begins t m.offer) t m) (waits_more ∙ e) ∙ ap (λ b. noted_if g b t m) (none_begins t s.ahead m.offer h.ahead)

  dropped : drop s.after met ≡ drop s.after s.met ++ m ∷ []
  dropped = drop_more s.after s.met m h.bounded

  fits : s.after ≤ length met
  fits = let more : length (s.met ++ m ∷ []) ≡ length s.met + 1 = length-append s.met (m ∷ []) in omega (arith, more, h.bounded)

  -- another offer is made by both
  on_other : is_outside m.offer ≡ false → (passes t m.offer ≡ passes s m.offer) × WaitTogether d (noted s m) (noted t m)
  on_other o =
      let g : goes_on s m.offer ≡ false = and_false (nat_lt 0 s.waits) (is_outside m.offer) o in
      let passed = passed_by false g false o in
      let waits : Waits d (record s { met = met }) = record {
        ahead = h.ahead;
        none = ap first_outside dropped ∙ first_more (drop s.after s.met) m h.none ∙ ap (λ b. cond b (Some m) None) o;
        bounded = fits;
        there = there_still;
      } in
      (passed.1 ∙ sym passed.0, inr (subst (Waits d) (sym (s_noted false g)) waits, t_noted false o ∙ ap (λ (x : Standing). record x { waits = x.waits + 1 }) (sym (s_noted false g))))

  -- an offer of the outside is passed by both
  on_both : is_outside m.offer ≡ true → nat_lt 0 s.waits ≡ true → (passes t m.offer ≡ passes s m.offer) × WaitTogether d (noted s m) (noted t m)
  on_both o w =
      let g : goes_on s m.offer ≡ true = ap (λ b. b && is_outside m.offer) w ∙ o in
      let passed = passed_by true g true o in
      let lt = ltb-true 0 s.waits w in
      let n : s.waits + 1 - 1 ≡ s.waits - 1 + 1 = omega (arith, lt) in
      let waits : Waits d (noted_if true false s m) = record {
        ahead = h.ahead;
        none = ap first_outside (drop_all met);
        bounded = omega arith;
        there = there_still;
      } in (
        passed.1 ∙ sym passed.0,
        inr (
          subst (Waits d) (sym (s_noted true g)) waits,
          t_noted true o ∙ ap (λ w. let z : Standing = record s { waits = w; met = met; after = length met; kept = s.kept && m.is_begun } in z) n ∙ ap (λ (x : Standing). record x { waits = x.waits + 1 }) (sym (s_noted true g)),
        ),
      )

  -- the shorter wait is over
  on_one : is_outside m.offer ≡ true → nat_lt 0 s.waits ≡ false → IsOver d m (noted s m) (noted t m)
  on_one o w =
      let g : goes_on s m.offer ≡ false = ap (λ b. b && is_outside m.offer) w in
      let none = ltb-false 0 s.waits w in
      let over : IsOver d m (record s { met = met }) (noted_if true false t m) = record {
        ahead = h.ahead;
        waits = omega (arith, none);
        first = ap first_outside dropped ∙ first_more (drop s.after s.met) m h.none ∙ ap (λ b. cond b (Some m) None) o;
        bounded = fits;
        there = there_still;
        then_ahead = h.ahead;
        then_waits = omega (arith, none);
        kept = refl;
      } in
      subst (λ (x : Standing). IsOver d m x (noted t m)) (sym (s_noted false g)) (subst (λ (x : Standing). IsOver d m (record s { met = met }) x) (sym (t_noted true o)) over)

  step_waiting : ((passes t m.offer ≡ passes s m.offer) × WaitTogether d (noted s m) (noted t m)) ⊎ WaitParted d (noted s m) (noted t m)
  step_waiting = elim (cases_Bool (is_outside m.offer)) [
    | inl o ↦ elim (cases_Bool (nat_lt 0 s.waits)) [
      | inl w ↦ inl (on_both o w)
      | inr w ↦ inr (inl (m, on_one o w))
    ]
    | inr o ↦ inl (on_other o)
  ]

wait_step : (d : Departure) → 0 < d.turns → (s t : Standing) (m : Met) → WaitTogether d s t
    → ((passes t m.offer ≡ passes s m.offer) × WaitTogether d (noted s m) (noted t m)) ⊎ WaitParted d (noted s m) (noted t m)
wait_step d lt s t m (inl g) =
    subst (λ (x : Standing). ((passes t m.offer ≡ passes x m.offer) × WaitTogether d (noted x m) (noted t m)) ⊎ WaitParted d (noted x m) (noted t m)) (sym g.2)
    (subst (λ (x : Standing). ((passes x m.offer ≡ passes (longer d g.0) m.offer) × WaitTogether d (noted (longer d g.0) m) (noted x m)) ⊎ WaitParted d (noted (longer d g.0) m) (noted x m)) (sym g.3)
    (step_before d g.0 m lt g.1))
wait_step d lt s t m (inr g) =
    subst (λ (x : Standing). ((passes x m.offer ≡ passes s m.offer) × WaitTogether d (noted s m) (noted x m)) ⊎ WaitParted d (noted s m) (noted x m)) (sym g.1)
    (step_waiting d s m g.0)

-- A RUN WHOSE LAST DEPARTURE LASTS A TURN MORE
pub longer_waiting : (t : Setting) (ds : List Departure) (d : Departure) → 0 < d.turns
    → WaitTogether d (end_of t (departed_by ds d)) (end_of t (departed_by ds (longer_wait d))) ⊎ WaitParted d (end_of t (departed_by ds d)) (end_of t (departed_by ds (longer_wait d)))
unfolding run_of_schedule
longer_waiting t ds d lt =
    elim (goes_turns (WaitTogether d) (WaitParted d) (wait_first d) (wait_second d) (wait_step d lt) t.turns (from_boot t (departed_by ds d)) (from_boot t (departed_by ds (longer_wait d))).standing
    (inl ((from_boot t ds).standing, omega arith, refl, refl))) [
      | inl on ↦ inl on.1
      | inr apart ↦ inr apart
    ]
