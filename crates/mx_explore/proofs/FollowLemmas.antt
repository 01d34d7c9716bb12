-- A run by a list with one departure more goes as the run by the shorter list, up to the offer where it departs.
use Rattle.std.proofs.Common.{◌≡◌, ◌∙◌, ◌⊎◌, ◌≤◌, ◌+◌, ◌-◌, ◌==◌, ◌&&◌, ◌||◌, ◌++◌, ℕ, zero, suc, Bool, true, false, List, [], ◌∷◌, drop, length, length-append, cond, nat_lt, Some, is_none, inl, inr, refl, ap, sym, subst, arith, true≢false}
use Rattle.std.specs.Prelude.{slice_get}
use Rattle.std.proofs.lemmas.Bool.{cases_Bool, eqb-true}
use Rattle.std.proofs.lemmas.Option.{slice_get_within}
use Rattle.mx_explore.specs.Offers.{is_outside}
use Rattle.mx_explore.specs.declared.offers.Offer.{Offer}
use Rattle.mx_explore.specs.declared.passing.Departure.{Departure}
use Rattle.mx_explore.specs.declared.passing.Met.{Met}
use Rattle.mx_explore.specs.Passing.{Setting, Standing, begins, end_of, from_boot, goes_on, is_at, noted, passes, run_of_schedule, turns_of}
use Rattle.mx_explore.proofs.AlongLemmas.{goes_turns}

-- one departure more
abbrev pub departed_by : List Departure → Departure → List Departure
departed_by ds d = ds ++ d ∷ []

-- ---- standings

-- with one departure more ahead
abbrev pub longer : Departure → Standing → Standing
longer d s = record s { ahead = s.ahead ++ d ∷ [] }

-- nothing else is ahead and waits, and the one more begins at this offer
abbrev pub parts : Departure → Standing → List Departure → Offer → Bool
parts d s ahead x = is_none (slice_get ahead 0) && ((s.waits == 0) && is_at (length s.met) x d)

begins_longer : (d : Departure) (s : Standing) (ahead : List Departure) (x : Offer) → parts d s ahead x ≡ false
    → begins (record s { ahead = ahead ++ d ∷ [] }) x ≡ begins (record s { ahead = ahead }) x
begins_longer d s [] x h = h
begins_longer d s (e ∷ es) x h = refl

pub passes_longer : (d : Departure) (s : Standing) (x : Offer) → parts d s s.ahead x ≡ false → passes (longer d s) x ≡ passes s x
passes_longer d s x h = ap (λ b. goes_on s x || b) (begins_longer d s s.ahead x h)

-- what is noted, by whether the offer goes on waiting, and whether a departure begins
abbrev pub noted_if : Bool → Bool → Standing → Met → Standing
noted_if g b s m =
    let met = s.met ++ m ∷ [] in
    cond g (record s { waits = s.waits - 1; met = met; after = length met; kept = s.kept && m.is_begun })
    (cond b (record s { ahead = drop 1 s.ahead; waits = turns_of (slice_get s.ahead 0) - 1; met = met; after = length met })
    (record s { met = met }))

some_begins : (s : Standing) (ahead : List Departure) (x : Offer) → begins (record s { ahead = ahead }) x ≡ true → is_none (slice_get ahead 0) ≡ false
some_begins s [] x h = absurd (true≢false (sym h))
some_begins s (e ∷ es) x h = refl

longer_noted : (d : Departure) (s : Standing) (ahead : List Departure) (m : Met) (g b : Bool) → (b ≡ true → is_none (slice_get ahead 0) ≡ false)
    → noted_if g b (record s { ahead = ahead ++ d ∷ [] }) m ≡ longer d (noted_if g b (record s { ahead = ahead }) m)
longer_noted d s ahead m true b some = refl
longer_noted d s [] m false true some = absurd (true≢false (some refl))
longer_noted d s (e ∷ es) m false true some = refl
longer_noted d s ahead m false false some = refl

pub noted_longer : (d : Departure) (s : Standing) (m : Met) → parts d s s.ahead m.offer ≡ false → noted (longer d s) m ≡ longer d (noted s m)
noted_longer d s m h =
    ap (λ b. noted_if (goes_on s m.offer) b (longer d s) m) (begins_longer d s s.ahead m.offer h)
    ∙ longer_noted d s s.ahead m (goes_on s m.offer) (begins s m.offer) (some_begins s s.ahead m.offer)

-- ---- the one more hasn't begun

-- no offer after the last departure is the one where it would begin
abbrev pub NotYet : Departure → Standing → Type 0
NotYet d s = (m : Met) → slice_get s.met d.at ≡ Some m → is_at d.at m.offer d ≡ true → s.after ≤ d.at → s.ahead ≡ [] → s.waits ≡ 0 → ⊥

abbrev pub Bounded : Standing → Type 0
Bounded s = s.after ≤ length s.met

noted_is : (s : Standing) (m : Met) → noted s m ≡ noted_if (goes_on s m.offer) (begins s m.offer) s m
noted_is s m = refl

bounded_by : (s : Standing) (m : Met) (g b : Bool) → Bounded s → Bounded (noted_if g b s m)
bounded_by s m true b h = omega arith
bounded_by s m false true h = omega arith
bounded_by s m false false h = let more : length (s.met ++ m ∷ []) ≡ length s.met + 1 = length-append s.met (m ∷ []) in omega (arith, h, more)

pub bounded : (s : Standing) (m : Met) → Bounded s → Bounded (noted s m)
bounded s m h = bounded_by s m (goes_on s m.offer) (begins s m.offer) h

-- an offer of a list with one more is one of the list, or the one more
get_more : {X : Type 0} (xs : List X) (y : X) (k : ℕ) (x : X) → slice_get (xs ++ y ∷ []) k ≡ Some x → (slice_get xs k ≡ Some x) ⊎ ((k ≡ length xs) × (x ≡ y))
get_more [] y zero x h = inr (refl, cc)
get_more [] y (suc k) x h = absurd cc
get_more (z ∷ zs) y zero x h = inl h
get_more (z ∷ zs) y (suc k) x h = elim (get_more zs y k x h) [
  | inl there ↦ inl there
  | inr last ↦ inr (ap suc last.0, last.1)
]

pub get_kept : {X : Type 0} (xs : List X) (y : X) (k : ℕ) (x : X) → slice_get xs k ≡ Some x → slice_get (xs ++ y ∷ []) k ≡ Some x
get_kept [] y k x h = absurd cc
get_kept (z ∷ zs) y zero x h = h
get_kept (z ∷ zs) y (suc k) x h = get_kept zs y k x h

pub get_last : {X : Type 0} (xs : List X) (y : X) → slice_get (xs ++ y ∷ []) (length xs) ≡ Some y
get_last [] y = refl
get_last (z ∷ zs) y = get_last zs y

none_parts : (d : Departure) (s : Standing) (x : Offer) → s.ahead ≡ [] → s.waits ≡ 0 → is_at (length s.met) x d ≡ true → parts d s s.ahead x ≡ true
none_parts d s x a w i =
    ap (λ (l : List Departure). parts d s l x) a ∙ ap (λ n. (n == 0) && is_at (length s.met) x d) w ∙ i

not_yet_by : (d : Departure) (s : Standing) (m : Met) (g b : Bool) → parts d s s.ahead m.offer ≡ false → NotYet d s → NotYet d (noted_if g b s m)
not_yet_by d s m true b h not n there is early a w =
    let within = slice_get_within (s.met ++ m ∷ []) d.at n there in
    let low : length (s.met ++ m ∷ []) ≤ d.at = early in
    omega (arith, within, low)
not_yet_by d s m false true h not n there is early a w =
    let within = slice_get_within (s.met ++ m ∷ []) d.at n there in
    let low : length (s.met ++ m ∷ []) ≤ d.at = early in
    omega (arith, within, low)
not_yet_by d s m false false h not n there is early a w = elim (get_more s.met m d.at n there) [
  | inl before ↦ not n before is early a w
  | inr last ↦
      let here : is_at (length s.met) m.offer d ≡ true = ap (λ k. is_at k m.offer d) (sym last.0) ∙ ap (λ (x : Met). is_at d.at x.offer d) (sym last.1) ∙ is in
      true≢false (sym (none_parts d s m.offer a w here) ∙ h)
]

not_yet : (d : Departure) (s : Standing) (m : Met) → parts d s s.ahead m.offer ≡ false → NotYet d s → NotYet d (noted s m)
not_yet d s m h not = not_yet_by d s m (goes_on s m.offer) (begins s m.offer) h not

-- ---- it has begun

-- THE SHORTER RUN has met the offer, after its last departure, and isn't waiting; `k` is whether it kept to the rule
pub record Left (d : Departure) (k : Bool) (m : Met) (s : Standing) : Type 0 where
  pub ahead : s.ahead ≡ []
  pub waits : s.waits ≡ 0
  pub there : slice_get s.met d.at ≡ Some m
  pub is : is_at d.at m.offer d ≡ true
  pub early : s.after ≤ d.at
  pub kept : s.kept ≡ k

-- THE LONGER RUN has no departure ahead
pub record Right (d : Departure) (k : Bool) (m : Met) (s : Standing) : Type 0 where
  pub ahead : s.ahead ≡ []
  pub there : slice_get s.met d.at ≡ Some m
  pub kept : s.kept ≡ true → k ≡ true
  pub one : d.turns ≡ 1 → (s.waits ≡ 0) × (s.kept ≡ k)

pub none_begins : (s : Standing) (ahead : List Departure) (x : Offer) → ahead ≡ [] → begins (record s { ahead = ahead }) x ≡ false
none_begins s [] x e = refl
none_begins s (d ∷ ds) x e = absurd cc

pub none_goes : (s : Standing) (x : Offer) → s.waits ≡ 0 → goes_on s x ≡ false
none_goes s x w = ap (λ n. nat_lt 0 n && is_outside x) w

left_lasts : (d : Departure) (k : Bool) (n : Met) (s : Standing) (m : Met) → Left d k n s → Left d k n (noted s m)
left_lasts d k n s m h =
    subst (λ (t : Standing). Left d k n t) (sym (ap (λ g. noted_if g (begins s m.offer) s m) (none_goes s m.offer h.waits) ∙ ap (λ b. noted_if false b s m) (none_begins s s.ahead m.offer h.ahead)))
    (record {
      ahead = h.ahead;
      waits = h.waits;
      there = get_kept s.met m d.at n h.there;
      is = h.is;
      early = h.early;
      kept = h.kept;
    })

right_by : (d : Departure) (k : Bool) (n : Met) (s : Standing) (m : Met) (g : Bool) → goes_on s m.offer ≡ g → Right d k n s → Right d k n (noted_if g false s m)
right_by d k n s m true e h = record {
  ahead = h.ahead;
  there = get_kept s.met m d.at n h.there;
  kept = λ both. h.kept (first s.kept m.is_begun both);
  one = λ t. absurd (true≢false (sym e ∙ none_goes s m.offer (h.one t).0));
}
  where
    first : (a b : Bool) → (a && b) ≡ true → a ≡ true
    first true b x = refl
    first false b x = x
right_by d k n s m false e h = record { ahead = h.ahead; there = get_kept s.met m d.at n h.there; kept = h.kept; one = h.one }

right_lasts : (d : Departure) (k : Bool) (n : Met) (s : Standing) (m : Met) → Right d k n s → Right d k n (noted s m)
right_lasts d k n s m h =
    subst (λ (t : Standing). Right d k n t) (sym (ap (λ b. noted_if (goes_on s m.offer) b s m) (none_begins s s.ahead m.offer h.ahead)))
    (right_by d k n s m (goes_on s m.offer) refl h)

-- ---- where it begins

and_parts : (a b : Bool) → (a && b) ≡ true → (a ≡ true) × (b ≡ true)
and_parts true b h = (refl, h)
and_parts false b h = absurd (true≢false (sym h))

no_ahead : (ahead : List Departure) → is_none (slice_get ahead 0) ≡ true → ahead ≡ []
no_ahead [] h = refl
no_ahead (d ∷ ds) h = absurd (true≢false (sym h))

-- what it is that it begins here
pub begun_here : (d : Departure) (s : Standing) (x : Offer) → parts d s s.ahead x ≡ true → (s.ahead ≡ []) × (s.waits ≡ 0) × (d.at ≡ length s.met) × (is_at (length s.met) x d ≡ true)
begun_here d s x h =
    let one = and_parts _ _ h in
    let two = and_parts _ _ one.1 in
    let three = and_parts _ _ two.1 in
    (no_ahead s.ahead one.0, eqb-true s.waits 0 two.0, eqb-true d.at (length s.met) three.0, two.1)

left_begins : (d : Departure) (s : Standing) (m : Met) → parts d s s.ahead m.offer ≡ true → Bounded s → Left d s.kept m (noted s m)
left_begins d s m h b =
    let here = begun_here d s m.offer h in
    subst (λ (t : Standing). Left d s.kept m t) (sym (ap (λ g. noted_if g (begins s m.offer) s m) (none_goes s m.offer here.1) ∙ ap (λ b. noted_if false b s m) (none_begins s s.ahead m.offer here.0)))
    (record {
      ahead = here.0;
      waits = here.1;
      there = ap (slice_get (s.met ++ m ∷ [])) here.2 ∙ get_last s.met m;
      is = ap (λ n. is_at n m.offer d) here.2 ∙ here.3;
      early = (let at = here.2 in omega (arith, b, at));
      kept = refl;
    })

pub begins_now : (d : Departure) (s : Standing) (ahead : List Departure) (x : Offer) → ahead ≡ [] → s.waits ≡ 0 → is_at (length s.met) x d ≡ true → begins (record s { ahead = ahead ++ d ∷ [] }) x ≡ true
begins_now d s [] x a w i = ap (λ n. (n == 0) && is_at (length s.met) x d) w ∙ i
begins_now d s (e ∷ es) x a w i = absurd cc

right_begins : (d : Departure) (s : Standing) (m : Met) → parts d s s.ahead m.offer ≡ true → Right d s.kept m (noted (longer d s) m)
right_begins d s m h =
    let here = begun_here d s m.offer h in
    subst (λ (t : Standing). Right d s.kept m t) (sym (ap (λ g. noted_if g (begins (longer d s) m.offer) (longer d s) m) (none_goes s m.offer here.1) ∙ ap (λ b. noted_if false b (longer d s) m) (begins_now d s s.ahead m.offer here.0 here.1 here.3)))
    (record {
      ahead = ap (λ (l : List Departure). drop 1 (l ++ d ∷ [])) here.0;
      there = ap (slice_get (s.met ++ m ∷ [])) here.2 ∙ get_last s.met m;
      kept = λ k. k;
      one = λ t. (ap (λ (l : List Departure). turns_of (slice_get (l ++ d ∷ []) 0) - 1) here.0 ∙ ap (λ n. n - 1) t, refl);
    })

-- ---- along runs

-- the two go together
abbrev pub Together : Departure → Standing → Standing → Type 0
Together d s t = (t ≡ longer d s) × Bounded s × NotYet d s

-- or they have parted, at an offer that both have met
abbrev pub Parted : Departure → Standing → Standing → Type 0
Parted d s t = (k : Bool) × (m : Met) × Left d k m s × Right d k m t

first_lasts : (d : Departure) (t s : Standing) (m : Met) → Parted d s t → Parted d (noted s m) t
first_lasts d t s m g = (g.0, g.1, left_lasts d g.0 g.1 s m g.2, g.3)

second_lasts : (d : Departure) (s t : Standing) (m : Met) → Parted d s t → Parted d s (noted t m)
second_lasts d s t m g = (g.0, g.1, g.2, right_lasts d g.0 g.1 t m g.3)

one_step : (d : Departure) (s t : Standing) (m : Met) → Together d s t → ((passes t m.offer ≡ passes s m.offer) × Together d (noted s m) (noted t m)) ⊎ Parted d (noted s m) (noted t m)
one_step d s t m h =
    subst (λ (u : Standing). ((passes u m.offer ≡ passes s m.offer) × Together d (noted s m) (noted u m)) ⊎ Parted d (noted s m) (noted u m)) (sym h.0)
    (elim (cases_Bool (parts d s s.ahead m.offer)) [
      | inl here ↦ inr (s.kept, m, left_begins d s m here h.1, right_begins d s m here)
      | inr on ↦ inl (passes_longer d s m.offer on, (noted_longer d s m on, bounded s m h.1, not_yet d s m on h.2))
    ])

-- A RUN BY ONE DEPARTURE MORE
pub longer_run : (t : Setting) (ds : List Departure) (d : Departure) → Together d (end_of t ds) (end_of t (departed_by ds d)) ⊎ Parted d (end_of t ds) (end_of t (departed_by ds d))
unfolding run_of_schedule
longer_run t ds d =
    elim (goes_turns (Together d) (Parted d) (first_lasts d) (second_lasts d) (one_step d) t.turns (from_boot t ds) (from_boot t (departed_by ds d)).standing (refl, omega arith, λ m there is early a w. cc)) [
      | inl on ↦ inl on.1
      | inr apart ↦ inr apart
    ]
