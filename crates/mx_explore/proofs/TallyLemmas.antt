-- One schedule more in a tally.
use Rattle.std.proofs.Common.{◌≡◌, ◌∙◌, ◌<◌, ◌≤◌, ◌+◌, ◌-◌, ◌^◌, ◌++◌, ℕ, suc, Bool, true, false, List, [], ◌∷◌, get_or, map, min, nat_lt, not, length, length-append, set, cond, Option, Some, None, inl, inr, refl, ap, sym, subst, arith, true≢false}
use Rattle.std.specs.Prelude.{All, Contains, position}
use Rattle.std.specs.List.{IsDistinct, AllByRecursion, position_or_len}
use Rattle.std.specs.List.Sorted.{IsPermutation}
use Rattle.std.specs.Str.{bytes_eq}
use Rattle.std.proofs.lemmas.Bool.{cases_Bool, ltb-false, ltb-true}
use Rattle.std.proofs.lemmas.List.{append-nil}
use Rattle.std.proofs.lemmas.List.Elements.{All-append, All-cons, All-contains, All-from_recursion, All-map, All-nil, All-weaker, Contains-append_cases, Contains-append_left, Contains-append_right, filter-append, recursion_from_All}
use Rattle.std.proofs.lemmas.List.Sorted.{All-permutation, Contains-permutation, IsPermutation-map}
use Rattle.std.proofs.lemmas.Map.Keys.{IsDistinct-IsPermutation}
use Rattle.std.proofs.lemmas.Slice.Eq.{bytes_eq-Decides}
use Rattle.std.specs.Cmp.{both_ways}
use Rattle.mx_explore.specs.declared.outcomes.Outcome.{Outcome}
use Rattle.mx_explore.specs.declared.outcomes.Tally.{Tally}
use Rattle.mx_explore.specs.Outcomes.{AreOutcomes, Found, IsCounted, IsOutcomeOf, Tallied, count_of, first_of, is_before, leading_to, tallied, texts}
use Rattle.mx_explore.proofs.OrderLemmas.{not_before, ranked}

-- an outcome with one schedule more, and the outcomes with it
abbrev pub joined : Tallied → Found → Tallied
joined o f = record { count = min (o.count + 1) (2 ^ 64 - 1); first = cond (is_before f o.first) f o.first }

abbrev pub added : Found → List Tallied → List Tallied
added f [] = (record { count = 1; first = f }) ∷ []
added f (o ∷ os) = cond (bytes_eq o.first.text f.text) (joined o f ∷ os) (o ∷ added f os)

-- ---- texts

same_text : (s t : List ℕ) → bytes_eq s t ≡ true → s ≡ t
same_text s t h = (bytes_eq-Decides s t).0 h

itself : (t : List ℕ) → bytes_eq t t ≡ true
itself t = (bytes_eq-Decides t t).1 refl

other_way : (s t : List ℕ) → bytes_eq s t ≡ false → bytes_eq t s ≡ false
other_way s t h = elim (cases_Bool (bytes_eq t s)) [
  | inl e ↦ absurd (true≢false (sym (itself t) ∙ ap (λ x. bytes_eq x t) (same_text t s e) ∙ h))
  | inr e ↦ e
]

-- an outcome with a schedule more has its text
text_kept : (o : Tallied) (f : Found) → o.first.text ≡ f.text → (joined o f).first.text ≡ o.first.text
text_kept o f e = by (is_before f o.first)
  where
    by : (b : Bool) → (cond b f o.first).text ≡ o.first.text
    by true = sym e
    by false = refl

-- ---- schedules that lead to a text

leading_more : (t : List ℕ) (fs : List Found) (f : Found) (b : Bool) → bytes_eq f.text t ≡ b → leading_to t (fs ++ f ∷ []) ≡ leading_to t fs ++ cond b (f ∷ []) []
leading_more t fs f b h = filter-append (λ (g : Found). bytes_eq g.text t) fs (f ∷ []) ∙ ap (λ x. leading_to t fs ++ cond x (f ∷ []) []) h

counted_more : (gs : List Found) (f : Found) (n : ℕ) → n ≡ count_of gs → min (n + 1) (2 ^ 64 - 1) ≡ count_of (gs ++ f ∷ [])
counted_more gs f n h =
    let many : length (gs ++ f ∷ []) ≡ length gs + 1 = length-append gs (f ∷ []) in
    omega (arith, h, many)

-- ---- one outcome

module _ (fs : List Found) (f : Found) where
  kept_outcome : (o : Tallied) → bytes_eq f.text o.first.text ≡ false → IsOutcomeOf fs o → IsOutcomeOf (fs ++ f ∷ []) o
  kept_outcome o apart h =
      let same : leading_to o.first.text (fs ++ f ∷ []) ≡ leading_to o.first.text fs = leading_more o.first.text fs f false apart ∙ append-nil (leading_to o.first.text fs) in
      record {
        count = h.count ∙ ap count_of (sym same);
        among = Contains-append_left fs (f ∷ []) o.first h.among;
        first = subst (All (λ (g : Found). is_before g o.first ≡ false)) (sym same) h.first;
      }

  -- none that wasn't before the first is before one that is
  none_before : (o : Tallied) (g : Found) (b : Bool) → is_before f o.first ≡ b → is_before g o.first ≡ false → is_before g (cond b f o.first) ≡ false
  none_before o g false e h = h
  none_before o g true e h = ranked.chain g o.first f h (ranked.one_way f o.first e)

  itself_not : (o : Tallied) (b : Bool) → is_before f o.first ≡ b → is_before f (cond b f o.first) ≡ false
  itself_not o true e = not_before f
  itself_not o false e = e

  among_all : (o : Tallied) (b : Bool) → Contains fs o.first → Contains (fs ++ f ∷ []) (cond b f o.first)
  among_all o true h = Contains-append_right fs (f ∷ []) f (0, omega arith, refl)
  among_all o false h = Contains-append_left fs (f ∷ []) o.first h

  joined_outcome : (o : Tallied) → o.first.text ≡ f.text → IsOutcomeOf fs o → IsOutcomeOf (fs ++ f ∷ []) (joined o f)
  joined_outcome o e h =
      let text : (joined o f).first.text ≡ o.first.text = text_kept o f e in
      let is : bytes_eq f.text o.first.text ≡ true = ap (bytes_eq f.text) e ∙ itself f.text in
      let more : leading_to (joined o f).first.text (fs ++ f ∷ []) ≡ leading_to o.first.text fs ++ f ∷ [] = ap (λ t. leading_to t (fs ++ f ∷ [])) text ∙ leading_more o.first.text fs f true is in
      record {
        count = counted_more (leading_to o.first.text fs) f o.count h.count ∙ ap count_of (sym more);
        among = among_all o (is_before f o.first) h.among;
        first = subst (All (λ (g : Found). is_before g (joined o f).first ≡ false)) (sym more)
            (All-append (λ (g : Found). is_before g (joined o f).first ≡ false) (leading_to o.first.text fs) (f ∷ [])
            (All-weaker (λ (g : Found). is_before g o.first ≡ false) (λ (g : Found). is_before g (joined o f).first ≡ false) (λ g n. none_before o g (is_before f o.first) refl n) (leading_to o.first.text fs) h.first)
            (All-cons (λ (g : Found). is_before g (joined o f).first ≡ false) f [] (itself_not o (is_before f o.first) refl) (All-nil (λ (g : Found). is_before g (joined o f).first ≡ false))));
      }

  new_outcome : leading_to f.text fs ≡ [] → IsOutcomeOf (fs ++ f ∷ []) (record { count = 1; first = f })
  new_outcome none =
      let more : leading_to f.text (fs ++ f ∷ []) ≡ f ∷ [] = leading_more f.text fs f true (itself f.text) ∙ ap (λ l. l ++ f ∷ []) none in
      record {
        count = (let z : 1 ≡ count_of (f ∷ []) = omega arith in z) ∙ ap count_of (sym more);
        among = Contains-append_right fs (f ∷ []) f (0, omega arith, refl);
        first = subst (All (λ (g : Found). is_before g f ≡ false)) (sym more) (All-cons (λ (g : Found). is_before g f ≡ false) f [] (not_before f) (All-nil (λ (g : Found). is_before g f ≡ false)));
      }

  -- ---- all of them

  -- none of these outcomes has the text
  abbrev Lacks : List Tallied → Type 0
  Lacks os = AllByRecursion (λ (o : Tallied). bytes_eq o.first.text f.text ≡ false) os

  -- the others of a list of distinct texts aren't those of its first
  others_kept : (t : List ℕ) → t ≡ f.text → (os : List Tallied) → AllByRecursion (λ y. bytes_eq t y ≡ false) (texts os) → AllByRecursion (IsOutcomeOf fs) os → AllByRecursion (IsOutcomeOf (fs ++ f ∷ [])) os
  others_kept t e [] apart h = tt
  others_kept t e (o ∷ os) apart h = (kept_outcome o (ap (λ x. bytes_eq x o.first.text) (sym e) ∙ apart.0) h.0, others_kept t e os apart.1 h.1)

  outcomes_added : (os : List Tallied) → AllByRecursion (IsOutcomeOf fs) os → IsDistinct bytes_eq (texts os) → (Lacks os → leading_to f.text fs ≡ []) → AllByRecursion (IsOutcomeOf (fs ++ f ∷ [])) (added f os)
  unfolding IsDistinct
  outcomes_added [] h once new = (new_outcome (new tt), tt)
  outcomes_added (o ∷ os) h once new = by (outcomes_added os h.1 once.1) (bytes_eq o.first.text f.text) refl
    where
      by : ((Lacks os → leading_to f.text fs ≡ []) → AllByRecursion (IsOutcomeOf (fs ++ f ∷ [])) (added f os)) → (b : Bool) → bytes_eq o.first.text f.text ≡ b → AllByRecursion (IsOutcomeOf (fs ++ f ∷ [])) (cond b (joined o f ∷ os) (o ∷ added f os))
      by others true e = (joined_outcome o (same_text o.first.text f.text e) h.0, others_kept o.first.text (same_text o.first.text f.text e) os once.0 h.1)
      by others false e = (kept_outcome o (other_way o.first.text f.text e) h.0, others (λ lacks. new (e, lacks)))

  -- texts stay, and the schedule's is there
  text_stays : (t : List ℕ) (os : List Tallied) → Contains (texts os) t → Contains (texts (added f os)) t
  text_stays t [] h = Contains-append_left [] (f.text ∷ []) t h
  text_stays t (o ∷ os) h = by (text_stays t os) (bytes_eq o.first.text f.text) refl
    where
      by : (Contains (texts os) t → Contains (texts (added f os)) t) → (b : Bool) → bytes_eq o.first.text f.text ≡ b → Contains (texts (cond b (joined o f ∷ os) (o ∷ added f os))) t
      by others true e = subst (λ x. Contains (x ∷ texts os) t) (sym (text_kept o f (same_text o.first.text f.text e))) h
      by others false e = elim (Contains-append_cases (o.first.text ∷ []) (texts os) t h) [
        | inl one ↦ Contains-append_left (o.first.text ∷ []) (texts (added f os)) t one
        | inr rest ↦ Contains-append_right (o.first.text ∷ []) (texts (added f os)) t (others rest)
      ]

  text_there : (os : List Tallied) → Contains (texts (added f os)) f.text
  text_there [] = (0, omega arith, refl)
  text_there (o ∷ os) = by (text_there os) (bytes_eq o.first.text f.text) refl
    where
      by : Contains (texts (added f os)) f.text → (b : Bool) → bytes_eq o.first.text f.text ≡ b → Contains (texts (cond b (joined o f ∷ os) (o ∷ added f os))) f.text
      by there true e = subst (λ x. Contains (x ∷ texts os) f.text) (sym (text_kept o f (same_text o.first.text f.text e) ∙ same_text o.first.text f.text e)) (0, omega arith, refl)
      by there false e = Contains-append_right (o.first.text ∷ []) (texts (added f os)) f.text there

  still_apart : (t : List ℕ) (os : List Tallied) → bytes_eq t f.text ≡ false → AllByRecursion (λ y. bytes_eq t y ≡ false) (texts os) → AllByRecursion (λ y. bytes_eq t y ≡ false) (texts (added f os))
  still_apart t [] e h = (e, tt)
  still_apart t (o ∷ os) e h = by (still_apart t os e h.1) (bytes_eq o.first.text f.text) refl
    where
      by : AllByRecursion (λ y. bytes_eq t y ≡ false) (texts (added f os)) → (b : Bool) → bytes_eq o.first.text f.text ≡ b → AllByRecursion (λ y. bytes_eq t y ≡ false) (texts (cond b (joined o f ∷ os) (o ∷ added f os)))
      by others true i = (ap (bytes_eq t) (text_kept o f (same_text o.first.text f.text i)) ∙ h.0, h.1)
      by others false i = (h.0, others)

  once_added : (os : List Tallied) → IsDistinct bytes_eq (texts os) → IsDistinct bytes_eq (texts (added f os))
  unfolding IsDistinct
  once_added [] h = (tt, tt)
  once_added (o ∷ os) h = by (once_added os h.1) (bytes_eq o.first.text f.text) refl
    where
      by : IsDistinct bytes_eq (texts (added f os)) → (b : Bool) → bytes_eq o.first.text f.text ≡ b → IsDistinct bytes_eq (texts (cond b (joined o f ∷ os) (o ∷ added f os)))
      by others true e = subst (λ x. IsDistinct bytes_eq (x ∷ texts os)) (sym (text_kept o f (same_text o.first.text f.text e))) h
      by others false e = (still_apart o.first.text os e h.0, others)

  -- no schedule leads to a text that no outcome has
  none_leads : (gs : List Found) (os : List Tallied) → AllByRecursion (λ (g : Found). Contains (texts os) g.text) gs → Lacks os → leading_to f.text gs ≡ []
  none_leads [] os h lacks = refl
  none_leads (g ∷ gs) os h lacks =
      let apart : bytes_eq g.text f.text ≡ false = All-contains (λ t. bytes_eq t f.text ≡ false) (texts os) g.text (All-map (λ t. bytes_eq t f.text ≡ false) (λ (o : Tallied). o.first.text) os (All-from_recursion (λ (o : Tallied). bytes_eq o.first.text f.text ≡ false) os lacks)) h.0 in
      ap (λ b. cond b (g ∷ leading_to f.text gs) (leading_to f.text gs)) apart ∙ none_leads gs os h.1 lacks

  -- ONE SCHEDULE MORE
  schedule_added : (os : List Tallied) → AreOutcomes fs os → AreOutcomes (fs ++ f ∷ []) (added f os)
  schedule_added os h =
      let every = recursion_from_All (λ (g : Found). Contains (texts os) g.text) fs h.every in
      record {
        outcomes = All-from_recursion (IsOutcomeOf (fs ++ f ∷ [])) (added f os) (outcomes_added os (recursion_from_All (IsOutcomeOf fs) os h.outcomes) h.once (none_leads fs os every));
        every = All-append (λ (g : Found). Contains (texts (added f os)) g.text) fs (f ∷ [])
            (All-weaker (λ (g : Found). Contains (texts os) g.text) (λ (g : Found). Contains (texts (added f os)) g.text) (λ g c. text_stays g.text os c) fs h.every)
            (All-cons (λ (g : Found). Contains (texts (added f os)) g.text) f [] (text_there os) (All-nil (λ (g : Found). Contains (texts (added f os)) g.text)));
        once = once_added os h.once;
      }

-- ---- the outcomes of a tally

-- the place of the outcome with the schedule's text
abbrev place_in : Found → List Outcome → ℕ
place_in f os = position_or_len (λ (o : Outcome). bytes_eq o.text.items f.text) os

-- that outcome is joined
set_added : (os : List Outcome) (o p : Outcome) (f : Found) → place_in f os < length os → o ≡ get_or os (place_in f os) o → tallied p ≡ joined (tallied o) f
    → map tallied (set os (place_in f os) p) ≡ added f (map tallied os)
set_added [] o p f lt is e = absurd (let none : 0 < 0 = lt in omega (arith, none))
set_added (x ∷ os) o p f lt is e = by (set_added os o p f) (bytes_eq x.text.items f.text) lt is
  where
    by : (place_in f os < length os → o ≡ get_or os (place_in f os) o → tallied p ≡ joined (tallied o) f → map tallied (set os (place_in f os) p) ≡ added f (map tallied os)) → (b : Bool) → (let n = cond (not b) (1 + place_in f os) 0 in
        n < length (x ∷ os) → o ≡ get_or (x ∷ os) n o → map tallied (set (x ∷ os) n p) ≡ cond b (joined (tallied x) f ∷ map tallied os) (tallied x ∷ added f (map tallied os)))
    by others true lt is = ap (λ (y : Tallied). y ∷ map tallied os) (e ∙ ap (λ (y : Outcome). joined (tallied y) f) is)
    by others false lt is =
        let k = place_in f os in
        let next : 1 + k ≡ suc k = omega arith in
        let low : 1 + k < suc (length os) = lt in
        let has : o ≡ get_or os k o = is ∙ ap (λ n. get_or (x ∷ os) n o) next in
        ap (λ n. map tallied (set (x ∷ os) n p)) next ∙ ap (λ (l : List Tallied). tallied x ∷ l) (others (omega (arith, low)) has e)

-- or it is a new one
push_added : (os : List Outcome) (o : Outcome) (f : Found) → length os ≤ place_in f os → tallied o ≡ record { count = 1; first = f } → map tallied (os ++ o ∷ []) ≡ added f (map tallied os)
push_added [] o f le e = ap (λ (y : Tallied). y ∷ []) e
push_added (x ∷ os) o f le e = by (push_added os o f) (bytes_eq x.text.items f.text) le
  where
    by : (length os ≤ place_in f os → tallied o ≡ record { count = 1; first = f } → map tallied (os ++ o ∷ []) ≡ added f (map tallied os)) → (b : Bool) → length (x ∷ os) ≤ cond (not b) (1 + place_in f os) 0
        → tallied x ∷ map tallied (os ++ o ∷ []) ≡ cond b (joined (tallied x) f ∷ map tallied os) (tallied x ∷ added f (map tallied os))
    by others true le = absurd (let none : suc (length os) ≤ 0 = le in omega (arith, none))
    by others false le = let low : suc (length os) ≤ 1 + place_in f os = le in ap (λ (l : List Tallied). tallied x ∷ l) (others (omega (arith, low)) e)

some_place : (n len k : ℕ) (b : Bool) → nat_lt n len ≡ b → cond b (let z : Option ℕ = Some n in z) None ≡ Some k → (n ≡ k) × (n < len)
some_place n len k true e h = (cc, ltb-true n len e)
some_place n len k false e h = absurd cc

no_place : (n len : ℕ) (b : Bool) → nat_lt n len ≡ b → cond b (let z : Option ℕ = Some n in z) None ≡ None → len ≤ n
no_place n len true e h = absurd cc
no_place n len false e h = ltb-false n len e

-- an outcome of one schedule
one_tallied : (x : Outcome) → x.count ≡ 1 → tallied x ≡ record { count = 1; first = first_of x }
one_tallied x one = ap (λ n. let z : Tallied = record { count = n; first = first_of x } in z) one

-- ONE SCHEDULE MORE, of an outcome that is there
pub joins : (fs : List Found) (os : List Outcome) (o p x : Outcome) (place : ℕ) → position (λ (y : Outcome). bytes_eq y.text.items x.text.items) os ≡ Some place → o ≡ get_or os place o → x.count ≡ 1
    → p.count ≡ min (o.count + x.count) (2 ^ 64 - 1) → first_of p ≡ cond (is_before (first_of x) (first_of o)) (first_of x) (first_of o)
    → AreOutcomes fs (map tallied os) → AreOutcomes (fs ++ first_of x ∷ []) (map tallied (set os place p))
joins fs os o p x place at is one count first are =
    let found = some_place (place_in (first_of x) os) (length os) place (nat_lt (place_in (first_of x) os) (length os)) refl at in
    let both : tallied p ≡ joined (tallied o) (first_of x) =
    ap (λ n. let z : Tallied = record { count = n; first = first_of p } in z) (count ∙ ap (λ n. min (o.count + n) (2 ^ 64 - 1)) one)
    ∙ ap (λ (f : Found). let z : Tallied = record { count = min (o.count + 1) (2 ^ 64 - 1); first = f } in z) first in
    subst (AreOutcomes (fs ++ first_of x ∷ []))
    (sym (ap (λ n. map tallied (set os n p)) (sym found.0) ∙ set_added os o p (first_of x) found.1 (is ∙ ap (λ n. get_or os n o) (sym found.0)) both))
    (schedule_added fs (first_of x) (map tallied os) are)

-- or of a new one
pub begins : (fs : List Found) (os : List Outcome) (x : Outcome) → position (λ (y : Outcome). bytes_eq y.text.items x.text.items) os ≡ None → x.count ≡ 1
    → AreOutcomes fs (map tallied os) → AreOutcomes (fs ++ first_of x ∷ []) (map tallied (os ++ x ∷ []))
begins fs os x at one are =
    let none = no_place (place_in (first_of x) os) (length os) (nat_lt (place_in (first_of x) os) (length os)) refl at in
    subst (AreOutcomes (fs ++ first_of x ∷ [])) (sym (push_added os x (first_of x) none (one_tallied x one))) (schedule_added fs (first_of x) (map tallied os) are)

-- ---- another order

flips : (s t : List ℕ) → bytes_eq s t ≡ bytes_eq t s
flips s t = both_ways (bytes_eq s t) (bytes_eq t s) (λ h. flipped s t h) (λ h. flipped t s h)
  where
    flipped : (s t : List ℕ) → bytes_eq s t ≡ true → bytes_eq t s ≡ true
    flipped s t h = (bytes_eq-Decides t s).1 (sym (same_text s t h))

pub reordered : (fs : List Found) (os ps : List Tallied) → IsPermutation os ps → AreOutcomes fs os → AreOutcomes fs ps
reordered fs os ps h are =
    let same : IsPermutation (texts os) (texts ps) = IsPermutation-map (λ (o : Tallied). o.first.text) os ps h in
    record {
      outcomes = All-permutation (IsOutcomeOf fs) os ps h are.outcomes;
      every = All-weaker (λ (f : Found). Contains (texts os) f.text) (λ (f : Found). Contains (texts ps) f.text) (λ f there. Contains-permutation (texts os) (texts ps) f.text same there) fs are.every;
      once = IsDistinct-IsPermutation bytes_eq flips (texts os) (texts ps) same are.once;
    }

-- ---- schedules that are counted

none_known : AreOutcomes [] []
unfolding IsDistinct
none_known = record { outcomes = All-nil (IsOutcomeOf []); every = All-nil (λ (f : Found). Contains (texts []) f.text); once = tt }

-- none
pub nothing_counted : (t : Tally) → t.schedules ≡ 0 → t.outcomes.items ≡ [] → IsCounted [] t
nothing_counted t none e = record { schedules = omega (arith, none); outcomes = subst (λ (os : List Outcome). AreOutcomes [] (map tallied os)) (sym e) none_known }

-- and one more
pub one_more : (fs : List Found) (f : Found) (a b : Tally) → b.schedules ≡ min (a.schedules + 1) (2 ^ 64 - 1) → (AreOutcomes fs (map tallied a.outcomes.items) → AreOutcomes (fs ++ f ∷ []) (map tallied b.outcomes.items)) → IsCounted fs a → IsCounted (fs ++ f ∷ []) b
one_more fs f a b more outcomes h = record { schedules = more ∙ counted_more fs f a.schedules h.schedules; outcomes = outcomes h.outcomes }
