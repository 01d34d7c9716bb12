-- What an explorer has counted, and what was shown of it.
use Rattle.std.proofs.Common.{◌≡◌, ◌∙◌, ◌<◌, ◌≤◌, ◌+◌, ◌-◌, ◌^◌, ◌&&◌, ◌++◌, ℕ, zero, suc, Bool, true, false, List, [], ◌∷◌, map, take, drop, length, length-append, cond, append_assoc, min, Option, Some, Result, Ok, Err, refl, ap, sym, subst, arith}
use Rattle.std.specs.Prelude.{IfOk, IsErrAnd, filter, slice_get}
use Rattle.std.specs.List.{flat_map, range_with_len}
use Rattle.std.proofs.lemmas.Grind.{flat_map-append}
use Rattle.std.proofs.lemmas.List.{append-nil, length-drop, map-append, take_at}
use Rattle.std.proofs.lemmas.List.Elements.{filter-append}
use Rattle.mx_machine.specs.History.{BootAndHistory}
use Rattle.mx_machine.specs.Machine.{MachineState, world_of}
use Rattle.mx_machine.specs.Service.{Service}
use Rattle.mx_machine.specs.World.{World}
use Rattle.mx_turns.specs.declared.turns.Ending.{Ending}
use Rattle.mx_turns.proofs.OfferLemmas.{range_more}
use Rattle.mx_walk.specs.declared.progress.Part.{Part as Parts}
use Rattle.mx_explore.specs.declared.exploring.Explorer.{Explorer}
use Rattle.mx_explore.specs.declared.exploring.Terms.{Terms}
use Rattle.mx_explore.specs.declared.outcomes.Outcome.{Outcome}
use Rattle.mx_explore.specs.declared.outcomes.Tally.{Tally}
use Rattle.mx_explore.specs.declared.passing.Departure.{Departure}
use Rattle.mx_explore.specs.declared.passing.Met.{Met}
use Rattle.mx_explore.specs.declared.passing.Ran.{Ran}
use Rattle.mx_explore.specs.Exploring.{HasCounted, IsAtBoot, IsSame, ShowsCounts, part_of, setting}
use Rattle.mx_explore.specs.Offers.{is_outside}
use Rattle.mx_explore.specs.Outcomes.{Found, IsCounted, IsTally, first_of, found_by, outcome_text}
use Rattle.mx_explore.specs.Passages.{HasRoom, IsRun}
use Rattle.mx_explore.specs.Passing.{Setting, Standing, end_of, from_boot, run_of_schedule}
use Rattle.mx_explore.specs.Schedules.{IsExplored, Part, is_in_part}
use Rattle.mx_explore.specs.Tree.{below, can_wait, departed, departing, is_of_outside, itself, waits_on}
use Rattle.mx_explore.proofs.AlongLemmas.{turns_last}
use Rattle.mx_explore.proofs.FollowLemmas.{Bounded, bounded}
use Rattle.mx_explore.proofs.RunLemmas.{run_boot}
use Rattle.mx_explore.proofs.TreeLemmas.{all_schedules}

-- the schedules of an explorer
abbrev pub here : Explorer → Setting
here a = setting a.terms a.boot

-- nothing is counted
pub none_counted : (a b : Explorer) → a.tally ≡ b.tally → HasCounted a [] b
none_counted a b e fs h = subst (λ (gs : List Found). IsCounted gs b.tally) (sym (append-nil fs)) (subst (IsCounted fs) e h)

same_setting : (a b : Explorer) → IsSame a b → setting b.terms b.boot ≡ setting a.terms a.boot
same_setting a b h = ap (λ (t : Terms). setting t b.boot) h.terms ∙ ap (λ (m : MachineState). setting a.terms m) h.boot

-- some are counted, and then others
pub then_counted : (a b c : Explorer) (xs ys : List (List Departure)) → IsSame a b → HasCounted a xs b → HasCounted b ys c → HasCounted a (xs ++ ys) c
then_counted a b c xs ys same first second fs h =
    let f : List Departure → Found = found_by (setting a.terms a.boot) in
    let one = second (fs ++ map f xs) (first fs h) in
    let two : IsCounted ((fs ++ map f xs) ++ map f ys) c.tally = subst (λ (t : Setting). IsCounted ((fs ++ map f xs) ++ map (found_by t) ys) c.tally) (same_setting a b same) one in
    subst (λ (gs : List Found). IsCounted gs c.tally) (append_assoc fs (map f xs) (map f ys) ∙ ap (λ (gs : List Found). fs ++ gs) (sym (map-append f xs ys))) two

pub same_then : (a b c : Explorer) → IsSame a b → IsSame b c → IsSame a c
same_then a b c h g = record { terms = g.terms ∙ h.terms; boot = g.boot ∙ h.boot; departures = g.departures ∙ h.departures }

pub same_itself : (a : Explorer) → IsSame a a
same_itself a = record { terms = refl; boot = refl; departures = refl }

-- ---- one schedule

-- its outcome
pub outcome_found : (t : Setting) (ds : List Departure) (r : Ran) (o : Outcome) → IsRun t ds r
    → first_of o ≡ record { text = outcome_text (world_of r.machine) r.ending; departures = ds; records = (world_of r.machine).records } → first_of o ≡ found_by t ds
outcome_found t ds r o ran e =
    e ∙ ap (λ (w : World). let f : Found = record { text = outcome_text w r.ending; departures = ds; records = w.records } in f) ran.world
    ∙ ap (λ (x : Ending). let f : Found = record { text = outcome_text (run_of_schedule t ds).0.world x; departures = ds; records = (run_of_schedule t ds).0.world.records } in f) ran.ending

-- it is counted
pub one_counted : (a b : Explorer) (r : Ran) (o : Outcome) (ds : List Departure) → IsRun (here a) a.departures.items r → ds ≡ a.departures.items
    → first_of o ≡ record { text = outcome_text (world_of r.machine) r.ending; departures = ds; records = (world_of r.machine).records }
    → ((fs : List Found) → IsCounted fs a.tally → IsCounted (fs ++ first_of o ∷ []) b.tally) → is_in_part (part_of a.terms) a.departures.items ≡ true
    → HasCounted a (itself (part_of a.terms) a.departures.items) b
one_counted a b r o ds ran same e more is fs h =
    subst (λ (dss : List (List Departure)). IsCounted (fs ++ map (found_by (here a)) dss) b.tally) (ap (λ c. cond c (a.departures.items ∷ []) []) (sym is))
    (subst (λ (f : Found). IsCounted (fs ++ f ∷ []) b.tally) (outcome_found (here a) a.departures.items r o ran
    (subst (λ (es : List Departure). first_of o ≡ record { text = outcome_text (world_of r.machine) r.ending; departures = es; records = (world_of r.machine).records }) same e)) (more fs h))

-- or it isn't in the part
pub other_part : (a b : Explorer) → a.tally ≡ b.tally → is_in_part (part_of a.terms) a.departures.items ≡ false → HasCounted a (itself (part_of a.terms) a.departures.items) b
other_part a b e not_in = subst (λ (dss : List (List Departure)). HasCounted a dss b) (ap (λ c. cond c (a.departures.items ∷ []) []) (sym not_in)) (none_counted a b e)

-- its machine is the one at boot, so it may run
pub boots : (m n : MachineState) (services : List Service) → n ≡ m → IsAtBoot m services → (n.kernel ≡ record { boot = world_of n; history = [] }) × HasRoom n
boots m n services e h = subst (λ (x : MachineState). (x.kernel ≡ record { boot = world_of x; history = [] }) × HasRoom x) (sym e) (h.kernel, h.room)

-- and its run is that of the schedule
pub ran_from : (a : Explorer) (m : MachineState) (r : Ran) (ds : List Departure) → m ≡ a.boot → ds ≡ a.departures.items → IsRun (setting a.terms m) ds r → IsRun (here a) a.departures.items r
ran_from a m r ds e same h = subst (λ (x : MachineState). IsRun (setting a.terms x) a.departures.items r) e (subst (λ (es : List Departure). IsRun (setting a.terms m) es r) same h)

-- the services come back from its machine
pub services_back : (t : Setting) (ds : List Departure) (m : MachineState) (services : List Service) (r : Ran) → IsAtBoot m services → t.boot ≡ world_of m → IsRun t ds r → r.machine.kernel.boot.services ≡ services
services_back t ds m services r start boot ran =
    ap (λ (k : BootAndHistory). k.boot.services) ran.kernel ∙ ap (λ (w : World). w.services) (run_boot t ds ∙ boot)
    ∙ sym (start.services ∙ ap (λ (k : BootAndHistory). k.boot.services) start.kernel)

-- ---- the offers at which a schedule departs next

one_more : (a n at : ℕ) → a + n ≡ at → range_with_len a (n + 1) ≡ range_with_len a n ++ at ∷ []
one_more a n at e = range_more a n ∙ ap (λ k. range_with_len a n ++ k ∷ []) e

module _ (p : Part) (t : Setting) (k : ℕ) (ds : List Departure) where
  abbrev asked : ℕ → Bool
  asked at = is_in_part p (departed ds at 1)

  abbrev deeper : ℕ → List (List Departure)
  deeper at = departing (below p t k) t ds at 1 t.turns

  -- what comes of the first n
  abbrev pub tried : ℕ → List (List Departure)
  tried n = itself p ds ++ flat_map deeper (filter asked (range_with_len (end_of t ds).after n))

  pub tried_none : tried 0 ≡ itself p ds
  tried_none = append-nil (itself p ds)

  pub tried_all : (n : ℕ) → n ≡ length (end_of t ds).met - (end_of t ds).after → tried n ≡ below p t (suc k) ds
  tried_all n e = ap tried e

  -- one more
  tried_next : (n at : ℕ) (b : Bool) → (end_of t ds).after + n ≡ at → asked at ≡ b → tried (n + 1) ≡ tried n ++ cond b (deeper at) []
  tried_next n at b e is =
      ap (λ (l : List ℕ). itself p ds ++ flat_map deeper (filter asked l)) (one_more (end_of t ds).after n at e)
      ∙ ap (λ (l : List ℕ). itself p ds ++ flat_map deeper l) (filter-append asked front (at ∷ []))
      ∙ ap (λ (l : List (List Departure)). itself p ds ++ l) (flat_map-append deeper (filter asked front) (filter asked (at ∷ [])))
      ∙ sym (append_assoc (itself p ds) (flat_map deeper (filter asked front)) (flat_map deeper (filter asked (at ∷ []))))
      ∙ ap (λ (l : List (List Departure)). tried n ++ l) (ap (λ c. flat_map deeper (cond c (at ∷ []) [])) is ∙ single b)
    where
      front : List ℕ
      front = range_with_len (end_of t ds).after n

      single : (c : Bool) → flat_map deeper (cond c (at ∷ []) []) ≡ cond c (deeper at) []
      single true = append-nil (deeper at)
      single false = refl

  pub tried_asked : (n at : ℕ) → (end_of t ds).after + n ≡ at → asked at ≡ true → tried (n + 1) ≡ tried n ++ deeper at
  tried_asked n at e is = tried_next n at true e is

  pub tried_unasked : (n at : ℕ) → (end_of t ds).after + n ≡ at → asked at ≡ false → tried (n + 1) ≡ tried n
  tried_unasked n at e not_asked = tried_next n at false e not_asked ∙ append-nil (tried n)

-- ---- for how many turns it departs there

module _ (f : List Departure → List (List Departure)) (t : Setting) (ds : List Departure) (at : ℕ) where
  -- these were run, for the first n turns, and the rest is for more
  abbrev pub IsDeparted : ℕ → ℕ → List (List Departure) → Type 0
  IsDeparted bound n dss = departing f t ds at 1 bound ≡ dss ++ departing f t ds at (n + 1) (bound - n)

  abbrev waits : ℕ → Bool
  waits turns = can_wait (end_of t (departed ds at turns)) && is_of_outside (slice_get (end_of t ds).met at)

  pub departed_none : (bound : ℕ) → IsDeparted bound 0 []
  departed_none bound = let one : 1 ≡ 0 + 1 = omega arith in let all : bound ≡ bound - 0 = omega arith in ap (λ n. departing f t ds at n bound) one ∙ ap (λ n. departing f t ds at (0 + 1) n) all

  departed_next : (bound n : ℕ) (dss : List (List Departure)) (b : Bool) → n < bound → waits (n + 1) ≡ b → IsDeparted bound n dss
      → departing f t ds at 1 bound ≡ (dss ++ f (departed ds at (n + 1))) ++ cond b (departing f t ds at (n + 1 + 1) (bound - (n + 1))) []
  departed_next bound n dss b lt is h =
      let more : bound - n ≡ suc (bound - (n + 1)) = omega (arith, lt) in
      h ∙ ap (λ i. dss ++ departing f t ds at (n + 1) i) more
      ∙ ap (λ c. dss ++ (f (departed ds at (n + 1)) ++ cond c (departing f t ds at (n + 1 + 1) (bound - (n + 1))) [])) is
      ∙ sym (append_assoc dss (f (departed ds at (n + 1))) (cond b (departing f t ds at (n + 1 + 1) (bound - (n + 1))) []))

  pub departed_more : (bound n : ℕ) (dss : List (List Departure)) → n < bound → waits (n + 1) ≡ true → IsDeparted bound n dss → IsDeparted bound (n + 1) (dss ++ f (departed ds at (n + 1)))
  departed_more bound n dss lt is h = departed_next bound n dss true lt is h

  -- it can't wait longer
  pub departed_last : (bound n : ℕ) (dss : List (List Departure)) → n < bound → waits (n + 1) ≡ false → IsDeparted bound n dss → departing f t ds at 1 bound ≡ dss ++ f (departed ds at (n + 1))
  departed_last bound n dss lt off h = departed_next bound n dss false lt off h ∙ append-nil (dss ++ f (departed ds at (n + 1)))

  -- it waits as long as may be
  pub departed_all : (bound n : ℕ) (dss : List (List Departure)) → bound ≤ n → IsDeparted bound n dss → departing f t ds at 1 bound ≡ dss
  departed_all bound n dss le h = let none : bound - n ≡ 0 = omega (arith, le) in h ∙ ap (λ i. dss ++ departing f t ds at (n + 1) i) none ∙ append-nil dss

-- ---- the last departure is taken away again

pub popped : {X : Type 0} (xs ys zs : List X) (x : X) (n : ℕ) → zs ≡ xs ++ x ∷ [] → n ≡ length zs → ys ≡ take (n - 1) zs → ys ≡ xs
popped xs ys zs x n e many rest =
    let more : length (xs ++ x ∷ []) ≡ length xs + 1 = length-append xs (x ∷ []) in
    let all : length zs ≡ length (xs ++ x ∷ []) = ap length e in
    rest ∙ ap (take (n - 1)) e ∙ take_at xs (x ∷ []) (n - 1) (omega (arith, many, more, all))

-- ---- explorers that are the same but for what they counted

pub same_end : (a b : Explorer) → IsSame a b → end_of (here b) b.departures.items ≡ end_of (here a) a.departures.items
same_end a b h = ap (λ (t : Setting). end_of t b.departures.items) (same_setting a b h) ∙ ap (end_of (here a)) h.departures

-- what comes of an offer is counted too
deeper_counted : (a b c : Explorer) (k at : ℕ) (xs : List (List Departure)) → IsSame a b → HasCounted a xs b
    → HasCounted b (departing (below (part_of b.terms) (here b) k) (here b) b.departures.items at 1 b.terms.bound) c
    → HasCounted a (xs ++ departing (below (part_of a.terms) (here a) k) (here a) a.departures.items at 1 a.terms.bound) c
deeper_counted a b c k at xs same first second =
    then_counted a b c xs (departing (below (part_of a.terms) (here a) k) (here a) a.departures.items at 1 a.terms.bound) same first
    (subst (λ (ds : List Departure). HasCounted b (departing (below (part_of a.terms) (here a) k) (here a) ds at 1 a.terms.bound) c) same.departures
    (subst (λ (m : MachineState). HasCounted b (departing (below (part_of a.terms) (setting a.terms m) k) (setting a.terms m) b.departures.items at 1 a.terms.bound) c) same.boot
    (subst (λ (t : Terms). HasCounted b (departing (below (part_of t) (setting t b.boot) k) (setting t b.boot) b.departures.items at 1 t.bound) c) same.terms second)))

-- an explorer has tried its schedule, and what departs next at the first n offers
pub record HasTried (k n : ℕ) (a b : Explorer) : Type 0 where
  pub same : IsSame a b
  pub counted : HasCounted a (tried (part_of a.terms) (here a) k a.departures.items n) b

pub none_tried : (k n : ℕ) (a b : Explorer) → n ≡ 0 → IsSame a b → HasCounted a (itself (part_of a.terms) a.departures.items) b → HasTried k n a b
none_tried k n a b none same counted = record {
  same = same;
  counted = subst (λ (dss : List (List Departure)). HasCounted a dss b) (sym (ap (tried (part_of a.terms) (here a) k a.departures.items) none ∙ tried_none (part_of a.terms) (here a) k a.departures.items)) counted;
}

-- the offers of a schedule that is in the part for one explorer are so for the same one
asked_same : (a b : Explorer) (at : ℕ) → IsSame a b → is_in_part (part_of b.terms) (departed b.departures.items at 1) ≡ is_in_part (part_of a.terms) (departed a.departures.items at 1)
asked_same a b at h =
    ap (λ (t : Terms). is_in_part (part_of t) (departed b.departures.items at 1)) h.terms
    ∙ ap (λ (ds : List Departure). is_in_part (part_of a.terms) (departed ds at 1)) h.departures

module _ (k n at m : ℕ) (a b : Explorer) (h : HasTried k n a b) (e : (end_of (here a) a.departures.items).after + n ≡ at) (next : m ≡ n + 1) where
  pub asked_tried : (c : Explorer) → is_in_part (part_of b.terms) (departed b.departures.items at 1) ≡ true → IsSame b c
      → HasCounted b (departing (below (part_of b.terms) (here b) k) (here b) b.departures.items at 1 b.terms.bound) c → HasTried k m a c
  asked_tried c is same counted = record {
    same = same_then a b c h.same same;
    counted = subst (λ (dss : List (List Departure)). HasCounted a dss c)
        (sym (ap (tried (part_of a.terms) (here a) k a.departures.items) next ∙ tried_asked (part_of a.terms) (here a) k a.departures.items n at e (sym (asked_same a b at h.same) ∙ is)))
        (deeper_counted a b c k at (tried (part_of a.terms) (here a) k a.departures.items n) h.same h.counted counted);
  }

  pub unasked_tried : is_in_part (part_of b.terms) (departed b.departures.items at 1) ≡ false → HasTried k m a b
  unasked_tried not_asked = record {
    same = h.same;
    counted = subst (λ (dss : List (List Departure)). HasCounted a dss b)
        (sym (ap (tried (part_of a.terms) (here a) k a.departures.items) next ∙ tried_unasked (part_of a.terms) (here a) k a.departures.items n at e (sym (asked_same a b at h.same) ∙ not_asked)))
        h.counted;
  }

-- all are tried
pub all_tried : (k n left : ℕ) (a b : Explorer) → HasTried k n a b → left ≡ suc k → n ≡ length (end_of (here a) a.departures.items).met - (end_of (here a) a.departures.items).after
    → HasCounted a (below (part_of a.terms) (here a) left a.departures.items) b
all_tried k n left a b h e all =
    subst (λ i. HasCounted a (below (part_of a.terms) (here a) i a.departures.items) b) (sym e)
    (subst (λ (dss : List (List Departure)). HasCounted a dss b) (tried_all (part_of a.terms) (here a) k a.departures.items n all) h.counted)

-- so is what begins with one departure more: b with it is d, which becomes e, and c is e without it
departed_counted : (a b c d e : Explorer) (k : ℕ) (es : List Departure) (xs : List (List Departure)) → IsSame a b → HasCounted a xs b → d.terms ≡ b.terms → d.boot ≡ b.boot → d.tally ≡ b.tally → d.departures.items ≡ es
    → HasCounted d (below (part_of d.terms) (here d) k d.departures.items) e → c.tally ≡ e.tally → HasCounted a (xs ++ below (part_of a.terms) (here a) k es) c
departed_counted a b c d e k es xs same first terms boot tally dss second left fs h =
    let gs : List Found = fs ++ map (found_by (here a)) xs in
    let f : List Departure → Found = found_by (here a) in
    let ys : List (List Departure) = below (part_of a.terms) (here a) k es in
    let one : IsCounted (gs ++ map (found_by (here d)) (below (part_of d.terms) (here d) k d.departures.items)) e.tally = second gs (subst (IsCounted gs) (sym tally) (first fs h)) in
    let two = subst (λ (t : Terms). IsCounted (gs ++ map (found_by (setting t d.boot)) (below (part_of t) (setting t d.boot) k d.departures.items)) e.tally) (terms ∙ same.terms) one in
    let three = subst (λ (m : MachineState). IsCounted (gs ++ map (found_by (setting a.terms m)) (below (part_of a.terms) (setting a.terms m) k d.departures.items)) e.tally) (boot ∙ same.boot) two in
    let four = subst (λ (ds : List Departure). IsCounted (gs ++ map f (below (part_of a.terms) (here a) k ds)) e.tally) dss three in
    let five = subst (λ (y : Tally). IsCounted (gs ++ map f ys) y) (sym left) four in
    subst (λ (l : List Found). IsCounted l c.tally) (append_assoc fs (map f xs) (map f ys) ∙ ap (λ (l : List Found). fs ++ l) (sym (map-append f xs ys))) five

-- an explorer has tried what departs next at an offer, for the first n turns
pub record HasDeparted (k at n : ℕ) (a b : Explorer) : Type 0 where
  pub same : IsSame a b
  pub counted : (dss : List (List Departure)) × HasCounted a dss b × IsDeparted (below (part_of a.terms) (here a) k) (here a) a.departures.items at a.terms.bound n dss

pub none_departed : (k at n : ℕ) (a : Explorer) → n ≡ 0 → HasDeparted k at n a a
none_departed k at n a none =
    subst (λ i. HasDeparted k at i a a) (sym none) (record {
      same = same_itself a;
      counted = ([], none_counted a a refl, departed_none (below (part_of a.terms) (here a) k) (here a) a.departures.items at a.terms.bound);
    })

-- one turn more: with one departure more b is d, which becomes e, and c is e without it
module _ (k at n : ℕ) (a b c d e : Explorer) (h : HasDeparted k at n a b) (lt : n < a.terms.bound)
    (terms : d.terms ≡ b.terms) (boot : d.boot ≡ b.boot) (tally : d.tally ≡ b.tally) (pushed : d.departures.items ≡ departed b.departures.items at (n + 1))
    (same : IsSame d e) (more : HasCounted d (below (part_of d.terms) (here d) k d.departures.items) e)
    (then_terms : c.terms ≡ e.terms) (then_boot : c.boot ≡ e.boot) (then_tally : c.tally ≡ e.tally) (back : c.departures.items ≡ b.departures.items) where
  longer : d.departures.items ≡ departed a.departures.items at (n + 1)
  longer = pushed ∙ ap (λ (ds : List Departure). departed ds at (n + 1)) h.same.departures

  same_back : IsSame a c
  same_back = record {
    terms = then_terms ∙ same.terms ∙ terms ∙ h.same.terms;
    boot = then_boot ∙ same.boot ∙ boot ∙ h.same.boot;
    departures = back ∙ h.same.departures;
  }

  counted_back : HasCounted a (h.counted.0 ++ below (part_of a.terms) (here a) k (departed a.departures.items at (n + 1))) c
  counted_back = departed_counted a b c d e k (departed a.departures.items at (n + 1)) h.counted.0 h.same h.counted.1 terms boot tally longer more then_tally

  module _ (m : Met) (can goes : Bool) (there : slice_get (end_of (here a) a.departures.items).met at ≡ Some m) (waits : can ≡ can_wait (end_of (here d) d.departures.items)) (goes_is : goes ≡ (can && is_outside m.offer)) where
    goes_as : (can_wait (end_of (here a) (departed a.departures.items at (n + 1))) && is_of_outside (slice_get (end_of (here a) a.departures.items).met at)) ≡ goes
    goes_as =
        let comes : end_of (here d) d.departures.items ≡ end_of (here a) (departed a.departures.items at (n + 1)) =
        ap (λ (t : Terms). end_of (setting t d.boot) d.departures.items) (terms ∙ h.same.terms) ∙ ap (λ (m : MachineState). end_of (setting a.terms m) d.departures.items) (boot ∙ h.same.boot) ∙ ap (end_of (here a)) longer in
        sym (goes_is ∙ ap (λ b. b && is_outside m.offer) (waits ∙ ap can_wait comes) ∙ ap (λ (o : Option Met). can_wait (end_of (here a) (departed a.departures.items at (n + 1))) && is_of_outside o) (sym there))

    pub next_departed : goes ≡ true → HasDeparted k at (n + 1) a c
    next_departed on = record {
      same = same_back;
      counted = (
        h.counted.0 ++ below (part_of a.terms) (here a) k (departed a.departures.items at (n + 1)),
        counted_back,
        departed_more (below (part_of a.terms) (here a) k) (here a) a.departures.items at a.terms.bound n h.counted.0 lt (goes_as ∙ on) h.counted.2,
      );
    }

    pub last_departed : goes ≡ false → IsSame a c × HasCounted a (departing (below (part_of a.terms) (here a) k) (here a) a.departures.items at 1 a.terms.bound) c
    last_departed off = (
      same_back,
      subst (λ (dss : List (List Departure)). HasCounted a dss c)
          (sym (departed_last (below (part_of a.terms) (here a) k) (here a) a.departures.items at a.terms.bound n h.counted.0 lt (goes_as ∙ off) h.counted.2)) counted_back,
    )

pub all_departed : (k at n : ℕ) (a b : Explorer) → HasDeparted k at n a b → a.terms.bound ≤ n → HasCounted a (departing (below (part_of a.terms) (here a) k) (here a) a.departures.items at 1 a.terms.bound) b
all_departed k at n a b h all =
    subst (λ (dss : List (List Departure)). HasCounted a dss b) (sym (departed_all (below (part_of a.terms) (here a) k) (here a) a.departures.items at a.terms.bound n h.counted.0 all h.counted.2)) h.counted.1

-- a machine at its boot is so for the same explorer, with the same services
pub at_boot : (a b : Explorer) (xs ys : List Service) → IsSame a b → ys ≡ xs → IsAtBoot a.boot xs → IsAtBoot b.boot ys
at_boot a b xs ys same e h = subst (λ (m : MachineState). IsAtBoot m ys) (sym same.boot) (subst (IsAtBoot a.boot) (sym e) h)

-- ---- the offers after the last departure

pub after_within : (t : Setting) (ds : List Departure) → (end_of t ds).after ≤ length (end_of t ds).met
unfolding run_of_schedule
after_within t ds = turns_last Bounded bounded t.turns (from_boot t ds) (omega arith)

-- counts are shown, and then others
pub then_shown : (k n m : ℕ) (ps qs : List Parts) → ShowsCounts k ps n → ShowsCounts n qs m → ShowsCounts k (ps ++ qs) m
then_shown k n m [] qs h g = subst (λ i. ShowsCounts i qs m) h g
then_shown k n m (p ∷ ps) qs h g = (h.0, h.1, then_shown p.done n m ps qs h.2 g)

pub shows_then : (k n m : ℕ) (old bs cs : List Parts) → ((ps : List Parts) × (bs ≡ old ++ ps) × ShowsCounts k ps n) → ((ps : List Parts) × (cs ≡ bs ++ ps) × ShowsCounts n ps m)
    → ((ps : List Parts) × (cs ≡ old ++ ps) × ShowsCounts k ps m)
shows_then k n m old bs cs x y = (x.0 ++ y.0, y.1 ∙ ap (λ l. l ++ y.0) x.1 ∙ append_assoc old x.0 y.0, then_shown k n m x.0 y.0 x.2 y.2)

pub shows_none : (k n : ℕ) (old bs : List Parts) → bs ≡ old → n ≡ k → (ps : List Parts) × (bs ≡ old ++ ps) × ShowsCounts k ps n
shows_none k n old bs e same = ([], e ∙ sym (append-nil old), same)

pub shows_one : (k n : ℕ) (p : Parts) (old bs : List Parts) → bs ≡ old ++ p ∷ [] → n ≡ min (k + 1) (2 ^ 64 - 1) → p.done ≡ n → p.done ≤ p.all → (ps : List Parts) × (bs ≡ old ++ ps) × ShowsCounts k ps n
shows_one k n p old bs e more done most = (p ∷ [], e, (done ∙ more, most, sym done))

-- what is known changes nothing of what is counted
pub tallied_same : (a b c : Explorer) (dss : List (List Departure)) → IsSame a b → HasCounted a dss b → IsSame b c → c.tally ≡ b.tally → IsSame a c × HasCounted a dss c
tallied_same a b c dss same counted then_same e = (same_then a b c same then_same, λ fs h. subst (λ (y : Tally). IsCounted (fs ++ map (found_by (here a)) dss) y) (sym e) (counted fs h))

-- the offers after the last departure are some of those that were met
pub after_fits : (t : Setting) (ds : List Departure) (ms : List Met) (n : ℕ) → ms ≡ (end_of t ds).met → n ≡ (end_of t ds).after → n ≤ length ms
after_fits t ds ms n e a = let many : length ms ≡ length (end_of t ds).met = ap length e in let within = after_within t ds in omega (arith, many, within, a)

-- all of them from one on
rest_all : {X : Type 0} (n : ℕ) (xs : List X) → take (length xs - n) (drop n xs) ≡ drop n xs
rest_all n xs = ap (take (length xs - n)) (sym (append-nil (drop n xs))) ∙ take_at (drop n xs) [] (length xs - n) (length-drop n xs)

pub waits_now : (t : Setting) (ds : List Departure) (ms xs : List Met) (n : ℕ) → xs ≡ ms → ms ≡ (end_of t ds).met → n ≡ (end_of t ds).after → waits_on (take (length xs - n) (drop n xs)) ≡ can_wait (end_of t ds)
waits_now t ds ms xs n same e a = ap waits_on (rest_all n xs) ∙ ap (λ (l : List Met). waits_on (drop n l)) same ∙ ap (λ i. waits_on (drop i ms)) a ∙ ap (λ (l : List Met). waits_on (drop (end_of t ds).after l)) e

pub shows_same : (k n m : ℕ) (old bs : List Parts) → n ≡ m → ((ps : List Parts) × (bs ≡ old ++ ps) × ShowsCounts k ps n) → ((ps : List Parts) × (bs ≡ old ++ ps) × ShowsCounts k ps m)
shows_same k n m old bs e (ps, more, shown) = (ps, more, subst (ShowsCounts k ps) e shown)

-- an offer that the same explorer's schedule met
pub met_there : (a b : Explorer) (ms : List Met) (at : ℕ) (m : Met) → IsSame a b → ms ≡ (end_of (here a) a.departures.items).met → slice_get ms at ≡ Some m → slice_get (end_of (here b) b.departures.items).met at ≡ Some m
met_there a b ms at m same e there = ap (λ (s : Standing). slice_get s.met at) (same_end a b same) ∙ ap (λ (l : List Met). slice_get l at) (sym e) ∙ there

-- ---- all of it

pub starts_at : (m n : MachineState) (xs ys : List Service) → n ≡ m → ys ≡ xs → IsAtBoot m xs → IsAtBoot n ys
starts_at m n xs ys same e h = subst (λ (x : MachineState). IsAtBoot x ys) (sym same) (subst (IsAtBoot m) (sym e) h)

pub err_not_ok : {A E : Type 0} (r : Result A E) (P : E → Type 0) (Q : A → Type 0) → IsErrAnd r P → IfOk r Q
err_not_ok (Ok x) P Q h = absurd h
err_not_ok (Err e) P Q h = tt

-- an explorer that begins with the order of turns has found everything
pub explored_all : (a b : Explorer) (k : ℕ) (m : MachineState) (found : Tally) → a.boot ≡ m → a.departures.items ≡ [] → IsCounted [] a.tally
    → HasCounted a (below (part_of a.terms) (here a) k a.departures.items) b → ((fs : List Found) → IsCounted fs b.tally → IsTally fs found) → IsExplored (setting a.terms m) k (part_of a.terms) found
explored_all a b k m found boot none counted more sorted =
    let t = setting a.terms m in
    let p = part_of a.terms in
    let one = subst (λ (ds : List Departure). IsCounted (map (found_by (here a)) (below p (here a) k ds)) b.tally) none (more [] counted) in
    let two = subst (λ (x : MachineState). IsCounted (map (found_by (setting a.terms x)) (below p (setting a.terms x) k [])) b.tally) boot one in
    (below p t k [], all_schedules t k p, sorted (map (found_by t) (below p t k [])) two)

-- what was shown since nothing was counted
pub shows_all : (t : Tally) (n : ℕ) (old bs : List Parts) → IsCounted [] t → ((ps : List Parts) × (bs ≡ old ++ ps) × ShowsCounts t.schedules ps n) → (ps : List Parts) × (bs ≡ old ++ ps) × ShowsCounts 0 ps n
shows_all t n old bs counted (ps, more, shown) =
    let none = counted.schedules in
    let zero : t.schedules ≡ 0 = omega (arith, none) in
    (ps, more, subst (λ k. ShowsCounts k ps n) zero shown)
