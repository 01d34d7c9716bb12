-- Every history is that of a schedule: in each turn what comes at one place is made, and all else is passed.
use Rattle.std.proofs.Common.{◌≡◌, ◌∙◌, ◌≤◌, ◌<◌, ◌+◌, ◌-◌, ◌==◌, ◌&&◌, ◌||◌, ◌++◌, ℕ, zero, suc, Bool, true, false, List, [], ◌∷◌, map, drop, length, length-append, append_assoc, cond, nat_lt, Option, Some, None, inl, inr, refl, ap, sym, subst, arith}
use Rattle.std.specs.Prelude.{⊤, option_map, slice_get}
use Rattle.std.specs.List.{range_with_len}
use Rattle.std.proofs.lemmas.Bool.{cases_Bool, cases_lt, eq-eqb, ltb-true, ne_eqb}
use Rattle.std.proofs.lemmas.Option.{slice_get_within}
use Rattle.mx_walk.specs.Kept.{kept_of}
use Rattle.mx_machine.specs.declared.events.Event.{Event}
use Rattle.mx_machine.specs.declared.events.Event.TheVariants as events
use Rattle.mx_machine.specs.declared.events.Refusal.TheVariants.{CpuBusy}
use Rattle.mx_machine.specs.History.{BootAndHistory, world_after_events}
use Rattle.mx_machine.specs.Move.{event_refusal, take_refusal, world_after_event}
use Rattle.mx_machine.specs.Proc.Queues.{first_ready}
use Rattle.mx_machine.specs.Proc.TableState.{process_at}
use Rattle.mx_machine.specs.Service.{Service}
use Rattle.mx_machine.specs.World.{World, HeldProcess, free_records, held_by}
use Rattle.mx_machine.proofs.ReplayLemmas.{after_append}
use Rattle.mx_machine.proofs.WorldStepLemmas.{holds_in}
use Rattle.mx_turns.specs.Turns.{Offered, next_now, offered, offered_first, outside, world_after}
use Rattle.mx_turns.specs.declared.outside.OutsideLine.{OutsideLine}
use Rattle.mx_turns.specs.declared.turns.Ending.{Ending}
use Rattle.mx_turns.proofs.MadeLemmas.{kept_append}
use Rattle.mx_turns.proofs.OfferLemmas.{Offers}
use Rattle.mx_explore.specs.Histories.{IsInOrder, IsOf, comes_at, coming_after, tried_at}
use Rattle.mx_explore.specs.Offers.{can_respawn, is_outside, open_back, open_outside, open_respawn, open_take}
use Rattle.mx_explore.specs.declared.offers.Offer.{Offer}
use Rattle.mx_explore.specs.declared.offers.Offer.TheVariants.{Take, Back, Outside, Respawn}
use Rattle.mx_explore.specs.declared.passing.Departure.{Departure}
use Rattle.mx_explore.specs.declared.passing.Met.{Met}
use Rattle.mx_explore.specs.declared.passing.TurnStart.{TurnStart}
use Rattle.mx_explore.specs.Passing.{Passage, Place, Setting, Standing, begins, events_of, from_boot, goes_on, is_at, made, meets, meets_if, met_in, noted, open_at, passed_turns, passes, places, run_of_schedule, turn_start}
use Rattle.mx_explore.specs.Passing.{BackBy, FromOutside, NewIn, TakeBy}
use Rattle.mx_explore.proofs.FollowLemmas.{none_goes, noted_if}
use Rattle.mx_explore.proofs.NoneLemmas.{back_closed, no_event, none_held, none_left, offers_accepted, refused, respawn_closed, take_closed}
use Rattle.mx_explore.proofs.PassageLemmas.{At, at_append, back_open, respawn_open, stood, take_open}
use Rattle.mx_explore.proofs.TurnLemmas.{next_turns}

-- ---- departures that come later

-- a passage with these departures ahead
abbrev ahead : List Departure → Passage → Passage
ahead ds p = stood p (record p.standing { ahead = ds })

-- the first of them isn't before this offer
abbrev From : ℕ → List Departure → Type 0
From n [] = ⊤
From n (d ∷ ds) = n ≤ d.at

-- nothing waits, each wait was by the rule, and the history has room
abbrev Calm : Passage → Type 0
Calm p = (p.standing.waits ≡ 0) × (p.standing.kept ≡ true) × (p.full ≡ false)

-- With these departures the run goes from p to q over places, whichever departures come later.
record Leads (start : TurnStart) (p : Passage) (zs : List Place) (q : Passage) (es : List Departure) : Type 0 where
  run : (ds : List Departure) → From (length q.standing.met) ds → At start (ahead (es ++ ds) p) zs ≡ ahead ds q
  low : (ds : List Departure) → From (length q.standing.met) ds → From (length p.standing.met) (es ++ ds)

then_leads : (start : TurnStart) (p q r : Passage) (xs ys : List Place) (es fs : List Departure) → Leads start p xs q es → Leads start q ys r fs → Leads start p (xs ++ ys) r (es ++ fs)
then_leads start p q r xs ys es fs h g = record {
  run = λ ds late.
      ap (λ (l : List Departure). At start (ahead l p) (xs ++ ys)) (append_assoc es fs ds)
      ∙ at_append start (ahead (es ++ (fs ++ ds)) p) xs ys
      ∙ ap (λ (x : Passage). At start x ys) (h.run (fs ++ ds) (g.low ds late))
      ∙ g.run ds late;
  low = λ ds late. subst (From (length p.standing.met)) (sym (append_assoc es fs ds)) (h.low (fs ++ ds) (g.low ds late));
}

-- what is open doesn't depend on departures
same_open : (start : TurnStart) (p q : Passage) (z : Place) → q.world ≡ p.world → q.full ≡ p.full → open_at start q z ≡ open_at start p z
same_open start p q (TakeBy c) w f = ap (λ (v : World). cond q.full None (open_take v c)) w ∙ ap (λ b. cond b None (open_take p.world c)) f
same_open start p q (BackBy c) w f = ap (λ (v : World). open_back v c) w
same_open start p q FromOutside w f = ap (λ b. cond b None (open_outside start.event)) f
same_open start p q (NewIn s) w f = ap (λ (v : World). cond q.full None (open_respawn v s)) w ∙ ap (λ b. cond b None (open_respawn p.world s)) f

-- ---- an offer is passed

abbrev here : Passage → Departure
here p = record { at = length p.standing.met; turns = 1 }

abbrev met_with : TurnStart → Passage → Offer → List Met
met_with start p x = p.standing.met ++ met_in p.world start.records x ∷ []

abbrev passed : TurnStart → Passage → Offer → Passage
passed start p x = stood p (record p.standing { waits = 0; met = met_with start p x; after = length (met_with start p x) })

at_here : (n : ℕ) (x : Offer) → is_at n x (record { at = n; turns = 1 }) ≡ true
at_here n x = ap (λ b. b && ((1 == 1) || nat_lt 1 1 && is_outside x)) (eq-eqb n n refl)

begins_first : (s : Standing) (d : Departure) (ds : List Departure) (x : Offer) → s.waits ≡ 0 → is_at (length s.met) x d ≡ true → begins (record s { ahead = d ∷ ds }) x ≡ true
begins_first s d ds x w i = ap (λ n. (n == 0) && is_at (length s.met) x d) w ∙ i

is_passed : (start : TurnStart) (p : Passage) (x : Offer) (ds : List Departure) → p.standing.waits ≡ 0 → meets start (ahead (here p ∷ ds) p) x ≡ ahead ds (passed start p x)
is_passed start p x ds w =
    let s : Standing = record p.standing { ahead = here p ∷ ds } in
    let m : Met = met_in p.world start.records x in
    let q : Passage = stood p (noted s m) in
    let goes : goes_on s x ≡ false = none_goes s x w in
    let first : begins s x ≡ true = begins_first p.standing (here p) ds x w (at_here (length p.standing.met) x) in
    let is : passes s x ≡ true = ap (λ b. b || begins s x) goes ∙ first in
    ap (λ b. cond b q (made start.other q x)) is
    ∙ ap (stood p) (ap (λ g. noted_if g (begins s x) s m) goes ∙ ap (λ b. noted_if false b s m) first)

-- ---- an offer is made

abbrev stays : TurnStart → Passage → Offer → Passage
stays start p x = stood p (record p.standing { met = met_with start p x })

and_no : (a : Bool) → (a && false) ≡ false
and_no true = refl
and_no false = refl

not_first : (s : Standing) (ds : List Departure) (x : Offer) → From (length s.met + 1) ds → begins (record s { ahead = ds }) x ≡ false
not_first s [] x h = refl
not_first s (d ∷ ds) x h =
    let low : length s.met + 1 ≤ d.at = h in
    let apart : (d.at == length s.met) ≡ false = ne_eqb d.at (length s.met) (λ e. omega (arith, low, e)) in
    ap (λ b. (s.waits == 0) && (b && ((d.turns == 1) || nat_lt 1 d.turns && is_outside x))) apart ∙ and_no (s.waits == 0)

is_made : (start : TurnStart) (p : Passage) (x : Offer) (ds : List Departure) → p.standing.waits ≡ 0 → From (length p.standing.met + 1) ds → meets start (ahead ds p) x ≡ ahead ds (made start.other (stays start p x) x)
is_made start p x ds w late =
    let s : Standing = record p.standing { ahead = ds } in
    let m : Met = met_in p.world start.records x in
    let q : Passage = stood p (noted s m) in
    let goes : goes_on s x ≡ false = none_goes s x w in
    let first : begins s x ≡ false = not_first p.standing ds x late in
    let is : passes s x ≡ false = ap (λ b. b || begins s x) goes ∙ first in
    ap (λ b. cond b q (made start.other q x)) is
    ∙ ap (λ (u : Standing). made start.other (stood p u) x) (ap (λ g. noted_if g (begins s x) s m) goes ∙ ap (λ b. noted_if false b s m) first)

-- ---- one place

-- nothing is made: only the standing is another
abbrev Same : Passage → Passage → Type 0
Same p q = (q.world ≡ p.world) × (q.kernel ≡ p.kernel) × (q.coming ≡ p.coming)

-- All offers at these places are passed.
record Passes (start : TurnStart) (p : Passage) (zs : List Place) : Type 0 where
  to : Passage
  by : List Departure
  leads : Leads start p zs to by
  calm : Calm to
  same : Same p to

from_more : {X : Type 0} (xs : List X) (x : X) (ds : List Departure) → From (length (xs ++ x ∷ [])) ds → From (length xs + 1) ds
from_more xs x ds h = subst (λ n. From n ds) (length-append xs (x ∷ [])) h

from_less : (n : ℕ) (ds : List Departure) → From (n + 1) ds → From n ds
from_less n [] h = tt
from_less n (d ∷ ds) h = let low : n + 1 ≤ d.at = h in omega (arith, low)

pass_one : (start : TurnStart) (p : Passage) (z : Place) → Calm p → (o : Option Offer) → open_at start p z ≡ o → Passes start p (z ∷ [])
pass_one start p z calm None e = record {
  to = p;
  by = [];
  leads = record { run = λ ds late. ap (meets_if start (ahead ds p)) (same_open start p (ahead ds p) z refl refl ∙ e); low = λ ds late. late };
  calm = calm;
  same = (refl, refl, refl);
}
pass_one start p z calm (Some x) e = record {
  to = passed start p x;
  by = here p ∷ [];
  leads = record {
    run = λ ds late. ap (meets_if start (ahead (here p ∷ ds) p)) (same_open start p (ahead (here p ∷ ds) p) z refl refl ∙ e) ∙ is_passed start p x ds calm.0;
    low = λ ds late. (let z : length p.standing.met ≤ length p.standing.met = omega arith in z);
  };
  calm = (refl, calm.1, calm.2);
  same = (refl, refl, refl);
}

pass_all : (start : TurnStart) (p : Passage) (zs : List Place) → Calm p → Passes start p zs
pass_all start p [] calm = record { to = p; by = []; leads = record { run = λ ds late. refl; low = λ ds late. late }; calm = calm; same = (refl, refl, refl) }
pass_all start p (z ∷ zs) calm =
    let one = pass_one start p z calm (open_at start p z) refl in
    let rest = pass_all start one.to zs one.calm in
    record {
      to = rest.to;
      by = one.by ++ rest.by;
      leads = then_leads start p one.to rest.to (z ∷ []) zs one.by rest.by one.leads rest.leads;
      calm = rest.calm;
      same = (rest.same.0 ∙ one.same.0, rest.same.1 ∙ one.same.1, rest.same.2 ∙ one.same.2);
    }

make_one : (start : TurnStart) (p : Passage) (z : Place) (x : Offer) → Calm p → open_at start p z ≡ Some x → Leads start p (z ∷ []) (made start.other (stays start p x) x) []
make_one start p z x calm e = record {
  run = λ ds late. ap (meets_if start (ahead ds p)) (same_open start p (ahead ds p) z refl refl ∙ e) ∙ is_made start p x ds calm.0 (from_more p.standing.met (met_in p.world start.records x) ds late);
  low = λ ds late. from_less (length p.standing.met) ds (from_more p.standing.met (met_in p.world start.records x) ds late);
}

-- ---- where a place is in a turn

abbrev Splits : List Place → Place → Type 0
Splits l z = (xs : List Place) × (ys : List Place) × (l ≡ xs ++ z ∷ ys)

split_left : (l r : List Place) (z : Place) → Splits l z → Splits (l ++ r) z
split_left l r z h = (h.0, h.1 ++ r, ap (λ (k : List Place). k ++ r) h.2 ∙ append_assoc h.0 (z ∷ h.1) r)

split_right : (r l : List Place) (z : Place) → Splits l z → Splits (r ++ l) z
split_right r l z h = (r ++ h.0, h.1, ap (λ (k : List Place). r ++ k) h.2 ∙ sym (append_assoc r h.0 (z ∷ h.1)))

split_map : (f : ℕ → Place) (a n c : ℕ) → a ≤ c → c < a + n → Splits (map f (range_with_len a n)) (f c)
split_map f a zero c low high = absurd (omega (arith, low, high))
split_map f a (suc n) c low high = elim (cases_lt a c) [
  | inl lt ↦
      (let rest = split_map f (a + 1) n c (omega (arith, lt)) (omega (arith, high)) in
      (f a ∷ rest.0, rest.1, ap (λ (k : List Place). f a ∷ k) rest.2))
  | inr ge ↦
      (let same : a ≡ c = omega (arith, low, ge) in
      ([], map f (range_with_len (a + 1) n), ap (λ i. f i ∷ map f (range_with_len (a + 1) n)) same))
]

module _ (cpus slots : ℕ) where
  take_there : (c : ℕ) → c < cpus → Splits (places cpus slots) (TakeBy c)
  take_there c lt =
      split_left (map TakeBy (range_with_len 0 cpus) ++ map BackBy (range_with_len 0 cpus)) (FromOutside ∷ map NewIn (range_with_len 0 slots)) (TakeBy c)
      (split_left (map TakeBy (range_with_len 0 cpus)) (map BackBy (range_with_len 0 cpus)) (TakeBy c) (split_map TakeBy 0 cpus c (omega arith) (omega (arith, lt))))

  back_there : (c : ℕ) → c < cpus → Splits (places cpus slots) (BackBy c)
  back_there c lt =
      split_left (map TakeBy (range_with_len 0 cpus) ++ map BackBy (range_with_len 0 cpus)) (FromOutside ∷ map NewIn (range_with_len 0 slots)) (BackBy c)
      (split_right (map TakeBy (range_with_len 0 cpus)) (map BackBy (range_with_len 0 cpus)) (BackBy c) (split_map BackBy 0 cpus c (omega arith) (omega (arith, lt))))

  outside_there : Splits (places cpus slots) FromOutside
  outside_there =
      split_right (map TakeBy (range_with_len 0 cpus) ++ map BackBy (range_with_len 0 cpus)) (FromOutside ∷ map NewIn (range_with_len 0 slots)) FromOutside ([], map NewIn (range_with_len 0 slots), refl)

  new_there : (s : ℕ) → s < slots → Splits (places cpus slots) (NewIn s)
  new_there s lt =
      split_right (map TakeBy (range_with_len 0 cpus) ++ map BackBy (range_with_len 0 cpus)) (FromOutside ∷ map NewIn (range_with_len 0 slots)) (NewIn s)
      (split_right (FromOutside ∷ []) (map NewIn (range_with_len 0 slots)) (NewIn s) (split_map NewIn 0 slots s (omega arith) (omega (arith, lt))))

-- ---- a turn

abbrev all_places : Passage → List Place
all_places p = places (length p.world.cpus) (length p.world.services)

-- In a turn this came, and all else was passed.
record Moved (p : Passage) (o : Offered) (coming : List OutsideLine) : Type 0 where
  to : Passage
  by : List Departure
  leads : Leads (turn_start p) p (all_places p) to by
  calm : Calm to
  kernel : to.kernel ≡ kept_of p.kernel p.world o.made
  world : to.world ≡ world_after p.world o
  left : to.coming ≡ coming

-- nothing did
moved_none : (p : Passage) (o : Offered) (coming : List OutsideLine) → Calm p → o ≡ refused → coming ≡ p.coming → Moved p o coming
moved_none p o coming calm none same =
    let all = pass_all (turn_start p) p (all_places p) calm in
    record {
      to = all.to;
      by = all.by;
      leads = all.leads;
      calm = all.calm;
      kernel = all.same.1 ∙ ap (λ (u : Offered). kept_of p.kernel p.world u.made) (sym none);
      world = all.same.0 ∙ ap (λ (u : Offered). world_after p.world u) (sym none);
      left = all.same.2 ∙ sym same;
    }

-- what was open at a place did
module _ (p : Passage) (o : Offered) (coming : List OutsideLine) (z : Place) (x : Offer) (calm : Calm p) (there : Splits (all_places p) z) (opened : open_at (turn_start p) p z ≡ Some x)
    (is : o ≡ offered p.world (events_of (turn_start p).other x)) (room : o.full ≡ false) (left_so : coming ≡ cond (is_outside x) (drop 1 p.coming) p.coming) where
  abbrev start : TurnStart
  start = turn_start p

  front : Passes start p there.0
  front = pass_all start p there.0 calm

  abbrev next : Passage
  next = made start.other (stays start front.to x) x

  abbrev made_there : World → Offered
  made_there w = offered w (events_of start.other x)

  next_calm : Calm next
  next_calm = (
    front.calm.0,
    front.calm.1,
    ap (λ b. b || (made_there front.to.world).full) front.calm.2 ∙ ap (λ (w : World). (made_there w).full) front.same.0 ∙ ap (λ (u : Offered). u.full) (sym is) ∙ room,
  )

  middle : Leads start front.to (z ∷ []) next []
  middle = make_one start front.to z x front.calm (same_open start p front.to z front.same.0 (front.calm.2 ∙ sym calm.2) ∙ opened)

  back : Passes start next there.1
  back = pass_all start next there.1 next_calm

  moved_one : Moved p o coming
  moved_one = record {
    to = back.to;
    by = front.by ++ ([] ++ back.by);
    leads = subst (λ (l : List Place). Leads start p l back.to (front.by ++ ([] ++ back.by))) (sym there.2)
        (then_leads start p front.to back.to there.0 (z ∷ there.1) front.by ([] ++ back.by) front.leads (then_leads start front.to next back.to (z ∷ []) there.1 [] back.by middle back.leads));
    calm = back.calm;
    kernel = back.same.1 ∙ ap (λ (k : BootAndHistory). kept_of k front.to.world (made_there front.to.world).made) front.same.1 ∙ ap (λ (w : World). kept_of p.kernel w (made_there w).made) front.same.0
        ∙ ap (λ (u : Offered). kept_of p.kernel p.world u.made) (sym is);
    world = back.same.0 ∙ ap (λ (w : World). world_after w (made_there w)) front.same.0 ∙ ap (λ (u : Offered). world_after p.world u) (sym is);
    left = back.same.2 ∙ ap (λ (l : List OutsideLine). cond (is_outside x) (drop 1 l) l) front.same.2 ∙ sym left_so;
  }

-- ---- what comes at a place

-- no processor is so far
take_far : (w : World) (c : ℕ) → nat_lt c (length w.cpus) ≡ false → offered w ((c, events.Take) ∷ []) ≡ refused
unfolding event_refusal
take_far w c h = ap (λ b. offered_first (c, events.Take) (cond b (take_refusal (free_records w) (held_by w c) (first_ready w.table.ready)) (Some CpuBusy)) refused (offered (world_after_event w c events.Take) [])) h

some_held : (w : World) (c : ℕ) (held : Option HeldProcess) (x : Offer) → held_by w c ≡ held → open_back w c ≡ Some x → c < length w.cpus
some_held w c None x e h =
    let z : None ≡ Some x = sym (ap (option_map (λ (l : HeldProcess). Back c l.slot)) e) ∙ h in cc
some_held w c (Some l) x e h = holds_in w.cpus c l e

some_service : (w : World) (s : ℕ) (v : Option Service) (x : Offer) → slice_get w.services s ≡ v → open_respawn w s ≡ Some x → s < length w.services
some_service w s None x e h =
    let z : None ≡ Some x = sym (ap (λ (v : Option Service). cond (can_respawn (process_at w.table s) v) (let z : Option Offer = Some (Respawn s) in z) None) e) ∙ h in cc
some_service w s (Some v) x e h = slice_get_within w.services s v e

module _ (p : Passage) (calm : Calm p) where
  abbrev cpus : ℕ
  cpus = length p.world.cpus

  abbrev slots : ℕ
  slots = length p.world.services

  taken : (c : ℕ) → (comes_at p.world p.coming (TakeBy c)).full ≡ false → Moved p (comes_at p.world p.coming (TakeBy c)) p.coming
  taken c room = elim (cases_Bool (nat_lt c cpus)) [
    | inl near ↦ by near (open_take p.world c) refl
    | inr far ↦ moved_none p (comes_at p.world p.coming (TakeBy c)) p.coming calm (take_far p.world c far) refl
  ]
    where
      by : nat_lt c cpus ≡ true → (o : Option Offer) → open_take p.world c ≡ o → Moved p (comes_at p.world p.coming (TakeBy c)) p.coming
      by near None e = moved_none p (comes_at p.world p.coming (TakeBy c)) p.coming calm (take_closed p.world c e) refl
      by near (Some x) e =
          let it = take_open p.world c x e in
          moved_one p (comes_at p.world p.coming (TakeBy c)) p.coming (TakeBy c) (Take c it.0) calm (take_there cpus slots c (ltb-true c cpus near))
          (ap (λ b. cond b None (open_take p.world c)) calm.2 ∙ e ∙ ap Some it.1) refl room refl

  returned : (c : ℕ) → (comes_at p.world p.coming (BackBy c)).full ≡ false → Moved p (comes_at p.world p.coming (BackBy c)) p.coming
  returned c room = by (open_back p.world c) refl
    where
      by : (o : Option Offer) → open_back p.world c ≡ o → Moved p (comes_at p.world p.coming (BackBy c)) p.coming
      by None e = moved_none p (comes_at p.world p.coming (BackBy c)) p.coming calm (back_closed p.world c (none_held c (held_by p.world c) e)) refl
      by (Some x) e =
          let it = back_open p.world c x e in
          moved_one p (comes_at p.world p.coming (BackBy c)) p.coming (BackBy c) (Back c it.0) calm (back_there cpus slots c (some_held p.world c (held_by p.world c) x refl e)) (e ∙ ap Some it.1) refl room refl

  came : (comes_at p.world p.coming FromOutside).full ≡ false → Moved p (comes_at p.world p.coming FromOutside) (drop 1 p.coming)
  came room = by (next_now p.world.table (slice_get p.coming 0)) refl
    where
      by : (o : Option Event) → next_now p.world.table (slice_get p.coming 0) ≡ o → Moved p (comes_at p.world p.coming FromOutside) (drop 1 p.coming)
      by None e =
          moved_none p (comes_at p.world p.coming FromOutside) (drop 1 p.coming) calm (ap (λ (o : Option Event). offered p.world (outside cpus o)) e)
          (none_left p.coming (no_event p.world.table (slice_get p.coming 0) e))
      by (Some x) e =
          moved_one p (comes_at p.world p.coming FromOutside) (drop 1 p.coming) FromOutside (Outside x) calm (outside_there cpus slots)
          (ap (λ b. cond b None (open_outside (turn_start p).event)) calm.2 ∙ ap open_outside e) (ap (λ (o : Option Event). offered p.world (outside cpus o)) e) room refl

  renewed : (s : ℕ) → (comes_at p.world p.coming (NewIn s)).full ≡ false → Moved p (comes_at p.world p.coming (NewIn s)) p.coming
  renewed s room = by (open_respawn p.world s) refl
    where
      by : (o : Option Offer) → open_respawn p.world s ≡ o → Moved p (comes_at p.world p.coming (NewIn s)) p.coming
      by None e = moved_none p (comes_at p.world p.coming (NewIn s)) p.coming calm (respawn_closed p.world cpus s e) refl
      by (Some x) e =
          moved_one p (comes_at p.world p.coming (NewIn s)) p.coming (NewIn s) (Respawn s) calm (new_there cpus slots s (some_service p.world s (slice_get p.world.services s) x refl e))
          (ap (λ b. cond b None (open_respawn p.world s)) calm.2 ∙ e ∙ ap Some (respawn_open p.world s x e)) refl room refl

  moves_at : (z : Place) → (comes_at p.world p.coming z).full ≡ false → Moved p (comes_at p.world p.coming z) (coming_after p.coming z)
  moves_at (TakeBy c) room = taken c room
  moves_at (BackBy c) room = returned c room
  moves_at FromOutside room = came room
  moves_at (NewIn s) room = renewed s room

-- ---- turns

-- A run has met all its departures, and has made these events.
record Ends (p : Passage) (xs : Offers) (q : Passage) : Type 0 where
  begun : q.standing.ahead ≡ []
  ended : q.standing.waits ≡ 0
  kept : q.standing.kept ≡ true
  kernel : q.kernel ≡ kept_of p.kernel p.world xs
  world : q.world ≡ world_after_events p.world xs

-- By these departures n turns make these events.
record Makes (n : ℕ) (p : Passage) (xs : Offers) : Type 0 where
  by : List Departure
  low : From (length p.standing.met) by
  ends : Ends p xs (passed_turns n (ahead by p)).0

all_made : (zs : List Place) (p : Passage) (xs : Offers) → Calm p → IsInOrder p.world p.coming zs xs → Makes (length zs) p xs
all_made [] p xs calm h = record {
  by = [];
  low = tt;
  ends = record {
    begun = refl;
    ended = calm.0;
    kept = calm.1;
    kernel = ap (kept_of p.kernel p.world) (sym h);
    world = ap (world_after_events p.world) (sym h);
  };
}
all_made (z ∷ zs) p xs calm h =
    let o = comes_at p.world p.coming z in
    let ys = h.2 in
    let it = moves_at p calm z h.1 in
    let order : IsInOrder it.to.world it.to.coming zs ys =
    subst (λ (w : World). IsInOrder w it.to.coming zs ys) (sym it.world) (subst (λ (l : List OutsideLine). IsInOrder (world_after p.world o) l zs ys) (sym it.left) h.4) in
    let rest = all_made zs it.to ys it.calm order in
    let turned = next_turns (length zs) (ahead (it.by ++ rest.by) p) (ahead rest.by it.to) h.0 (sym (it.leads.run rest.by rest.low)) it.calm.2 in
    let accepted = offers_accepted p.world (tried_at (length p.world.cpus) (next_now p.world.table (slice_get p.coming 0)) z) in
    record {
      by = it.by ++ rest.by;
      low = it.leads.low rest.by rest.low;
      ends = subst (λ (r : Passage × Ending). Ends p xs r.0) (sym turned) (record {
        begun = rest.ends.begun;
        ended = rest.ends.ended;
        kept = rest.ends.kept;
        kernel = rest.ends.kernel ∙ ap (λ (k : BootAndHistory). kept_of k it.to.world ys) it.kernel ∙ ap (λ (w : World). kept_of (kept_of p.kernel p.world o.made) w ys) it.world
            ∙ sym (kept_append p.world p.kernel o.made ys accepted) ∙ ap (kept_of p.kernel p.world) (sym h.3);
        world = rest.ends.world ∙ ap (λ (w : World). world_after_events w ys) it.world ∙ sym (after_append p.world o.made ys) ∙ ap (world_after_events p.world) (sym h.3);
      });
    }

-- EVERY HISTORY IN AN ORDER is that of a schedule
pub every_order : (t : Setting) (order : List Place) (xs : Offers) → t.turns ≡ length order → IsInOrder t.boot t.coming order xs → (ds : List Departure) × IsOf t xs ds
unfolding run_of_schedule
every_order t order xs many h =
    let all = all_made order (from_boot t []) xs (refl, refl, refl) h in
    let ends : Ends (from_boot t []) xs (passed_turns t.turns (from_boot t all.by)).0 = subst (λ n. Ends (from_boot t []) xs (passed_turns n (from_boot t all.by)).0) (sym many) all.ends in
    (all.by, record { met = record { begun = ends.begun; ended = ends.ended; kept = ends.kept }; kernel = ends.kernel; world = ends.world })
