-- What a machine does of an open offer, and what a passage says of it.
use Rattle.std.proofs.Common.{◌≡◌, ◌∙◌, ℕ, ◌+◌, ◌-◌, ◌<◌, ◌≤◌, ◌++◌, ◌||◌, not, Bool, true, false, List, [], ◌∷◌, map, drop, cond, Option, Some, None, is_none, is_some, refl, ap, sym, subst, arith, true≢false}
use Rattle.std.specs.Prelude.{fold, option_map, slice_get}
use Rattle.std.specs.List.{range_with_len}
use Rattle.std.proofs.lemmas.List.{drop-map, take-append-drop}
use Rattle.std.proofs.lemmas.List.FromFn.{map-range_with_len_more, take-map-range_with_len}
use Rattle.mx_machine.specs.declared.events.Event.{Event}
use Rattle.mx_turns.specs.declared.outside.OutsideLine.{OutsideLine}
use Rattle.mx_machine.specs.declared.events.Event.TheVariants as events
use Rattle.mx_machine.specs.History.{BootAndHistory, replay, world_after_events}
use Rattle.mx_machine.specs.Machine.{MachineState, world_of}
use Rattle.mx_machine.specs.Proc.Queues.{first_ready}
use Rattle.mx_machine.specs.Proc.TableState.{process_at}
use Rattle.mx_machine.specs.World.{World, HeldProcess, held_by}
use Rattle.mx_turns.specs.Made.{HasOffered}
use Rattle.mx_turns.specs.Turns.{Offered, offered, run_of}
use Rattle.mx_explore.specs.Offers.{can_respawn, is_outside, open_back, open_outside, open_respawn, open_take}
use Rattle.mx_explore.specs.declared.offers.Offer.{Offer}
use Rattle.mx_explore.specs.declared.offers.Offer.TheVariants.{Take, Back, Outside, Respawn}
use Rattle.mx_explore.specs.Passages.{IsMet, passage}
use Rattle.mx_explore.specs.declared.passing.TurnStart.{TurnStart}
use Rattle.mx_explore.specs.Passing.{Passage, Place, Standing, at_place, events_of, made, meets_if, met_in, noted, open_at, passes}
use Rattle.mx_explore.specs.Passing.{BackBy, FromOutside, NewIn, TakeBy}

-- ---- one offer

-- with another standing
abbrev pub stood : Passage → Standing → Passage
stood p s = record p { standing = s }

-- nothing is made: nothing was open, or the offer is passed
pub passed_of : (start : TurnStart) (p : Passage) (t : Standing) (o : Option Offer) → IsMet p.world start.records o p.standing t false → meets_if start p o ≡ stood p t
passed_of start p t None h = ap (stood p) (sym h.1)
passed_of start p t (Some x) h = by (passes p.standing x) h.0 ∙ ap (stood p) (sym h.1)
  where
    by : (b : Bool) → false ≡ not b
        → (let q = stood p (noted p.standing (met_in p.world start.records x)) in cond b q (made start.other q x) ≡ q)
    by true e = refl
    by false e = absurd (true≢false (sym e))

-- an offer was open, and is made
pub made_of : (start : TurnStart) (p : Passage) (t : Standing) (o : Option Offer) → IsMet p.world start.records o p.standing t true
    → (x : Offer) × (o ≡ Some x) × (meets_if start p o ≡ made start.other (stood p t) x)
made_of start p t None h = absurd (true≢false h.0)
made_of start p t (Some x) h = (x, refl, by (passes p.standing x) h.0 ∙ ap (λ (s : Standing). made start.other (stood p s) x) (sym h.1))
  where
    by : (b : Bool) → true ≡ not b
        → (let q = stood p (noted p.standing (met_in p.world start.records x)) in cond b q (made start.other q x) ≡ made start.other q x)
    by true e = absurd (true≢false e)
    by false e = refl

-- AN OFFER IS MADE by a machine, as by its passage
pub made_done : (m n : MachineState) (coming : List OutsideLine) (s : Standing) (other : ℕ) (x : Offer) (before full : Bool)
    → HasOffered m (offered (world_of m) (events_of other x)) full n
    → made other (passage m coming s before) x ≡ passage n (cond (is_outside x) (drop 1 coming) coming) s (before || full)
made_done m n coming s other x before full h =
    ap (λ (k : BootAndHistory). with_parts k world_of_made o.full) (sym h.made.kernel)
    ∙ ap (λ (w : World). with_parts n.kernel w o.full) (sym h.made.world)
    ∙ ap (λ (b : Bool). with_parts n.kernel (world_of n) b) h.full
  where
    o : Offered
    o = offered (world_of m) (events_of other x)

    world_of_made : World
    world_of_made = world_after_events (world_of m) o.made

    with_parts : BootAndHistory → World → Bool → Passage
    with_parts k w b = record { kernel = k; world = w; coming = cond (is_outside x) (drop 1 coming) coming; standing = s; full = before || b }

-- ---- what is open

some_take : (w : World) (c : ℕ) (first : Option ℕ) (free : Bool) (x : Offer) → cond free (option_map (λ s. Take c s) first) None ≡ Some x → (s : ℕ) × (x ≡ Take c s)
some_take w c None true x e = absurd cc
some_take w c (Some s) true x e = (s, cc)
some_take w c first false x e = absurd cc

-- a take is of this processor
pub take_open : (w : World) (c : ℕ) (x : Offer) → open_take w c ≡ Some x → (s : ℕ) × (x ≡ Take c s)
take_open w c x e = some_take w c (first_ready w.table.ready) (is_none (held_by w c)) x e

-- so is a return
some_back : (c : ℕ) (held : Option HeldProcess) (x : Offer) → option_map (λ (l : HeldProcess). Back c l.slot) held ≡ Some x → (s : ℕ) × (x ≡ Back c s)
some_back c None x e = absurd cc
some_back c (Some l) x e = (l.slot, cc)

pub back_open : (w : World) (c : ℕ) (x : Offer) → open_back w c ≡ Some x → (s : ℕ) × (x ≡ Back c s)
back_open w c x e = some_back c (held_by w c) x e

-- an outside event is the next one
pub outside_open : (next : Option Event) (x : Offer) → open_outside next ≡ Some x → (e : Event) × (next ≡ Some e) × (x ≡ Outside e)
outside_open None x e = absurd cc
outside_open (Some y) x e = (y, refl, cc)

some_respawn : (s : ℕ) (can : Bool) (x : Offer) → cond can (let z : Option Offer = Some (Respawn s) in z) None ≡ Some x → x ≡ Respawn s
some_respawn s true x e = cc
some_respawn s false x e = absurd cc

pub respawn_open : (w : World) (s : ℕ) (x : Offer) → open_respawn w s ≡ Some x → x ≡ Respawn s
respawn_open w s x e = some_respawn s (can_respawn (process_at w.table s) (slice_get w.services s)) x e

-- a processor that holds nothing would take the first that is ready
ready_now : (m : MachineState) → first_ready (replay m.kernel).table.ready ≡ first_ready (world_of m).table.ready
unfolding world_of
ready_now m = refl

free_takes : (c : ℕ) (held : Option HeldProcess) (on first : Option ℕ) → on ≡ option_map (λ (l : HeldProcess). l.slot) held → is_some on ≡ false
    → option_map (λ s. Take c s) first ≡ cond (is_none held) (option_map (λ s. Take c s) first) None
free_takes c None on first e h = refl
free_takes c (Some l) on first e h = absurd (true≢false (sym (ap is_some e) ∙ h))

pub take_now : (m : MachineState) (c : ℕ) (on first : Option ℕ) → on ≡ option_map (λ (l : HeldProcess). l.slot) (held_by (world_of m) c) → is_some on ≡ false → first ≡ first_ready (replay m.kernel).table.ready
    → option_map (λ s. Take c s) first ≡ open_take (world_of m) c
take_now m c on first e free is =
    ap (option_map (λ s. Take c s)) (is ∙ ready_now m) ∙ free_takes c (held_by (world_of m) c) on (first_ready (world_of m).table.ready) e free

-- ---- one offer of a machine

module _ (m : MachineState) (coming : List OutsideLine) (start : TurnStart) (s t : Standing) where
  -- what was open is passed, or nothing was
  pub stays_at : (full : Bool) (p : Place) (o : Option Offer) (is_made : Bool) → o ≡ open_at start (passage m coming s full) p
      → IsMet (world_of m) start.records o s t is_made → is_made ≡ false
      → at_place start (passage m coming s full) p ≡ passage m coming t full
  stays_at full p o is_made e h not_made =
      ap (meets_if start (passage m coming s full)) (sym e)
      ∙ passed_of start (passage m coming s full) t o (subst (λ (b : Bool). IsMet (world_of m) start.records o s t b) not_made h)

  -- what was open is made
  makes_at : (full : Bool) (p : Place) (o : Option Offer) (is_made : Bool) → o ≡ open_at start (passage m coming s full) p
      → IsMet (world_of m) start.records o s t is_made → is_made ≡ true
      → (x : Offer) × (o ≡ Some x) × (at_place start (passage m coming s full) p ≡ made start.other (passage m coming t full) x)
  makes_at full p o is_made e h is =
      let done = made_of start (passage m coming s full) t o (subst (λ (b : Bool). IsMet (world_of m) start.records o s t b) is h) in
      (done.0, done.1, ap (meets_if start (passage m coming s full)) (sym e) ∙ done.2)

  pub takes_at : (c : ℕ) (o : Option Offer) (is_made full : Bool) (n : MachineState) → o ≡ open_take (world_of m) c
      → IsMet (world_of m) start.records o s t is_made → is_made ≡ true
      → HasOffered m (offered (world_of m) ((c, events.Take) ∷ [])) full n
      → at_place start (passage m coming s false) (TakeBy c) ≡ passage n coming t full
  takes_at c o is_made full n e h is done =
      let it = makes_at false (TakeBy c) o is_made e h is in
      let x = take_open (world_of m) c it.0 (sym e ∙ it.1) in
      it.2 ∙ ap (made start.other (passage m coming t false)) x.1 ∙ made_done m n coming t start.other (Take c x.0) false full done

  pub backs_at : (c : ℕ) (o : Option Offer) (is_made full : Bool) (n : MachineState) → o ≡ open_back (world_of m) c
      → IsMet (world_of m) start.records o s t is_made → is_made ≡ true
      → HasOffered m (offered (world_of m) (run_of c)) false n
      → at_place start (passage m coming s full) (BackBy c) ≡ passage n coming t full
  backs_at c o is_made full n e h is done =
      let it = makes_at full (BackBy c) o is_made e h is in
      let x = back_open (world_of m) c it.0 (sym e ∙ it.1) in
      it.2 ∙ ap (made start.other (passage m coming t full)) x.1 ∙ made_done m n coming t start.other (Back c x.0) full false done
      ∙ ap (passage n coming t) (none_more full)
    where
      none_more : (b : Bool) → (b || false) ≡ b
      none_more true = refl
      none_more false = refl

  pub respawns_at : (c : ℕ) (o : Option Offer) (is_made full : Bool) (n : MachineState) → o ≡ open_respawn (world_of m) c
      → IsMet (world_of m) start.records o s t is_made → is_made ≡ true
      → HasOffered m (offered (world_of m) ((start.other, events.Respawn c) ∷ [])) full n
      → at_place start (passage m coming s false) (NewIn c) ≡ passage n coming t full
  respawns_at c o is_made full n e h is done =
      let it = makes_at false (NewIn c) o is_made e h is in
      let x = respawn_open (world_of m) c it.0 (sym e ∙ it.1) in
      it.2 ∙ ap (made start.other (passage m coming t false)) x ∙ made_done m n coming t start.other (Respawn c) false full done

  pub outside_at : (o : Option Offer) (is_made full : Bool) (n : MachineState) (e : Event) → o ≡ open_outside start.event
      → start.event ≡ Some e
      → IsMet (world_of m) start.records o s t is_made → is_made ≡ true
      → HasOffered m (offered (world_of m) ((start.other, e) ∷ [])) full n
      → at_place start (passage m coming s false) FromOutside ≡ passage n (drop 1 coming) t full
  outside_at o is_made full n y e next h is done =
      let it = makes_at false FromOutside o is_made e h is in
      let x = outside_open start.event it.0 (sym e ∙ it.1) in
      let same : Some x.0 ≡ Some y = sym x.1 ∙ next in
      let one : x.0 ≡ y = cc in
      it.2 ∙ ap (made start.other (passage m coming t false)) (x.2 ∙ ap Outside one) ∙ made_done m n coming t start.other (Outside y) false full done

-- nothing is made if nothing is to come
pub none_comes : (w : World) (begun : ℕ) (next : Option Event) (o : Option Offer) (s t : Standing) (is_made : Bool) → o ≡ open_outside next → next ≡ None → IsMet w begun o s t is_made → is_made ≡ true → ⊥
none_comes w begun next o s t is_made e none h is = absurd (true≢false (sym is ∙ (subst (λ (x : Option Offer). IsMet w begun x s t is_made) (e ∙ ap open_outside none) h).0))

-- ---- places in a row

abbrev pub At : TurnStart → Passage → List Place → Passage
At start p places = fold (at_place start) p places

pub at_append : (start : TurnStart) (p : Passage) (xs ys : List Place) → At start p (xs ++ ys) ≡ At start (At start p xs) ys
at_append start p [] ys = refl
at_append start p (x ∷ xs) ys = at_append start (at_place start p x) xs ys

-- one place more
pub one_more : (start : TurnStart) (p : Passage) (f : ℕ → Place) (n : ℕ) → At start p (map f (range_with_len 0 (n + 1))) ≡ at_place start (At start p (map f (range_with_len 0 n))) (f n)
one_more start p f n =
    let z : 0 + n ≡ n = omega arith in
    ap (At start p) (map-range_with_len_more f 0 n n z) ∙ at_append start p (map f (range_with_len 0 n)) (f n ∷ [])

-- after a full history nothing is open at these places
abbrev pub NeedsRoom : (ℕ → Place) → Type 0
NeedsRoom f = (start : TurnStart) (p : Passage) (n : ℕ) → p.full ≡ true → open_at start p (f n) ≡ None

pub takes_need : NeedsRoom TakeBy
takes_need start p n h = ap (λ b. cond b None (open_take p.world n)) h

pub respawns_need : NeedsRoom NewIn
respawns_need start p n h = ap (λ b. cond b None (open_respawn p.world n)) h

pub outside_needs : (start : TurnStart) (p : Passage) → p.full ≡ true → open_at start p FromOutside ≡ None
outside_needs start p h = ap (λ b. cond b None (open_outside start.event)) h

pub none_after : (start : TurnStart) (f : ℕ → Place) → NeedsRoom f → (p : Passage) → p.full ≡ true → (ns : List ℕ) → At start p (map f ns) ≡ p
none_after start f needs p full [] = refl
none_after start f needs p full (n ∷ ns) =
    ap (λ (o : Option Offer). At start (meets_if start p o) (map f ns)) (needs start p n full) ∙ none_after start f needs p full ns

-- so the places after the first k are as none
first_only : (start : TurnStart) (f : ℕ → Place) → NeedsRoom f → (p q : Passage) (k n : ℕ) → k ≤ n → At start p (map f (range_with_len 0 k)) ≡ q → q.full ≡ true
    → At start p (map f (range_with_len 0 n)) ≡ q
first_only start f needs p q k n le e full =
    ap (At start p) parts ∙ at_append start p (map f (range_with_len 0 k)) (map f (drop k (range_with_len 0 n)))
    ∙ ap (λ (x : Passage). At start x (map f (drop k (range_with_len 0 n)))) e
    ∙ none_after start f needs q full (drop k (range_with_len 0 n))
  where
    parts : map f (range_with_len 0 n) ≡ map f (range_with_len 0 k) ++ map f (drop k (range_with_len 0 n))
    parts =
        sym (take-append-drop k (map f (range_with_len 0 n)))
        ∙ ap (λ l. l ++ drop k (map f (range_with_len 0 n))) (take-map-range_with_len f 0 n k le)
        ∙ ap (λ l. map f (range_with_len 0 k) ++ l) (drop-map f k (range_with_len 0 n))

-- ---- a loop over places

-- one place more is past
pub next_past : (start : TurnStart) (f : ℕ → Place) (p q r : Passage) (n : ℕ) → q ≡ At start p (map f (range_with_len 0 n)) → r ≡ at_place start q (f n)
    → r ≡ At start p (map f (range_with_len 0 (n + 1)))
next_past start f p q r n e g = g ∙ ap (λ (x : Passage). at_place start x (f n)) e ∙ sym (one_more start p f n)

-- a full history was met there, so all are past
pub full_past : (start : TurnStart) (f : ℕ → Place) → NeedsRoom f → (p q r : Passage) (k n : ℕ) → k < n → q ≡ At start p (map f (range_with_len 0 k)) → r ≡ at_place start q (f k) → r.full ≡ true
    → r ≡ At start p (map f (range_with_len 0 n))
full_past start f needs p q r k n lt e g full = sym (first_only start f needs p r (k + 1) n (omega (arith, lt)) (sym (next_past start f p q r k e g)) full)

-- all are past, none of which met one
pub all_past : (start : TurnStart) (f : ℕ → Place) (p q : Passage) (k n : ℕ) → n ≤ k → k ≤ n → q ≡ At start p (map f (range_with_len 0 k)) → q ≡ At start p (map f (range_with_len 0 n))
all_past start f p q k n low high e = let same : k ≡ n = omega (arith, low, high) in e ∙ ap (λ i. At start p (map f (range_with_len 0 i))) same
