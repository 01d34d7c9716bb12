-- A search on, as a walker makes it.
use Rattle.std.proofs.Common.{◌≡◌, ◌∙◌, ◌<◌, ◌+◌, ◌-◌, ◌||◌, ℕ, Bool, true, false, cond, List, [], ◌∷◌, is_some, length, map, Option, Some, None, refl, ap, sym, subst, inl, inr, arith}
use Rattle.std.specs.Prelude.{slice_get, unwrap_or}
use Rattle.mx_machine.specs.declared.events.Event.{Event}
use Rattle.mx_walk.specs.declared.either.Either.{Either}
use Rattle.mx_walk.specs.declared.halting.Halt.{Halt as Halting}
use Rattle.mx_walk.specs.declared.halting.Halt.TheVariants as halting
use Rattle.mx_walk.specs.declared.positions.Position.{Position}
use Rattle.mx_walk.specs.declared.several.Several.{Several}
use Rattle.mx_walk.specs.declared.stopping.CodePlace.{CodePlace}
use Rattle.mx_walk.specs.declared.stopping.Coming.{Coming}
use Rattle.mx_walk.specs.Halting.{HaltsAt}
use Rattle.mx_walk.specs.Positions.{IsPosition, IsUpTo, events_before, is_up_to, next_event, next_position}
use Rattle.mx_walk.specs.Seeking.{IsPassed}
use Rattle.mx_walk.specs.Several.{any_marks}
use Rattle.mx_walk.specs.Stopping.{comes_any, leaves_any}
use Rattle.mx_walk.specs.Walks.{Walk, world_here}
use Rattle.mx_walk.proofs.Along.{itself, up_trans}
use Rattle.mx_walk.proofs.Next.{up_to_of}
use Rattle.mx_walk.proofs.Unleft.{fewer_to}
use Rattle.mx_app_look.specs.Marks.{changes_bytes, changes_watched, code_place}
use Rattle.mx_app_look.specs.Searches.{next_made}
use Rattle.mx_app_look.specs.Slots.{slot_next}
use Rattle.mx_app_look.specs.Ranges.{Kept}
use Rattle.mx_app_gdb.specs.declared.halts.Halted.{Halted}
use Rattle.mx_app_gdb.specs.declared.halts.Halted.TheVariants.{AtBreak, AtEnd}
use Rattle.mx_app_gdb.specs.declared.halts.Halts.{Halts}
use Rattle.mx_app_gdb.specs.declared.marks.Faulting.{Faulting}
use Rattle.mx_app_gdb.specs.declared.threads.Counted.{Counted}
use Rattle.mx_app_gdb.specs.Halts.{IsUnchanged, halted_here}
use Rattle.mx_app_gdb.specs.Marks.{faults}
use Rattle.mx_app_gdb.specs.Moves.{Halt, IsAfterNext, IsMadeNext, IsSearchedOn, LeadsOn, Marks, at}
use Rattle.mx_app_gdb.proofs.RightAfter.{halts_is, none_halts}
use Rattle.mx_app_gdb.proofs.SearchedOn.{at_break, at_last, goes_on, halts_here, told}

-- ---- what a search is told of, as it is built

abbrev pub by_change : Kept → Marks
by_change m w x u = changes_bytes m.watch w x u

pub map_both : {X Y Z : Type 0} (f : X → Y) (g : Y → Z) (h : X → Z) (xs : List X) → ((x : X) → h x ≡ g (f x)) → map h xs ≡ map g (map f xs)
map_both f g h [] same = refl
map_both f g h (x ∷ xs) same = ap (λ z. z ∷ map h xs) (same x) ∙ ap (λ zs. g (f x) ∷ zs) (map_both f g h xs same)

abbrev pub All : Type 0 → Type 0
All M = Either (Either (Several Kept) Coming) (Either Faulting M)

abbrev pub told_by : {M : Type 0} → (M → Marks) → All M → Marks
told_by marks m w x u =
    (any_marks (map by_change m.one.one.marks.items) w x u || comes_any m.one.other.places.items w x u) || (faults m.other.one.counted w x u || marks m.other.other w x u)

module _ {M : Type 0} (marks : M → Marks) (k : Walk) (h : Halts) where
  pub told_is : (m : All M) (mark : M) → map (λ (c : Kept). c.watch) m.one.one.marks.items ≡ h.points.watches → m.one.other.places.items ≡ map code_place h.points.breakpoints
      → m.other.one.counted ≡ h.counted → m.other.other ≡ mark → told_by marks m ≡ told k h (marks mark)
  told_is m mark bytes places counted other =
      let changed : map by_change m.one.one.marks.items ≡ map changes_bytes h.points.watches = map_both (λ (c : Kept). c.watch) changes_bytes by_change m.one.one.marks.items (λ c. refl) ∙ ap (map changes_bytes) bytes in
      ap (λ (fs : List Marks). let i : Marks = λ w x u. (any_marks fs w x u || comes_any m.one.other.places.items w x u) || (faults m.other.one.counted w x u || marks m.other.other w x u) in i) changed
      ∙ ap (λ (ps : List CodePlace). let i : Marks = λ w x u. (changes_watched h.points w x u || comes_any ps w x u) || (faults m.other.one.counted w x u || marks m.other.other w x u) in i) places
      ∙ ap (λ (c : Counted). let i : Marks = λ w x u. (changes_watched h.points w x u || comes_any (map code_place h.points.breakpoints) w x u) || (faults c w x u || marks m.other.other w x u) in i) counted
      ∙ ap (λ (n : M). let i : Marks = λ w x u. (changes_watched h.points w x u || comes_any (map code_place h.points.breakpoints) w x u) || (faults h.counted w x u || marks n w x u) in i) other

  pub told_as : (m : All M) (points : Either (Several Kept) Coming) (others : Either Faulting M) (f : Faulting) (mark : M) → m.one ≡ points → m.other ≡ others → others.one ≡ f → others.other ≡ mark
      → map (λ (c : Kept). c.watch) points.one.marks.items ≡ h.points.watches → points.other.places.items ≡ map code_place h.points.breakpoints → f.counted ≡ h.counted
      → told_by marks m ≡ told k h (marks mark)
  told_as m points others f mark a b c d bytes places counted =
      told_is m mark
      (ap (λ (e : Either (Several Kept) Coming). map (λ (c : Kept). c.watch) e.one.marks.items) a ∙ bytes)
      (ap (λ (e : Either (Several Kept) Coming). e.other.places.items) a ∙ places)
      (ap (λ (e : Either Faulting M). e.one.counted) b ∙ ap (λ (e : Faulting). e.counted) c ∙ counted)
      (ap (λ (e : Either Faulting M). e.other) b ∙ d)

-- ---- where the walker is then

module _ (k : Walk) (h : Halts) (marks f : Marks) (ps : List CodePlace) (same : f ≡ told k h marks) (there : ps ≡ map code_place h.points.breakpoints)
    (j : Walk) (moved : j ≡ at k j.here) (i : IsPosition j.records j.here) (up : IsUpTo j.here j.last) (l : IsPosition k.records k.last)
    (unleft : IsPassed (leaves_any ps) k.boot k.records k.here j.here) where
  abbrev places : List CodePlace
  places = map code_place h.points.breakpoints

  halts_as : (r : Halting) → HaltsAt f ps k.boot k.records k.here k.last j.here r → HaltsAt (told k h marks) places k.boot k.records k.here k.last j.here r
  halts_as r halts =
      subst (λ (xs : List CodePlace). HaltsAt (told k h marks) xs k.boot k.records k.here k.last j.here r) there
      (subst (λ (g : Marks). HaltsAt g ps k.boot k.records k.here k.last j.here r) same halts)

  unleft_as : IsPassed (leaves_any places) k.boot k.records k.here j.here
  unleft_as = subst (λ (xs : List CodePlace). IsPassed (leaves_any xs) k.boot k.records k.here j.here) there unleft

  placed : IsPosition k.records j.here
  placed = subst (λ (w : Walk). IsPosition w.records j.here) moved i

  early : IsUpTo j.here k.last
  early = subst (λ (w : Walk). IsUpTo j.here w.last) moved up

  pub halts_before : HaltsAt f ps k.boot k.records k.here k.last j.here halting.Before → (slot : ℕ) → slot ≡ unwrap_or (slot_next (world_here j) (slice_get j.records j.here.records)) h.mover
      → IsSearchedOn k h marks (j.here, Some (AtBreak slot))
  halts_before halts slot is =
      let r = halts_as halting.Before halts in
      let whose = is ∙ ap (λ (w : Walk). unwrap_or (slot_next (world_here w) (slice_get w.records j.here.records)) h.mover) moved in
      subst (λ (s : ℕ). IsSearchedOn k h marks (j.here, Some (AtBreak s))) (sym whose) (at_break k h marks j.here r.0 unleft_as r.1 placed l r.2)

  pub halts_nowhere : HaltsAt f ps k.boot k.records k.here k.last j.here halting.Nowhere → j.here ≡ k.last → IsSearchedOn k h marks (j.here, Some (AtEnd h.mover))
  halts_nowhere halts last = at_last k h marks j.here (halts_as halting.Nowhere halts).0 unleft_as last

  halts_by : IsPosition k.records k.here → IsUnchanged k h → HaltsAt (told k h marks) places k.boot k.records k.here k.last j.here halting.After → (o : Option Halted) → halted_here (at k j.here) h ≡ o → IsSearchedOn k h marks (j.here, o)
  halts_by start still r None is = goes_on k h marks j.here r.0 unleft_as placed early start still is
  halts_by start still r (Some why) is = halts_here k h marks j.here r.0 unleft_as placed early start still why is

  pub after_event : IsPosition k.records k.here → IsUnchanged k h → HaltsAt f ps k.boot k.records k.here k.last j.here halting.After → (o : Option Halted) → o ≡ halted_here j h → IsSearchedOn k h marks (j.here, o)
  after_event start still halts o is = halts_by start still (halts_as halting.After halts) o (sym (is ∙ ap (λ (w : Walk). halted_here w h) moved))

-- ---- the next event

made_by : (b : Bool) (o : Option (ℕ × Event)) (x : ℕ × Event) → cond b None o ≡ Some x → o ≡ Some x
made_by true o x e = absurd cc
made_by false o x e = e

pub made_is : (k : Walk) (x : ℕ × Event) → next_made k ≡ Some x → next_event k.records k.here ≡ Some x
made_is k x e = made_by (is_up_to k.last k.here) (next_event k.records k.here) x e

pub none_is : (o : Option Halted) → is_some o ≡ false → o ≡ None
none_is None e = refl
none_is (Some why) e = absurd cc

module _ (k : Walk) (h : Halts) (x : ℕ × Event) (still : IsUnchanged k h) (start : IsPosition k.records k.here) (made : next_made k ≡ Some x) where
  abbrev q : Position
  q = next_position k.records k.here

  after_next : (From : Position → Halt → Type 0) (r : Halt) → (b : Bool) → is_some (halted_here (at k q) h) ≡ b
      → (b ≡ true → r ≡ (q, halted_here (at k q) h)) → (halted_here (at k q) h ≡ None → From q r) → IsAfterNext k h From (next_made k) r
  after_next From r true is yes_so later =
      subst (λ (o : Option (ℕ × Event)). IsAfterNext k h From o r) (sym made) (inl (sym (halts_is k h k.here still x start (made_is k x made)) ∙ is, yes_so refl))
  after_next From r false is yes_so later =
      subst (λ (o : Option (ℕ × Event)). IsAfterNext k h From o r) (sym made) (inr (sym (halts_is k h k.here still x start (made_is k x made)) ∙ is, later (none_is (halted_here (at k q) h) is)))

  pub made_next : (j : Walk) (to : Position) (o : Option Halted) → j ≡ at k to → to ≡ q → o ≡ halted_here j h → IsMadeNext k h (j.here, o)
  made_next j to o moved there is =
      let here : j.here ≡ q = ap (λ (w : Walk). w.here) moved ∙ there in
      let halted : o ≡ halted_here (at k q) h = is ∙ ap (λ (w : Walk). halted_here w h) moved ∙ ap (λ (p : Position). halted_here (at k p) h) there in
      let both : (j.here, o) ≡ (q, halted_here (at k q) h) = ap (λ (p : Position). let r : Halt = (p, o) in r) here ∙ ap (λ (n : Option Halted). let r : Halt = (q, n) in r) halted in
      after_next (λ p r. r ≡ (p, None)) (j.here, o) (is_some (halted_here (at k q) h)) refl (λ t. both) (λ none. both ∙ ap (λ (n : Option Halted). let r : Halt = (q, n) in r) none)

-- ---- a move that begins with the next event

-- it halts right after it
made_halts_by : (k : Walk) (h : Halts) (From : Position → Halt → Type 0) (o : Option (ℕ × Event)) (q : Position) (why : Halted) → IsAfterNext k h (λ p r. r ≡ (p, None)) o (q, Some why) → IsAfterNext k h From o (q, Some why)
made_halts_by k h From None q why e = e
made_halts_by k h From (Some x) q why (inl a) = inl a
made_halts_by k h From (Some x) q why (inr (isnt, e)) = let clash : Some why ≡ None = ap (λ (r : Halt). r.1) e in absurd cc

pub made_halts : (k : Walk) (h : Halts) (From : Position → Halt → Type 0) (q : Position) (why : Halted) → IsMadeNext k h (q, Some why) → IsAfterNext k h From (next_made k) (q, Some why)
made_halts k h From q why made = made_halts_by k h From (next_made k) q why made

-- or goes on from there
made_on_by : (k : Walk) (h : Halts) (From : Position → Halt → Type 0) (q : Position) (r : Halt) → IsUnchanged k h → IsPosition k.records k.here → From q r → (o : Option (ℕ × Event)) → next_made k ≡ o
    → IsAfterNext k h (λ p r. r ≡ (p, None)) o (q, None) → IsAfterNext k h From o r
made_on_by k h From q r still start later None made e = let clash : None ≡ Some (AtEnd h.mover) = ap (λ (r : Halt). r.1) e in absurd cc
made_on_by k h From q r still start later (Some x) made (inl (marked, e)) =
    let none : None ≡ halted_here (at k (next_position k.records k.here)) h = ap (λ (r : Halt). r.1) e in
    let clash : false ≡ true = ap (λ (o : Option Halted). is_some o) none ∙ halts_is k h k.here still x start (made_is k x made) ∙ marked in
    absurd cc
made_on_by k h From q r still start later (Some x) made (inr (isnt, e)) =
    let same : q ≡ next_position k.records k.here = ap (λ (r : Halt). r.0) e in
    inr (isnt, subst (λ (p : Position). From p r) same later)

pub made_on : (k : Walk) (h : Halts) (From : Position → Halt → Type 0) (q : Position) (r : Halt) → IsUnchanged k h → IsPosition k.records k.here → From q r → IsMadeNext k h (q, None) → IsAfterNext k h From (next_made k) r
made_on k h From q r still start later made = made_on_by k h From q r still start later (next_made k) refl made

-- ---- searches one after the other

-- how many events are left, where one goes on
abbrev pub left_of : Option Halted → ℕ → ℕ
left_of None n = n + 1
left_of (Some why) n = 0

abbrev pub events_to : Walk → Position → ℕ
events_to k p = length (events_before k.records k.last) - length (events_before k.records p)

-- where they led to, and what is known there: of where one goes on, or halts
pub record OnWay (k : Walk) (h : Halts) (Leads : Position → Option Halted → Type 0) (j : Walk) (o : Option Halted) : Type 0 where
  pub walker : j ≡ at k j.here
  pub position : IsPosition k.records j.here
  pub early : IsUpTo j.here k.last
  pub leads : Leads j.here o
  pub on : o ≡ None → IsUpTo k.here j.here
  pub unchanged : o ≡ None → IsUnchanged j h

pub on_start : (k : Walk) (h : Halts) (Leads : Position → Option Halted → Type 0) → IsPosition k.records k.here → IsUpTo k.here k.last → IsUnchanged k h → Leads k.here None → OnWay k h Leads k None
on_start k h Leads position early still leads = record {
  walker = refl;
  position = position;
  early = early;
  leads = leads;
  on = λ e. itself k.here;
  unchanged = λ e. still;
}

pub leads_trans : (From : Position → Halt → Type 0) (p q r : Position) (o : Option Halted) → LeadsOn From p q None → LeadsOn From q r o → LeadsOn From p r o
leads_trans From p q r None a b = λ t later. a t (b t later)
leads_trans From p q r (Some why) a b = a (r, Some why) b

some_isnt : (why : Halted) → Some why ≡ None → ⊥
some_isnt why e = cc

module _ (k : Walk) (h : Halts) (Leads : Position → Option Halted → Type 0) (marks : Marks) (j i : Walk) (way : OnWay k h Leads j None) (moved : i ≡ at j i.here) (position : IsPosition i.records i.here) (early : IsUpTo i.here i.last) where
  there : i ≡ at k i.here
  there = moved ∙ ap (λ (w : Walk). at w i.here) way.walker

  searched_there : (o : Option Halted) → IsSearchedOn j h marks (i.here, o) → IsSearchedOn (at k j.here) h marks (i.here, o)
  searched_there o s = subst (λ (w : Walk). IsSearchedOn w h marks (i.here, o)) way.walker s

  placed_there : IsPosition k.records i.here
  placed_there = subst (λ (w : Walk). IsPosition w.records i.here) there position

  early_there : IsUpTo i.here k.last
  early_there = subst (λ (w : Walk). IsUpTo i.here w.last) there early

  pub on_more : (o : Option Halted) → IsSearchedOn j h marks (i.here, o)
      → (IsPosition k.records i.here → IsUpTo i.here k.last → IsSearchedOn (at k j.here) h marks (i.here, o) → Leads i.here o) → OnWay k h Leads i o
  on_more None s law = record {
    walker = there;
    position = placed_there;
    early = early_there;
    leads = law placed_there early_there (searched_there None s);
    on = λ e. up_trans k.here j.here i.here (way.on refl) (up_to_of j.here i.here (searched_there None s).0);
    unchanged = λ e. subst (λ (w : Walk). IsUnchanged w h) (sym there) (none_halts (at k i.here) h (way.unchanged refl).watched (searched_there None s).3);
  }
  on_more (Some why) s law = record {
    walker = there;
    position = placed_there;
    early = early_there;
    leads = law placed_there early_there (searched_there (Some why) s);
    on = λ e. absurd (some_isnt why e);
    unchanged = λ e. absurd (some_isnt why e);
  }

  -- and fewer events are left
  pub fewer : (o : Option Halted) → IsPosition k.records k.last → IsSearchedOn j h marks (i.here, o) → left_of o (events_to k i.here) < left_of None (events_to k j.here)
  fewer None l s =
      let less : events_to k i.here < events_to k j.here = fewer_to k.records j.here i.here k.last way.position placed_there l (searched_there None s).0 early_there in
      omega (arith, less)
  fewer (Some why) l s = omega arith
