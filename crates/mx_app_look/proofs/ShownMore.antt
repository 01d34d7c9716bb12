-- What requests show.
use Rattle.std.proofs.Common.{◌≡◌, ◌∙◌, ◌⊎◌, ◌≤◌, ◌<◌, ℕ, suc, ◌+◌, ◌-◌, Bool, true, false, List, [], ◌++◌, append_assoc, Option, Some, None, Result, Ok, Err, IfErr, IfOk, OnOk, drop, find, get_or, length, slice_get, refl, ap, sym, subst, inl, inr, arith}
use Rattle.std.specs.List.{range_with_len}
use Rattle.std.proofs.lemmas.Bool.{cases_lt}
use Rattle.std.proofs.lemmas.List.{append-nil}
use Rattle.mx_machine.specs.declared.events.Event.{Event}
use Rattle.mx_machine.specs.declared.history.Record.{Record}
use Rattle.mx_machine.specs.World.{World}
use Rattle.mx_walk.specs.declared.positions.Position.{Position}
use Rattle.mx_walk.specs.declared.progress.Part.{Part}
use Rattle.mx_walk.specs.Parts.{HasGrown, parts_between, walk_between, walk_shown}
use Rattle.mx_walk.specs.Walks.{Walk, shown_to, shown_way}
use Rattle.mx_walk.specs.Positions.{IsPosition, IsUpTo, first, first_steps, next_position, steps_in}
use Rattle.mx_walk.specs.Seeking.{IsLastMarked, IsPassed}
use Rattle.mx_walk.proofs.PartsShown.{joined, none_between}
use Rattle.mx_app_look.specs.declared.points.Points.{Points}
use Rattle.mx_app_look.specs.declared.request.Request.{Request}
use Rattle.mx_app_look.specs.declared.request.Request.TheVariants.{Nothing, Why}
use Rattle.mx_app_look.specs.declared.sight.Sight.{Sight}
use Rattle.mx_app_look.specs.Before.{record_before}
use Rattle.mx_app_look.specs.Searches.{IsNextHalt, not_met}
use Rattle.mx_app_look.specs.Shows.{IsLastShown, IsNextShown, IsRequestShown, IsShownIf, record_shown, return_shown, steps_made, why_shown, why_shown_by}
use Rattle.mx_app_look.specs.declared.happening.Happening.{Happening}
use Rattle.mx_app_look.specs.Until.{past, halt_after, has, met, until_halt}
use Rattle.mx_walk.proofs.Along.{up_trans}
use Rattle.mx_app_look.proofs.Coming.{gone}
use Rattle.mx_app_look.proofs.Meeting.{met_from}
use Rattle.mx_walk.proofs.Staying.{none_shown, on_shown, stays_shown}
use Rattle.mx_app_look.proofs.Moving.{made_position, read_is, records_up_to, steps_by}

-- ---- what was shown before, and after

pub grown_none : (before : List Part) → HasGrown before before
grown_none before = ([], sym (append-nil before))

pub grown_same : (before after : List Part) → after ≡ before → HasGrown before after
grown_same before after e = ([], e ∙ sym (append-nil before))

pub grown_by : (before after ps : List Part) → after ≡ before ++ ps → HasGrown before after
grown_by before after ps e = (ps, e)

pub grown_either : (before after ps : List Part) → (after ≡ before) ⊎ (after ≡ before ++ ps) → HasGrown before after
grown_either before after ps (inl e) = grown_same before after e
grown_either before after ps (inr e) = (ps, e)

pub grown_more : (before now after : List Part) → HasGrown before now → HasGrown now after → HasGrown before after
grown_more before now after a b = (a.0 ++ b.0, b.1 ∙ ap (λ (xs : List Part). xs ++ b.0) a.1 ∙ append_assoc before a.0 b.0)

pub err_always : {A E : Type 0} (r : Result A E) (X : Type 0) → X → IfErr r (λ (e : E). X)
err_always (Ok a) X h = tt
err_always (Err e) X h = h

pub ok_always : {A E : Type 0} (r : Result A E) (X : Type 0) → X → OnOk r X
ok_always (Ok a) X h = h
ok_always (Err e) X h = tt

pub err_weaker : {A E : Type 0} (r : Result A E) (X Y : Type 0) → (X → Y) → IfErr r (λ (e : E). X) → IfErr r (λ (e : E). Y)
err_weaker (Ok a) X Y f h = tt
err_weaker (Err e) X Y f h = f h

pub ok_weaker : {A E : Type 0} (r : Result A E) (X Y : Type 0) → (X → Y) → OnOk r X → OnOk r Y
ok_weaker (Ok a) X Y f h = f h
ok_weaker (Err e) X Y f h = tt

pub both_shown : (before now after ps qs : List Part) → now ≡ before ++ ps → after ≡ now ++ qs → after ≡ before ++ (ps ++ qs)
both_shown before now after ps qs a b = b ∙ ap (λ (xs : List Part). xs ++ qs) a ∙ append_assoc before ps qs

-- a list that was shown, of which this holds
abbrev pub Shows : List Part → List Part → (List Part → Type 0) → Type 0
Shows before after P = (ps : List Part) × (after ≡ before ++ ps) × P ps

-- ---- a record

pub record_is_shown : (k w : Walk) (n : ℕ) (x : Record) (p : Position) (before now after : List Part) → p ≡ steps_made n x → w ≡ gone k p
    → now ≡ before ++ shown_to k p → after ≡ now ++ shown_to w (past n) → after ≡ before ++ record_shown k n x
record_is_shown k w n x p before now after there moved a b =
    both_shown before now after (shown_to k p) (shown_to w (past n)) a b
    ∙ ap (λ (v : Walk). before ++ (shown_to k p ++ shown_to v (past n))) moved
    ∙ ap (λ (q : Position). before ++ (shown_to k q ++ shown_way k q (past n))) there

-- and then within the next one
pub then_none : (k w : Walk) (n : ℕ) (p : Position) (before now after ps : List Part) → n + 1 ≡ p.records → w ≡ gone k (past n) → now ≡ before ++ ps → after ≡ now ++ shown_to w p → after ≡ before ++ ps
then_none k w n p before now after ps one moved a b =
    let few : 0 ≤ p.steps = omega arith in
    b ∙ ap (λ (v : Walk). now ++ shown_to v p) moved ∙ ap (λ (xs : List Part). now ++ xs) (none_shown (gone k (past n)) p (inr (one, few)) one) ∙ append-nil now ∙ a

-- one whose steps are made, and then back
pub returned_shown : (k w : Walk) (n : ℕ) (x : Record) (here : Position) (before now after : List Part) → k.here ≡ steps_made n x → w ≡ gone k (past n) → here ≡ k.here
    → now ≡ before ++ record_shown k n x → after ≡ now ++ shown_to w here → after ≡ before ++ return_shown k k.here (past n)
returned_shown k w n x here before now after there moved at a b =
    let le : k.here.steps ≤ k.here.steps = omega arith in
    let one : record_shown k n x ≡ shown_way k k.here (past n) =
    ap (λ (p : Position). shown_to k p ++ shown_way k p (past n)) (sym there) ∙ ap (λ (ps : List Part). ps ++ shown_way k k.here (past n)) (none_shown k k.here (inr (refl, le)) refl) in
    let back : shown_to w here ≡ shown_way k (past n) k.here = ap (λ (v : Walk). shown_to v here) moved ∙ ap (λ (p : Position). shown_way k (past n) p) at in
    both_shown before now after (record_shown k n x) (shown_to w here) a b
    ∙ ap (λ (ps : List Part). before ++ (ps ++ shown_to w here)) one ∙ ap (λ (ps : List Part). before ++ (shown_way k k.here (past n) ++ ps)) back

pub why_is_shown : (k : Walk) (m : ℕ) (x : Record) → k.here.records ≡ suc m → slice_get k.records m ≡ Some x → why_shown k ≡ record_shown k m x
why_is_shown k m x e h =
    let less : k.here.records - 1 ≡ m = omega (arith, e) in
    ap (λ (o : Option Record). why_shown_by k (k.here.records - 1) o) (ap (record_before k.records) e ∙ h)
    ∙ ap (λ i. record_shown k i x) less

pub boot_shown : (k : Walk) (before : List Part) → k.here.records ≡ 0 → before ≡ before ++ why_shown k
boot_shown k before e =
    let none : why_shown k ≡ [] = ap (λ (o : Option Record). why_shown_by k (k.here.records - 1) o) (ap (record_before k.records) e) in
    sym (append-nil before) ∙ ap (λ (ps : List Part). before ++ ps) (sym none)

-- at an index of what was read
pub shown_is_read : (k : Walk) (records : List Record) (n : ℕ) (x : Record) → records ≡ k.records → (n ≡ 0 → ⊥) → n ≡ k.here.records → k.here.records ≤ length k.records
    → why_shown k ≡ record_shown k (n - 1) (get_or records (n - 1) x)
shown_is_read k records n x same some here few =
    let one : k.here.records ≡ suc (n - 1) = omega (arith, some, here) in
    let lt : n - 1 < length k.records = omega (arith, few, one) in
    let read : slice_get k.records (n - 1) ≡ Some (get_or records (n - 1) x) = read_is k.records (n - 1) x lt ∙ ap (λ (rs : List Record). Some (get_or rs (n - 1) x)) (sym same) in
    why_is_shown k (n - 1) (get_or records (n - 1) x) one read

-- ---- until: records from here on, as far as they are passed

pub record On (k w : Walk) (n : ℕ) : Type 0 where
  pub place : w.here.records ≡ n
  pub position : IsPosition k.records w.here
  pub late : IsUpTo w.here k.last
  pub later : IsUpTo k.here w.here

pub on_here : (k : Walk) (n : ℕ) → n ≡ k.here.records → IsPosition k.records k.here → IsUpTo k.here k.last → On k k n
on_here k n same position early = record { place = sym same; position = position; late = early; later = let le : k.here.steps ≤ k.here.steps = omega arith in inr (refl, le) }

module _ (k w : Walk) (records : List Record) (n : ℕ) (x : Record) (moved : w ≡ gone k w.here) (same : records ≡ w.records) (lt : n < k.last.records) (few : k.last.records ≤ length k.records) (on : On k w n) where
  abbrev y : Record
  y = get_or records n x

  read : slice_get k.records n ≡ Some y
  read = read_is k.records n x (omega (arith, lt, few)) ∙ ap (λ (rs : List Record). Some (get_or rs n x)) (sym (same ∙ ap (λ (j : Walk). j.records) moved))

  up : IsUpTo w.here (steps_made n y)
  up =
      let inside = on.position.inside in
      let most : first_steps (drop w.here.records k.records) ≡ steps_in y.event = ap (λ i. first_steps (drop i k.records)) on.place ∙ steps_by k.records n y read in
      let le : w.here.steps ≤ steps_in y.event = omega (arith, inside, most) in inr (on.place, le)

  begun : k.here.records ≤ n
  begun = let le = records_up_to k.here w.here on.later in let e = on.place in omega (arith, le, e)

  -- one more is passed
  pub passed_one : (before now after : List Part) → now ≡ before ++ parts_between (length k.records) k.here.records n → after ≡ now ++ record_shown w n y → after ≡ before ++ parts_between (length k.records) k.here.records (n + 1)
  passed_one before now after a b =
      let all = length k.records in
      let v : Walk = gone k w.here in
      let none : shown_to v (steps_made n y) ≡ [] = none_shown v (steps_made n y) up on.place in
      let less : n < n + 1 = omega arith in
      let on : shown_way v (steps_made n y) (past n) ≡ parts_between all n (n + 1) = on_shown (gone v (steps_made n y)) (past n) (inl less) in
      let one : record_shown w n y ≡ parts_between all n (n + 1) =
      ap (λ (u : Walk). record_shown u n y) moved ∙ ap (λ (ps : List Part). ps ++ shown_way v (steps_made n y) (past n)) none ∙ on in
      both_shown before now after (parts_between all k.here.records n) (record_shown w n y) a b
      ∙ ap (λ (ps : List Part). before ++ (parts_between all k.here.records n ++ ps)) one
      ∙ ap (λ (ps : List Part). before ++ ps) (joined all k.here.records n (n + 1) begun (omega arith))

  on_by_one : (u : Walk) → u.here ≡ past n → On k u (n + 1)
  on_by_one u at =
      let start : On k (gone u (past n)) (n + 1) = record {
        place = refl;
        position = made_position k.records n y read;
        late = elim (cases_lt (n + 1) k.last.records) [
          | inl less ↦ inl less
          | inr ge ↦ let last : n + 1 ≡ k.last.records = omega (arith, lt, ge) in let le : 0 ≤ k.last.steps = omega arith in inr (last, le)
        ];
        later = let le = begun in let less : k.here.records < n + 1 = omega (arith, le) in inl less;
      } in
      record {
        place = ap (λ (p : Position). p.records) at;
        position = subst (λ (p : Position). IsPosition k.records p) (sym at) start.position;
        late = subst (λ (p : Position). IsUpTo p k.last) (sym at) start.late;
        later = subst (λ (p : Position). IsUpTo k.here p) (sym at) start.later;
      }

  pub on_one_more : (u : Walk) → u ≡ record w { here = past n } → On k u (n + 1)
  on_one_more u there = on_by_one u (ap (λ (j : Walk). j.here) there)

-- all that is shown on the way to where it halts
until_shown : (k : Walk) (p : Position) (n : ℕ) (before after : List Part) → IsUpTo k.here p → p.records ≡ n → after ≡ before ++ parts_between (length k.records) k.here.records n → after ≡ before ++ shown_to k p
until_shown k p n before after up same a =
    a ∙ ap (λ i. before ++ parts_between (length k.records) k.here.records i) (sym same) ∙ ap (λ (ps : List Part). before ++ ps) (sym (on_shown k p up))

pub shown_until_here : (k u w : Walk) (p : Position) (n : ℕ) (before after : List Part) → u ≡ record w { here = past n } → u ≡ gone k p → On k u (n + 1) → after ≡ before ++ parts_between (length k.records) k.here.records (n + 1) → after ≡ before ++ shown_to k p
shown_until_here k u w p n before after there halts on a =
    let at : u.here ≡ p = ap (λ (j : Walk). j.here) halts in
    until_shown k p (n + 1) before after (subst (λ (q : Position). IsUpTo k.here q) at on.later) (ap (λ (q : Position). q.records) (sym at) ∙ on.place) a

-- to the last position
pub halts_last : (k : Walk) (h : Happening) (n : ℕ) → k.last.records ≤ n → met_from k h n ≡ met k h → (until_halt k h).0 ≡ k.last
halts_last k h n over none =
    let left : k.last.records - n ≡ 0 = omega (arith, over) in
    let nothing : met_from k h n ≡ None = ap (λ m. find (has k h) (range_with_len n m)) left in
    ap (λ (o : Option ℕ). (halt_after k o).0) (sym none ∙ nothing)

pub shown_until_last : (k w : Walk) (p : Position) (n : ℕ) (before now after : List Part) → w ≡ gone k w.here → On k w n → k.last.records ≤ n → p ≡ k.last
    → now ≡ before ++ parts_between (length k.records) k.here.records n → after ≡ now ++ shown_to w k.last → after ≡ before ++ shown_to k p
shown_until_last k w p n before now after moved on over at a b =
    let le = records_up_to w.here k.last on.late in
    let place = on.place in
    let end : w.here.records ≡ k.last.records = omega (arith, le, over, place) in
    let none : shown_to w k.last ≡ [] = ap (λ (j : Walk). shown_to j k.last) moved ∙ none_shown (gone k w.here) k.last on.late end in
    let all : after ≡ before ++ parts_between (length k.records) k.here.records n = b ∙ ap (λ (ps : List Part). now ++ ps) none ∙ append-nil now ∙ a in
    until_shown k k.last n before after (up_trans k.here w.here k.last on.later on.late) (sym end ∙ on.place) all ∙ ap (λ (q : Position). before ++ shown_to k q) (sym at)

-- ---- searches

module _ (k : Walk) (s : Points) where
  -- each record on the way to the halt
  pub next_shown : {A E : Type 0} (r : Result A E) (halt : A → Position × List ℕ) (before after : List Part) → IfOk r (λ (a : A). IsNextHalt k s (halt a))
      → IfOk r (λ (a : A). after ≡ before ++ walk_between k.records k.here (halt a).0) → OnOk r (Shows before after (λ ps. IsNextShown k s ps))
  next_shown (Ok a) halt before after h shown = (walk_between k.records k.here (halt a).0, shown, (halt a, h, refl))
  next_shown (Err e) halt before after h shown = tt

  pub here_shown : (before : List Part) → IsNextHalt k s (k.here, not_met) → Shows before before (λ ps. IsNextShown k s ps)
  here_shown before h = (walk_between k.records k.here k.here, none_between (length k.records) k.here.records before, ((k.here, not_met), h, refl))

-- back
module _ (k : Walk) (f : World → ℕ × Event → World → Bool) where
  abbrev back : Position → List Part
  back p = walk_shown k.records k.here ++ shown_to k p

  pub none_before : (p : Position) (before after : List Part) → p ≡ first → IsPassed f k.boot k.records first k.here → after ≡ before ++ back p → Shows before after (λ ps. IsLastShown f k ps)
  none_before p before after at passed a = (back p, a, inr (passed, ap back at))

  pub back_shown : (j : Walk) (next : Position) (before now after : List Part) → j ≡ gone k j.here → IsPosition j.records j.here → IsLastMarked f k.boot k.records j.here k.here
      → next ≡ next_position j.records j.here → now ≡ before ++ back j.here → after ≡ now ++ return_shown j j.here next → Shows before after (λ ps. IsLastShown f k ps)
  back_shown j next before now after moved position found there a b =
      let p = j.here in
      let records : j.records ≡ k.records = ap (λ (w : Walk). w.records) moved in
      let at : next ≡ next_position k.records p = there ∙ ap (λ (xs : List Record). next_position xs p) records in
      let rest = return_shown k p (next_position k.records p) in
      let ends : after ≡ now ++ rest = b ∙ ap (λ (w : Walk). now ++ return_shown w p next) moved ∙ ap (λ (q : Position). now ++ return_shown k p q) at in
      (back p ++ rest, both_shown before now after (back p) rest a ends, inl (p, subst (λ (xs : List Record). IsPosition xs p) records position, found, refl))

-- ---- requests

-- one that moves
pub moved_shown : {A E : Type 0} (r : Result A E) (s : Sight) (q p : Request) (to : Position) (before after : List Part) → q ≡ p → IsRequestShown s p (shown_to s.walker to) → OnOk r (after ≡ before ++ shown_to s.walker to)
    → OnOk r (Shows before after (λ ps. IsRequestShown s q ps))
moved_shown r s q p to before after is h shown =
    ok_weaker r (after ≡ before ++ shown_to s.walker to) (Shows before after (λ ps. IsRequestShown s q ps)) (λ e. (shown_to s.walker to, e, subst (λ (x : Request). IsRequestShown s x (shown_to s.walker to)) (sym is) h)) shown

-- one that shows this
pub asked_shown : {A E : Type 0} (r : Result A E) (s : Sight) (q p : Request) (before after : List Part) → q ≡ p → OnOk r (Shows before after (λ ps. IsRequestShown s p ps)) → OnOk r (Shows before after (λ ps. IsRequestShown s q ps))
asked_shown r s q p before after is h = subst (λ (x : Request). OnOk r (Shows before after (λ ps. IsRequestShown s x ps))) (sym is) h

pub why_asked : {A E : Type 0} (r : Result A E) (s : Sight) (q : Request) (before after : List Part) → q ≡ Why → OnOk r (after ≡ before ++ why_shown s.walker) → OnOk r (Shows before after (λ ps. IsRequestShown s q ps))
why_asked r s q before after is shown =
    ok_weaker r (after ≡ before ++ why_shown s.walker) (Shows before after (λ ps. IsRequestShown s q ps)) (λ e. (why_shown s.walker, e, subst (λ (x : Request). IsRequestShown s x (why_shown s.walker)) (sym is) refl)) shown

-- one that stays here
pub stayed_shown : {A E : Type 0} (r : Result A E) (s : Sight) (q p : Request) (before : List Part) → q ≡ p → IsRequestShown s p (shown_to s.walker s.walker.here) → OnOk r (Shows before before (λ ps. IsRequestShown s q ps))
stayed_shown r s q p before is h =
    ok_always r (Shows before before (λ ps. IsRequestShown s q ps))
    (shown_to s.walker s.walker.here, stays_shown s.walker before, subst (λ (x : Request). IsRequestShown s x (shown_to s.walker s.walker.here)) (sym is) h)

pub nothing_shown : {A E : Type 0} (r : Result A E) (s : Sight) (q : Request) (before : List Part) → q ≡ Nothing → OnOk r (Shows before before (λ ps. IsRequestShown s q ps))
nothing_shown r s q before e = stayed_shown r s q Nothing before e refl

-- a search, if it is made
pub shown_if : {A E : Type 0} (r : Result A E) (b : Bool) (IsSearch : List Part → Type 0) (before after : List Part) → b ≡ true → OnOk r (Shows before after IsSearch) → OnOk r (Shows before after (λ ps. IsShownIf b IsSearch ps))
shown_if r b IsSearch before after is h = subst (λ (x : Bool). OnOk r (Shows before after (λ ps. IsShownIf x IsSearch ps))) (sym is) h

pub unshown_if : {A E : Type 0} (r : Result A E) (b : Bool) (IsSearch : List Part → Type 0) (before : List Part) → b ≡ false → OnOk r (Shows before before (λ ps. IsShownIf b IsSearch ps))
unshown_if r b IsSearch before is = ok_always r _ (subst (λ (x : Bool). Shows before before (λ ps. IsShownIf x IsSearch ps)) (sym is) ([], sym (append-nil before), refl))
