-- Where a walk begins, and what is shown of one after another.
use Rattle.std.proofs.Common.{◌≡◌, ◌∙◌, ◌<◌, ℕ, zero, suc, ◌+◌, Option, Some, None, Bool, true, false, cond, List, [], ◌∷◌, ◌++◌, append_assoc, filter, get_or, length, take, refl, ap, sym, subst, arith}
use Rattle.std.specs.Option.{MatchOption}
use Rattle.std.proofs.lemmas.List.{append-nil, map-append, take_more}
use Rattle.std.proofs.lemmas.List.Elements.{filter-append}
use Rattle.mx_walk.specs.declared.checkpoints.Stored.{Stored}
use Rattle.mx_walk.specs.declared.positions.Position.{Position}
use Rattle.mx_walk.specs.declared.progress.Part.{Part}
use Rattle.mx_walk.specs.Checkpoints.{positions_of}
use Rattle.mx_walk.specs.Walks.{Walk, last_or, checkpoint_before, shown_to}
use Rattle.mx_walk.specs.Parts.{walk_between}
use Rattle.mx_walk.specs.Positions.{IsUpTo, first, is_up_to}

-- ---- where a walk back begins, with one checkpoint more

last_of_more : (p m : Position) (ms : List Position) → last_or p (ms ++ m ∷ []) ≡ m
last_of_more p m [] = refl
last_of_more p m (q ∷ qs) = last_of_more q m qs

by_test : (b : Bool) (p m : Position) (ms : List Position) → last_or p (ms ++ cond b (m ∷ []) []) ≡ cond b m (last_or p ms)
by_test true p m ms = last_of_more p m ms
by_test false p m ms = ap (λ (xs : List Position). last_or p xs) (append-nil ms)

checkpoint_more : (ms : List Position) (m to : Position) → checkpoint_before (ms ++ m ∷ []) to ≡ cond (is_up_to m to) m (checkpoint_before ms to)
checkpoint_more ms m to =
    let up : Position → Bool = λ (q : Position). is_up_to q to in
    ap (λ (xs : List Position). last_or first xs) (filter-append up ms (m ∷ []))
    ∙ by_test (is_up_to m to) first m (filter up ms)

pub stored_more : (stored : List Stored) (i : ℕ) (d : Stored) (to : Position) → i < length stored
    → checkpoint_before (positions_of (take (i + 1) stored)) to ≡ cond (is_up_to (get_or stored i d).position to) (get_or stored i d).position (checkpoint_before (positions_of (take i stored)) to)
stored_more stored i d to lt =
    ap (λ (xs : List Stored). checkpoint_before (positions_of xs) to) (take_more stored i d lt)
    ∙ ap (λ (ms : List Position). checkpoint_before ms to) (map-append (λ (s : Stored). s.position) (take i stored) (get_or stored i d ∷ []))
    ∙ checkpoint_more (positions_of (take i stored)) (get_or stored i d).position to

-- ---- a walk, and then another one

-- back to a position, after a search on
pub then_above : (k w l : Walk) (p q : Position) (before now after : List Part) → w ≡ record k { here = w.here } → w.here ≡ q → l ≡ record w { here = p } → now ≡ before ++ walk_between k.records k.here w.here → after ≡ now ++ shown_to w p
    → after ≡ before ++ (walk_between k.records k.here q ++ shown_to (record k { here = q }) l.here)
then_above k w l p q before now after moved at gone shown more =
    more ∙ ap (λ (v : Walk). now ++ shown_to v p) moved ∙ ap (λ (ps : List Part). ps ++ shown_to (record k { here = w.here }) p) shown
    ∙ append_assoc before (walk_between k.records k.here w.here) (shown_to (record k { here = w.here }) p)
    ∙ ap (λ (r : Position). before ++ (walk_between k.records k.here r ++ shown_to (record k { here = r }) p)) at
    ∙ ap (λ (v : Walk). before ++ (walk_between k.records k.here q ++ shown_to (record k { here = q }) v.here)) (sym gone)

-- ---- the last checkpoint above a position, of the first n

any_stored : (stored : List Stored) (i : ℕ) (d e : Stored) → i < length stored → get_or stored i d ≡ get_or stored i e
any_stored [] i d e lt = absurd (omega (arith, lt))
any_stored (x ∷ xs) zero d e lt = refl
any_stored (x ∷ xs) (suc i) d e lt = any_stored xs i d e (omega (arith, lt))

abbrev Found : List Stored → Position → ℕ → Option ℕ → Type 0
Found stored to n o = MatchOption o (checkpoint_before (positions_of (take n stored)) to ≡ first)
    (λ index. (index < length stored) × ((d : Stored) → IsUpTo (get_or stored index d).position to) × ((d : Stored) → (get_or stored index d).position ≡ checkpoint_before (positions_of (take n stored)) to))

found_kept : (stored : List Stored) (to : Position) (n m : ℕ) (o : Option ℕ) → checkpoint_before (positions_of (take m stored)) to ≡ checkpoint_before (positions_of (take n stored)) to → Found stored to n o → Found stored to m o
found_kept stored to n m None same h = same ∙ h
found_kept stored to n m (Some index) same h = (h.0, h.1, λ d. h.2 d ∙ sym same)

module _ (stored : List Stored) (to : Position) (i : ℕ) (lt : i < length stored) (d : Stored) where
  abbrev there : Position
  there = (get_or stored i d).position

  pub found_here : (o : Option ℕ) → o ≡ Some i → is_up_to there to ≡ true → IsUpTo there to → Found stored to (i + 1) o
  found_here o is test up =
      let same : (e : Stored) → get_or stored i e ≡ get_or stored i d = λ e. any_stored stored i e d lt in
      let at : checkpoint_before (positions_of (take (i + 1) stored)) to ≡ there =
      stored_more stored i d to lt ∙ ap (λ b. cond b there (checkpoint_before (positions_of (take i stored)) to)) test in
      subst (λ (p : Option ℕ). Found stored to (i + 1) p) (sym is)
      (lt, λ e. subst (λ (x : Stored). IsUpTo x.position to) (sym (same e)) up, λ e. ap (λ (x : Stored). x.position) (same e) ∙ sym at)

  pub found_before : (o p : Option ℕ) → p ≡ o → is_up_to there to ≡ false → Found stored to i o → Found stored to (i + 1) p
  found_before o p is test h =
      let at : checkpoint_before (positions_of (take (i + 1) stored)) to ≡ checkpoint_before (positions_of (take i stored)) to =
      stored_more stored i d to lt ∙ ap (λ b. cond b there (checkpoint_before (positions_of (take i stored)) to)) test in
      subst (λ (q : Option ℕ). Found stored to (i + 1) q) (sym is) (found_kept stored to i (i + 1) o at h)
