-- Positions that are tried ahead.
use Rattle.std.proofs.Common.{◌≡◌, ◌∙◌, ◌<◌, ◌≤◌, ◌+◌, ◌-◌, ◌*◌, ◌/◌, ◌++◌, ℕ, zero, suc, All, IfOk, List, [], ◌∷◌, Result, Ok, Err, length, length-append, ap, arith, subst, sym}
use Rattle.std.proofs.Math.Nat.{div-mul-le_self, mul-add, mul-le-mul_left, mul-one}
use Rattle.std.proofs.lemmas.List.Elements.{All-append, All-push, All-weaker}
use Rattle.mx_machine.specs.World.{World}
use Rattle.mx_turns.specs.Ahead.{AreTold, AreTried, IsAfter, IsBefore, IsTold, LastIs}
use Rattle.mx_turns.specs.declared.ahead.Told.{Told}
use Rattle.mx_turns.specs.declared.ahead.Tried.{Tried}
use Rattle.mx_turns.specs.declared.faulted_run.Sweep.{Sweep}
use Rattle.mx_turns.specs.declared.pairs.Pair.{Pair}
use Rattle.mx_turns.specs.declared.trials.Trial.{Trial}
use Rattle.mx_turns.specs.Swept.{IsPair, IsTrial, run_in}

-- ---- the last pair

module _ (is : Pair → Type 0) where
  last_cons : (x : Pair) (ys : List Pair) → LastIs is ys → LastIs is (x ∷ ys)
  last_cons x [] h = absurd h
  last_cons x (y ∷ ys) h = h

  pub last_append : (xs ys : List Pair) → LastIs is ys → LastIs is (xs ++ ys)
  last_append [] ys h = h
  last_append (x ∷ xs) ys h = last_cons x (xs ++ ys) (last_append xs ys h)

  pub last_push : (xs : List Pair) (x : Pair) → is x → LastIs is (xs ++ x ∷ [])
  last_push xs x h = last_append xs (x ∷ []) h

  pub last_popped : (xs : List Pair) (x : Pair) → LastIs is (xs ++ x ∷ []) → is x
  last_popped [] x h = h
  last_popped (y ∷ []) x h = h
  last_popped (y ∷ z ∷ ys) x h = last_popped (z ∷ ys) x h

-- ---- what is told

module _ (s : Sweep) (w : World) where
  pub told_append : (xs ys : List Told) (k : ℕ) → AreTold s w k xs → AreTold s w (k + length xs) ys → AreTold s w k (xs ++ ys)
  told_append [] ys k none more = let same : k + 0 ≡ k = omega arith in subst (λ n. AreTold s w n ys) same more
  told_append (x ∷ xs) ys k told more =
      let same : k + length (x ∷ xs) ≡ k + 1 + length xs = omega arith in
      (told.0, told_append xs ys (k + 1) told.1 (subst (λ n. AreTold s w n ys) same more))

  pub told_push : (xs : List Told) (x : Told) (k p : ℕ) → AreTold s w k xs → k + length xs ≡ p → IsTold s w p x → AreTold s w k (xs ++ x ∷ [])
  told_push xs x k p told at one = told_append xs (x ∷ []) k told (subst (λ n. IsTold s w n x) (sym at) one, tt)

  -- ---- the trial of a position

  module _ (k : ℕ) (t : Trial) (boot : World) (same : boot ≡ w) (is : IsTrial s boot k t) where
    here : IsTrial s w k t
    here = subst (λ (b : World). IsTrial s b k t) same is

    pub tells : IsTold s w k (record { text = t.text; findings = t.findings })
    tells = record { text = here.text; findings = here.findings }

    pub goes_on : IsBefore s w (k + 1) t.pair
    goes_on = record { pair = here.pair; boot = here.boot; early = omega (arith, here.there) }

    pub made : IsAfter s w (k + 1) t.pair
    made = let one : k ≡ k + 1 - 1 = omega arith in here.kernel ∙ ap (λ n. (run_in s w s.fault.now n).kernel) one

  -- ---- pairs

  pub later : (k m : ℕ) → k ≤ m → (ps : List Pair) → All (IsBefore s w k) ps → All (IsBefore s w m) ps
  later k m h ps all = All-weaker (IsBefore s w k) (IsBefore s w m) (λ (p : Pair) is. record { pair = is.pair; boot = is.boot; early = omega (arith, is.early, h) }) ps all

  -- by the last of some pairs
  pub by_last : (from end : ℕ) (t : Tried) (others : List Pair) (p : Pair) → from ≤ end → All (IsBefore s w from) others → t.pairs.items ≡ others ++ p ∷ [] → IsBefore s w end p
      → AreTold s w from t.told.items → from + length t.told.items ≡ end → (from < end → IsAfter s w end p) → AreTried s w from end t
  by_last from end t others p order all is before told whole last =
      let more = length-append others (p ∷ []) in
      let len = ap length is in
      record {
        told = told;
        all = whole;
        some = omega (arith, len, more);
        pairs = subst (All (IsBefore s w end)) (sym is) (All-push (IsBefore s w end) others p (later from end order others all) before);
        last = λ h. subst (LastIs (IsAfter s w end)) (sym is) (last_push (IsAfter s w end) others p (last h));
      }

  -- both of two pieces
  pub both_tried : (from middle end : ℕ) (t u all : Tried) → from ≤ middle → middle ≤ end → (from < end → middle < end) → AreTried s w from middle t → AreTried s w middle end u
      → all.pairs.items ≡ t.pairs.items ++ u.pairs.items → all.told.items ≡ t.told.items ++ u.told.items → AreTried s w from end all
  both_tried from middle end t u all low high left one two pairs told =
      let len = ap length told in
      let more = length-append t.told.items u.told.items in
      let len_pairs = ap length pairs in
      let more_pairs = length-append t.pairs.items u.pairs.items in
      record {
        told = subst (AreTold s w from) (sym told) (told_append t.told.items u.told.items from one.told (subst (λ n. AreTold s w n u.told.items) (sym one.all) two.told));
        all = omega (arith, len, more, one.all, two.all);
        some = omega (arith, len_pairs, more_pairs, two.some);
        pairs = subst (All (IsBefore s w end)) (sym pairs) (All-append (IsBefore s w end) t.pairs.items u.pairs.items (later middle end high t.pairs.items one.pairs) two.pairs);
        last = λ h. subst (LastIs (IsAfter s w end)) (sym pairs) (last_append (IsAfter s w end) t.pairs.items u.pairs.items (two.last (left h)));
      }

-- the same, where there was memory for it
pub both_if : (E : Type 0) (s : Sweep) (w : World) (from middle end : ℕ) (t u : Tried) (r : Result Tried E) → from ≤ middle → middle ≤ end → (from < end → middle < end) → AreTried s w from middle t → AreTried s w middle end u
    → IfOk r (λ all. all.pairs.items ≡ t.pairs.items ++ u.pairs.items) → IfOk r (λ all. all.told.items ≡ t.told.items ++ u.told.items) → IfOk r (AreTried s w from end)
both_if E s w from middle end t u (Ok all) low high left one two pairs told = both_tried s w from middle end t u all low high left one two pairs told
both_if E s w from middle end t u (Err e) low high left one two pairs told = tt

-- a pair at boot, by what is known of it where there was memory for it
pub first_before : (E : Type 0) (s : Sweep) (w : World) (k : ℕ) (r : Result Pair E) → IfOk r (λ p. IsPair s.records.now p) → IfOk r (λ p. p.along.kernel.boot ≡ w) → IfOk r (λ p. p.position ≡ 0) → IfOk r (IsBefore s w k)
first_before E s w k (Ok p) pair boot first = record { pair = pair; boot = boot; early = omega (arith, first) }
first_before E s w k (Err e) pair boot first = tt

-- ---- where a piece ends

pub share_within : (n first all : ℕ) → first < all → n / all * first ≤ n
share_within n first all h =
    let more = mul-le-mul_left {m = first} {n = all} (n / all) (omega (arith, h)) in
    let whole = div-mul-le_self n all in
    omega (arith, more, whole)

below : (k n first all : ℕ) → first < all → k * all ≤ n → 0 < n → k * first < n
below zero n first all h whole some = omega (arith, some)
below (suc k) n first all h whole some =
    let more = mul-le-mul_left {m = first + 1} {n = all} (suc k) (omega (arith, h)) in
    let parts = mul-add (suc k) first 1 in
    let one = mul-one (suc k) in
    omega (arith, more, parts, one, whole)

pub share_below : (n first all : ℕ) → first < all → 0 < n → n / all * first < n
share_below n first all h some = below (n / all) n first all h (div-mul-le_self n all) some
