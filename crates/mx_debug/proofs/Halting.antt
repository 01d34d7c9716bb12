-- Where a run under breakpoints halts.
use Rattle.std.proofs.Common.{◌≡◌, ◌≢◌, ◌∙◌, ℕ, zero, suc, ◌+◌, ◌<◌, ◌≤◌, ◌⊎◌, inl, inr, Bool, true, false, List, [], ◌∷◌, refl, ap, sym, subst, arith}
use Rattle.std.specs.Prelude.{nat_le, nat_lt, not, ◌||◌, ◌&&◌, ◌==◌, if◌then◌else◌}
use Rattle.std.proofs.lemmas.Bool.{cases_lt}
use Rattle.std.proofs.lemmas.Bool.Decides.{leb_tells}
use Rattle.mx_image.specs.declared.runs.Stop.{Stop}
use Rattle.mx_image.specs.declared.runs.Stop.TheVariants as stop
use Rattle.mx_machine.specs.declared.holding.Out.{Out}
use Rattle.mx_machine.specs.Held.{held_run, then_held}
use Rattle.mx_debug.specs.declared.points.Breakpoint.{Breakpoint}
use Rattle.mx_debug.specs.declared.halt.HaltCause.{HaltCause}
use Rattle.mx_debug.specs.declared.halt.HaltCause.TheVariants as cause
use Rattle.mx_debug.specs.declared.halt.Halt.{Halt}
use Rattle.mx_debug.specs.Points.{is_at, has_breakpoint, has_any}
use Rattle.mx_debug.specs.Halts.{held_after, has_stopped, is_over, is_reached, is_end, is_spent, least_from, steps_to_halt, cause_of, Halts}
use Rattle.mx_machine.proofs.JoinLemmas.{held_runs_join}
use Rattle.mx_debug.proofs.Running.{run_count, run_stop, run_all, over_none, none_same, before_over, IsFront, run_front}

-- ---- the least number

least_if : (test : ℕ → Bool) (n more : ℕ) (b : Bool) → test n ≡ b → least_from test n (suc more) ≡ (if b then n else least_from test (n + 1) more)
least_if test n more b e = ap (λ (x : Bool). if x then n else least_from test (n + 1) more) e

least_is : (test : ℕ → Bool) (n more j : ℕ) → n ≤ j → j ≤ n + more → ((i : ℕ) → n ≤ i → i < j → test i ≡ false) → (j ≡ n + more) ⊎ (test j ≡ true) → j ≡ least_from test n more
least_is test n zero j from to before here = omega arith
least_is test n (suc more) j from to before here = by_order (cases_lt n j) here (λ f t b h. least_is test (n + 1) more j f t b h)
  where
    by_order : (n < j) ⊎ (j ≤ n) → (j ≡ n + suc more) ⊎ (test j ≡ true)
        → (n + 1 ≤ j → j ≤ n + 1 + more → ((i : ℕ) → n + 1 ≤ i → i < j → test i ≡ false) → (j ≡ n + 1 + more) ⊎ (test j ≡ true) → j ≡ least_from test (n + 1) more)
        → j ≡ least_from test n (suc more)
    by_order (inl l) (inl e) again = again (omega arith) (omega arith) (λ i p q. before i (omega arith) q) (inl (omega (arith, e))) ∙ sym (least_if test n more false (before n (omega arith) l))
    by_order (inl l) (inr e) again = again (omega arith) (omega arith) (λ i p q. before i (omega arith) q) (inr e) ∙ sym (least_if test n more false (before n (omega arith) l))
    by_order (inr l) (inl e) again = absurd (omega (arith, e))
    by_order (inr l) (inr e) again = let s : j ≡ n = omega arith in s ∙ sym (least_if test n more true (subst (λ (x : ℕ). test x ≡ true) s e))

-- what pins where it halts
pub halts_by : (points : List Breakpoint) (slot k : ℕ) (o left : Out) (h : Halt) → h.count ≤ k → ((i : ℕ) → i < h.count → is_end points slot o i ≡ false)
    → (h.count ≡ k) ⊎ (is_end points slot o h.count ≡ true) → (held_run h.count o).0.0 ≡ h.count → held_after h.count o ≡ left
    → h.cause ≡ cause_of left.stop (is_reached points slot h.count left) → Halts points slot k o h left
unfolding steps_to_halt
halts_by points slot k o left h within before here made is_left told = record {
  count = least_is (is_end points slot o) 0 k h.count (omega arith) (omega (arith, within)) (λ i p q. before i q) (from_0 here);
  made = made;
  is_left = is_left;
  told = told;
}
  where
    from_0 : (h.count ≡ k) ⊎ (is_end points slot o h.count ≡ true) → (h.count ≡ 0 + k) ⊎ (is_end points slot o h.count ≡ true)
    from_0 (inl e) = inl (omega (arith, e))
    from_0 (inr e) = inr e

-- ---- no breakpoint

or_false : (a b : Bool) → a ≡ false → b ≡ false → (a || b) ≡ false
or_false a b e f = ap (λ (x : Bool). x || b) e ∙ f

pub not_true : (b : Bool) → (b ≡ true → ⊥) → b ≡ false
not_true true h = absurd (h refl)
not_true false h = refl

or_none : (a b : Bool) → (a || b) ≡ false → (a ≡ false) × (b ≡ false)
or_none true b e = absurd cc
or_none false b e = (refl, e)

and_none : (a b : Bool) → a ≡ false → (a && b) ≡ false
and_none a b e = ap (λ (x : Bool). x && b) e

none_stands : (points : List Breakpoint) (slot address : ℕ) → has_any points slot ≡ false → has_breakpoint points slot address ≡ false
none_stands [] slot address e = refl
none_stands (p ∷ points) slot address e =
    let both = or_none (p.slot == slot) (has_any points slot) e in
    or_false (is_at slot address p) (has_breakpoint points slot address) (and_none (p.slot == slot) (p.address == address) both.0) (none_stands points slot address both.1)

and_right : (a b : Bool) → b ≡ false → (a && b) ≡ false
and_right true b e = e
and_right false b e = refl

none_reached : (points : List Breakpoint) (slot n k : ℕ) (o : Out) → n ≤ k → (k ≡ 0) ⊎ (has_any points slot ≡ false) → is_reached points slot n o ≡ false
none_reached points slot zero k o le h = refl
none_reached points slot (suc n) k o le (inl e) = absurd (omega (arith, e))
none_reached points slot (suc n) k o le (inr e) = and_right (nat_lt 0 (suc n)) (has_breakpoint points slot o.image.eip) (none_stands points slot o.image.eip e)

-- all steps at once
pub run_halts : (k n : ℕ) (s : Stop) (o left : Out) (c : HaltCause) → held_run k o ≡ ((n, s), left) → c ≡ cause_of s false
    → (points : List Breakpoint) (slot : ℕ) → (k ≡ 0) ⊎ (has_any points slot ≡ false) → Halts points slot k o (record { count = n; cause = c }) left
run_halts k n s o left c run told points slot free = halts_by points slot k o left (record { count = n; cause = c }) within before (here (run_all k o)) made is_left
    (told ∙ ap (λ (x : Stop). cause_of x false) (sym stop_is ∙ run_stop k o ∙ ap (λ (x : Out). x.stop) left_is) ∙ ap (cause_of left.stop) (sym (none_reached points slot n k left within free)))
  where
    count_is : (held_run k o).0.0 ≡ n
    count_is = ap (λ (x : (ℕ × Stop) × Out). x.0.0) run

    stop_is : (held_run k o).0.1 ≡ s
    stop_is = ap (λ (x : (ℕ × Stop) × Out). x.0.1) run

    left_is : held_after k o ≡ left
    left_is = ap (λ (x : (ℕ × Stop) × Out). x.1) run

    within : n ≤ k
    within = let l = run_count k o in omega (arith, l, count_is)

    front : IsFront (held_run k o).0.0 o (held_after k o)
    front = run_front k o

    made : (held_run n o).0.0 ≡ n
    made = subst (λ (x : ℕ). (held_run x o).0.0 ≡ x) count_is front.made

    is_left : held_after n o ≡ left
    is_left = subst (λ (x : ℕ). held_after x o ≡ held_after k o) count_is front.left_is ∙ left_is

    before : (i : ℕ) → i < n → is_end points slot o i ≡ false
    before i l = or_false (is_over (held_after i o)) (is_reached points slot i (held_after i o))
        (not_true (is_over (held_after i o)) (λ over. before_over k i o (omega (arith, l, count_is)) over))
        (none_reached points slot i k (held_after i o) (omega (arith, l, within)) free)

    or_over : (a b : Bool) → a ≡ true → (a || b) ≡ true
    or_over a b e = ap (λ (x : Bool). x || b) e

    here : ((held_run k o).0.0 ≡ k) ⊎ (is_over (held_after k o) ≡ true) → (n ≡ k) ⊎ (is_end points slot o n ≡ true)
    here (inl e) = inl (sym count_is ∙ e)
    here (inr e) = inr (or_over (is_over (held_after n o)) (is_reached points slot n (held_after n o)) (ap is_over (is_left ∙ sym left_is) ∙ e))

-- ---- one step after another

-- that many steps were made, and none before was an end
pub record Stepped (points : List Breakpoint) (slot c : ℕ) (o here : Out) : Type 0 where
  pub made : (held_run c o).0.0 ≡ c
  pub here_is : held_after c o ≡ here
  pub before : (i : ℕ) → i < c → is_end points slot o i ≡ false
  pub not_reached : is_reached points slot c here ≡ false
  pub goes : c ≢ 0 → has_stopped here.stop ≡ false

pub stepped_start : (points : List Breakpoint) (slot : ℕ) (o : Out) → Stepped points slot 0 o o
stepped_start points slot o =
    let l : (held_run 0 o).0.0 ≤ 0 = run_count 0 o in
    let e : (held_run 0 o).0.0 ≡ 0 = omega (arith, l) in
    record { made = e; here_is = none_same 0 o e; before = λ i p. absurd (omega (arith, p)); not_reached = refl; goes = λ n. absurd (n refl) }

or_over : (a b : Bool) → a ≡ true → (a || b) ≡ true
or_over a b e = ap (λ (x : Bool). x || b) e

or_reached : (a b : Bool) → b ≡ true → (a || b) ≡ true
or_reached true b e = refl
or_reached false b e = e

-- no step could be made
pub stuck_halts : (points : List Breakpoint) (slot k c : ℕ) (o here left : Out) (s : Stop) (n : ℕ) (told : HaltCause) → Stepped points slot c o here → c ≤ k
    → held_run 1 here ≡ ((n, s), left) → n ≡ 0 → told ≡ cause_of s false → Halts points slot k o (record { count = c; cause = told }) left
stuck_halts points slot k c o here left s n told x within run none t =
    halts_by points slot k o left (record { count = c; cause = told }) within x.before (inr (or_over (is_over (held_after c o)) (is_reached points slot c (held_after c o)) (ap is_over x.here_is ∙ over))) x.made (x.here_is ∙ sym same)
    (t ∙ ap (λ (y : Stop). cause_of y false) (sym (ap (λ (y : (ℕ × Stop) × Out). y.0.1) run) ∙ run_stop 1 here ∙ ap (λ (y : Out). y.stop) is_left) ∙ ap (cause_of left.stop) (sym x.not_reached ∙ ap (is_reached points slot c) (sym same)))
  where
    count_is : (held_run 1 here).0.0 ≡ 0
    count_is = ap (λ (y : (ℕ × Stop) × Out). y.0.0) run ∙ none

    is_left : held_after 1 here ≡ left
    is_left = ap (λ (y : (ℕ × Stop) × Out). y.1) run

    same : left ≡ here
    same = sym is_left ∙ none_same 1 here count_is

    by_all : ((held_run 1 here).0.0 ≡ 1) ⊎ (is_over (held_after 1 here) ≡ true) → is_over here ≡ true
    by_all (inl e) = absurd (omega (arith, e, count_is))
    by_all (inr e) = sym (ap is_over (none_same 1 here count_is)) ∙ e

    over : is_over here ≡ true
    over = by_all (run_all 1 here)

-- one more was made
pub record OneMore (points : List Breakpoint) (slot c : ℕ) (o left : Out) : Type 0 where
  pub made : (held_run (c + 1) o).0.0 ≡ c + 1
  pub left_is : held_after (c + 1) o ≡ left
  pub before : (i : ℕ) → i < c + 1 → is_end points slot o i ≡ false

pub one_more : (points : List Breakpoint) (slot c : ℕ) (o here left : Out) (s : Stop) (n : ℕ) → Stepped points slot c o here → held_run 1 here ≡ ((n, s), left) → n ≢ 0 → OneMore points slot c o left
one_more points slot c o here left s n x run some = record {
  made = ap (λ (y : (ℕ × Stop) × Out). y.0.0) joined ∙ omega (arith, x.made, one);
  left_is = ap (λ (y : (ℕ × Stop) × Out). y.1) joined ∙ ap (held_after 1) x.here_is ∙ ap (λ (y : (ℕ × Stop) × Out). y.1) run;
  before = λ i p. by_order i (cases_lt i c) p;
}
  where
    joined : held_run (c + 1) o ≡ then_held (held_run c o) 1
    joined = held_runs_join c 1 o

    count_is : (held_run 1 here).0.0 ≡ n
    count_is = ap (λ (y : (ℕ × Stop) × Out). y.0.0) run

    one : (held_run 1 (held_after c o)).0.0 ≡ 1
    one = let l : (held_run 1 here).0.0 ≤ 1 = run_count 1 here in let e : (held_run 1 (held_after c o)).0.0 ≡ (held_run 1 here).0.0 = ap (λ (y : Out). (held_run 1 y).0.0) x.here_is in omega (arith, l, e, count_is, some)

    not_over : is_over here ≡ false
    not_over = not_true (is_over here) (λ e. some (sym count_is ∙ over_none 1 here e))

    here_no_end : is_end points slot o c ≡ false
    here_no_end = or_false (is_over (held_after c o)) (is_reached points slot c (held_after c o)) (ap is_over x.here_is ∙ not_over) (ap (is_reached points slot c) x.here_is ∙ x.not_reached)

    by_order : (i : ℕ) → (i < c) ⊎ (c ≤ i) → i < c + 1 → is_end points slot o i ≡ false
    by_order i (inl l) p = x.before i l
    by_order i (inr l) p = let e : c ≡ i = omega arith in subst (λ (y : ℕ). is_end points slot o y ≡ false) e here_no_end

reached_by : (points : List Breakpoint) (slot c : ℕ) (o : Out) → is_reached points slot (c + 1) o ≡ has_breakpoint points slot o.image.eip
reached_by points slot c o = by_case (leb_tells 1 (c + 1))
  where
    by_case : ((nat_le 1 (c + 1) ≡ true) × (1 ≤ c + 1)) ⊎ ((nat_le 1 (c + 1) ≡ false) × (c + 1 < 1)) → is_reached points slot (c + 1) o ≡ has_breakpoint points slot o.image.eip
    by_case (inl p) = let e : nat_lt 0 (c + 1) ≡ true = p.0 in ap (λ (b : Bool). b && has_breakpoint points slot o.image.eip) e
    by_case (inr p) = absurd (omega (arith, p.1))

ends_if : (s : Stop) (reached : Bool) → is_spent (cause_of s reached) ≡ false → (has_stopped s ≡ true) ⊎ (reached ≡ true)
ends_if stop.Trap reached e = inl refl
ends_if (stop.Fault v) reached e = inl refl
ends_if stop.Spent true e = inr refl
ends_if stop.Spent false e = absurd cc

goes_if : (s : Stop) (reached : Bool) → is_spent (cause_of s reached) ≡ true → (has_stopped s ≡ false) × (reached ≡ false)
goes_if stop.Trap reached e = absurd cc
goes_if (stop.Fault v) reached e = absurd cc
goes_if stop.Spent true e = absurd cc
goes_if stop.Spent false e = (refl, refl)

-- the step was the last
pub step_halts : (points : List Breakpoint) (slot k c : ℕ) (o here left : Out) (s : Stop) (n : ℕ) (reached : Bool) (told : HaltCause) → OneMore points slot c o left → c < k
    → held_run 1 here ≡ ((n, s), left) → reached ≡ has_breakpoint points slot left.image.eip → told ≡ cause_of s reached → is_spent told ≡ false
    → Halts points slot k o (record { count = c + 1; cause = told }) left
step_halts points slot k c o here left s n reached told x less run there t ends =
    halts_by points slot k o left (record { count = c + 1; cause = told }) (omega arith) x.before (inr (by_end (ends_if s reached (sym (ap is_spent t) ∙ ends)))) x.made x.left_is
    (t ∙ ap (λ (y : Stop). cause_of y reached) stop_is ∙ ap (cause_of left.stop) reached_is)
  where
    stop_is : s ≡ left.stop
    stop_is = sym (ap (λ (y : (ℕ × Stop) × Out). y.0.1) run) ∙ run_stop 1 here ∙ ap (λ (y : (ℕ × Stop) × Out). y.1.stop) run

    reached_is : reached ≡ is_reached points slot (c + 1) left
    reached_is = there ∙ sym (reached_by points slot c left)

    by_end : (has_stopped s ≡ true) ⊎ (reached ≡ true) → is_end points slot o (c + 1) ≡ true
    by_end (inl e) = ap (λ (y : Out). is_over y || is_reached points slot (c + 1) y) x.left_is ∙ or_over (is_over left) (is_reached points slot (c + 1) left) (or_over (has_stopped left.stop) (nat_le left.budget left.count) (ap has_stopped (sym stop_is) ∙ e))
    by_end (inr e) = ap (λ (y : Out). is_over y || is_reached points slot (c + 1) y) x.left_is ∙ or_reached (is_over left) (is_reached points slot (c + 1) left) (sym reached_is ∙ e)

-- the step wasn't the last
pub step_goes : (points : List Breakpoint) (slot c : ℕ) (o here left : Out) (s : Stop) (n : ℕ) (reached : Bool) (told : HaltCause) → OneMore points slot c o left
    → held_run 1 here ≡ ((n, s), left) → reached ≡ has_breakpoint points slot left.image.eip → told ≡ cause_of s reached → is_spent told ≡ true
    → Stepped points slot (c + 1) o left
step_goes points slot c o here left s n reached told x run there t goes =
    let two = goes_if s reached (sym (ap is_spent t) ∙ goes) in
    let stop_is : s ≡ left.stop = sym (ap (λ (y : (ℕ × Stop) × Out). y.0.1) run) ∙ run_stop 1 here ∙ ap (λ (y : (ℕ × Stop) × Out). y.1.stop) run in
    record {
      made = x.made;
      here_is = x.left_is;
      before = x.before;
      not_reached = reached_by points slot c left ∙ sym there ∙ two.1;
      goes = λ _. sym (ap has_stopped stop_is) ∙ two.0;
    }

pub not_any : (a b v : Bool) → a ≡ b → v ≡ not a → v ≡ true → b ≡ false
not_any true b v e f g = let h : true ≡ false = sym g ∙ f in absurd cc
not_any false b v e f g = sym e

spent_cause : (s : Stop) → has_stopped s ≡ false → cause.Spent ≡ cause_of s false
spent_cause stop.Spent e = refl
spent_cause stop.Trap e = absurd cc
spent_cause (stop.Fault v) e = absurd cc

-- all steps are made
pub all_halts : (points : List Breakpoint) (slot k : ℕ) (o left : Out) → k ≢ 0 → Stepped points slot k o left → Halts points slot k o (record { count = k; cause = cause.Spent }) left
all_halts points slot k o left some x =
    halts_by points slot k o left (record { count = k; cause = cause.Spent }) (omega arith) x.before (inl refl) x.made x.here_is (spent_cause left.stop (x.goes some) ∙ ap (cause_of left.stop) (sym x.not_reached))
