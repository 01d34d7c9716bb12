-- A process that runs one step after another.
use Rattle.std.proofs.Common.{◌≡◌, ◌≢◌, ◌∙◌, ◌<◌, ◌≤◌, ℕ, zero, suc, ◌+◌, ◌-◌, ◌||◌, nat_le, min, cond, Bool, true, false, refl, ap, sym, subst, inl, inr, arith}
use Rattle.std.proofs.lemmas.Bool.{cases_lt}
use Rattle.std.proofs.lemmas.Bool.Decides.{leb_tells}
use Rattle.mx_image.specs.Image.{Image}
use Rattle.mx_image.specs.Outcome.{Outcome}
use Rattle.mx_image.specs.Outcome.TheVariants as outcomes
use Rattle.mx_image.specs.Step.{one_step}
use Rattle.mx_machine.specs.declared.holding.Out.{Out}
use Rattle.mx_machine.specs.Held.{held_run, out_after_outcome, out_after_run, out_after_step, run_by_stop, then_held}
use Rattle.mx_machine.specs.Move.{at_stop, is_stop}
use Rattle.mx_machine.specs.Run.{run_of, run_end_from}
use Rattle.mx_machine.specs.Stop.{Stop}
use Rattle.mx_machine.specs.Stop.TheVariants.{Spent, Trap, Fault}
use Rattle.mx_machine.specs.World.{HeldProcess}
use Rattle.mx_machine.proofs.JoinLemmas.{held_runs_join}
use Rattle.mx_walk.specs.Running.{HasRun, NoneMarkedOf, is_marked_after, out_after_steps, steps_to_mark, with_out}
use Rattle.mx_walk.proofs.Stepping.{held_most, held_short, ran_most}

-- ---- a run of one step

one_from : (o : Out) (went : Outcome × Image) → (out_after_run o (run_end_from (run_of 0) went)).1 ≡ out_after_outcome o went
one_from o (outcomes.Go, m) = refl
one_from o (outcomes.Trap, m) = refl
one_from o (outcomes.Fault v, m) = refl

one_in : (n : ℕ) (o : Out) → n ≤ 1 → (run_of n o.image).count ≡ 1 → (out_after_run o (run_of n o.image)).1 ≡ out_after_step o
unfolding out_after_step
one_in zero o few e = absurd (omega (arith, e))
one_in (suc zero) o few e = one_from o (one_step o.image)
one_in (suc (suc n)) o few e = absurd (omega (arith, few))

one_by : (s : Stop) (o : Out) → (run_by_stop s 1 o).0.0 ≡ 1 → (run_by_stop s 1 o).1 ≡ out_after_step o
one_by Spent o e = one_in (min 1 (o.budget - o.count)) o (omega arith) e
one_by Trap o e = absurd (omega (arith, e))
one_by (Fault v) o e = absurd (omega (arith, e))

-- if the step is made it is the step
held_one : (o : Out) → (held_run 1 o).0.0 ≡ 1 → (held_run 1 o).1 ≡ out_after_step o
unfolding held_run
held_one o e = one_by o.stop o e

none_in : (n : ℕ) (m : Image) → (run_of n m).count ≡ 0 → n ≡ 0
none_in zero m e = refl
none_in (suc n) m e = absurd (none_from n (one_step m) e)
  where
    none_from : (n : ℕ) (p : Outcome × Image) → (run_end_from (run_of n) p).count ≡ 0 → ⊥
    none_from n (outcomes.Go, m) e = omega (arith, e)
    none_from n (outcomes.Trap, m) e = omega (arith, e)
    none_from n (outcomes.Fault v, m) e = omega (arith, e)

same_in : (n : ℕ) (o : Out) → n ≡ 0 → o.stop ≡ Spent → (out_after_run o (run_of n o.image)).1 ≡ o
same_in zero o e s =
    let same : o.count + 0 ≡ o.count = omega arith in
    ap (λ (k : ℕ). let z : Out = record o { image = o.image; count = k; stop = Spent } in z) same
    ∙ ap (λ (t : Stop). let z : Out = record o { stop = t } in z) (sym s)
same_in (suc n) o e s = absurd (omega (arith, e))

same_by : (s : Stop) (k : ℕ) (o : Out) → o.stop ≡ s → (run_by_stop s k o).0.0 ≡ 0 → (run_by_stop s k o).1 ≡ o
same_by Spent k o s e = same_in (min k (o.budget - o.count)) o (none_in (min k (o.budget - o.count)) o.image e) s
same_by Trap k o s e = refl
same_by (Fault v) k o s e = refl

-- a run that makes no step changes nothing
held_same : (k : ℕ) (o : Out) → (held_run k o).0.0 ≡ 0 → (held_run k o).1 ≡ o
unfolding held_run
held_same k o e = same_by o.stop k o refl e

-- where one step can't be made, none can
held_none : (k : ℕ) (o : Out) → (held_run 1 o).0.0 ≡ 0 → (held_run k o).0.0 ≡ 0
held_none zero o e = let h = held_most 0 o in omega (arith, h)
held_none (suc k) o e =
    let sum : suc k ≡ 1 + k = omega arith in
    let j : held_run (suc k) o ≡ then_held (held_run 1 o) k = ap (λ i. held_run i o) sum ∙ held_runs_join 1 k o in
    let n : (held_run (suc k) o).0.0 ≡ (held_run 1 o).0.0 + (held_run k (held_run 1 o).1).0.0 = ap (λ (r : (ℕ × Stop) × Out). r.0.0) j in
    let again : (held_run k (held_run 1 o).1).0.0 ≡ 0 = ap (λ (p : Out). (held_run k p).0.0) (held_same 1 o e) ∙ held_none k o e in
    omega (arith, n, again, e)

-- at a stop no run makes a step
none_by : (s : Stop) (k : ℕ) (o : Out) → o.stop ≡ s → at_stop o ≡ true → (run_by_stop s k o).0.0 ≡ 0
none_by Trap k o e h = refl
none_by (Fault v) k o e h = refl
none_by Spent k o e h =
    let over : nat_le o.budget o.count ≡ true = sym (ap (λ (s : Stop). is_stop s || nat_le o.budget o.count) e) ∙ h in
    elim (leb_tells o.budget o.count) [
      | inl it ↦ let n = ran_most (min k (o.budget - o.count)) o.image in let le = it.1 in omega (arith, n, le)
      | inr it ↦ let no : true ≡ false = sym over ∙ it.0 in absurd cc
    ]

stopped_none : (k : ℕ) (o : Out) → at_stop o ≡ true → (held_run k o).0.0 ≡ 0
unfolding held_run
stopped_none k o h = none_by o.stop k o refl h

-- ---- steps in a row

steps_more : (n : ℕ) (o : Out) → out_after_steps (suc n) o ≡ out_after_step (out_after_steps n o)
steps_more zero o = refl
steps_more (suc n) o = steps_more n (out_after_step o)

steps_both : (n m : ℕ) (o : Out) → out_after_steps (n + m) o ≡ out_after_steps m (out_after_steps n o)
steps_both zero m o = let e : 0 + m ≡ m = omega arith in ap (λ k. out_after_steps k o) e
steps_both (suc n) m o = let e : suc n + m ≡ suc (n + m) = omega arith in ap (λ k. out_after_steps k o) e ∙ steps_both n m (out_after_step o)

-- a run that makes all its steps makes one after another
all_made : (n : ℕ) (o : Out) → (held_run n o).0.0 ≡ n → (held_run n o).1 ≡ out_after_steps n o
all_made zero o e = held_same 0 o e
all_made (suc n) o e =
    let sum : suc n ≡ 1 + n = omega arith in
    let j : held_run (suc n) o ≡ then_held (held_run 1 o) n = ap (λ i. held_run i o) sum ∙ held_runs_join 1 n o in
    let count : (held_run (suc n) o).0.0 ≡ (held_run 1 o).0.0 + (held_run n (held_run 1 o).1).0.0 = ap (λ (r : (ℕ × Stop) × Out). r.0.0) j in
    let a = held_most 1 o in
    let b = held_most n (held_run 1 o).1 in
    let one : (held_run 1 o).0.0 ≡ 1 = omega (arith, count, a, b, e) in
    let rest : (held_run n (held_run 1 o).1).0.0 ≡ n = omega (arith, count, a, b, e) in
    ap (λ (r : (ℕ × Stop) × Out). r.1) j ∙ all_made n (held_run 1 o).1 rest ∙ ap (out_after_steps n) (held_one o one)

-- a run of as many steps as a run made is the same
module _ (q m : ℕ) (o : Out) (e : (held_run q o).0.0 ≡ m) where
  few : m ≤ q
  few = let a = held_most q o in omega (arith, a, e)

  parts : held_run q o ≡ then_held (held_run m o) (q - m)
  parts = let sum : q ≡ m + (q - m) = let a = few in omega (arith, a) in ap (λ i. held_run i o) sum ∙ held_runs_join m (q - m) o

  count_parts : m ≡ (held_run m o).0.0 + (held_run (q - m) (held_run m o).1).0.0
  count_parts = sym e ∙ ap (λ (r : (ℕ × Stop) × Out). r.0.0) parts

  pub front_made : (held_run m o).0.0 ≡ m
  front_made = elim (cases_lt (held_run m o).0.0 m) [
    | inl lt ↦ let a = stopped_none (q - m) (held_run m o).1 (held_short m o lt) in let b = count_parts in omega (arith, a, b)
    | inr ge ↦ let a = held_most m o in omega (arith, a, ge)
  ]

  pub front_left : (held_run m o).1 ≡ (held_run q o).1
  front_left =
      let a = front_made in let b = count_parts in
      let none : (held_run (q - m) (held_run m o).1).0.0 ≡ 0 = omega (arith, a, b) in
      sym (ap (λ (r : (ℕ × Stop) × Out). r.1) parts ∙ held_same (q - m) (held_run m o).1 none)

module _ (f : HeldProcess → Out → Bool) where
  abbrev next : HeldProcess → HeldProcess
  next l = with_out l (out_after_step l.out)

  asked_if : (l : HeldProcess) (k : ℕ) (b : Bool) → f l (out_after_step l.out) ≡ b → steps_to_mark f (suc k) l ≡ cond b 1 (suc (steps_to_mark f k (next l)))
  asked_if l k b e = ap (λ c. cond c 1 (suc (steps_to_mark f k (next l)))) e

  rest : (l : HeldProcess) (n : ℕ) → NoneMarkedOf f l (suc n) → NoneMarkedOf f (next l) n
  rest l n none j lt = none (suc j) (omega (arith, lt))

  at_first : (l : HeldProcess) (n : ℕ) → NoneMarkedOf f l (suc n) → f l (out_after_step l.out) ≡ false
  at_first l n none = none 0 (omega arith)

  -- a search asks for all where none is marked
  all_asked : (k : ℕ) (l : HeldProcess) → NoneMarkedOf f l k → steps_to_mark f k l ≡ k
  all_asked zero l none = refl
  all_asked (suc k) l none = asked_if l k false (at_first l k none) ∙ ap suc (all_asked k (next l) (rest l k none))

  -- for those up to the first that is
  first_asked : (k n : ℕ) (l : HeldProcess) → n < k → NoneMarkedOf f l n → is_marked_after f l n ≡ true → steps_to_mark f k l ≡ suc n
  first_asked zero n l lt none marked = absurd (omega (arith, lt))
  first_asked (suc k) zero l lt none marked = asked_if l k true marked
  first_asked (suc k) (suc n) l lt none marked =
      asked_if l k false (at_first l n none) ∙ ap suc (first_asked k n (next l) (omega (arith, lt)) (rest l n none) marked)

  -- and in any case for those that aren't
  more_asked : (k i : ℕ) (l : HeldProcess) → i ≤ k → NoneMarkedOf f l i → (m : ℕ) × (steps_to_mark f k l ≡ i + m)
  more_asked k zero l le none = let e : steps_to_mark f k l ≡ 0 + steps_to_mark f k l = omega arith in (steps_to_mark f k l, e)
  more_asked zero (suc i) l le none = absurd (omega (arith, le))
  more_asked (suc k) (suc i) l le none =
      let r = more_asked k i (next l) (omega (arith, le)) (rest l i none) in
      let sum : suc (i + r.0) ≡ suc i + r.0 = omega arith in
      (r.0, asked_if l k false (at_first l i none) ∙ ap suc r.1 ∙ sum)

pub few_made : (k : ℕ) (o : Out) (n : ℕ) (s : Stop) (p : Out) → held_run k o ≡ ((n, s), p) → n ≤ k
few_made k o n s p run = let e = ap (λ (r : (ℕ × Stop) × Out). r.0.0) run in let h = held_most k o in omega (arith, e, h)

-- ---- a search in a process

-- it has made so many steps, of which none is marked
pub record HasGone (f : HeldProcess → Out → Bool) (l : HeldProcess) (i : ℕ) (o : Out) : Type 0 where
  pub made : (held_run i l.out).0.0 ≡ i
  pub left : (held_run i l.out).1 ≡ o
  pub steps : o ≡ out_after_steps i l.out
  pub none : NoneMarkedOf f l i

module _ (f : HeldProcess → Out → Bool) (l : HeldProcess) where
  pub begun : HasGone f l 0 l.out
  begun =
      let h = held_most 0 l.out in
      let e : (held_run 0 l.out).0.0 ≡ 0 = omega (arith, h) in
      record { made = e; left = held_same 0 l.out e; steps = refl; none = λ j lt. absurd (omega (arith, lt)) }

  module _ (i : ℕ) (o : Out) (h : HasGone f l i o) where
    joined : (n : ℕ) → held_run (i + n) l.out ≡ then_held (held_run i l.out) n
    joined n = held_runs_join i n l.out

    count_after : (n : ℕ) → (held_run (i + n) l.out).0.0 ≡ i + (held_run n o).0.0
    count_after n =
        let c : (held_run (i + n) l.out).0.0 ≡ (held_run i l.out).0.0 + (held_run n (held_run i l.out).1).0.0 = ap (λ (r : (ℕ × Stop) × Out). r.0.0) (joined n) in
        let same : (held_run n (held_run i l.out).1).0.0 ≡ (held_run n o).0.0 = ap (λ (p : Out). (held_run n p).0.0) h.left in
        let e = h.made in
        omega (arith, c, same, e)

    left_after : (n : ℕ) → (held_run (i + n) l.out).1 ≡ (held_run n o).1
    left_after n = ap (λ (r : (ℕ × Stop) × Out). r.1) (joined n) ∙ ap (λ (p : Out). (held_run n p).1) h.left

    -- some more of which none is marked
    module _ (q m : ℕ) (made : (held_run q o).0.0 ≡ m) (none : NoneMarkedOf f (with_out l o) q) where
      steps_there : (held_run q o).1 ≡ out_after_steps (i + m) l.out
      steps_there = sym (front_left q m o made) ∙ all_made m o (front_made q m o made) ∙ ap (out_after_steps m) h.steps ∙ sym (steps_both i m l.out)

      marked_there : (j : ℕ) → is_marked_after f l (i + j) ≡ is_marked_after f (with_out l o) j
      marked_there j =
          let e : suc (i + j) ≡ i + suc j = omega arith in
          ap (λ (p : Out). f (with_out l p) (out_after_steps (suc (i + j)) l.out)) (steps_both i j l.out ∙ ap (out_after_steps j) (sym h.steps))
          ∙ ap (λ (p : Out). f (with_out l (out_after_steps j o)) p) (ap (λ k. out_after_steps k l.out) e ∙ steps_both i (suc j) l.out ∙ ap (out_after_steps (suc j)) (sym h.steps))

      pub many : HasGone f l (i + m) (held_run q o).1
      many = record {
        made = let a = count_after m in let b = front_made q m o made in omega (arith, a, b);
        left = left_after m ∙ front_left q m o made;
        steps = steps_there;
        none = λ j lt. elim (cases_lt j i) [
          | inl less ↦ h.none j less
          | inr ge ↦
              let a = held_most q o in
              let e : i + (j - i) ≡ j = omega (arith, ge) in
              subst (λ k. is_marked_after f l k ≡ false) e (marked_there (j - i) ∙ none (j - i) (omega (arith, lt, ge, made, a)))
        ];
      }

    module _ (n : ℕ) (s : Stop) (p : Out) (run : held_run 1 o ≡ ((n, s), p)) where
      one : (held_run 1 o).0.0 ≡ n
      one = ap (λ (r : (ℕ × Stop) × Out). r.0.0) run

      left_is : (held_run 1 o).1 ≡ p
      left_is = ap (λ (r : (ℕ × Stop) × Out). r.1) run

      one_made : n ≢ 0 → (held_run 1 o).0.0 ≡ 1
      one_made some = let a = held_most 1 o in let b = one in omega (arith, a, b, some)

      step_is : n ≢ 0 → p ≡ out_after_steps (suc i) l.out
      step_is some = sym left_is ∙ held_one o (one_made some) ∙ ap out_after_step h.steps ∙ sym (steps_more i l.out)

      more_made : n ≢ 0 → (held_run (i + 1) l.out).0.0 ≡ i + 1
      more_made some = let a = count_after 1 in let b = one_made some in omega (arith, a, b)

      marked_is : n ≢ 0 → f (with_out l o) p ≡ is_marked_after f l i
      marked_is some = ap (λ (q : Out). f (with_out l q) p) h.steps ∙ ap (λ (q : Out). f (with_out l (out_after_steps i l.out)) q) (step_is some)

      -- one step more that isn't marked
      pub gone_on : n ≢ 0 → f (with_out l o) p ≡ false → HasGone f l (i + 1) p
      gone_on some unmarked = record {
        made = more_made some;
        left = left_after 1 ∙ left_is;
        steps = step_is some ∙ (let e : suc i ≡ i + 1 = omega arith in ap (λ j. out_after_steps j l.out) e);
        none = λ j lt. elim (cases_lt j i) [
          | inl less ↦ h.none j less
          | inr ge ↦ let e : i ≡ j = omega (arith, lt, ge) in subst (λ m. is_marked_after f l m ≡ false) e (sym (marked_is some) ∙ unmarked)
        ];
      }

      -- one that is
      module _ (k : ℕ) (lt : i < k) (some : n ≢ 0) (marked : f (with_out l o) p ≡ true) where
        marked_here : is_marked_after f l i ≡ true
        marked_here = sym (marked_is some) ∙ marked

        asked : steps_to_mark f k l ≡ i + 1
        asked = let e : suc i ≡ i + 1 = omega arith in first_asked f k i l lt h.none marked_here ∙ e

        pub found_left : (held_run (steps_to_mark f k l) l.out).1 ≡ p
        found_left = ap (λ m. (held_run m l.out).1) asked ∙ left_after 1 ∙ left_is

        pub found_run : HasRun f k l (i + 1) true
        found_run = record {
          ran = sym (ap (λ m. (held_run m l.out).0.0) asked ∙ more_made some);
          few = omega (arith, lt);
          passed = λ no. let e : true ≡ false = no in absurd cc;
          halted = λ no. let e : true ≡ false = no in absurd cc;
          found = λ _. let e : i + 1 ≡ suc i = omega arith in (i, e, h.none, marked_here);
        }

      -- none could be made
      module _ (k : ℕ) (le : i ≤ k) (none_made : n ≡ 0) where
        stuck : (held_run 1 o).0.0 ≡ 0
        stuck = one ∙ none_made

        more : (m : ℕ) × (steps_to_mark f k l ≡ i + m)
        more = more_asked f k i l le h.none

        stuck_still : (held_run more.0 o).0.0 ≡ 0
        stuck_still = held_none more.0 o stuck

        pub stuck_left : (held_run (steps_to_mark f k l) l.out).1 ≡ p
        stuck_left = ap (λ m. (held_run m l.out).1) more.1 ∙ left_after more.0 ∙ held_same more.0 o stuck_still ∙ sym (held_same 1 o stuck) ∙ left_is

        pub stuck_run : HasRun f k l i false
        stuck_run = record {
          ran = let a = ap (λ m. (held_run m l.out).0.0) more.1 in let b = count_after more.0 in let c = stuck_still in omega (arith, a, b, c);
          few = le;
          passed = λ _. h.none;
          halted = λ _ _. subst (λ (q : Out). at_stop q ≡ true) (left_is ∙ sym stuck_left) (held_short 1 o (let c = stuck in omega (arith, c)));
          found = λ no. let e : false ≡ true = no in absurd cc;
        }

  -- ---- some steps that aren't marked, and one more

  module _ (i : ℕ) (o : Out) (h : HasGone f l i o) (q n : ℕ) (s : Stop) (p : Out) (run : held_run (q + 1) o ≡ ((n, s), p)) (none : NoneMarkedOf f (with_out l o) q) where
    abbrev m : ℕ
    m = (held_run q o).0.0

    abbrev pub mid : Out
    mid = (held_run q o).1

    abbrev x : ℕ
    x = (held_run 1 mid).0.0

    parted : held_run (q + 1) o ≡ then_held (held_run q o) 1
    parted = held_runs_join q 1 o

    counted : n ≡ m + x
    counted = sym (ap (λ (r : (ℕ × Stop) × Out). r.0.0) run) ∙ ap (λ (r : (ℕ × Stop) × Out). r.0.0) parted

    left_at : (held_run 1 mid).1 ≡ p
    left_at = sym (ap (λ (r : (ℕ × Stop) × Out). r.1) parted) ∙ ap (λ (r : (ℕ × Stop) × Out). r.1) run

    last_run : held_run 1 mid ≡ ((x, (held_run 1 mid).0.1), p)
    last_run = ap (λ (r : Out). let y : (ℕ × Stop) × Out = ((x, (held_run 1 mid).0.1), r) in y) left_at

    gone_mid : HasGone f l (i + m) mid
    gone_mid = many i o h q m refl none

    -- the last of them isn't made
    module _ (k : ℕ) (few : n ≤ q) (le : i + n ≤ k) where
      none_last : x ≡ 0
      none_last = elim (cases_lt m q) [
        | inl lt ↦ stopped_none 1 mid (held_short q o lt)
        | inr ge ↦ let a = counted in omega (arith, a, ge, few)
      ]

      same_count : n ≡ m
      same_count = let a = counted in let b = none_last in omega (arith, a, b)

      inside : i + m ≤ k
      inside = let a = same_count in omega (arith, a, le)

      pub short_left : (held_run (steps_to_mark f k l) l.out).1 ≡ p
      short_left = stuck_left (i + m) mid gone_mid x (held_run 1 mid).0.1 p last_run k inside none_last

      pub short_run : HasRun f k l (i + n) false
      short_run = subst (λ c. HasRun f k l (i + c) false) (sym same_count) (stuck_run (i + m) mid gone_mid x (held_run 1 mid).0.1 p last_run k inside none_last)

    -- it is made
    module _ (all : q < n) where
      whole : m ≡ q
      whole = let a = counted in let b = held_most q o in let c = held_most 1 mid in omega (arith, a, b, c, all)

      last_made : x ≢ 0
      last_made e = let a = counted in let b = held_most q o in omega (arith, a, b, e, all)

      counts : i + m + 1 ≡ i + n
      counts = let a = counted in let b = held_most q o in let c = held_most 1 mid in omega (arith, a, b, c, all)

      pub mid_is : mid ≡ out_after_steps q o
      mid_is = all_made q o whole

      pub last_is : p ≡ out_after_steps (suc q) o
      last_is =
          let a = counted in let b = held_most q o in let c = held_most 1 mid in
          let one : x ≡ 1 = omega (arith, a, b, c, all) in
          sym left_at ∙ held_one mid one ∙ ap out_after_step mid_is ∙ sym (steps_more q o)

      pub gone_far : f (with_out l mid) p ≡ false → HasGone f l (i + n) p
      gone_far unmarked = subst (λ c. HasGone f l c p) counts (gone_on (i + m) mid gone_mid x (held_run 1 mid).0.1 p last_run last_made unmarked)

      module _ (k : ℕ) (le : i + n ≤ k) (marked : f (with_out l mid) p ≡ true) where
        below : i + m < k
        below = let a = counts in omega (arith, a, le)

        pub met_left : (held_run (steps_to_mark f k l) l.out).1 ≡ p
        met_left = found_left (i + m) mid gone_mid x (held_run 1 mid).0.1 p last_run k below last_made marked

        pub met_run : HasRun f k l (i + n) true
        met_run = subst (λ c. HasRun f k l c true) counts (found_run (i + m) mid gone_mid x (held_run 1 mid).0.1 p last_run k below last_made marked)

  -- all are made
  module _ (k i : ℕ) (o : Out) (all : i ≡ k) (h : HasGone f l i o) where
    asked_all : steps_to_mark f k l ≡ k
    asked_all = all_asked f k l (subst (λ m. NoneMarkedOf f l m) all h.none)

    pub spent_left : (held_run (steps_to_mark f k l) l.out).1 ≡ o
    spent_left = ap (λ m. (held_run m l.out).1) (asked_all ∙ sym all) ∙ h.left

    pub spent_run : HasRun f k l k false
    spent_run = record {
      ran = sym (ap (λ m. (held_run m l.out).0.0) (asked_all ∙ sym all) ∙ h.made ∙ all);
      few = omega arith;
      passed = λ _. subst (λ m. NoneMarkedOf f l m) all h.none;
      halted = λ _ lt. absurd (omega (arith, lt));
      found = λ no. let e : false ≡ true = no in absurd cc;
    }

-- ---- a process whose steps aren't marked at all

module _ (f : HeldProcess → Out → Bool) (k : ℕ) (l : HeldProcess) (unwatched : (m : HeldProcess) (o : Out) → m.slot ≡ l.slot → f m o ≡ false) (n : ℕ) (s : Stop) (p : Out) (run : held_run k l.out ≡ ((n, s), p)) where
  never : (j : ℕ) → NoneMarkedOf f l j
  never j i lt = unwatched (with_out l (out_after_steps i l.out)) (out_after_steps (suc i) l.out) refl

  all : steps_to_mark f k l ≡ k
  all = all_asked f k l (never k)

  pub unwatched_left : (held_run (steps_to_mark f k l) l.out).1 ≡ p
  unwatched_left = ap (λ m. (held_run m l.out).1) all ∙ ap (λ (r : (ℕ × Stop) × Out). r.1) run

  count_is : n ≡ (held_run k l.out).0.0
  count_is = sym (ap (λ (r : (ℕ × Stop) × Out). r.0.0) run)

  pub unwatched_run : HasRun f k l n false
  unwatched_run = record {
    ran = count_is ∙ sym (ap (λ m. (held_run m l.out).0.0) all);
    few = let a = count_is in let b = held_most k l.out in omega (arith, a, b);
    passed = λ _. never n;
    halted = λ _ lt. subst (λ m. at_stop (held_run m l.out).1 ≡ true) (sym all) (held_short k l.out (let a = count_is in omega (arith, a, lt)));
    found = λ no. let e : false ≡ true = no in absurd cc;
  }
