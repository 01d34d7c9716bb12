-- What the machine's calls do, from what the calls below them do.
use Rattle.std.proofs.Common.{◌≡◌, ◌≢◌, ◌∙◌, ◌<◌, ◌≤◌, ℕ, zero, suc, ◌+◌, cond, Bool, true, false, List, [], ◌∷◌, length, Option, Some, None, Result, Ok, Err, IfOk, IfErr, OnOk, map, slice_set, get_or, inl, inr, refl, sym, ap, subst, arith}
use Rattle.std.proofs.lemmas.Bool.{cases_lt}
use Rattle.std.proofs.lemmas.List.{set-get_or, set-set, get_or-set_same, get_or-set_other, length-set}
use Rattle.std.proofs.Math.ListN.{get_or-eq_default}
use Rattle.mx_machine.specs.declared.events.Event.{Event}
use Rattle.mx_machine.specs.declared.events.Event.TheVariants.{Step, Take, Back, Line, Tick, Kill, Respawn}
use Rattle.mx_machine.specs.declared.events.Refusal.{Refusal}
use Rattle.mx_machine.specs.declared.events.Refusal.TheVariants.{AtStop, CpuEmpty}
use Rattle.mx_machine.specs.declared.events.Answer.{Answer}
use Rattle.mx_machine.specs.declared.events.Answer.TheVariants.{Went}
use Rattle.mx_machine.specs.declared.holding.Out.{Out}
use Rattle.mx_machine.specs.Held.{held_run, outcome_of_step, out_after_step}
use Rattle.mx_machine.specs.History.{BootAndHistory, replay, with_record}
use Rattle.std.specs.Option.{option_map}
use Rattle.mx_machine.specs.Proc.Queues.{first_ready}
use Rattle.mx_machine.specs.Proc.Frame.{loan_of}
use Rattle.mx_machine.specs.Proc.TableState.{nobody, process_at}
use Rattle.mx_machine.specs.Agrees.{IsEventAccepted, IsEventRefused}
use Rattle.mx_machine.specs.KernelState.{recorded_as}
use Rattle.mx_machine.specs.declared.history.Recorded.{Recorded}
use Rattle.mx_machine.specs.Sound.{IsSound, lease_of}
use Rattle.mx_machine.specs.Move.{world_after_back, world_after_event, world_after_take, at_stop, event_answer, held_at_take, move, with_held}
use Rattle.mx_machine.specs.Steps.{StepsTo}
use Rattle.mx_machine.specs.World.{World, HeldProcess, actors, held_by, out_count}
use Rattle.mx_machine.proofs.LentLemmas.{run_more}
use Rattle.mx_machine.proofs.ProcessorLemmas.{cpus_after}
use Rattle.mx_machine.specs.Machine.{HasWorked, IsHeld, IsRunOf, IsMachineState, MachineState, all_held_now, kept_after, record_of, hold_after_step, with_records, world_of}
use Rattle.mx_machine.proofs.MachineLemmas.{IsAnyones, anyones-accepted, anyones-refused, empty-refused, held-now, held_now-length, holds_in, none-now, take-refused, with_cpus, world-replaced}
use Rattle.mx_machine.proofs.RunLemmas.{held-set, stepped-run}
use Rattle.mx_machine.proofs.StepLemmas.{move-step, step_by}
use Rattle.mx_machine.proofs.WorldStepLemmas.{held-steps}

abbrev pub on : BootAndHistory → List (Option Out) → MachineState
on k os = record { kernel = k; outs = os }

-- ---- what a processor holds

is_none : (held : Option HeldProcess) → IsHeld held None → held ≡ None
is_none None h = refl
is_none (Some l) h = absurd h

-- What a processor was lent of which it holds this.
pub record Lends (held : Option HeldProcess) (o : Out) : Type 0 where
  pub lent : HeldProcess
  pub is : held ≡ Some lent
  pub runs : IsRunOf lent.out o

is_lent : (held : Option HeldProcess) (o : Out) → IsHeld held (Some o) → Lends held o
is_lent None o h = absurd h
is_lent (Some l) o h = record { lent = l; is = refl; runs = h }

pub lends : (k : BootAndHistory) (os : List (Option Out)) (a : ℕ) (o : Out) → IsMachineState (on k os) → get_or os a None ≡ Some o → Lends (held_by (replay k) a) o
lends k os a o h g = is_lent (held_by (replay k) a) o (subst (IsHeld (held_by (replay k) a)) g (h.each a))

pub lends_none : (k : BootAndHistory) (os : List (Option Out)) (a : ℕ) → IsMachineState (on k os) → get_or os a None ≡ None → held_by (world_of (on k os)) a ≡ None
lends_none k os a h g = none-now k os a (is_none (held_by (replay k) a) (subst (IsHeld (held_by (replay k) a)) g (h.each a)))

pub none_beyond : (k : BootAndHistory) (os : List (Option Out)) (a : ℕ) → IsMachineState (on k os) → 8 ≤ a → held_by (world_of (on k os)) a ≡ None
none_beyond k os a h far = let few = h.few in none-now k os a (get_or-eq_default (replay k).cpus None (omega arith))

pub running-replaced : (k : BootAndHistory) (os : List (Option Out)) (a : ℕ) (l : HeldProcess) (p : Out) → a < length os → IsMachineState (on k os) → held_by (replay k) a ≡ Some l → IsRunOf l.out p → IsMachineState (on k (slice_set os a (Some p)))
running-replaced k os a l p b h at run = record {
  few = h.few;
  places = length-set os a (Some p) ∙ h.places;
  each = held-set (replay k).cpus (replay k).cpus os a (Some p) b (λ i n. refl) (subst (λ (x : Option HeldProcess). IsHeld x (Some p)) (sym at) run) h.each;
}

-- ---- a machine that was just made

none_held : {X : Type 0} → (xs : List (Option X)) (a : ℕ) → out_count xs ≡ 0 → get_or xs a None ≡ None
none_held [] a h = refl
none_held (None ∷ xs) zero h = refl
none_held (None ∷ xs) (suc a) h = none_held xs a h
none_held (Some x ∷ xs) a h = absurd (omega arith)

nothing_now : (ls : List (Option HeldProcess)) (os : List (Option Out)) → out_count ls ≡ 0 → all_held_now ls os ≡ ls
nothing_now [] os h = refl
nothing_now (None ∷ ls) [] h = refl
nothing_now (None ∷ ls) (o ∷ os) h = ap (λ l. None ∷ l) (nothing_now ls os h)
nothing_now (Some l ∷ ls) os h = absurd (omega arith)

pub new-running : (k : BootAndHistory) (os : List (Option Out)) → length (replay k).cpus ≤ 8 → out_count (replay k).cpus ≡ 0 → out_count os ≡ 0 → length os ≡ 8 → IsMachineState (on k os)
new-running k os few h g eight = record {
  few = few;
  places = eight;
  each = λ a. subst (λ (x : Option HeldProcess). IsHeld x (get_or os a None)) (sym (none_held (replay k).cpus a h)) (subst (λ (y : Option Out). IsHeld None y) (sym (none_held os a g)) tt);
}

pub new-world : (k : BootAndHistory) (os : List (Option Out)) → out_count (replay k).cpus ≡ 0 → world_of (on k os) ≡ replay k
unfolding world_of
new-world k os h = ap (with_cpus (replay k)) (nothing_now (replay k).cpus os h)

-- ---- a step

pub record IsDone (k : BootAndHistory) (os ps : List (Option Out)) (a : ℕ) (r : Result Answer Refusal) : Type 0 where
  pub running : IsMachineState (on k ps)
  pub world : move (world_of (on k os)) a Step ≡ (r, world_of (on k ps))

pub same_set : (os : List (Option Out)) (a : ℕ) (x : Option Out) → get_or os a None ≡ x → slice_set os a x ≡ os
same_set os a x g = ap (slice_set os a) (sym g) ∙ set-get_or os a None

-- nothing changes at a refusal
refused-done : (k : BootAndHistory) (os : List (Option Out)) (a : ℕ) (x : Option Out) (e : Refusal) → IsMachineState (on k os) → get_or os a None ≡ x → move (world_of (on k os)) a Step ≡ (Err e, world_of (on k os)) → IsDone k os (slice_set os a x) a (Err e)
refused-done k os a x e h g m = subst (λ (ps : List (Option Out)). IsDone k os ps a (Err e)) (sym (same_set os a x g)) (record { running = h; world = m })

went-done : (k : BootAndHistory) (os : List (Option Out)) (a : ℕ) (o p : Out) → a < length os → IsMachineState (on k os) → get_or os a None ≡ Some o
    → at_stop o ≡ false → p ≡ out_after_step o → IsDone k os (slice_set os a (Some p)) a (Ok (Went (outcome_of_step o)))
went-done k os a o p b h g goes is =
    let l = lends k os a o h g in
    let m : HeldProcess = record l.lent { out = o } in
    let w = world_of (on k os) in
    record {
      running = running-replaced k os a l.lent p b h l.is (run_more l.lent.out o p 1 l.runs (is ∙ stepped-run o goes));
      world = move-step w a m (held-now k os a l.lent o l.is g) ∙ ap (step_by w a m) goes
          ∙ ap (λ (x : Out). let r : Result Answer Refusal × World = (Ok (Went (outcome_of_step o)), with_held w a (Some (record l.lent { out = x }))) in r) (sym is)
          ∙ ap (λ (v : World). let r : Result Answer Refusal × World = (Ok (Went (outcome_of_step o)), v) in r) (sym (world-replaced k os a l.lent p b l.is));
    }

stop-done : (k : BootAndHistory) (os : List (Option Out)) (a : ℕ) (o : Out) → IsMachineState (on k os) → get_or os a None ≡ Some o → at_stop o ≡ true → IsDone k os (slice_set os a (Some o)) a (Err AtStop)
stop-done k os a o h g stops =
    let l = lends k os a o h g in
    let w = world_of (on k os) in
    refused-done k os a (Some o) AtStop h g (move-step w a (record l.lent { out = o }) (held-now k os a l.lent o l.is g) ∙ ap (step_by w a (record l.lent { out = o })) stops)

some-done : (k : BootAndHistory) (os : List (Option Out)) (a : ℕ) (o : Out) (p : Option Out) (r : Result Answer Refusal) (stops : Bool) → a < length os
    → IsMachineState (on k os) → get_or os a None ≡ Some o → at_stop o ≡ stops
    → cond stops (let q : Result Answer Refusal × Option Out = (Err AtStop, Some o) in q) (Ok (Went (outcome_of_step o)), Some (out_after_step o)) ≡ (r, p)
    → IsDone k os (slice_set os a p) a r
some-done k os a o p r true b h g s e =
    let re : Err AtStop ≡ r = ap (λ (q : Result Answer Refusal × Option Out). q.0) e in
    let pe : Some o ≡ p = ap (λ (q : Result Answer Refusal × Option Out). q.1) e in
    subst (λ (x : Result Answer Refusal). IsDone k os (slice_set os a p) a x) re (subst (λ (x : Option Out). IsDone k os (slice_set os a x) a (Err AtStop)) pe (stop-done k os a o h g s))
some-done k os a o p r false b h g s e =
    let re : Ok (Went (outcome_of_step o)) ≡ r = ap (λ (q : Result Answer Refusal × Option Out). q.0) e in
    let pe : Some (out_after_step o) ≡ p = ap (λ (q : Result Answer Refusal × Option Out). q.1) e in
    subst (λ (x : Result Answer Refusal). IsDone k os (slice_set os a p) a x) re (subst (λ (x : Option Out). IsDone k os (slice_set os a x) a (Ok (Went (outcome_of_step o)))) pe (went-done k os a o (out_after_step o) b h g s refl))

pub step-done : (k : BootAndHistory) (os : List (Option Out)) (a : ℕ) (x p : Option Out) (r : Result Answer Refusal) → a < length os → IsMachineState (on k os)
    → get_or os a None ≡ x → hold_after_step x ≡ (r, p) → IsDone k os (slice_set os a p) a r
step-done k os a None p r b h g e =
    let re : Err CpuEmpty ≡ r = ap (λ (q : Result Answer Refusal × Option Out). q.0) e in
    let pe : None ≡ p = ap (λ (q : Result Answer Refusal × Option Out). q.1) e in
    subst (λ (x : Result Answer Refusal). IsDone k os (slice_set os a p) a x) re (subst (λ (x : Option Out). IsDone k os (slice_set os a x) a (Err CpuEmpty)) pe
    (refused-done k os a None CpuEmpty h g (empty-refused (world_of (on k os)) a Step tt (lends_none k os a h g))))
step-done k os a (Some o) p r b h g e = some-done k os a o p r (at_stop o) b h g refl e

-- a step is not recorded
pub step-kept : (k : BootAndHistory) (a : ℕ) (r : Result Answer Refusal) → k ≡ kept_after k a Step r
step-kept k a (Ok y) = refl
step-kept k a (Err e) = refl

-- ---- a tool's work

pub work-done : (k : BootAndHistory) (os : List (Option Out)) (a j : ℕ) (o p : Out)
    → a < length os → IsMachineState (on k os) → get_or os a None ≡ Some o → p ≡ (held_run j o).1
    → IsMachineState (on k (slice_set os a (Some p))) × (l : HeldProcess) × (l.out ≡ o) × HasWorked (world_of (on k os)) (world_of (on k (slice_set os a (Some p)))) a j l
work-done k os a j o p b h g is =
    let l = lends k os a o h g in
    let m : HeldProcess = record l.lent { out = o } in
    let w = world_of (on k os) in
    let held : held_by w a ≡ Some m = held-now k os a l.lent o l.is g in
    let s : StepsTo w a (held_run j o).0.0 m (held_run j o).1 = held-steps w a j m held l.runs.within in
    let run : IsRunOf l.lent.out p = run_more l.lent.out o p j l.runs is in
    let at : get_or (slice_set os a (Some p)) a None ≡ Some p = get_or-set_same os a (Some p) None b in
    let same : Some (record l.lent { out = p }) ≡ Some (record m { out = (held_run j o).1 }) = ap (λ (x : Out). let y : Option HeldProcess = Some (record l.lent { out = x }) in y) is in (
      running-replaced k os a l.lent p b h l.is run,
      m,
      refl,
      record {
        held = held;
        accepted = s.accepted;
        world = world-replaced k os a l.lent p b l.is ∙ ap (with_held w a) same ∙ sym s.after;
        out = held-now k (slice_set os a (Some p)) a l.lent p l.is at ∙ same;
      },
    )

-- ---- takes, returns and what any actor does

take-length : (w v : World) (a : ℕ) (first : Option ℕ) → v ≡ world_after_take w a first → length v.cpus ≡ length w.cpus
take-length w v a None is = ap (λ (u : World). length u.cpus) is
take-length w v a (Some s) is = ap (λ (u : World). length u.cpus) is ∙ length-set w.cpus a (Some (held_at_take w.table s))

take-others : (w v : World) (a b : ℕ) (first : Option ℕ) → v ≡ world_after_take w a first → b ≢ a → get_or v.cpus b None ≡ get_or w.cpus b None
take-others w v a b None is n = ap (λ (u : World). get_or u.cpus b None) is
take-others w v a b (Some s) is n = ap (λ (u : World). get_or u.cpus b None) is ∙ get_or-set_other w.cpus a b (Some (held_at_take w.table s)) None n

pub take-running : (k n : BootAndHistory) (os : List (Option Out)) (a : ℕ) (l : HeldProcess) (out : Out) → a < length os → IsMachineState (on k os) → replay n ≡ world_after_event (replay k) a Take → held_by (replay n) a ≡ Some l → IsRunOf l.out out
    → IsMachineState (on n (slice_set os a (Some out)))
unfolding world_after_event
take-running k n os a l out b h is at run =
    let first = first_ready (replay k).table.ready in
    record {
      few = subst (λ m. m ≤ 8) (sym (take-length (replay k) (replay n) a first is)) h.few;
      places = length-set os a (Some out) ∙ h.places;
      each = held-set (replay k).cpus (replay n).cpus os a (Some out) b (λ i m. take-others (replay k) (replay n) a i first is m) (subst (λ (x : Option HeldProcess). IsHeld x (Some out)) (sym at) run) h.each;
    }

back-is : (k n : BootAndHistory) (a : ℕ) (l : HeldProcess) (o : Out) → held_by (replay k) a ≡ Some l → replay n ≡ world_after_event (with_held (replay k) a (Some (record l { out = o }))) a Back → (replay n).cpus ≡ slice_set (replay k).cpus a None
unfolding world_after_event
back-is k n a l o at is =
    let w = replay k in
    let m : HeldProcess = record l { out = o } in
    let put : held_by (with_held w a (Some m)) a ≡ Some m = get_or-set_same w.cpus a (Some m) None (holds_in w.cpus a l at) in
    ap (λ (v : World). v.cpus) (is ∙ ap (world_after_back (with_held w a (Some m)) a) put) ∙ set-set w.cpus a (Some m) None

pub back-running : (k n : BootAndHistory) (os : List (Option Out)) (a : ℕ) (l : HeldProcess) (o : Out) → a < length os → IsMachineState (on k os) → held_by (replay k) a ≡ Some l
    → replay n ≡ world_after_event (with_held (replay k) a (Some (record l { out = o }))) a Back → IsMachineState (on n (slice_set os a None))
back-running k n os a l o b h at is =
    let cpus = back-is k n a l o at is in
    let below = holds_in (replay k).cpus a l at in
    let gone : get_or (replay n).cpus a None ≡ None = ap (λ x. get_or x a None) cpus ∙ get_or-set_same (replay k).cpus a None None below in
    record {
      few = subst (λ m. m ≤ 8) (sym (ap length cpus ∙ length-set (replay k).cpus a None)) h.few;
      places = length-set os a None ∙ h.places;
      each = held-set (replay k).cpus (replay n).cpus os a None b (λ i m. ap (λ x. get_or x i None) cpus ∙ get_or-set_other (replay k).cpus a i None None m) (subst (λ (x : Option HeldProcess). IsHeld x None) (sym gone) tt) h.each;
    }

pub anyones-running : (k n : BootAndHistory) (os : List (Option Out)) (a : ℕ) (x : Event) → IsMachineState (on k os) → IsAnyones x → replay n ≡ world_after_event (replay k) a x → IsMachineState (on n os)
anyones-running k n os a x h i is =
    let cpus : (replay n).cpus ≡ (replay k).cpus = ap (λ (v : World). v.cpus) is ∙ cpus_after (replay k) a x i in
    record {
      few = subst (λ m. m ≤ 8) (sym (ap length cpus)) h.few;
      places = h.places;
      each = λ b. subst (λ (l : List (Option HeldProcess)). IsHeld (get_or l b None) (get_or os b None)) (sym cpus) (h.each b);
    }

pub same-running : (k n : BootAndHistory) (os : List (Option Out)) → n ≡ k → IsMachineState (on k os) → IsMachineState (on n os)
same-running k n os e h = subst (λ (x : BootAndHistory). IsMachineState (on x os)) (sym e) h

-- a processor that took has a place
pub took-below : (k n : BootAndHistory) (os : List (Option Out)) (a : ℕ) (l : HeldProcess) → length (replay n).cpus ≤ 8 → held_by (replay n) a ≡ Some l → a < 8
took-below k n os a l few at = let b = holds_in (replay n).cpus a l at in omega arith

-- what is read of a list doesn't depend on what is given where nothing is
pub any_default : {X : Type 0} → (xs : List X) (i : ℕ) (d e : X) → i < length xs → get_or xs i d ≡ get_or xs i e
any_default [] i d e b = absurd (omega arith)
any_default (x ∷ xs) zero d e b = refl
any_default (x ∷ xs) (suc i) d e b = any_default xs i d e (omega arith)

-- ---- actors

-- what the processors hold leaves how many there are
pub actors-now : (m : MachineState) → actors (world_of m) ≡ actors (replay m.kernel)
unfolding world_of
actors-now m = ap (λ n. n + (replay m.kernel).others) (held_now-length (replay m.kernel).cpus m.outs)

pub actors-of_kernel : (m n : MachineState) → n.kernel ≡ m.kernel → actors (world_of n) ≡ actors (world_of m)
actors-of_kernel m n e = actors-now n ∙ ap (λ (k : BootAndHistory). actors (replay k)) e ∙ sym (actors-now m)

-- ---- a line, a tick, a kill or a respawn

pub record IsRuled (k n : BootAndHistory) (os : List (Option Out)) (a : ℕ) (x : Event) (r : Result Answer Refusal) : Type 0 where
  pub running : IsMachineState (on n os)
  pub world : move (world_of (on k os)) a x ≡ (r, world_of (on n os))

pub ruled : (k n : BootAndHistory) (os : List (Option Out)) (a : ℕ) (x : Event) (r : Result Answer Refusal) (e : Recorded) → IsMachineState (on k os) → IsAnyones x
    → IfOk r (λ y. (y ≡ event_answer (replay k) a x) × IsEventAccepted k n a x e) → IfErr r (λ y. IsEventRefused k n a x y) → IsRuled k n os a x r
ruled k n os a x (Ok y) e h i ok err = record {
  running = anyones-running k n os a x h i ok.1.world;
  world = anyones-accepted k n os a x i ok.1.accepted ok.1.world ∙ ap (λ (z : Answer). let p : Result Answer Refusal × World = (Ok z, world_of (on n os)) in p) (sym ok.0);
}
ruled k n os a x (Err y) e h i ok err = record {
  running = same-running k n os err.1 h;
  world = anyones-refused k os a x y i err.0 ∙ ap (λ (m : BootAndHistory). let p : Result Answer Refusal × World = (Err y, world_of (on m os)) in p) (sym err.1);
}

-- ---- what is recorded of it

recorded_all : (k : BootAndHistory) (a : ℕ) (x : Event) (y : Answer) → IsAnyones x → with_record k a (recorded_as x) ≡ with_records k a (record_of x y)
recorded_all k a Step y i = cc
recorded_all k a Take y i = cc
recorded_all k a Back y i = cc
recorded_all k a (Line l) y i = refl
recorded_all k a Tick y i = refl
recorded_all k a (Kill e) y i = refl
recorded_all k a (Respawn s) y i = refl

pub ruled-kept : (k n : BootAndHistory) (a : ℕ) (x : Event) (r : Result Answer Refusal) → IsAnyones x
    → IfOk r (λ y. (y ≡ event_answer (replay k) a x) × IsEventAccepted k n a x (recorded_as x)) → IfErr r (λ y. IsEventRefused k n a x y) → n ≡ kept_after k a x r
ruled-kept k n a x (Ok y) i ok err = ok.1.recorded ∙ recorded_all k a x y i
ruled-kept k n a x (Err y) i ok err = err.1

-- ---- the slot on a processor

lease-at : (ls : List (Option HeldProcess)) (a : ℕ) → get_or (map lease_of ls) a None ≡ lease_of (get_or ls a None)
lease-at [] a = refl
lease-at (l ∷ ls) zero = refl
lease-at (l ∷ ls) (suc a) = lease-at ls a

slot_of : (w : World) (a s : ℕ) (held : Option HeldProcess) → IsSound w → held_by w a ≡ held → option_map (λ (l : HeldProcess). l.slot) held ≡ Some s → s < length w.table.slots
slot_of w a s None h at is = cc
slot_of w a s (Some l) h at is =
    let slot : l.slot ≡ s = cc in
    let lease : get_or (map lease_of w.cpus) a None ≡ Some (record { slot = l.slot; budget = l.out.budget }) = lease-at w.cpus a ∙ ap lease_of at in
    let loan = h.holds.leased a (record { slot = l.slot; budget = l.out.budget }) lease in
    elim (cases_lt l.slot (length w.table.slots)) [
      | inl lt ↦ omega arith
      | inr ge ↦ let z : process_at w.table l.slot ≡ nobody = get_or-eq_default w.table.slots nobody ge in let f : loan_of nobody ≡ Some l.out.budget = ap loan_of (sym z) ∙ loan in cc
    ]

pub slot-used : (w : World) (a s : ℕ) → IsSound w → option_map (λ (l : HeldProcess). l.slot) (held_by w a) ≡ Some s → s < length w.table.slots
slot-used w a s h is = slot_of w a s (held_by w a) h refl is

-- ---- a take that is refused

pub take-err : (k n : BootAndHistory) (os : List (Option Out)) (a : ℕ) (e : Refusal) (m : MachineState) → on k os ≡ m → IsEventRefused k n a Take e → move (world_of m) a Take ≡ (Err e, world_of (on n os))
take-err k n os a e m is refused = subst (λ (m : MachineState). move (world_of m) a Take ≡ (Err e, world_of (on n os))) is
    (take-refused k os a e refused.0 ∙ ap (λ (x : BootAndHistory). let p : Result Answer Refusal × World = (Err e, world_of (on x os)) in p) (sym refused.1))

-- ---- a tool's call

abbrev pub HasRun : Option Out → Option Out → (Out → ℕ) → (Out → Type 0) → Type 0
HasRun held new j B = (o : Out) × (p : Out) × (held ≡ Some o) × (new ≡ Some p) × (p ≡ (held_run (j o) o).1) × B o

-- What a tool's call leaves.
pub record IsWorked (k : BootAndHistory) (os : List (Option Out)) (a : ℕ) (new : Option Out) (r : Result (Unit {0}) Refusal) (j : Out → ℕ) (B : Out → Type 0) (Same : Type 0) : Type 0 where
  pub running : IsMachineState (on k (slice_set os a new))
  pub ok : OnOk r ((l : HeldProcess) × HasWorked (world_of (on k os)) (world_of (on k (slice_set os a new))) a (j l.out) l × B l.out)
  pub err : IfErr r (λ e. (e ≡ CpuEmpty) × (held_by (world_of (on k os)) a ≡ None) × (on k (slice_set os a new) ≡ on k os) × Same)

pub worked : (k : BootAndHistory) (os : List (Option Out)) (a : ℕ) (held new : Option Out) (r : Result (Unit {0}) Refusal) (j : Out → ℕ) (B : Out → Type 0) (Same : Type 0)
    → a < length os → IsMachineState (on k os) → get_or os a None ≡ held
    → IfErr r (λ e. (e ≡ CpuEmpty) × (held ≡ None) × (new ≡ None) × Same) → OnOk r (HasRun held new j B) → IsWorked k os a new r j B Same
worked k os a held new (Ok u) j B Same b h at none some =
    let o = some.0 in
    let p = some.1 in
    let d = work-done k os a (j o) o p b h (at ∙ some.2) some.4 in
    subst (λ (x : Option Out). IsWorked k os a x (Ok u) j B Same) (sym some.3) (record {
      running = d.0;
      ok = (d.1, subst (λ (x : Out). HasWorked (world_of (on k os)) (world_of (on k (slice_set os a (Some p)))) a (j x) d.1) (sym d.2) d.3, subst B (sym d.2) some.5);
      err = tt;
    })
worked k os a held new (Err e) j B Same b h at none some =
    let gone : get_or os a None ≡ None = at ∙ none.1 in
    let same : slice_set os a new ≡ os = ap (slice_set os a) none.2 ∙ same_set os a None gone in
    record {
      running = subst (λ (x : List (Option Out)). IsMachineState (on k x)) (sym same) h;
      ok = tt;
      err = (none.0, lends_none k os a h gone, ap (on k) same, none.3);
    }
