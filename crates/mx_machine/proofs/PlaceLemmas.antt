-- What a machine's takes and returns do, from what the calls of a place do.
use Rattle.std.proofs.Common.{◌≡◌, ◌∙◌, ◌<◌, ◌≤◌, ℕ, cond, nat_lt, Bool, true, false, List, length, Option, Some, None, Result, Ok, Err, IfSome, IfOk, IfErr, slice_set, get_or, refl, sym, ap, subst, arith}
use Rattle.std.proofs.lemmas.Bool.{ltb-true}
use Rattle.mx_machine.specs.Proc.Queues.{first_ready}
use Rattle.mx_machine.specs.Proc.TableState.{endpoint_of}
use Rattle.mx_machine.specs.declared.events.Answer.{Answer}
use Rattle.mx_machine.specs.declared.events.Answer.TheVariants.{Returned, Taken, Went}
use Rattle.mx_machine.specs.declared.events.Event.TheVariants.{Back, Take}
use Rattle.mx_machine.specs.declared.events.Refusal.{Refusal}
use Rattle.mx_machine.specs.declared.events.Refusal.TheVariants.{AtStop, CpuBusy, CpuEmpty}
use Rattle.mx_machine.specs.declared.history.Recorded.TheVariants as recorded
use Rattle.mx_machine.specs.declared.holding.Out.{Out}
use Rattle.mx_machine.specs.Agrees.{IsEventAccepted, IsEventRefused}
use Rattle.mx_machine.specs.Held.{IsBack, outcome_of_step, out_after_step}
use Rattle.mx_machine.specs.History.{BootAndHistory, replay, with_record}
use Rattle.mx_machine.specs.Machine.{IsMachineState, IsRunOf, MachineState, hold_after_step, world_of}
use Rattle.mx_machine.specs.Move.{at_stop, event_answer, event_refusal, move, take_refusal, with_held, world_after_event}
use Rattle.mx_machine.specs.World.{World, HeldProcess, free_records, held_by}
use Rattle.mx_machine.proofs.DoneLemmas.{back-running, lends, lends_none, on, same_set, take-err, take-running}
use Rattle.mx_machine.proofs.MachineLemmas.{back-accepted, empty-refused, take-accepted, take-refused, taken-answer}

-- ---- a place

-- a place in which something is held
pub held_is : (b : Bool) (o : Out) (x : Option Out) → cond b (Some o) None ≡ x → b ≡ true → x ≡ Some o
held_is true o x v t = sym v
held_is false o x v t = cc

-- a place in which nothing is held
pub not_held : (b : Bool) (o : Out) (x : Option Out) → cond b (Some o) None ≡ x → b ≡ false → x ≡ None
not_held true o x v t = cc
not_held false o x v t = sym v

-- and what it is then, with another in it
pub held_as : (b : Bool) (o : Out) → b ≡ true → cond b (Some o) None ≡ Some o
held_as true o t = refl
held_as false o t = cc

pub empty_as : (b : Bool) (o : Out) → b ≡ false → cond b (Some o) None ≡ None
empty_as true o t = cc
empty_as false o t = refl

abbrev IsStopped : Out → Out → Refusal → Type 0
IsStopped o p e = (e ≡ AtStop) × (at_stop o ≡ true) × (p ≡ o)

abbrev HasGone : Out → Out → Answer → Type 0
HasGone o p y = (y ≡ Went (outcome_of_step o)) × (at_stop o ≡ false) × (p ≡ out_after_step o)

stepped : (o p : Out) (r : Result Answer Refusal) → IfErr r (IsStopped o p) → IfOk r (HasGone o p) → hold_after_step (Some o) ≡ (r, Some p)
stepped o p (Err e) stops goes =
    ap (λ (b : Bool). let q : Result Answer Refusal × Option Out = cond b (Err AtStop, Some o) (Ok (Went (outcome_of_step o)), Some (out_after_step o)) in q) stops.1
    ∙ ap (λ (x : Refusal). let q : Result Answer Refusal × Option Out = (Err x, Some o) in q) (sym stops.0)
    ∙ ap (λ (x : Out). let q : Result Answer Refusal × Option Out = (Err e, Some x) in q) (sym stops.2)
stepped o p (Ok y) stops goes =
    ap (λ (b : Bool). let q : Result Answer Refusal × Option Out = cond b (Err AtStop, Some o) (Ok (Went (outcome_of_step o)), Some (out_after_step o)) in q) goes.1
    ∙ ap (λ (x : Answer). let q : Result Answer Refusal × Option Out = (Ok x, Some (out_after_step o)) in q) (sym goes.0)
    ∙ ap (λ (x : Out). let q : Result Answer Refusal × Option Out = (Ok y, Some x) in q) (sym goes.2)

-- a step of what a place has
pub stepped_in : (b : Bool) (o p : Out) (x : Option Out) (r : Result Answer Refusal) → cond b (Some o) None ≡ x → b ≡ true → IfErr r (IsStopped o p) → IfOk r (HasGone o p) → hold_after_step x ≡ (r, cond b (Some p) None)
stepped_in b o p x r v t stops goes =
    ap hold_after_step (held_is b o x v t) ∙ stepped o p r stops goes
    ∙ ap (λ (y : Option Out). let q : Result Answer Refusal × Option Out = (r, y) in q) (sym (held_as b p t))

-- ---- takes

not_below : (a n : ℕ) → n ≤ a → nat_lt a n ≡ false
not_below a n h = go (nat_lt a n) refl
  where
    go : (b : Bool) → nat_lt a n ≡ b → nat_lt a n ≡ false
    go false e = e
    go true e = let lt : a < n = ltb-true a n e in absurd (omega (arith, lt, h))

-- beyond the places there is no processor
pub busy_beyond : (k : BootAndHistory) (os : List (Option Out)) (a : ℕ) → IsMachineState (on k os) → 8 ≤ a → move (world_of (on k os)) a Take ≡ (Err CpuBusy, world_of (on k os))
unfolding event_refusal
busy_beyond k os a h far =
    let w = replay k in
    let few = h.few in
    take-refused k os a CpuBusy (ap (λ b. cond b (take_refusal (free_records w) (held_by w a) (first_ready w.table.ready)) (Some CpuBusy)) (not_below a (length w.cpus) (omega (arith, few, far))))

-- a refused take leaves the place as it was
pub refused_take : (k n : BootAndHistory) (os : List (Option Out)) (a : ℕ) (x p : Option Out) (e : Refusal) → get_or os a None ≡ x → p ≡ x → IsEventRefused k n a Take e
    → move (world_of (on k os)) a Take ≡ (Err e, world_of (on n (slice_set os a p)))
refused_take k n os a x p e g same refused =
    take-err k n os a e (on k os) refl refused
    ∙ ap (λ (ps : List (Option Out)). let q : Result Answer Refusal × World = (Err e, world_of (on n ps)) in q) (sym (ap (slice_set os a) same ∙ same_set os a x g))

pub refused_running : (k n : BootAndHistory) (os : List (Option Out)) (a : ℕ) (x p : Option Out) (e : Refusal) → IsMachineState (on k os) → get_or os a None ≡ x → p ≡ x → IsEventRefused k n a Take e → IsMachineState (on n (slice_set os a p))
refused_running k n os a x p e h g same refused =
    subst (λ (ps : List (Option Out)). IsMachineState (on n ps)) (sym (ap (slice_set os a) same ∙ same_set os a x g))
    (subst (λ (m : BootAndHistory). IsMachineState (on m os)) (sym refused.1) h)

pub taken_running : (k n : BootAndHistory) (os : List (Option Out)) (a : ℕ) (l : HeldProcess) (p : Option Out) → a < length os → IsMachineState (on k os) → IsEventAccepted k n a Take recorded.Take
    → held_by (replay n) a ≡ Some l → p ≡ Some l.out → IsRunOf l.out l.out → IsMachineState (on n (slice_set os a p))
taken_running k n os a l p b h ok is same run =
    subst (λ (x : Option Out). IsMachineState (on n (slice_set os a x))) (sym same) (take-running k n os a l l.out b h ok.world is run)

pub taken_moved : (k n : BootAndHistory) (os : List (Option Out)) (a e budget : ℕ) (l : HeldProcess) (p : Option Out) → a < length os → IsEventAccepted k n a Take recorded.Take → held_by (replay n) a ≡ Some l → p ≡ Some l.out → budget ≡ l.out.budget
    → IfSome (held_by (replay n) a) (λ (y : HeldProcess). e ≡ endpoint_of (replay n).table y.slot)
    → move (world_of (on k os)) a Take ≡ (Ok (Taken e budget), world_of (on n (slice_set os a p)))
taken_moved k n os a e budget l p b ok is same counts named =
    let endpoint : e ≡ endpoint_of (replay n).table l.slot = subst (λ (x : Option HeldProcess). IfSome x (λ (y : HeldProcess). e ≡ endpoint_of (replay n).table y.slot)) is named in
    take-accepted k n os a l l.out b ok.accepted ok.world is refl
    ∙ ap (λ (y : Answer). let q : Result Answer Refusal × World = (Ok y, world_of (on n (slice_set os a (Some l.out)))) in q) (taken-answer k n a e l l.out ok.accepted ok.world is refl endpoint ∙ ap (Taken e) (sym counts))
    ∙ ap (λ (x : Option Out). let q : Result Answer Refusal × World = (Ok (Taken e budget), world_of (on n (slice_set os a x))) in q) (sym same)

-- ---- returns

-- what is in a place may come back
pub may_come_back : (k : BootAndHistory) (os : List (Option Out)) (a : ℕ) (x : Option Out) → IsMachineState (on k os) → get_or os a None ≡ x → IfSome x (λ (o : Out). (l : HeldProcess) × (held_by (replay k) a ≡ Some l) × IsBack l.out o)
may_come_back k os a None h g = tt
may_come_back k os a (Some o) h g = let l = lends k os a o h g in (l.lent, l.is, l.runs.back)

abbrev pub CameBack : BootAndHistory → BootAndHistory → ℕ → Option Out → ℕ → Type 0
CameBack k n a x count =
    (o : Out) × (x ≡ Some o) × (count ≡ o.count) × (n ≡ with_record k a (recorded.Back o.count))
    × ((l : HeldProcess) → held_by (replay k) a ≡ Some l → replay n ≡ world_after_event (with_held (replay k) a (Some (record l { out = o }))) a Back)

abbrev pub NothingCame : BootAndHistory → BootAndHistory → Option Out → Type 0
NothingCame k n x = (x ≡ None) × (n ≡ k)

none_left : (k n : BootAndHistory) (os : List (Option Out)) (a : ℕ) (x p : Option Out) → get_or os a None ≡ x → p ≡ None → NothingCame k n x → on n (slice_set os a p) ≡ on k os
none_left k n os a x p g e none =
    ap (λ (m : BootAndHistory). on m (slice_set os a p)) none.1 ∙ ap (on k) (ap (slice_set os a) e ∙ same_set os a None (g ∙ none.0))

pub nothing_running : (k n : BootAndHistory) (os : List (Option Out)) (a : ℕ) (x p : Option Out) → IsMachineState (on k os) → get_or os a None ≡ x → p ≡ None → NothingCame k n x → IsMachineState (on n (slice_set os a p))
nothing_running k n os a x p h g e none = subst (λ (m : MachineState). IsMachineState m) (sym (none_left k n os a x p g e none)) h

pub left_running : (k n : BootAndHistory) (os : List (Option Out)) (a count : ℕ) (x p : Option Out) → a < length os → IsMachineState (on k os) → get_or os a None ≡ x → p ≡ None → CameBack k n a x count → IsMachineState (on n (slice_set os a p))
left_running k n os a count x p b h g e some =
    let l = lends k os a some.0 h (g ∙ some.1) in
    subst (λ (y : Option Out). IsMachineState (on n (slice_set os a y))) (sym e) (back-running k n os a l.lent some.0 b h l.is (some.4 l.lent l.is))

pub back_moved : (k n : BootAndHistory) (os : List (Option Out)) (a count : ℕ) (x p : Option Out) → a < length os → IsMachineState (on k os) → get_or os a None ≡ x → p ≡ None → CameBack k n a x count
    → move (world_of (on k os)) a Back ≡ (Ok (Returned count), world_of (on n (slice_set os a p)))
back_moved k n os a count x p b h g e some =
    let at = g ∙ some.1 in
    let l = lends k os a some.0 h at in
    back-accepted k n os a l.lent some.0 b l.is at (some.4 l.lent l.is)
    ∙ ap (λ (c : ℕ). let q : Result Answer Refusal × World = (Ok (Returned c), world_of (on n (slice_set os a None))) in q) (sym some.2)
    ∙ ap (λ (y : Option Out). let q : Result Answer Refusal × World = (Ok (Returned count), world_of (on n (slice_set os a y))) in q) (sym e)

pub nothing_moved : (k n : BootAndHistory) (os : List (Option Out)) (a : ℕ) (x p : Option Out) → IsMachineState (on k os) → get_or os a None ≡ x → p ≡ None → NothingCame k n x
    → move (world_of (on k os)) a Back ≡ (Err CpuEmpty, world_of (on n (slice_set os a p)))
nothing_moved k n os a x p h g e none =
    empty-refused (world_of (on k os)) a Back tt (lends_none k os a h (g ∙ none.0))
    ∙ ap (λ (m : MachineState). let q : Result Answer Refusal × World = (Err CpuEmpty, world_of m) in q) (sym (none_left k n os a x p g e none))

pub back_recorded : (k n : BootAndHistory) (a count : ℕ) (x : Option Out) → CameBack k n a x count → n ≡ with_record k a (recorded.Back count)
back_recorded k n a count x some = some.3 ∙ ap (λ (c : ℕ). with_record k a (recorded.Back c)) (sym some.2)
