-- Histories that begin as others.
use Rattle.std.proofs.Common.{◌≡◌, ◌∙◌, ◌≤◌, ◌-◌, ◌++◌, ℕ, List, [], ◌∷◌, append-nil, append_assoc, Option, Some, None, Result, Ok, Err, drop, take, length, length-take, refl, ap, arith, sym}
use Rattle.std.proofs.Math.Nat.{min-le_right}
use Rattle.std.proofs.Math.Seq.{take-append_seam}
use Rattle.std.proofs.lemmas.List.{take-append-drop, take_rest}
use Rattle.mx_app_step.proofs.AcceptedLemmas.{front_accepted}
use Rattle.mx_app_step.specs.Kept.{event_of_line, kept_by}
use Rattle.mx_app_step.specs.Machine.{MachineState}
use Rattle.mx_boot.specs.declared.scripts.ScriptLine.{ScriptLine}
use Rattle.mx_machine.specs.declared.events.Answer.{Answer}
use Rattle.mx_machine.specs.declared.events.Event.{Event}
use Rattle.mx_machine.specs.declared.events.Refusal.{Refusal}
use Rattle.mx_machine.specs.declared.history.Record.{Record}
use Rattle.mx_machine.specs.declared.history.Recorded.{Recorded}
use Rattle.mx_machine.specs.History.{AreAccepted, BootAndHistory, events_of_history, world_after_events}
use Rattle.mx_machine.specs.Machine.{kept_after, kept_along, record_of, with_records}
use Rattle.mx_machine.specs.Move.{move, moves}
use Rattle.mx_machine.specs.World.{World}
use Rattle.mx_turns.specs.declared.faulted_run.Parts.{Parts}
use Rattle.mx_turns.specs.declared.faults.FaultLine.{FaultLine}
use Rattle.mx_turns.specs.Faults.{fault_kept, fault_made, faults_kept, faults_made, kept_now, line_now}
use Rattle.mx_turns.specs.Sweep.{coming, run_of}
use Rattle.mx_turns.specs.Swept.{ArePartsOf, IsAlong, kept_from}
use Rattle.mx_turns.specs.Turns.{turns}
use Rattle.mx_turns.proofs.AlongLemmas.{events_on}
use Rattle.mx_turns.proofs.MadeLemmas.{kept_append}

-- a history is another one, and records after it
abbrev pub GoesOn : List Record → List Record → Type 0
GoesOn xs ys = (more : List Record) × (ys ≡ xs ++ more)

still : (xs : List Record) → GoesOn xs xs
still xs = ([], sym (append-nil xs))

then_on : (xs ys zs : List Record) → GoesOn xs ys → GoesOn ys zs → GoesOn xs zs
then_on xs ys zs a b = (a.0 ++ b.0, b.1 ∙ ap (λ l. l ++ b.0) a.1 ∙ append_assoc xs a.0 b.0)

begins : (xs ys : List Record) → GoesOn xs ys → take (length xs) ys ≡ xs
begins xs ys on = ap (take (length xs)) on.1 ∙ take-append_seam xs on.0

-- ---- what is kept goes on

by_record : (k : BootAndHistory) (a : ℕ) (o : Option Recorded) → GoesOn k.history (with_records k a o).history
by_record k a None = still k.history
by_record k a (Some e) = (record { actor = a; event = e } ∷ [], refl)

after_on : (k : BootAndHistory) (a : ℕ) (x : Event) (r : Result Answer Refusal) → GoesOn k.history (kept_after k a x r).history
after_on k a x (Err r) = still k.history
after_on k a x (Ok y) = by_record k a (record_of x y)

kept_on : (k : BootAndHistory) (xs : List (ℕ × Event)) (rs : List (Result Answer Refusal)) → GoesOn k.history (kept_along k xs rs).history
kept_on k [] rs = still k.history
kept_on k (x ∷ xs) [] = still k.history
kept_on k (x ∷ xs) (r ∷ rs) =
    let next = kept_after k x.0 x.1 r in
    then_on k.history next.history (kept_along next xs rs).history (after_on k x.0 x.1 r) (kept_on next xs rs)

by_line : (k : BootAndHistory) (w : World) (x : Option (ℕ × Event)) → GoesOn k.history (kept_by k w x).history
by_line k w None = still k.history
by_line k w (Some x) = after_on k x.0 x.1 (move w x.0 x.1).0

now_on : (k : BootAndHistory) (w : World) (other : ℕ) (o : Option ScriptLine) → GoesOn k.history (kept_now k w other o).history
now_on k w other None = still k.history
now_on k w other (Some l) = by_line k w (event_of_line other l)

fault_on : (k : BootAndHistory) (w : World) (other : ℕ) (l : FaultLine) → GoesOn k.history (fault_kept k w other l).history
unfolding fault_kept
fault_on k w other l = now_on k w other (line_now w.table l)

faults_on : (fault : List FaultLine) (k : BootAndHistory) (w : World) (other : ℕ) → GoesOn k.history (faults_kept k w other fault).history
faults_on [] k w other = still k.history
faults_on (l ∷ ls) k w other =
    let next = fault_kept k w other l in
    let v = (fault_made w other l).1 in
    then_on k.history next.history (faults_kept next v other ls).history (fault_on k w other l) (faults_on ls next v other)

-- ---- a machine at a position, and a run from there

module _ (records : List Record) (k : ℕ) (m : MachineState) (is : IsAlong records k m) where
  abbrev kept : BootAndHistory
  kept = kept_from m.kernel.boot (take k records)

  here : m.kernel.history ≡ kept.history
  here = ap (λ (x : BootAndHistory). x.history) is.kernel

  -- the run's history begins as the machine's
  pub run_begins : (other n : ℕ) (fault : List FaultLine) → take (length m.kernel.history) (run_of m.kernel.boot other records n fault k).kernel.history ≡ m.kernel.history
  run_begins other n fault =
      let run = run_of m.kernel.boot other records n fault k in
      let above = world_after_events m.kernel.boot (events_of_history (take k records)) in
      let faulted = faults_kept kept above other fault in
      let v = (faults_made above other fault).1 in
      let made = (turns n v (coming (drop k records))).made in
      let on = then_on kept.history faulted.history run.kernel.history (faults_on fault kept above other) (kept_on faulted made (moves v made).0) in
      ap (λ (xs : List Record). take (length xs) run.kernel.history) here ∙ begins kept.history run.kernel.history on ∙ sym here

  -- the history of a machine that goes on
  pub later_on : (to : ℕ) (n : MachineState) → k ≤ to → IsAlong records to n → n.kernel.boot ≡ m.kernel.boot → AreAccepted m.kernel.boot (events_of_history records) → GoesOn m.kernel.history n.kernel.history
  later_on to n later there same accepted =
      let boot = m.kernel.boot in
      let first : BootAndHistory = record { boot = boot; history = [] } in
      let xs = events_of_history (take k records) in
      let ys = events_of_history (take (to - k) (drop k records)) in
      let u = world_after_events boot xs in
      let on = kept_on kept ys (moves u ys).0 in
      let whole : n.kernel ≡ kept_along kept ys (moves u ys).0 =
      there.kernel ∙ ap (λ (b : World). kept_from b (take to records)) same
      ∙ ap (λ (es : List (ℕ × Event)). kept_along first es (moves boot es).0) (events_on records k to later)
      ∙ kept_append boot first xs ys (front_accepted boot records k accepted) in
      (on.0, ap (λ (x : BootAndHistory). x.history) whole ∙ on.1 ∙ ap (λ l. l ++ on.0) (sym here))

-- ---- parts

-- the records that a machine at an earlier position had, and those of one that has them
pub first_records : (xs ys zs : List Record) → zs ≡ xs → GoesOn xs ys → take (length zs) ys ≡ zs
first_records xs ys zs is on = ap (λ (l : List Record). take (length l) ys) is ∙ begins xs ys on ∙ sym is

pub own_records : (xs zs : List Record) → zs ≡ xs → take (length zs) xs ≡ zs
own_records xs zs is = first_records xs xs zs is (still xs)

module _ (m : MachineState) (p : Parts) (are : ArePartsOf m p) where
  pub parts_within : length p.records.items ≤ length m.kernel.history
  parts_within =
      let n = length p.records.items in
      let all = length m.kernel.history in
      omega (arith, ap length are.records, length-take n m.kernel.history, min-le_right n all)

  pub parts_whole : p.records.items ++ drop (length p.records.items) m.kernel.history ≡ m.kernel.history
  parts_whole =
      ap (λ l. l ++ drop (length p.records.items) m.kernel.history) (sym are.records) ∙ take-append-drop (length p.records.items) m.kernel.history

  -- where the rest of the history is a slice
  pub parts_rest : (xs : List Record) (made : ℕ) → xs ≡ m.kernel.history → made ≡ length p.records.items → p.records.items ++ take (length xs - made) (drop made xs) ≡ m.kernel.history
  parts_rest xs made same is =
      ap (λ l. p.records.items ++ l) (take_rest xs made) ∙ ap (λ n. p.records.items ++ drop n xs) is ∙ ap (λ (l : List Record). p.records.items ++ drop (length p.records.items) l) same ∙ parts_whole
