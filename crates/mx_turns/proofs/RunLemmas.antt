-- Runs with a fault at a position.
use Rattle.std.proofs.Common.{◌≡◌, ◌∙◌, ◌<◌, ◌+◌, ℕ, zero, suc, ◌++◌, List, [], ◌∷◌, length, drop, take, get_or, Option, Some, None, append_assoc, refl, ap, sym, subst, arith}
use Rattle.std.proofs.Math.Seq.{drop-cons}
use Rattle.mx_app_step.specs.Kept.{event_of_line, kept_by, kept_of}
use Rattle.mx_app_step.specs.Lines.{line_made, run_made, steps_made}
use Rattle.mx_app_step.specs.Machine.{MachineState, world_of}
use Rattle.mx_boot.specs.declared.scripts.ScriptLine.{ScriptLine}
use Rattle.mx_boot.specs.declared.scripts.ScriptLine.TheVariants.{Step, Take, Back, Line, Tick, Kill, Respawn}
use Rattle.mx_machine.specs.declared.events.Event.{Event}
use Rattle.mx_machine.specs.declared.events.Event.TheVariants as events
use Rattle.mx_machine.specs.declared.events.Refusal.{Refusal}
use Rattle.mx_machine.specs.declared.history.Record.{Record}
use Rattle.mx_machine.specs.Held.{held_run}
use Rattle.mx_machine.specs.History.{BootAndHistory, events_of_history, world_after_events}
use Rattle.mx_machine.specs.Move.{event_refusal, move, move_by, moves}
use Rattle.mx_machine.specs.Steps.{steps_of}
use Rattle.mx_machine.specs.World.{HeldProcess, World, actors, held_by}
use Rattle.mx_print_answers.specs.declared.said.Said.{Said}
use Rattle.mx_print_answers.specs.declared.said.Said.TheVariants.{Refused}
use Rattle.mx_machine.specs.declared.events.Refusal.TheVariants.{NoProcess}
use Rattle.mx_turns.specs.Made.{HasMade}
use Rattle.mx_turns.specs.declared.outside.OutsideLine.{OutsideLine}
use Rattle.mx_turns.specs.Turns.{turns}
use Rattle.mx_machine.proofs.ActorLemmas.{actors_after_events}
use Rattle.mx_turns.proofs.MadeLemmas.{kept_boot, same_boot}
use Rattle.mx_turns.proofs.TurnLemmas.{cpus_stay}
use Rattle.mx_turns.specs.declared.faults.FaultLine.{FaultLine}
use Rattle.mx_turns.specs.declared.faulted_run.Course.{Course}
use Rattle.mx_turns.specs.Faults.{fault_kept, fault_made, faults_kept, faults_made, kept_now, line_now, made_now}
use Rattle.mx_turns.specs.Sweep.{coming, run_from, run_of}
use Rattle.mx_turns.specs.Swept.{HasRun}

-- ---- a fault's line changes no number of processors

by_move : (w : World) (a : ℕ) (x : Event) (q : Option Refusal) → length (move_by w a x q).1.cpus ≡ length w.cpus
by_move w a x None = cpus_stay w ((a, x) ∷ [])
by_move w a x (Some r) = refl

moved_cpus : (w : World) (a : ℕ) (x : Event) → length (move w a x).1.cpus ≡ length w.cpus
unfolding move
moved_cpus w a x = by_move w a x (event_refusal w a x)

ran_cpus : (w : World) (c k : ℕ) (o : Option HeldProcess) → length (run_made w c k o).1.cpus ≡ length w.cpus
ran_cpus w c k None = refl
ran_cpus w c k (Some l) = cpus_stay w (steps_of c (held_run k l.out).0.0)

stepped_cpus : (w : World) (c k : ℕ) → length (steps_made w c k).1.cpus ≡ length w.cpus
stepped_cpus w c zero = refl
stepped_cpus w c (suc k) = ran_cpus w c (suc k) (held_by w c)

line_cpus : (w : World) (other : ℕ) (l : ScriptLine) → length (line_made w other l).1.cpus ≡ length w.cpus
unfolding line_made
line_cpus w other (Step c k) = stepped_cpus w c k
line_cpus w other (Take c) = moved_cpus w c events.Take
line_cpus w other (Back c) = moved_cpus w c events.Back
line_cpus w other (Line l) = moved_cpus w other (events.Line l)
line_cpus w other Tick = moved_cpus w other events.Tick
line_cpus w other (Kill e) = moved_cpus w other (events.Kill e)
line_cpus w other (Respawn s) = moved_cpus w other (events.Respawn s)

pub now_cpus : (w u : World) (other : ℕ) (l : ScriptLine) (s : Said) → line_made w other l ≡ (s, u) → length u.cpus ≡ length w.cpus
now_cpus w u other l s h = sym (ap (λ (p : Said × World). length p.1.cpus) h) ∙ line_cpus w other l

-- ---- nor the boot

by_line : (k : BootAndHistory) (w : World) (x : Option (ℕ × Event)) → (kept_by k w x).boot ≡ k.boot
by_line k w None = refl
by_line k w (Some x) = same_boot k x.0 x.1 (move w x.0 x.1).0

now_boot : (k : BootAndHistory) (w : World) (other : ℕ) (o : Option ScriptLine) → (kept_now k w other o).boot ≡ k.boot
now_boot k w other None = refl
now_boot k w other (Some l) = by_line k w (event_of_line other l)

fault_boot : (k : BootAndHistory) (w : World) (other : ℕ) (l : FaultLine) → (fault_kept k w other l).boot ≡ k.boot
unfolding fault_kept
fault_boot k w other l = now_boot k w other (line_now w.table l)

faults_boot : (fault : List FaultLine) (k : BootAndHistory) (w : World) (other : ℕ) → (faults_kept k w other fault).boot ≡ k.boot
faults_boot [] k w other = refl
faults_boot (l ∷ ls) k w other = faults_boot ls (fault_kept k w other l) (fault_made w other l).1 other ∙ fault_boot k w other l

pub run_boot : (boot : World) (other : ℕ) (records : List Record) (n : ℕ) (fault : List FaultLine) (k : ℕ) → (run_of boot other records n fault k).kernel.boot ≡ boot
run_boot boot other records n fault k =
    let first : BootAndHistory = record { boot = boot; history = [] } in
    let xs = events_of_history (take k records) in
    let above = world_after_events boot xs in
    let kept = kept_of first boot xs in
    let faulted = faults_made above other fault in
    let made = (turns n faulted.1 (coming (drop k records))).made in
    kept_boot (faults_kept kept above other fault) made (moves faulted.1 made).0 ∙ faults_boot fault kept above other ∙ kept_boot first xs (moves boot xs).0

-- ---- a fault's lines, one more

module _ (other : ℕ) (fault : List FaultLine) (i : ℕ) (d : FaultLine) (b : i < length fault) where
  abbrev line : FaultLine
  line = get_or fault i d

  left : drop i fault ≡ line ∷ drop (i + 1) fault
  left = let next : suc i ≡ i + 1 = omega arith in drop-cons fault i d b ∙ ap (λ n. line ∷ drop n fault) next

  pub next_said : (t x y : List Said) (w u : World) (s : Said) → fault_made w other line ≡ (s, u) → y ≡ x ++ s ∷ [] → x ++ (faults_made w other (drop i fault)).0 ≡ t
      → y ++ (faults_made u other (drop (i + 1) fault)).0 ≡ t
  next_said t x y w u s h is before =
      ap (λ (z : List Said). z ++ (faults_made u other (drop (i + 1) fault)).0) is
      ∙ append_assoc x (s ∷ []) (faults_made u other (drop (i + 1) fault)).0
      ∙ sym (ap (λ (p : Said × World). x ++ (p.0 ∷ (faults_made p.1 other (drop (i + 1) fault)).0)) h)
      ∙ sym (ap (λ (ls : List FaultLine). x ++ (faults_made w other ls).0) left) ∙ before

  pub next_world : (v w u : World) (s : Said) → fault_made w other line ≡ (s, u) → (faults_made w other (drop i fault)).1 ≡ v → (faults_made u other (drop (i + 1) fault)).1 ≡ v
  next_world v w u s h before =
      sym (ap (λ (p : Said × World). (faults_made p.1 other (drop (i + 1) fault)).1) h) ∙ sym (ap (λ (ls : List FaultLine). (faults_made w other ls).1) left) ∙ before

  pub next_kept : (z k m : BootAndHistory) (w u : World) (s : Said) → fault_made w other line ≡ (s, u) → m ≡ fault_kept k w other line → faults_kept k w other (drop i fault) ≡ z
      → faults_kept m u other (drop (i + 1) fault) ≡ z
  next_kept z k m w u s h is before =
      ap (λ (x : BootAndHistory). faults_kept x u other (drop (i + 1) fault)) is
      ∙ sym (ap (λ (p : Said × World). faults_kept (fault_kept k w other line) p.1 other (drop (i + 1) fault)) h)
      ∙ sym (ap (λ (ls : List FaultLine). faults_kept k w other ls) left) ∙ before

-- ---- the processors at the position

-- an actor that is no processor stays
pub alone_still : (boot w v : World) (xs : List (ℕ × Event)) → w ≡ boot → v ≡ world_after_events w xs → length boot.cpus < actors boot → length v.cpus < actors v
alone_still boot w v xs booted is h =
    let all : actors v ≡ actors boot = ap actors is ∙ actors_after_events w xs ∙ ap actors booted in
    let own : length v.cpus ≡ length boot.cpus = ap (λ (z : World). length z.cpus) is ∙ cpus_stay w xs ∙ ap (λ (z : World). length z.cpus) booted in
    subst (λ n. n < actors v) (sym own) (subst (λ n. length boot.cpus < n) (sym all) h)

-- ---- a run, from its parts

-- from a machine on: the fault's lines, and then turns
pub run_done : (n known : ℕ) (other : ℕ) (rest : List OutsideLine) (fault : List FaultLine) (m0 m1 m2 : MachineState) (evs : List OutsideLine) (course : Course)
    → n ≡ known → evs ≡ rest → course.said.items ≡ (faults_made (world_of m0) other fault).0 → world_of m1 ≡ (faults_made (world_of m0) other fault).1
    → m1.kernel ≡ faults_kept m0.kernel (world_of m0) other fault
    → HasMade m1 (turns n (world_of m1) evs).made m2 → course.ending ≡ (turns n (world_of m1) evs).ending
    → HasRun (run_from m0.kernel (world_of m0) other rest known fault) m2 course
run_done n known other rest fault m0 m1 m2 evs done bound come said world kernel made ends =
    let v = (faults_made (world_of m0) other fault).1 in
    let kept = faults_kept m0.kernel (world_of m0) other fault in
    let course : turns n (world_of m1) evs ≡ turns known v rest =
    ap (λ b. turns b (world_of m1) evs) bound ∙ ap (λ (u : World). turns known u evs) world ∙ ap (λ (es : List OutsideLine). turns known v es) come in
    record {
      said = said;
      ending = ends ∙ ap (λ c. c.ending) course;
      world = made.world ∙ ap (λ (u : World). world_after_events u (turns n (world_of m1) evs).made) world ∙ ap (λ c. world_after_events v c.made) course;
      kernel = made.kernel ∙ ap (λ (x : BootAndHistory). kept_of x (world_of m1) (turns n (world_of m1) evs).made) kernel
          ∙ ap (λ (u : World). kept_of kept u (turns n (world_of m1) evs).made) world
          ∙ ap (λ c. kept_of kept v c.made) course;
    }

-- the same run, by another kernel and world, and other events
pub run_same : (k l : BootAndHistory) (w v : World) (other : ℕ) (rest below : List OutsideLine) (n : ℕ) (fault : List FaultLine) → k ≡ l → w ≡ v → rest ≡ below → run_from k w other rest n fault ≡ run_from l v other below n fault
run_same k l w v other rest below n fault kernel world left =
    ap (λ (x : BootAndHistory). run_from x w other rest n fault) kernel ∙ ap (λ (u : World). run_from l u other rest n fault) world ∙ ap (λ (es : List OutsideLine). run_from l v other es n fault) left

-- ---- a fault's line, by the script's line that it is

pub fault_some : (w : World) (other : ℕ) (l : FaultLine) (line : ScriptLine) → line_now w.table l ≡ Some line → fault_made w other l ≡ line_made w other line
unfolding fault_made
fault_some w other l is e = ap (made_now w other) e

pub fault_none : (w : World) (other : ℕ) (l : FaultLine) → line_now w.table l ≡ None → fault_made w other l ≡ (Refused NoProcess, w)
unfolding fault_made
fault_none w other l e = ap (made_now w other) e

pub kept_some : (k : BootAndHistory) (w : World) (other : ℕ) (l : FaultLine) (line : ScriptLine) → line_now w.table l ≡ Some line → fault_kept k w other l ≡ kept_by k w (event_of_line other line)
unfolding fault_kept
kept_some k w other l is e = ap (kept_now k w other) e

pub kept_none : (k : BootAndHistory) (w : World) (other : ℕ) (l : FaultLine) → line_now w.table l ≡ None → fault_kept k w other l ≡ k
unfolding fault_kept
kept_none k w other l e = ap (kept_now k w other) e
