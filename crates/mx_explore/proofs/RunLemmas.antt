-- What all runs of schedules keep.
use Rattle.std.proofs.Common.{◌≡◌, ◌∙◌, ◌<◌, ℕ, zero, suc, Bool, true, false, List, [], ◌∷◌, length, cond, Option, Some, None, refl, ap, sym, subst}
use Rattle.mx_machine.specs.History.{BootAndHistory}
use Rattle.mx_machine.specs.Machine.{MachineState, world_of}
use Rattle.mx_machine.specs.Move.{moves}
use Rattle.mx_machine.specs.World.{World, actors}
use Rattle.mx_turns.specs.Made.{HasOffered}
use Rattle.mx_turns.specs.Turns.{Offered, is_over, offered}
use Rattle.mx_turns.specs.declared.outside.OutsideLine.{OutsideLine}
use Rattle.mx_turns.specs.declared.turns.Ending.{Ending}
use Rattle.mx_turns.specs.declared.turns.Ending.TheVariants.{Rest, Full}
use Rattle.mx_turns.proofs.MadeLemmas.{kept_boot}
use Rattle.mx_turns.proofs.TurnLemmas.{cpus_stay}
use Rattle.mx_explore.specs.declared.offers.Offer.{Offer}
use Rattle.mx_explore.specs.declared.passing.Departure.{Departure}
use Rattle.mx_explore.specs.declared.passing.Met.{Met}
use Rattle.mx_explore.specs.declared.passing.Ran.{Ran}
use Rattle.mx_explore.specs.Passages.{HasRoom, IsRun, passage}
use Rattle.mx_explore.specs.declared.passing.TurnStart.{TurnStart}
use Rattle.mx_explore.specs.Passing.{Passage, Place, Setting, Standing, at_place, events_of, from_boot, made, meets_if, met_in, noted, open_at, passed_turn, passed_turns, passes, places, run_of_schedule, turn_start}
use Rattle.mx_explore.proofs.PassageLemmas.{At, stood}

-- ---- the boot

made_boot : (other : ℕ) (p : Passage) (x : Offer) → (made other p x).kernel.boot ≡ p.kernel.boot
made_boot other p x = let xs = (offered p.world (events_of other x)).made in kept_boot p.kernel xs (moves p.world xs).0

met_boot : (start : TurnStart) (p : Passage) (o : Option Offer) → (meets_if start p o).kernel.boot ≡ p.kernel.boot
met_boot start p None = refl
met_boot start p (Some x) = by (passes p.standing x)
  where
    by : (b : Bool) → (let q = stood p (noted p.standing (met_in p.world start.records x)) in (cond b q (made start.other q x)).kernel.boot ≡ p.kernel.boot)
    by true = refl
    by false = made_boot start.other (stood p (noted p.standing (met_in p.world start.records x))) x

at_boot : (start : TurnStart) (p : Passage) (xs : List Place) → (At start p xs).kernel.boot ≡ p.kernel.boot
at_boot start p [] = refl
at_boot start p (x ∷ xs) = at_boot start (at_place start p x) xs ∙ met_boot start p (open_at start p x)

turns_boot : (k : ℕ) (p : Passage) → (passed_turns k p).0.kernel.boot ≡ p.kernel.boot
turns_boot zero p = refl
turns_boot (suc k) p = by (is_over p.world p.coming) (passed_turn p).full (turns_boot k (passed_turn p))
  where
    turned : (passed_turn p).kernel.boot ≡ p.kernel.boot
    turned = at_boot (turn_start p) p (places (length p.world.cpus) (length p.world.services))

    by : (over full : Bool) → (passed_turns k (passed_turn p)).0.kernel.boot ≡ (passed_turn p).kernel.boot → (cond over (let z : Passage × Ending = (p, Rest) in z) (let q = passed_turn p in cond full (let z : Passage × Ending = (q, Full) in z) (passed_turns k q))).0.kernel.boot ≡ p.kernel.boot
    by true full rest = refl
    by false true rest = turned
    by false false rest = rest ∙ turned

-- a run's kernel was booted so
pub run_boot : (t : Setting) (ds : List Departure) → (run_of_schedule t ds).0.kernel.boot ≡ t.boot
unfolding run_of_schedule
run_boot t ds = turns_boot t.turns (from_boot t ds)

-- ---- processors and actors

-- no event changes how many processors there are
pub cpus_kept : (m n : MachineState) (o : Offered) (full : Bool) → HasOffered m o full n → length (world_of n).cpus ≡ length (world_of m).cpus
cpus_kept m n o full h = ap (λ (w : World). length w.cpus) h.made.world ∙ cpus_stay (world_of m) o.made

-- an actor that is no processor stays
pub room_stays : (m n : MachineState) → length (world_of n).cpus ≡ length (world_of m).cpus → actors (world_of n) ≡ actors (world_of m) → HasRoom m → HasRoom n
room_stays m n cpus they room = subst (λ k. k < actors (world_of n)) (sym cpus) (subst (λ k. length (world_of m).cpus < k) (sym they) room)

-- ---- a run

-- it begins at the boot
pub starts_so : (n : ℕ) (coming : List OutsideLine) (ds : List Departure) (m : MachineState) (met : List Met) → m.kernel ≡ record { boot = world_of m; history = [] } → met ≡ []
    → passage m coming (record { ahead = ds; waits = 0; met = met; after = 0; kept = true }) false ≡ from_boot (record { turns = n; boot = world_of m; coming = coming }) ds
starts_so n coming ds m met kernel none =
    ap (λ (k : BootAndHistory). let p : Passage = record { kernel = k; world = world_of m; coming = coming; standing = record { ahead = ds; waits = 0; met = met; after = 0; kept = true }; full = false } in p) kernel
    ∙ ap (λ (l : List Met). let p : Passage = record {
      kernel = record { boot = world_of m; history = [] };
      world = world_of m;
      coming = coming;
      standing = record { ahead = ds; waits = 0; met = l; after = 0; kept = true };
      full = false;
    } in p) none

pub ran_by : (t : Setting) (ds : List Departure) (r : Ran) (coming : List OutsideLine) (s : Standing) (full : Bool) (start : Passage) → start ≡ from_boot t ds
    → (passage r.machine coming s full, r.ending) ≡ passed_turns t.turns start → r.met.items ≡ s.met → r.after ≡ s.after → IsRun t ds r
unfolding run_of_schedule
ran_by t ds r coming s full start begins ran met after =
    let e : (passage r.machine coming s full, r.ending) ≡ passed_turns t.turns (from_boot t ds) = ran ∙ ap (passed_turns t.turns) begins in
    record {
      kernel = ap (λ (x : Passage × Ending). x.0.kernel) e;
      world = ap (λ (x : Passage × Ending). x.0.world) e;
      ending = ap (λ (x : Passage × Ending). x.1) e;
      met = met ∙ ap (λ (x : Passage × Ending). x.0.standing.met) e;
      after = after ∙ ap (λ (x : Passage × Ending). x.0.standing.after) e;
    }
