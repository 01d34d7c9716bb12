-- The world of a machine is sound.
use Rattle.std.proofs.Common.{◌≡◌, ◌∙◌, ℕ, suc, List, [], ◌∷◌, map, Option, Some, None, get_or, slice_get, refl, sym, ap, subst}
use Rattle.mx_machine.specs.declared.holding.Lease.{Lease}
use Rattle.mx_machine.specs.declared.holding.Out.{Out}
use Rattle.mx_machine.specs.History.{replay}
use Rattle.mx_machine.specs.Sound.{IsConsistent, IsSound, lease_of}
use Rattle.mx_machine.specs.World.{HeldProcess, held_by}
use Rattle.mx_machine.proofs.LentLemmas.{back_lasts, run_budget}
use Rattle.mx_machine.specs.Machine.{IsHeld, IsRunOf, IsMachineState, MachineState, held_now, all_held_now, world_of}
use Rattle.mx_machine.proofs.MachineLemmas.{held_now-at}

-- ---- leases

lease_now : (l : Option HeldProcess) (o : Option Out) → IsHeld l o → lease_of (held_now l o) ≡ lease_of l
lease_now None None h = refl
lease_now None (Some o) h = absurd h
lease_now (Some l) None h = absurd h
lease_now (Some l) (Some o) h = ap (λ (n : ℕ). let x : Option Lease = Some (record { slot = l.slot; budget = n }) in x) (run_budget l.out o h)

leases_now : (ls : List (Option HeldProcess)) (os : List (Option Out)) → ((a : ℕ) → IsHeld (get_or ls a None) (get_or os a None)) → map lease_of (all_held_now ls os) ≡ map lease_of ls
leases_now [] os h = refl
leases_now (l ∷ ls) [] h = refl
leases_now (l ∷ ls) (o ∷ os) h = ap (λ x. x ∷ map lease_of (all_held_now ls os)) (lease_now l o (h 0)) ∙ ap (λ xs. lease_of l ∷ xs) (leases_now ls os (λ a. h (suc a)))

-- ---- what a processor holds

-- What a processor holds now is a run of what it was lent.
record IsOf (lent : Option HeldProcess) (l : HeldProcess) : Type 0 where
  was : HeldProcess
  is : lent ≡ Some was
  slot : l.slot ≡ was.slot
  runs : IsRunOf was.out l.out

is_of : (lent : Option HeldProcess) (o : Option Out) (l : HeldProcess) → IsHeld lent o → held_now lent o ≡ Some l → IsOf lent l
is_of None None l h e = cc
is_of None (Some o) l h e = absurd h
is_of (Some x) None l h e = absurd h
is_of (Some x) (Some o) l h e =
    let same : (let y : HeldProcess = record x { out = o } in y) ≡ l = cc in
    record {
      was = x;
      is = refl;
      slot = ap (λ (y : HeldProcess). y.slot) (sym same);
      runs = subst (λ (y : HeldProcess). IsRunOf x.out y.out) same h;
    }

-- ---- the machine

pub is-sound : (m : MachineState) → IsMachineState m → IsSound (replay m.kernel) → IsSound (world_of m)
unfolding world_of
is-sound m h s =
    let w = replay m.kernel in
    let of : (a : ℕ) (l : HeldProcess) → get_or (all_held_now w.cpus m.outs) a None ≡ Some l → IsOf (held_by w a) l =
    λ a l e. is_of (held_by w a) (get_or m.outs a None) l (h.each a) (sym (held_now-at w.cpus m.outs a) ∙ e) in
    record {
      table = s.table;
      holds = subst (λ (x : List (Option Lease)). IsConsistent w.table x w.services w.records w.capacity) (sym (leases_now w.cpus m.outs h.each)) s.holds;
      counts = λ a l e. (of a l e).runs.within;
      loaded = λ a l v e g. let i = of a l e in back_lasts i.was.out l.out i.runs.back ∙ s.loaded a i.was v i.is (ap (λ n. slice_get w.services n) (sym i.slot) ∙ g);
    }
