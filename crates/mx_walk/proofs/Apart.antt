-- A process that one processor alone has, and its steps in a world.
use Rattle.std.proofs.Common.{◌≡◌, ◌≢◌, ◌∙◌, ◌<◌, ◌≤◌, ℕ, zero, suc, Bool, true, List, [], ◌∷◌, length, map, get_or, get_or-set_same, get_or-set_other, Option, Some, None, refl, ap, sym, subst, inl, inr, arith}
use Rattle.std.specs.Option.{option_map}
use Rattle.std.proofs.lemmas.Bool.Decides.{eqb_tells}
use Rattle.mx_machine.specs.declared.events.Event.{Event}
use Rattle.mx_machine.specs.declared.events.Event.TheVariants.{Step}
use Rattle.mx_machine.specs.declared.holding.Out.{Out}
use Rattle.mx_machine.specs.Held.{out_after_step}
use Rattle.mx_machine.specs.History.{replay, world_after_events}
use Rattle.mx_machine.specs.Machine.{IsMachineState, MachineState, all_held_now, world_of}
use Rattle.mx_machine.specs.Move.{with_held, world_after_event, world_after_step}
use Rattle.mx_machine.specs.Sound.{IsSound, lease_at, lease_of}
use Rattle.mx_machine.specs.World.{HeldProcess, World, held_by}
use Rattle.mx_walk.specs.Positions.{steps_of}
use Rattle.mx_walk.specs.Running.{IsAlone, NoneMarkedOf, is_marked_after, with_out}
use Rattle.mx_walk.specs.Seeking.{NoneMarked, is_marked}

-- ---- lists

there_is : {X : Type 0} (xs : List (Option X)) (a : ℕ) (x : X) → get_or xs a None ≡ Some x → a < length xs
there_is [] a x e = absurd cc
there_is (y ∷ ys) zero x e = omega arith
there_is (y ∷ ys) (suc a) x e = let h = there_is ys a x e in omega (arith, h)

lease_there : (xs : List (Option HeldProcess)) (a : ℕ) (l : HeldProcess) → get_or xs a None ≡ Some l → lease_at (map lease_of xs) a ≡ lease_of (Some l)
lease_there [] a l e = absurd cc
lease_there (x ∷ xs) zero l e = ap lease_of e
lease_there (x ∷ xs) (suc a) l e = lease_there xs a l e

as_long : (ls : List (Option HeldProcess)) (os : List (Option Out)) → length (all_held_now ls os) ≡ length ls
as_long [] os = refl
as_long (l ∷ ls) [] = refl
as_long (l ∷ ls) (o ∷ os) = ap suc (as_long ls os)

-- ---- in a sound world each process is had by one processor alone

pub few_processors : (m : MachineState) → IsMachineState m → length (world_of m).cpus ≤ 8
unfolding world_of
few_processors m h = let a = as_long (replay m.kernel).cpus m.outs in let b = h.few in omega (arith, a, b)

pub is_alone : (w : World) (a : ℕ) (l : HeldProcess) → IsSound w → length w.cpus ≤ 8 → held_by w a ≡ Some l → IsAlone w a l
is_alone w a l sound few held = record {
  held = held;
  few = let h = there_is w.cpus a l held in omega (arith, h, few);
  alone = λ c m there same.
      sound.holds.apart c a (record { slot = m.slot; budget = m.out.budget }) (record { slot = l.slot; budget = l.out.budget }) (lease_there w.cpus c m there) (lease_there w.cpus a l held) same;
}

-- which slot's process a processor holds
pub slot_is : (found : Option ℕ) (x : Option HeldProcess) (slot : ℕ) (l : HeldProcess) → found ≡ Some slot → found ≡ option_map (λ (m : HeldProcess). m.slot) x → x ≡ Some l → slot ≡ l.slot
slot_is found x slot l is told held = let s : Some slot ≡ Some l.slot = sym is ∙ told ∙ ap (option_map (λ (m : HeldProcess). m.slot)) held in cc

pub none_held_by : (found : Option ℕ) (x : Option HeldProcess) → found ≡ None → found ≡ option_map (λ (m : HeldProcess). m.slot) x → x ≡ None
none_held_by found None is told = refl
none_held_by found (Some m) is told = let no : None ≡ Some m.slot = sym is ∙ told in absurd cc

pub held_as : (w : World) (a c : ℕ) (x : Option HeldProcess) → c ≢ a → held_by (with_held w a x) c ≡ held_by w c
held_as w a c x other = get_or-set_other w.cpus a c x None other

module _ (w : World) (a : ℕ) (l : HeldProcess) (o : Out) (h : IsAlone w a l) where
  abbrev after : World
  after = with_held w a (Some (with_out l o))

  pub held_after : held_by after a ≡ Some (with_out l o)
  held_after = get_or-set_same w.cpus a (Some (with_out l o)) None (there_is w.cpus a l h.held)

  -- and has it alone after a step too
  pub still_alone : IsAlone after a (with_out l o)
  still_alone = record {
    held = held_after;
    few = h.few;
    alone = λ c m there same. elim (eqb_tells c a) [
      | inl it ↦ it.1
      | inr it ↦ h.alone c m (sym (held_as w a c (Some (with_out l o)) it.1) ∙ there) same
    ];
  }

-- ---- its steps, marked or not

step_is : (w : World) (a : ℕ) (l : HeldProcess) → held_by w a ≡ Some l → world_after_event w a Step ≡ with_held w a (Some (with_out l (out_after_step l.out)))
unfolding world_after_event
step_is w a l e = ap (world_after_step w a) e

module _ (g : World → ℕ × Event → World → Bool) (f : HeldProcess → Out → Bool)
    (law : (w : World) (a : ℕ) (l : HeldProcess) (o : Out) → IsAlone w a l → g w (a, Step) (with_held w a (Some (with_out l o))) ≡ f l o) where
  marked_as : (w : World) (a : ℕ) (l : HeldProcess) → IsAlone w a l → is_marked g w (a, Step) ≡ f l (out_after_step l.out)
  marked_as w a l h = ap (λ (u : World). g w (a, Step) u) (step_is w a l h.held) ∙ law w a l (out_after_step l.out) h

  on : (w : World) (a : ℕ) (l : HeldProcess) → IsAlone w a l → IsAlone (world_after_event w a Step) a (with_out l (out_after_step l.out))
  on w a l h = subst (λ (u : World). IsAlone u a (with_out l (out_after_step l.out))) (sym (step_is w a l h.held)) (still_alone w a l (out_after_step l.out) h)

  pub none_marked : (n : ℕ) (w : World) (a : ℕ) (l : HeldProcess) → IsAlone w a l → NoneMarkedOf f l n → NoneMarked g w (steps_of a n)
  none_marked zero w a l h none = tt
  none_marked (suc n) w a l h none = (
    marked_as w a l h ∙ none 0 (omega arith),
    none_marked n (world_after_event w a Step) a (with_out l (out_after_step l.out)) (on w a l h) (λ j lt. none (suc j) (omega (arith, lt))),
  )

  pub marked_then : (n : ℕ) (w : World) (a : ℕ) (l : HeldProcess) → IsAlone w a l → is_marked_after f l n ≡ true → is_marked g (world_after_events w (steps_of a n)) (a, Step) ≡ true
  marked_then zero w a l h marked = marked_as w a l h ∙ marked
  marked_then (suc n) w a l h marked = marked_then n (world_after_event w a Step) a (with_out l (out_after_step l.out)) (on w a l h) marked
