-- Steps of a process that are looked for (our own).
use Rattle.std.specs.Prelude.{◌≡◌, ◌<◌, ◌≤◌, ℕ, zero, suc, Bool, true, false, Some, if◌then◌else◌}
use Rattle.mx_machine.specs.declared.holding.Out.{Out}
use Rattle.mx_machine.specs.Held.{held_run, out_after_step}
use Rattle.mx_machine.specs.Move.{at_stop}
use Rattle.mx_machine.specs.World.{World, HeldProcess, held_by}

-- A PROCESSOR HAS A PROCESS ALONE: it holds it, and no other processor holds one of its slot
pub record IsAlone (w : World) (a : ℕ) (l : HeldProcess) : Type 0 where
  pub held : held_by w a ≡ Some l
  pub few : a < 8
  pub alone : (c : ℕ) (m : HeldProcess) → held_by w c ≡ Some m → m.slot ≡ l.slot → c ≡ a

-- what a processor holds when its process has come to this
abbrev pub with_out : HeldProcess → Out → HeldProcess
with_out l o = record l { out = o }

-- a process after n steps
abbrev pub out_after_steps : ℕ → Out → Out
out_after_steps zero o = o
out_after_steps (suc n) o = out_after_steps n (out_after_step o)

-- whether the step after n steps of a process is marked
abbrev pub is_marked_after : (HeldProcess → Out → Bool) → HeldProcess → ℕ → Bool
is_marked_after f l n = f (with_out l (out_after_steps n l.out)) (out_after_steps (suc n) l.out)

-- none of the first n steps of a process is
abbrev pub NoneMarkedOf : (HeldProcess → Out → Bool) → HeldProcess → ℕ → Type 0
NoneMarkedOf f l n = (j : ℕ) → j < n → is_marked_after f l j ≡ false

-- none of the first n steps of a process is, and who has looked at it before them has so before the next
abbrev pub AreUnmarked : (HeldProcess → Out → Bool) → (HeldProcess → Type 0) → HeldProcess → ℕ → Type 0
AreUnmarked f HasSeen l n =
    NoneMarkedOf f l n × ((j : ℕ) → j ≤ n → HasSeen l → HasSeen (with_out l (out_after_steps j l.out)))

-- HOW MANY STEPS A SEARCH ASKS FOR: those up to the first that is marked, but at most k
abbrev pub steps_to_mark : (HeldProcess → Out → Bool) → ℕ → HeldProcess → ℕ
steps_to_mark f zero l = 0
steps_to_mark f (suc k) l =
    if f l (out_after_step l.out) then 1 else suc (steps_to_mark f k (with_out l (out_after_step l.out)))

-- A process was run up to a step that is marked, the last of these; or no step is marked, and at most k could be made
pub record HasRun (f : HeldProcess → Out → Bool) (k : ℕ) (l : HeldProcess) (made : ℕ) (met : Bool) : Type 0 where
  pub ran : made ≡ (held_run (steps_to_mark f k l) l.out).0.0
  pub few : made ≤ k
  pub passed : met ≡ false → NoneMarkedOf f l made
  pub halted : met ≡ false → made < k → at_stop (held_run (steps_to_mark f k l) l.out).1 ≡ true
  pub found : met ≡ true → (n : ℕ) × (made ≡ suc n) × NoneMarkedOf f l n × (is_marked_after f l n ≡ true)
