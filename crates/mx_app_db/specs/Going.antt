-- Steps up to a breakpoint, on a processor (our own).
use Rattle.std.specs.Prelude.{◌≡◌, ◌≢◌, ℕ, List, None, Some}
use Rattle.mx_machine.specs.declared.events.Refusal.{Refusal}
use Rattle.mx_machine.specs.declared.events.Refusal.TheVariants.{AtStop, CpuEmpty}
use Rattle.mx_machine.specs.World.{World, HeldProcess, held_by}
use Rattle.mx_app_step.specs.Machine.{HasWorked}
use Rattle.mx_print_answers.specs.Halt.{Halt}
use Rattle.mx_print_answers.specs.Breakpoint.{Breakpoint}
use Rattle.mx_print_answers.specs.Halts.{Halts, held_after, steps_to_halt}

-- Processor a's process ran until the debugger halted it. If k isn't 0, it made at least one step.
pub record HasGone (w u : World) (points : List Breakpoint) (a k : ℕ) (h : Halt) : Type 0 where
  pub lent : HeldProcess
  pub worked : HasWorked w u a h.count lent
  pub halts : Halts points lent.slot k lent.out h (held_after h.count lent.out)
  pub some : k ≢ 0 → h.count ≢ 0

-- processor a holds nothing; or k isn't 0, and its process can make no step
abbrev pub IsStuck : World → List Breakpoint → ℕ → ℕ → Refusal → Type 0
IsStuck w points a k CpuEmpty = held_by w a ≡ None
IsStuck w points a k AtStop =
    (l : HeldProcess) × (held_by w a ≡ Some l) × (k ≢ 0) × (steps_to_halt points l.slot k l.out ≡ 0)
IsStuck w points a k _ = ⊥
