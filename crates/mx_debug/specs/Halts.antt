-- How a process halts that runs under breakpoints (our own).
use Rattle.std.specs.Prelude.{◌≡◌, ℕ, zero, suc, ◌+◌, Bool, true, false, ◌&&◌, ◌||◌, nat_lt, nat_le, if◌then◌else◌, List}
use Rattle.mx_image.specs.declared.runs.Stop.{Stop}
use Rattle.mx_image.specs.declared.runs.Stop.TheVariants as stop
use Rattle.mx_machine.specs.declared.holding.Out.{Out}
use Rattle.mx_machine.specs.Held.{held_run}
use Rattle.mx_debug.specs.declared.points.Breakpoint.{Breakpoint}
use Rattle.mx_debug.specs.declared.halt.HaltCause.{HaltCause}
use Rattle.mx_debug.specs.declared.halt.HaltCause.TheVariants as cause
use Rattle.mx_debug.specs.declared.halt.NextPlace.{NextPlace}
use Rattle.mx_debug.specs.declared.halt.NextPlace.TheVariants as place
use Rattle.mx_debug.specs.declared.halt.Halt.{Halt}
use Rattle.mx_debug.specs.Points.{has_breakpoint}

-- what is held after n steps
abbrev pub held_after : ℕ → Out → Out
held_after n o = (held_run n o).1

abbrev pub has_stopped : Stop → Bool
has_stopped stop.Spent = false
has_stopped stop.Trap = true
has_stopped (stop.Fault v) = true

-- no further step can be made: a trap, a fault, a spent budget
abbrev pub is_over : Out → Bool
is_over o = has_stopped o.stop || nat_le o.budget o.count

-- after one step or more, EIP is at a breakpoint
abbrev pub is_reached : List Breakpoint → ℕ → ℕ → Out → Bool
is_reached points slot n o = nat_lt 0 n && has_breakpoint points slot o.image.eip

abbrev pub is_end : List Breakpoint → ℕ → Out → ℕ → Bool
is_end points slot o n = is_over (held_after n o) || is_reached points slot n (held_after n o)

-- of so many numbers from n on the first that passes the test, else the number after them
abbrev pub least_from : (ℕ → Bool) → ℕ → ℕ → ℕ
least_from test n zero = n
least_from test n (suc more) = if test n then n else least_from test (n + 1) more

-- k, or the least number of steps before it that is an end
unfoldable pub steps_to_halt : List Breakpoint → ℕ → ℕ → Out → ℕ
steps_to_halt points slot k o = least_from (is_end points slot o) 0 k

abbrev pub is_breakpoint : NextPlace → Bool
is_breakpoint place.Breakpoint = true
is_breakpoint place.Elsewhere = false

-- a trap or a fault is reported before a breakpoint, a breakpoint before a spent budget
abbrev pub cause_of : Stop → Bool → HaltCause
cause_of stop.Trap reached = cause.Trap
cause_of (stop.Fault v) reached = cause.Fault v
cause_of stop.Spent true = cause.Breakpoint
cause_of stop.Spent false = cause.Spent

abbrev pub is_spent : HaltCause → Bool
is_spent cause.Spent = true
is_spent _ = false

-- how a run of at most k steps of what is lent ends, and what it leaves
pub record Halts (points : List Breakpoint) (slot k : ℕ) (lent : Out) (h : Halt) (left : Out) : Type 0 where
  pub count : h.count ≡ steps_to_halt points slot k lent
  -- all of these steps were made
  pub made : (held_run h.count lent).0.0 ≡ h.count
  pub is_left : held_after h.count lent ≡ left
  pub told : h.cause ≡ cause_of left.stop (is_reached points slot h.count left)
