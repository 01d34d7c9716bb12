-- The answer to a run up to a breakpoint (our own).
use Rattle.std.specs.Prelude.{ℕ, suc, List, ◌++◌, codes, Result, Ok, Err}
use Rattle.std.specs.Fmt.{decimal}
use Rattle.mx_machine.specs.Stop.{Stop}
use Rattle.mx_machine.specs.Stop.TheVariants as stop
use Rattle.mx_insn_words.specs.Numbers.{eight_digits}
use Rattle.mx_machine.specs.declared.events.Refusal.{Refusal}
use Rattle.mx_debug.specs.declared.halt.HaltCause.{HaltCause}
use Rattle.mx_debug.specs.declared.halt.HaltCause.TheVariants.{Breakpoint, Trap, Fault}
use Rattle.mx_debug.specs.declared.halt.Halt.{Halt}
use Rattle.mx_print_answers.specs.declared.said.Said.TheVariants.{Stepped}
use Rattle.mx_print_answers.specs.Said.{said_line, refusal_line}

-- how the steps ended of a process that halts at no breakpoint; if none is made, nothing ended them
abbrev pub stop_of_halt : ℕ → HaltCause → Stop
stop_of_halt (suc count) Trap = stop.Trap
stop_of_halt (suc count) (Fault vector) = stop.Fault vector
stop_of_halt count cause = stop.Spent

-- if it halts at a breakpoint, the address and the steps; else the line of a number of steps
abbrev pub halt_line : ℕ → HaltCause → ℕ → List ℕ
halt_line count Breakpoint eip = codes "stopped at " ++ eight_digits eip ++ codes " after " ++ decimal count
halt_line count cause eip = said_line (Stepped count (stop_of_halt count cause))

-- a run that ends at an address, or is refused
abbrev pub run_line : Result Halt Refusal → ℕ → List ℕ
run_line (Ok halt) eip = halt_line halt.count halt.cause eip ++ codes "\n"
run_line (Err refusal) eip = refusal_line refusal ++ codes "\n"
