-- Why a debugger's line is refused, and the answer to a breakpoint's line (our own).
use Rattle.std.specs.Prelude.{ℕ, List, ◌++◌, codes, Result, Ok, Err}
use Rattle.mx_debug.specs.Errors.{error_code, error_name}
use Rattle.mx_print_answers.specs.Said.{number_and_name, refusal_line}
use Rattle.mx_print_answers.specs.declared.refused.Refused.{Refused as Kind}
use Rattle.mx_print_answers.specs.declared.refused.Refused.TheVariants.{ByMachine, ByDebugger}

-- its line, without its end
abbrev pub refused_line : Kind → List ℕ
refused_line (ByMachine r) = refusal_line r
refused_line (ByDebugger e) = number_and_name (error_code e) (error_name e)

-- the answer to a line that sets or removes a breakpoint
abbrev pub done_line : Result (Unit {0}) Kind → List ℕ
done_line (Ok done) = codes "done\n"
done_line (Err r) = refused_line r ++ codes "\n"
