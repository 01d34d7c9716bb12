-- What a script's line does and prints where it drives a machine (our own).
use Rattle.std.specs.Prelude.{ℕ, List, ◌++◌, codes}
use Rattle.mx_boot.specs.declared.scripts.ScriptLine.{ScriptLine}
use Rattle.mx_print_answers.specs.Said.{said_line}
use Rattle.mx_app_step.specs.Driving.{Driven}
use Rattle.mx_app_step.specs.Kept.{event_of_line, kept_by}
use Rattle.mx_app_step.specs.Lines.{line_made}

abbrev pub script_does : {P : Type 0} → ℕ → Driven P → ScriptLine → Driven P
script_does other d l =
    record d { world = (line_made d.world other l).1; kernel = kept_by d.kernel d.world (event_of_line other l) }

abbrev pub script_prints : {P : Type 0} → ℕ → Driven P → ScriptLine → List ℕ
script_prints other d l = said_line (line_made d.world other l).0 ++ codes "\n"
