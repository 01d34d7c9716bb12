-- What a debugger's line does and prints where it drives a machine (our own).
use Rattle.std.specs.Prelude.{ℕ, List}
use Rattle.mx_app_step.specs.Driving.{Driven}
use Rattle.mx_app_db.specs.DebugLines.{DebuggedWorld, debug_line_kept, debug_line_made}
use Rattle.mx_app_db.specs.LineTexts.{debug_line_text}
use Rattle.mx_app_db.specs.declared.debug_lines.DebugPerformer.{DebugPerformer}
use Rattle.mx_app_db.specs.declared.script.DebugLine.{DebugLine}

-- its world and its breakpoints
abbrev pub debugged : Driven DebugPerformer → DebuggedWorld
debugged d = record { world = d.world; points = d.own.debugger }

abbrev pub debug_does : ℕ → Driven DebugPerformer → DebugLine → Driven DebugPerformer
debug_does other d l =
    let e = debug_line_made other (debugged d) l in
    record { world = e.world; kernel = debug_line_kept d.kernel d.world other l; own = record { debugger = e.points } }

abbrev pub debug_prints : ℕ → Driven DebugPerformer → DebugLine → List ℕ
debug_prints other d l = debug_line_text other (debugged d) l
