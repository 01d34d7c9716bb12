use Rattle.std.proofs.lemmas.Result.{on_ok_weaker}
use Rattle.mx_app_db.proofs.Made.{performed}
use Rattle.mx_app_db.proofs.debug_lines.DebugPerformerPerforms.perform.Goals as goal

pub returns-clause-done : goal.returns-clause-done
returns-clause-done c =
    on_ok_weaker c.perform_debug_line.result
    (performed c.args.other c.args.machine.now c.perform_debug_line.new.machine _ _ c.args.line.now c.perform_debug_line.ensures.kept)
    c.perform_debug_line.ensures.made
