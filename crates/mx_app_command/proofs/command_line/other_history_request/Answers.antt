use Rattle.std.proofs.Common.{◌∙◌, sym}
use Rattle.clap.specs.Words.{found_of, rows_of}
use Rattle.mx_app_command.proofs.Asked.{gdb_left, reading_left, sweep_left}
use Rattle.mx_app_command.proofs.command_line.other_history_request.Goals as goal

pub sweep_request-requires-clause-asked : goal.sweep_request-requires-clause-asked
sweep_request-requires-clause-asked c =
    sweep_left c.args.name.now (rows_of (found_of c.args.matches.now)) (sym c.eq-else-eq.ensures ∙ c.if-eq-2.true) c.requires.asked

pub gdb_request-requires-clause-slot : goal.gdb_request-requires-clause-slot
gdb_request-requires-clause-slot c =
    gdb_left c.args.name.now (rows_of (found_of c.args.matches.now)) (sym c.eq-else-eq-2.ensures ∙ c.if-eq-3.true) c.requires.asked

pub reading_request-requires-clause-asked : goal.reading_request-requires-clause-asked
reading_request-requires-clause-asked c =
    reading_left c.args.name.now (rows_of (found_of c.args.matches.now)) (sym c.eq.ensures ∙ c.if-eq.false) (sym c.eq-else-eq.ensures ∙ c.if-eq-2.false)
    (sym c.eq-else-eq-2.ensures ∙ c.if-eq-3.false) c.requires.asked
