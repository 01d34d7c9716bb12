use Rattle.std.proofs.Common.{◌∙◌, sym}
use Rattle.clap.specs.Words.{found_of, rows_of}
use Rattle.mx_app_command.proofs.Asked.{other_left}
use Rattle.mx_app_command.proofs.command_line.history_request.Goals as goal

pub other_history_request-requires-clause-asked : goal.other_history_request-requires-clause-asked
other_history_request-requires-clause-asked c =
    other_left c.args.name.now (rows_of (found_of c.args.matches.now)) (sym c.eq.ensures ∙ c.if-eq.false) c.requires.asked
