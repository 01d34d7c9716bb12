use Rattle.std.proofs.Common.{◌∙◌, sym}
use Rattle.clap.specs.Words.{found_of, rows_of}
use Rattle.mx_app_command.proofs.Asked.{explore_left}
use Rattle.mx_app_command.proofs.command_line.alone_request.Goals as goal

pub explore_request-requires-clause-asked : goal.explore_request-requires-clause-asked
explore_request-requires-clause-asked c =
    (explore_left c.args.name.now (rows_of (found_of c.args.matches.now)) (sym c.eq.ensures ∙ c.if-eq.false) c.requires.asked).1
