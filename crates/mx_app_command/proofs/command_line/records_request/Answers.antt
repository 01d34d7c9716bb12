use Rattle.std.proofs.Common.{◌∙◌, sym}
use Rattle.clap.specs.Words.{found_of, rows_of}
use Rattle.mx_app_command.proofs.Asked.{page_left}
use Rattle.mx_app_command.proofs.command_line.records_request.Goals as goal

pub page_request-requires-clause-name : goal.page_request-requires-clause-name
page_request-requires-clause-name c =
    (page_left c.args.name.now (rows_of (found_of c.args.matches.now)) (sym c.eq.ensures ∙ c.if-eq.false) (sym c.eq-else-eq.ensures ∙ c.if-eq-2.false) c.requires.asked).0

pub page_request-requires-clause-strip : goal.page_request-requires-clause-strip
page_request-requires-clause-strip c =
    (page_left c.args.name.now (rows_of (found_of c.args.matches.now)) (sym c.eq.ensures ∙ c.if-eq.false) (sym c.eq-else-eq.ensures ∙ c.if-eq-2.false) c.requires.asked).1
