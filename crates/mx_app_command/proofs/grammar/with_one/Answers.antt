use Rattle.std.proofs.Common.{◌≡◌, ◌∙◌, ap}
use Rattle.std.proofs.lemmas.Result.{IfOk-weaker}
use Rattle.clap.specs.Words.{AddsSubcommand, app_of, with_subcommand}
use Rattle.clap.specs.declared.builder.command.Command.{Command}
use Rattle.mx_app_command.specs.Tables.{shape_of_subcommand}
use Rattle.mx_app_command.proofs.grammar.with_one.Goals as goal

pub returns : goal.returns
returns c =
    let line = c.args.line in
    let sub = c.in_ok-command_of.field-0 in
    let row = shape_of_subcommand c.args.subcommand.now in
    IfOk-weaker c.subcommand.result (λ new. AddsSubcommand line sub new) (λ new. app_of new ≡ with_subcommand (app_of line) row)
    (λ (new : Command) adds. adds.shape c.in_ok-command_of.ensures.local ∙ ap (with_subcommand (app_of line)) c.in_ok-command_of.ensures.shape) c.subcommand.ensures
