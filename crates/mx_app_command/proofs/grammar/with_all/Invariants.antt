use Rattle.std.proofs.Common.{◌≡◌, drop}
use Rattle.std.specs.Prelude.{fold, map}
use Rattle.clap.specs.Words.{app_of, with_subcommand}
use Rattle.mx_app_command.specs.Tables.{shape_of_subcommand}
use Rattle.mx_app_command.proofs.grammar.with_all.Given as goal

abbrev pub invariant-loop-subcommand : goal.invariant-loop-subcommand
invariant-loop-subcommand l =
    fold with_subcommand (app_of l.line) (map shape_of_subcommand (drop l.subcommand-index l.subcommands))
    ≡ fold with_subcommand (app_of l.fn.line) (map shape_of_subcommand l.subcommands)
