-- What is left of a table, before and after its next row is added.
use Rattle.std.proofs.Common.{◌≡◌, ◌∙◌, ◌<◌, ◌+◌, ℕ, List, ap, drop, false, length, sym}
use Rattle.std.specs.Prelude.{fold, map}
use Rattle.std.proofs.Math.ListN.{get_or}
use Rattle.std.proofs.lemmas.List.{drop_more}
use Rattle.clap.specs.Words.{AddsArg, App, app_of, rule_of, with_rule, with_subcommand}
use Rattle.clap.specs.declared.builder.arg.Arg.{Arg}
use Rattle.clap.specs.declared.builder.command.Command.{Command}
use Rattle.mx_app_command.specs.Tables.{rule_of_argument, shape_of_subcommand}
use Rattle.mx_app_command.specs.declared.grammar.CommandArgument.{CommandArgument}
use Rattle.mx_app_command.specs.declared.grammar.Subcommand.{Subcommand}

pub argument_added : (old new : Command) (arg : Arg) (rows : List CommandArgument) (i : ℕ) (none : CommandArgument) → i < length rows
    → arg.global ≡ false → rule_of arg ≡ rule_of_argument (get_or rows i none) → AddsArg old arg new
    → fold with_rule (app_of new) (map rule_of_argument (drop (i + 1) rows)) ≡ fold with_rule (app_of old) (map rule_of_argument (drop i rows))
argument_added old new arg rows i none lt local rule adds =
    ap (λ (a : App). fold with_rule a (map rule_of_argument (drop (i + 1) rows))) (adds.shape local ∙ ap (with_rule (app_of old)) rule)
    ∙ ap (λ (left : List CommandArgument). fold with_rule (app_of old) (map rule_of_argument left)) (sym (drop_more rows i none lt))

pub subcommand_added : (old new : Command) (rows : List Subcommand) (i : ℕ) (none : Subcommand) → i < length rows
    → app_of new ≡ with_subcommand (app_of old) (shape_of_subcommand (get_or rows i none))
    → fold with_subcommand (app_of new) (map shape_of_subcommand (drop (i + 1) rows)) ≡ fold with_subcommand (app_of old) (map shape_of_subcommand (drop i rows))
subcommand_added old new rows i none lt adds =
    ap (λ (a : App). fold with_subcommand a (map shape_of_subcommand (drop (i + 1) rows))) adds
    ∙ ap (λ (left : List Subcommand). fold with_subcommand (app_of old) (map shape_of_subcommand left)) (sym (drop_more rows i none lt))
