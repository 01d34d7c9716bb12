use Rattle.std.proofs.Common.{◌≡◌, drop}
use Rattle.std.specs.Prelude.{fold, map}
use Rattle.clap.specs.Words.{app_of, with_rule}
use Rattle.mx_app_command.specs.Words.{IsLocal}
use Rattle.mx_app_command.specs.Tables.{rule_of_argument, shape_of_subcommand}
use Rattle.mx_app_command.proofs.grammar.command_of.Given as goal

abbrev pub invariant-loop-argument : goal.invariant-loop-argument
invariant-loop-argument l = record {
  shape : (fold with_rule (app_of l.command) (map rule_of_argument (drop l.argument-index l.argument-items))).top
      ≡ shape_of_subcommand l.fn.subcommand;
  local : IsLocal l.command;
}
