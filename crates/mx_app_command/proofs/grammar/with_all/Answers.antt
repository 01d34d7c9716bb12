use Rattle.std.proofs.Common.{◌∙◌, List, ap, sym}
use Rattle.std.specs.Prelude.{fold, map}
use Rattle.std.proofs.lemmas.List.{drop_all}
use Rattle.clap.specs.Words.{app_of, with_subcommand}
use Rattle.mx_app_command.specs.Tables.{shape_of_subcommand}
use Rattle.mx_app_command.specs.declared.grammar.Subcommand.{Subcommand}
use Rattle.mx_app_command.proofs.Tables.{subcommand_added}
use Rattle.mx_app_command.proofs.grammar.with_all.Goals as goal

pub loop-subcommand-preserved : goal.loop-subcommand-preserved
loop-subcommand-preserved c =
    subcommand_added c.loop-subcommand.line c.in_ok-line.line c.args.subcommands.now c.loop-subcommand.subcommand-index _ c.loop-subcommand-test.true
    c.in_ok-line.ensures ∙ c.loop-subcommand.invariant

pub returns : goal.returns
returns c = record {
  app = ap (λ (left : List Subcommand). fold with_subcommand (app_of c.loop-subcommand.line) (map shape_of_subcommand left))
      (sym (drop_all c.loop-subcommand.subcommand-index c.args.subcommands.now c.loop-subcommand-test.false)) ∙ c.loop-subcommand.invariant;
}
