use Rattle.std.proofs.Common.{◌≡◌, ◌∙◌, ◌||◌, List, ap, ap₂, sym}
use Rattle.std.specs.Prelude.{fold, map}
use Rattle.std.proofs.lemmas.List.{drop_all}
use Rattle.clap.specs.Words.{App, app_of, new_app, with_rule}
use Rattle.clap.specs.Simple.{app_of_fields}
use Rattle.mx_app_command.specs.Tables.{rule_of_argument}
use Rattle.mx_app_command.specs.Words.{IsLocal}
use Rattle.mx_app_command.specs.declared.grammar.CommandArgument.{CommandArgument}
use Rattle.mx_app_command.proofs.Tables.{argument_added}
use Rattle.mx_app_command.proofs.grammar.command_of.Goals as goal

pub loop-argument-init : goal.loop-argument-init
loop-argument-init c =
    let whole : app_of c.after_help-command.result ≡ new_app c.args.subcommand.now.name.now =
    ap app_of_fields c.after_help-command.ensures ∙ (ap app_of_fields c.about.ensures ∙ c.new.ensures.app) in
    let local : IsLocal c.after_help-command.result =
    ap (λ f. f.has_globals) c.after_help-command.ensures ∙ (ap (λ f. f.has_globals) c.about.ensures ∙ c.new.ensures.local) in
    record {
      shape = ap (λ (a : App). (fold with_rule a (map rule_of_argument c.args.subcommand.now.arguments.now)).top) whole;
      local = local;
    }

pub loop-argument-preserved : goal.loop-argument-preserved
loop-argument-preserved c = record {
  shape = ap (λ (a : App). a.top) (argument_added c.loop-argument.command c.in_ok-command.command c.argument_of.result _ c.loop-argument.argument-index _
      c.loop-argument-test.true c.argument_of.ensures.local c.argument_of.ensures.rule c.in_ok-command.ensures) ∙ c.loop-argument.invariant.shape;
  local = c.in_ok-command.ensures.globals ∙ ap₂ ◌||◌ c.loop-argument.invariant.local c.argument_of.ensures.local;
}

pub returns-clause-shape : goal.returns-clause-shape
returns-clause-shape c =
    ap (λ (left : List CommandArgument). (fold with_rule (app_of c.loop-argument.command) (map rule_of_argument left)).top)
    (sym (drop_all c.loop-argument.argument-index c.args.subcommand.now.arguments.now c.loop-argument-test.false)) ∙ c.loop-argument.invariant.shape

pub returns-clause-local : goal.returns-clause-local
returns-clause-local c = c.loop-argument.invariant.local
