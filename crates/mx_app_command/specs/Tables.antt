-- What a row of the grammar's table says.
use Rattle.std.specs.Prelude.{fold, map}
use Rattle.clap.specs.Words.{Rule, Shape, Text, new_app, with_rule}
use Rattle.mx_app_command.specs.Words.{after_name, departures_after, flag, jobs_after, number_after, required_number, required_text}
use Rattle.mx_app_command.specs.declared.grammar.ArgumentForm.{ArgumentForm}
use Rattle.mx_app_command.specs.declared.grammar.ArgumentForm.TheVariants as form
use Rattle.mx_app_command.specs.declared.grammar.CommandArgument.{CommandArgument}
use Rattle.mx_app_command.specs.declared.grammar.Subcommand.{Subcommand}

abbrev pub rule_of_form : ArgumentForm → Text → Rule
rule_of_form form.Text name = required_text name
rule_of_form form.Flag name = flag name
rule_of_form form.Number name = required_number name
rule_of_form (form.After long) name = after_name long.now name
rule_of_form (form.NumberAfter long) name = number_after long.now name
rule_of_form (form.JobsAfter long) name = jobs_after long.now name
rule_of_form (form.DeparturesAfter long) name = departures_after long.now name

abbrev pub rule_of_argument : CommandArgument → Rule
rule_of_argument a = rule_of_form a.form a.name.now

-- the shape with each argument added in turn
abbrev pub shape_of_subcommand : Subcommand → Shape
shape_of_subcommand s = (fold with_rule (new_app s.name.now) (map rule_of_argument s.arguments.now)).top
