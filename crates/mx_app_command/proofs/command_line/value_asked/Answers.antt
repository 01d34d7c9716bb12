use Rattle.std.proofs.Common.{◌∙◌, ap, is_some, sym}
use Rattle.std.specs.Prelude.{option_map}
use Rattle.clap.specs.Words.{found_of}
use Rattle.clap.proofs.CallerLemmas.{some_of_text}
use Rattle.clap.proofs.WalkLemmas.{first_value-rows}
use Rattle.mx_app_command.proofs.command_line.value_asked.Goals as goal

pub unwrap-requires : goal.unwrap-requires
unwrap-requires c = some_of_text _ c.get_str.result _ c.get_str.ensures (ap is_some (first_value-rows (found_of c.args.matches.now) c.args.id.now) ∙ c.requires)

pub returns : goal.returns
returns c = sym (first_value-rows (found_of c.args.matches.now) c.args.id.now) ∙ (sym c.get_str.ensures ∙ ap (option_map (λ s. s.now)) c.unwrap.ensures)
