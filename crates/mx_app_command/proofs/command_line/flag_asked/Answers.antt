use Rattle.std.proofs.Common.{◌∙◌}
use Rattle.clap.specs.Words.{found_of}
use Rattle.clap.proofs.WalkLemmas.{one_text-rows}
use Rattle.mx_app_command.proofs.command_line.flag_asked.Goals as goal

pub returns : goal.returns
returns c =
    let here = one_text-rows (found_of c.args.matches.now) c.args.id.now in
    ((λ e. c.get_flag.ensures.value (here ∙ e)), ((λ e. c.get_flag.ensures.other (here ∙ e)), (λ e. c.get_flag.ensures.none (here ∙ e))))
