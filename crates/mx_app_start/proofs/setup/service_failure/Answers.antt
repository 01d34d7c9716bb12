use Rattle.std.proofs.Common.{◌∙◌}
use Rattle.mx_app_start.proofs.SetupLemmas.{line_there, told}
use Rattle.mx_app_start.proofs.setup.service_failure.Goals as goal

pub returns : goal.returns
returns c =
    let line = c.swap_remove-file.result in (
      line,
      line_there c.args.config.lines c.into_vec-lines.result.items c.args.index line (c.into_vec-lines.ensures ∙ c.into_lines.ensures) c.requires c.swap_remove-file.ensures.value,
      told c.args.problem line.file c.into_string.result c.of.result c.into_string.ensures c.of.ensures,
    )
