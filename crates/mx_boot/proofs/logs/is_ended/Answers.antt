use Rattle.std.proofs.Common.{ap, sym, ◌∙◌}
use Rattle.std.specs.Option.{option_copied}
use Rattle.mx_boot.proofs.Ended.{feed_or_none, ended_last}
use Rattle.mx_boot.proofs.logs.is_ended.Goals as goal

pub returns-in-Some : goal.returns-in-Some
returns-in-Some c = sym (ended_last c.args.text.now ∙ ap feed_or_none (sym c.last.ensures.value ∙ ap option_copied c.in-Some.is))
