use Rattle.std.proofs.Common.{rules, sym}
use Rattle.mx_text.proofs.Spelled.{number_within}
use Rattle.mx_text.proofs.number_fields.number_up_to.Goals as goal

pub returns-then-number-limit : goal.returns-then-number-limit
returns-then-number-limit c = sym (number_within c.args.limit c.args.base c.args.word.now c.in-Some.number c.in-Some.ensures (search rules))
