use Rattle.mx_app_command.proofs.Digits.{some_digits}
use Rattle.mx_app_command.proofs.files.are_digits.Goals as goal

pub returns-then-not-is_empty : goal.returns-then-not-is_empty
returns-then-not-is_empty c = some_digits c.args.text.now c.is_empty.result c.all_digits.result c.if-not-is_empty.true c.is_empty.ensures c.all_digits.ensures
