use Rattle.std.proofs.Common.{rules, arith}
use Rattle.mx_text.proofs.Parting.{field_alone, field_there}
use Rattle.mx_text.proofs.fields.length_of_field.Goals as goal

pub returns-else-line-end-ne32-clause-fields : goal.returns-else-line-end-ne32-clause-fields
returns-else-line-end-ne32-clause-fields c = field_there c.args.line.now c.loop-end.end (search rules) (omega (arith, c.loop-end-test.true)) c.loop-end.invariant.none (search rules)

pub returns-after-loop-end-clause-fields : goal.returns-after-loop-end-clause-fields
returns-after-loop-end-clause-fields c = field_alone c.args.line.now c.loop-end.end (search rules) (search rules) c.loop-end.invariant.none
