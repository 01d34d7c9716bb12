use Rattle.mx_text.proofs.Parting.{after_spaces}
use Rattle.mx_text.proofs.fields.spaces_at_front.Goals as goal

pub returns-else-line-start-eq32-clause-fields : goal.returns-else-line-start-eq32-clause-fields
returns-else-line-start-eq32-clause-fields c = after_spaces c.args.line.now c.loop-start.start c.loop-start.invariant.within c.loop-start.invariant.all

pub returns-after-loop-start-clause-fields : goal.returns-after-loop-start-clause-fields
returns-after-loop-start-clause-fields c = after_spaces c.args.line.now c.loop-start.start c.loop-start.invariant.within c.loop-start.invariant.all
