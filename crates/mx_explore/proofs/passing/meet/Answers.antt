use Rattle.std.proofs.Common.{false, true, rules}
use Rattle.mx_explore.specs.Passages.{standing}
use Rattle.mx_explore.proofs.MeetLemmas.{not_passed, noted_on, noted_only, passed_begins, passed_on}
use Rattle.mx_explore.proofs.passing.meet.Goals as goal

pub returns-then-goes_on-clause-passed : goal.returns-then-goes_on-clause-passed
returns-then-goes_on-clause-passed c = passed_on (standing c.args.schedule.now) c.args.met c.goes_on-goes_on.result c.begins-begins.result c.goes_on-goes_on.ensures c.begins-begins.ensures c.if-goes_on.true

pub returns-then-goes_on-clause-noted : goal.returns-then-goes_on-clause-noted
returns-then-goes_on-clause-noted c =
    noted_on (standing c.args.schedule.now) c.args.met c.goes_on-goes_on.result c.begins-begins.result c.goes_on-goes_on.ensures c.begins-begins.ensures c.push.new.self.items c.in_ok-push.ensures.items c.len-schedule.result (search rules) c.if-goes_on.true

pub returns-then-not-begins-clause-passed : goal.returns-then-not-begins-clause-passed
returns-then-not-begins-clause-passed c = not_passed (standing c.args.schedule.now) c.args.met c.goes_on-goes_on.result c.begins-begins.result c.goes_on-goes_on.ensures c.begins-begins.ensures c.if-goes_on.false c.if-not-begins.true

pub returns-then-not-begins-clause-noted : goal.returns-then-not-begins-clause-noted
returns-then-not-begins-clause-noted c = noted_only (standing c.args.schedule.now) c.args.met c.goes_on-goes_on.result c.begins-begins.result c.goes_on-goes_on.ensures c.begins-begins.ensures c.push.new.self.items c.in_ok-push.ensures.items c.if-goes_on.false c.if-not-begins.true

pub returns-clause-passed : goal.returns-clause-passed
returns-clause-passed c = passed_begins (standing c.args.schedule.now) c.args.met c.goes_on-goes_on.result c.begins-begins.result c.goes_on-goes_on.ensures c.begins-begins.ensures c.if-goes_on.false c.if-not-begins.false
