use Rattle.mx_why.proofs.Judged.{for_another}
use Rattle.mx_why.proofs.verdicts.judge.Goals as goal

pub returns-in-Some-partner_of : goal.returns-in-Some-partner_of
returns-in-Some-partner_of c =
    for_another c.judge_waiting.result c.args.end.now c.args.slot c.in-Some.doing c.in-Some-partner_of.field-0 c.in-Some.ensures c.in-Some-partner_of.ensures c.judge_waiting.ensures
