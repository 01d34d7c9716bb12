use Rattle.std.proofs.Common.{◌∙◌, ◌++◌, List, ap, arith}
use Rattle.std.specs.List.{flat_map}
use Rattle.std.proofs.lemmas.List.{take_all}
use Rattle.mx_why.specs.declared.failed_calls.FailedCall.{FailedCall}
use Rattle.mx_why.specs.AfterRun.{careless_line}
use Rattle.mx_why.proofs.Rows.{next_item}
use Rattle.mx_why.proofs.after_run.push_each_careless.Goals as goal

pub loop-call-preserved : goal.loop-call-preserved
loop-call-preserved c =
    next_item (careless_line c.args.config.now c.args.end.now) c.args.calls.now c.loop-call.call-index _ c.args.out.now.items c.loop-call.out.items c.push_careless.new.out.items
    c.loop-call-test.true c.loop-call.invariant (c.in_ok-push_careless.ensures ∙ ap (λ (v : FailedCall). c.loop-call.out.items ++ careless_line c.args.config.now c.args.end.now v) c.call-item.is)

pub returns : goal.returns
returns c =
    c.loop-call.invariant
    ∙ ap (λ (cs : List FailedCall). c.args.out.now.items ++ flat_map (careless_line c.args.config.now c.args.end.now) cs) (take_all c.loop-call.call-index c.args.calls.now (omega arith))
