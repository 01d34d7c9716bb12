use Rattle.std.proofs.Common.{◌∙◌, ◌++◌, List, ap, arith}
use Rattle.std.specs.List.{flat_map}
use Rattle.std.proofs.lemmas.List.{take_all}
use Rattle.mx_why.specs.declared.deaths.Death.{Death}
use Rattle.mx_why.specs.AfterRun.{fault_line}
use Rattle.mx_why.proofs.Rows.{next_item}
use Rattle.mx_why.proofs.after_run.push_each_fault.Goals as goal

pub loop-death-preserved : goal.loop-death-preserved
loop-death-preserved c =
    next_item (fault_line c.args.end.now c.args.notes.now) c.args.deaths.now c.loop-death.death-index _ c.args.out.now.items c.loop-death.out.items c.push_fault.new.out.items
    c.loop-death-test.true c.loop-death.invariant c.in_ok-push_fault.ensures

pub returns : goal.returns
returns c =
    c.loop-death.invariant
    ∙ ap (λ (ds : List Death). c.args.out.now.items ++ flat_map (fault_line c.args.end.now c.args.notes.now) ds) (take_all c.loop-death.death-index c.args.deaths.now (omega arith))
