use Rattle.std.proofs.Common.{◌∙◌, ◌++◌, List, ap, arith}
use Rattle.std.specs.List.{flat_map}
use Rattle.std.proofs.lemmas.List.{take_all}
use Rattle.mx_why.specs.declared.unfit.Unfit.{Unfit}
use Rattle.mx_why.specs.UnfitLines.{unfit_line}
use Rattle.mx_why.proofs.Rows.{next_item}
use Rattle.mx_why.proofs.unfit_lines.push_each_unfit.Goals as goal

pub loop-unfit-preserved : goal.loop-unfit-preserved
loop-unfit-preserved c =
    next_item (unfit_line c.args.lines.now) c.args.found.now c.loop-unfit.unfit-index _ c.args.out.now.items c.loop-unfit.out.items c.push_unfit.new.out.items
    c.loop-unfit-test.true c.loop-unfit.invariant c.in_ok-push_unfit.ensures

pub returns : goal.returns
returns c =
    c.loop-unfit.invariant
    ∙ ap (λ (cs : List Unfit). c.args.out.now.items ++ flat_map (unfit_line c.args.lines.now) cs) (take_all c.loop-unfit.unfit-index c.args.found.now (omega arith))
