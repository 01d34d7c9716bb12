use Rattle.std.proofs.Common.{◌∙◌, ◌-◌, ◌+◌, sym}
use Rattle.mx_app_look.proofs.Parted.{counts_down, one_part}
use Rattle.mx_app_look.proofs.starts.begins_part.Goals as goal

pub loop-preserved : goal.loop-preserved
loop-preserved c =
    let n = c.args.address in
    let i = c.loop.counter in
    sym (one_part c.args.image.now n (n - (i + 1)) (n - i) c.loop.at c.from-at.result c.in-Some.part (counts_down n i c.loop-test.true) c.if-at-address.false
    (sym c.code_part.ensures ∙ c.in-Some.is) (c.from-at.ensures ∙ c.size.ensures)) ∙ c.loop.invariant
