use Rattle.std.proofs.Common.{◌∙◌, get_or, arith}
use Rattle.std.proofs.lemmas.Bool.{eq-eqb, ne_eqb}
use Rattle.mx_look.proofs.Used.{next_used, next_unused}
use Rattle.mx_look.proofs.result_names.used_count.Goals as goal
use Rattle.mx_look.proofs.result_names.used_count.Goals.{then-number-ne0, else-number-ne0}

pub loop-index-preserved : goal.loop-index-preserved
loop-index-preserved c =
    let xs = c.args.numbers.now in
    let i = c.loop-index.index in
    let inv = c.loop-index.invariant in
    elim c.if-number-ne0.branch [
      | then-number-ne0 w ↦ record {
        so_far = w.count-is ∙ next_used xs i c.loop-index-test.true (ne_eqb (get_or xs i 0) 0 w.if-number-ne0.true);
        within = omega (arith, w.count-is);
      }
      | else-number-ne0 w ↦ record {
        so_far = w.count-is ∙ inv.so_far ∙ next_unused xs i c.loop-index-test.true (eq-eqb (get_or xs i 0) 0 w.if-number-ne0.false);
        within = omega (arith, w.count-is, inv.within);
      }
    ]
