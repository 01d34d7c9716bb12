use Rattle.std.proofs.Common.{[], ◌∷◌, ap, arith, length, length-append, ◌∙◌}
use Rattle.mx_boot.proofs.Taking.{lines_next}
use Rattle.mx_boot.proofs.draft.lines_of.Goals as goal

pub loop-words-preserved : goal.loop-words-preserved
loop-words-preserved c = record {
  lines =
      lines_next c.args.services.now c.loop-words.words-index _ c.loop-words.lines.items c.push.new.self.items c.in_ok-line_of.field-0
      c.loop-words-test.true c.in_ok-push.ensures.items c.loop-words.invariant.lines c.in_ok-line_of.ensures;
  count =
      let longer = ap length c.in_ok-push.ensures.items ∙ length-append c.loop-words.lines.items (c.in_ok-line_of.field-0 ∷ []) in
      omega (arith, longer, c.loop-words.invariant.count);
}
