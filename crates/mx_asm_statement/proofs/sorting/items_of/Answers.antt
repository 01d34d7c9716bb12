use Rattle.std.proofs.Common.{rules}
use Rattle.mx_asm_statement.proofs.Sorted.{goes_on_step, goes_on_stop, slices_after}
use Rattle.mx_asm_statement.proofs.sorting.items_of.Goals as goal

pub loop-first-preserved : goal.loop-first-preserved
loop-first-preserved c = record {
  goes_on = goes_on_step c.args.text.now c.args.tokens.now c.loop-first.rest.now c.in-Some.more.now c.in-Some.first.now c.loop-first.found.items _ _ (search rules) c.loop-first.invariant.goes_on c.item_of.ensures (search rules);
  slices = slices_after c.args.text.now c.loop-first.rest.now c.in-Some.more.now c.in-Some.first.now (search rules) c.loop-first.invariant.slices;
}

pub returns : goal.returns
returns c = goes_on_stop c.args.text.now c.args.tokens.now c.loop-first.rest.now c.loop-first.found.items c.in_default.ensures.cases c.loop-first.invariant.goes_on
