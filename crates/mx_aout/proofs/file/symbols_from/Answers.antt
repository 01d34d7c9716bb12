use Rattle.std.proofs.Common.{arith}
use Rattle.std.proofs.lemmas.Grind.{common_steps}
use Rattle.mx_aout.proofs.SymbolLists.{symbols_from-more}
use Rattle.mx_aout.proofs.file.symbols_from.Goals as goal

pub loop-number-preserved : goal.loop-number-preserved
loop-number-preserved c = record {
  symbols = rw (c.in_ok-push.ensures.items, c.loop-number.invariant.symbols, c.symbol_at.ensures, symbols_from-more c.args.bytes.now c.args.at c.loop-number.number);
  long = grind (arith, common_steps);
}
