use Rattle.std.proofs.Common.{◌≡◌, ◌++◌, map}
use Rattle.mx_asm.specs.Assembled.{symbol_under}
use Rattle.mx_asm.specs.View.{above_of}
use Rattle.mx_asm.proofs.program.symbols_of.Given as goal

abbrev pub invariant-loop-name : goal.invariant-loop-name
invariant-loop-name l = l.symbols.items ++ map (symbol_under (above_of l.layout)) l.name-iterator ≡ map (symbol_under (above_of l.layout)) l.layout.labels.entries
