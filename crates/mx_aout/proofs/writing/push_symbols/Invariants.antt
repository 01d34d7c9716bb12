use Rattle.std.proofs.Common.{◌≡◌, ◌++◌, take}
use Rattle.std.specs.List.{AllByRecursion, flat_map}
use Rattle.mx_aout.specs.File.{symbol_at}
use Rattle.mx_aout.specs.Written.{symbol_bytes}
use Rattle.mx_aout.proofs.writing.push_symbols.Given as goal

abbrev pub invariant-loop-symbol : goal.invariant-loop-symbol
invariant-loop-symbol l = record {
  bytes : l.bytes.items ≡ l.fn.bytes.items ++ flat_map symbol_bytes (take l.symbol-index l.symbols);
  again : AllByRecursion (λ s. symbol_at (symbol_bytes s) 0 ≡ s) (take l.symbol-index l.symbols);
}
