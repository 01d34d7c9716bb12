use Rattle.std.proofs.Common.{◌≡◌, drop}
use Rattle.mx_look.specs.Nearest.{greatest_from}
use Rattle.mx_look.proofs.nearest.greatest_value.Given as goal

-- the symbols that are left lead to the greatest of all
abbrev pub invariant-loop-symbol : goal.invariant-loop-symbol
invariant-loop-symbol l = greatest_from l.greatest l.at (drop l.symbol-index l.symbols) ≡ greatest_from 0 l.at l.symbols
