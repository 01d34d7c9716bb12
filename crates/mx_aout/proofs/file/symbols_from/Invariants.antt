use Rattle.std.proofs.Common.{◌≡◌, length}
use Rattle.mx_aout.specs.File.{symbols_from}
use Rattle.mx_aout.proofs.file.symbols_from.Given as goal

abbrev pub invariant-loop-number : goal.invariant-loop-number
invariant-loop-number l = record { symbols : l.symbols.items ≡ symbols_from l.bytes l.at l.number; long : length l.symbols.items ≡ l.number }
