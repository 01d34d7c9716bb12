use Rattle.std.proofs.Common.{◌≡◌, ◌++◌, drop, string_bytes}
use Rattle.mx_dis.specs.Names.{name_lines}
use Rattle.mx_dis.proofs.symbols.names.Given as goal

-- what is written and what is still to be written
abbrev pub invariant-loop-symbol : goal.invariant-loop-symbol
invariant-loop-symbol l = string_bytes l.out ++ name_lines (drop l.symbol-index l.program.symbols) ≡ name_lines l.program.symbols
