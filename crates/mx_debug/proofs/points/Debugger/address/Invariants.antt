use Rattle.std.proofs.Common.{◌≡◌, drop}
use Rattle.mx_debug.specs.Finding.{first_named}
use Rattle.mx_debug.proofs.points.Debugger.address.Given as goal

-- what is left decides
abbrev pub invariant-loop-symbol : goal.invariant-loop-symbol
invariant-loop-symbol l = first_named (drop l.symbol-index l.symbol-items) l.name ≡ first_named l.symbol-items l.name
