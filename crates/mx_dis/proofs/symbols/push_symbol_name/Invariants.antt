use Rattle.std.proofs.Common.{◌≡◌, ◌++◌, drop, string_bytes}
use Rattle.mx_dis.specs.Names.{name_text}
use Rattle.mx_dis.proofs.symbols.push_symbol_name.Given as goal

-- what is written and what is still to be written
abbrev pub invariant-loop-byte : goal.invariant-loop-byte
invariant-loop-byte l = string_bytes l.out ++ name_text (drop l.byte-index l.name) ≡ string_bytes l.initial.out ++ name_text l.name
