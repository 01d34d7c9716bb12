use Rattle.std.proofs.Common.{◌≡◌, ◌++◌, ◌-◌, string_bytes}
use Rattle.mx_look.specs.Lines.{code_lines}
use Rattle.mx_look.proofs.code_lines.push_code_lines.Given as goal

-- the lines so far, and those that are left
abbrev pub invariant-loop : goal.invariant-loop
invariant-loop l = string_bytes l.out ++ code_lines (l.count - l.counter) l.symbols l.image l.at ≡ string_bytes l.initial.out ++ code_lines l.count l.symbols l.image l.from
