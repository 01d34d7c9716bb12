use Rattle.std.proofs.Common.{◌≡◌, ◌++◌, ◌-◌, string_bytes}
use Rattle.mx_look.specs.Stack.{stack_rows}
use Rattle.mx_look.proofs.stack.push_rows.Given as goal

-- the rows so far, and those that are left
abbrev pub invariant-loop : goal.invariant-loop
invariant-loop l = string_bytes l.out ++ stack_rows (l.count - l.counter) l.symbols l.image l.at ≡ string_bytes l.initial.out ++ stack_rows l.count l.symbols l.image l.from
