use Rattle.std.proofs.Common.{◌≡◌, ◌++◌}
use Rattle.std.specs.List.{flat_map, range_with_len}
use Rattle.mx_app_explain.specs.ServiceWords.{call_if}
use Rattle.mx_app_explain.proofs.allowed.push_calls.Given as goal

-- the kernel calls so far
abbrev pub invariant-loop-bit : goal.invariant-loop-bit
invariant-loop-bit l = l.out.items ≡ l.initial.out.items ++ flat_map (call_if l.rules l.calls) (range_with_len 0 l.bit)
