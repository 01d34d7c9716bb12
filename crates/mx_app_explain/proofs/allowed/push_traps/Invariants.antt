use Rattle.std.proofs.Common.{◌≡◌, ◌+◌, ◌++◌}
use Rattle.std.specs.List.{flat_map, range_with_len}
use Rattle.mx_app_explain.specs.ServiceWords.{trap_if}
use Rattle.mx_app_explain.proofs.allowed.push_traps.Given as goal

-- the traps so far
abbrev pub invariant-loop-index : goal.invariant-loop-index
invariant-loop-index l = l.out.items ≡ l.initial.out.items ++ flat_map (λ n. trap_if l.traps (n + 1)) (range_with_len 0 l.index)
