use Rattle.std.proofs.Common.{◌≡◌, All, length}
use Rattle.mx_turns.specs.Ahead.{IsBefore}
use Rattle.mx_turns.proofs.ahead.pairs_at_boot.Given as goal

-- the pairs so far
abbrev pub invariant-loop : goal.invariant-loop
invariant-loop l = record {
  all : All (IsBefore l.sweep l.boot.value.kernel.boot l.sweep.range.from) l.pairs.items;
  count : length l.pairs.items ≡ l.counter;
}
