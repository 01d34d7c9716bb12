use Rattle.std.proofs.Common.{◌≡◌, ◌<◌, ◌≤◌, ◌+◌, length}
use Rattle.mx_turns.specs.Ahead.{AreTold, IsAfter, IsBefore}
use Rattle.mx_turns.proofs.ahead.try_in_turn.Given as goal

-- the positions so far are tried
abbrev pub invariant-loop-position : goal.invariant-loop-position
invariant-loop-position l = record {
  pair : IsBefore l.sweep l.boot.value.kernel.boot l.position l.pair;
  told : AreTold l.sweep l.boot.value.kernel.boot l.fn.range.from l.told.items;
  all : l.fn.range.from + length l.told.items ≡ l.position;
  within : l.position ≤ l.fn.range.end;
  last : l.fn.range.from < l.position → IsAfter l.sweep l.boot.value.kernel.boot l.position l.pair;
}
