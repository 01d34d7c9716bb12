use Rattle.std.proofs.Common.{◌≡◌, ◌≤◌, take}
use Rattle.mx_look.specs.Numbers.{used_count}
use Rattle.mx_look.proofs.result_names.used_count.Given as goal

abbrev pub invariant-loop-index : goal.invariant-loop-index
invariant-loop-index l = record {
  so_far : l.count ≡ used_count (take l.index l.numbers);
  within : l.count ≤ l.index;
}
