use Rattle.std.proofs.Common.{◌≡◌, ◌++◌, take}
use Rattle.mx_look.specs.Numbers.{spaced_numbers}
use Rattle.mx_look.proofs.result_names.push_spaced.Given as goal

abbrev pub invariant-loop-number : goal.invariant-loop-number
invariant-loop-number l = l.out.items ≡ l.initial.out.items ++ spaced_numbers (take l.number-index l.numbers)
