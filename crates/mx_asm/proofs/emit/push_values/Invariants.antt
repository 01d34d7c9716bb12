use Rattle.std.proofs.Common.{◌≡◌, ℕ, List, ◌++◌, map, drop, take, false, Some}
use Rattle.std.specs.List.{list_any, flat_map}
use Rattle.mx_word.specs.Word.{bytes_of, bytes_in}
use Rattle.mx_asm.specs.Layout.{value_under}
use Rattle.mx_asm.specs.Faults.{is_undefined}
use Rattle.mx_asm.specs.View.{above_of}
use Rattle.mx_asm.proofs.emit.push_values.Given as goal

abbrev pub invariant-loop-value : goal.invariant-loop-value
invariant-loop-value l = record {
  clean : list_any (is_undefined (above_of l.layout)) (drop l.value-index l.values) ≡ false;
  put : (numbers : List ℕ) × (map (value_under (above_of l.layout)) (take l.value-index l.values) ≡ map Some numbers)
      × (l.out.items ≡ l.initial.out.items ++ flat_map (bytes_of (bytes_in l.size)) numbers);
}
