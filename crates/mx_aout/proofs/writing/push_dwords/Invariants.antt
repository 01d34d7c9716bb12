use Rattle.std.proofs.Common.{◌≡◌, ◌++◌, take}
use Rattle.std.specs.List.{flat_map}
use Rattle.mx_word.specs.Word.{bytes_of}
use Rattle.mx_aout.proofs.writing.push_dwords.Given as goal

abbrev pub invariant-loop-number : goal.invariant-loop-number
invariant-loop-number l = l.bytes.items ≡ l.fn.bytes.items ++ flat_map (bytes_of 4) (take l.number-index l.numbers)
