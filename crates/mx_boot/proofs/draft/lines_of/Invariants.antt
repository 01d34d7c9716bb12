use Rattle.std.proofs.Common.{◌≡◌, length, take}
use Rattle.mx_boot.specs.Lines.{AreLinesOf}
use Rattle.mx_boot.proofs.draft.lines_of.Given as goal

abbrev pub invariant-loop-words : goal.invariant-loop-words
invariant-loop-words l = record {
  lines : AreLinesOf (take l.words-index l.services) l.lines.items;
  count : length l.lines.items ≡ l.words-index;
}
