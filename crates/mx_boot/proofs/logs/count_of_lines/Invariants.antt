use Rattle.std.proofs.Common.{◌≡◌, ◌+◌, ◌≤◌, length}
use Rattle.mx_text.specs.Lines.{lines}
use Rattle.mx_boot.proofs.logs.count_of_lines.Given as goal

abbrev pub invariant-loop-below : goal.invariant-loop-below
invariant-loop-below l = record {
  counted : length (lines l.fn.text) ≡ l.count + length (lines l.rest);
  few : l.count + length l.rest ≤ length l.fn.text;
}

abbrev pub decreases-loop-below : goal.decreases-loop-below
decreases-loop-below l = length l.rest
