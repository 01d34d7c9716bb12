use Rattle.std.proofs.Common.{◌≡◌, ◌≤◌, ◌+◌, length}
use Rattle.mx_text.specs.Lines.{lines}
use Rattle.mx_boot.proofs.Taking.{TakesOn, WrongsOn}
use Rattle.mx_boot.proofs.config_reading.read_lines.Given as goal

abbrev pub invariant-loop-line : goal.invariant-loop-line
invariant-loop-line l = record {
  few : l.number + length l.rest ≤ length l.fn.text;
  count : length (lines l.fn.text) ≡ l.number + length (lines l.rest);
  takes : TakesOn l.draft (l.number + 1) (lines l.rest) (lines l.fn.text);
  wrongs : WrongsOn l.draft (l.number + 1) (lines l.rest) (lines l.fn.text);
}

abbrev pub decreases-loop-line : goal.decreases-loop-line
decreases-loop-line l = length l.rest
