use Rattle.std.proofs.Common.{◌≡◌, ◌+◌, ◌*◌, ◌^◌, ◌≤◌, length}
use Rattle.mx_text.specs.Lines.{lines}
use Rattle.mx_asm.specs.Layout.{SizesWithin}
use Rattle.mx_asm.specs.View.{above_of}
use Rattle.mx_asm.proofs.Reading.{ReadSoFar}
use Rattle.mx_asm.proofs.assembling.read_lines.Given as goal

abbrev pub invariant-loop-line : goal.invariant-loop-line
invariant-loop-line l = record {
  number : l.number ≡ length l.read.lines.items + l.read.blanks + 1;
  few : length l.read.lines.items ≤ 2 ^ 62;
  room : length l.read.lines.items + l.read.blanks + length l.rest ≤ length l.fn.text;
  found : ReadSoFar (above_of l.read.layout) l.number (lines l.rest) (lines l.fn.text) l.read.lines.items (length l.read.lines.items + l.read.blanks);
  sizes : SizesWithin l.read.layout.sizes (length l.read.lines.items * 2 ^ 64);
}

abbrev pub decreases-loop-line : goal.decreases-loop-line
decreases-loop-line l = length l.rest
