use Rattle.std.proofs.Common.{length}
use Rattle.mx_boot.proofs.ReadSoFar.{ReadSoFar}
use Rattle.mx_boot.proofs.script_reading.read_lines.Given as goal

abbrev pub decreases-loop-line : goal.decreases-loop-line
decreases-loop-line g l = length l.rest

abbrev pub invariant-loop-line : goal.invariant-loop-line
invariant-loop-line g l = ReadSoFar (g.R.ReadsLine.says l.reader) l.text l.rest l.found.items l.is_wanting l.number
