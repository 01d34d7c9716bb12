use Rattle.std.proofs.Common.{◌≡◌, ◌+◌, drop, length}
use Rattle.mx_turns.specs.Sweep.{coming}
use Rattle.mx_turns.proofs.coming.Coming.pass.Given as goal

-- those of the records that are left aren't passed yet
abbrev pub invariant-loop-entry : goal.invariant-loop-entry
invariant-loop-entry l = record {
  all : l.self.all ≡ l.fn.self.all;
  past : l.self.past + length (coming (drop l.entry-index l.records)) ≡ l.fn.self.past + length (coming l.records);
}
