use Rattle.std.proofs.Common.{◌≡◌, ◌++◌, drop, map}
use Rattle.mx_turns.specs.Sweep.{shown}
use Rattle.mx_turns.proofs.trials.push_shown.Given as goal

abbrev pub invariant-loop-byte : goal.invariant-loop-byte
invariant-loop-byte l = l.text.items ++ map shown (drop l.byte-index l.bytes) ≡ l.fn.text.items ++ map shown l.bytes
