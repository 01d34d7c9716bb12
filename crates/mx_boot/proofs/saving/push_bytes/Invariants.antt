use Rattle.std.proofs.Common.{◌≡◌, ◌++◌, take}
use Rattle.mx_boot.proofs.saving.push_bytes.Given as goal

abbrev pub invariant-loop-byte : goal.invariant-loop-byte
invariant-loop-byte l = l.line.items ≡ l.fn.line.items ++ take l.byte-index l.bytes
