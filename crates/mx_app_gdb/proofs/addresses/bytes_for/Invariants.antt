use Rattle.std.proofs.Common.{◌≡◌, drop, take}
use Rattle.mx_app_gdb.proofs.addresses.bytes_for.Given as goal

-- the bytes so far
abbrev pub invariant-loop-offset : goal.invariant-loop-offset
invariant-loop-offset l = l.bytes.items ≡ take l.offset (drop l.at l.segment)
