use Rattle.std.proofs.Common.{◌≡◌, ◌++◌, drop}
use Rattle.mx_rsp.specs.Packets.{payload_after, payload_of}
use Rattle.mx_rsp.proofs.packet.payload_of.Given as goal

-- what came of the bytes so far, and what comes of those that are left
abbrev pub invariant-loop-byte : goal.invariant-loop-byte
invariant-loop-byte l = l.payload.items ++ payload_after l.is_escaped (drop l.byte-index l.body) ≡ payload_of l.body
