use Rattle.std.proofs.Common.{◌≡◌, take}
use Rattle.mx_rsp.specs.Packets.{checksum}
use Rattle.mx_rsp.proofs.packet.checksum.Given as goal

-- the checksum of the bytes so far
abbrev pub invariant-loop-byte : goal.invariant-loop-byte
invariant-loop-byte l = l.total ≡ checksum (take l.byte-index l.body)
