use Rattle.std.proofs.Common.{◌≡◌, take}
use Rattle.mx_rsp.specs.Packets.{body_of}
use Rattle.mx_rsp.proofs.packet.body_of.Given as goal

-- the body of the bytes so far
abbrev pub invariant-loop-byte : goal.invariant-loop-byte
invariant-loop-byte l = l.body.items ≡ body_of (take l.byte-index l.payload)
