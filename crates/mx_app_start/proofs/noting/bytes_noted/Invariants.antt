use Rattle.std.proofs.Common.{◌≡◌, take}
use Rattle.mx_app_start.specs.Asked.{noted_bytes}
use Rattle.mx_app_start.proofs.noting.bytes_noted.Given as goal

-- the bytes so far are remembered
abbrev pub invariant-loop-byte : goal.invariant-loop-byte
invariant-loop-byte l = noted_bytes l.noted ≡ take l.byte-index l.bytes
