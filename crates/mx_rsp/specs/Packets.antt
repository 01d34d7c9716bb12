-- Packets of the remote serial protocol ("Debugging with GDB", appendix "Remote Serial Protocol", "Overview").
use Rattle.std.specs.Prelude.{ℕ, ◌%◌, ◌==◌, ◌||◌, if◌then◌else◌, Bool, true, false, List, [], ◌∷◌, ◌++◌, bit_xor}
use Rattle.std.specs.List.{flat_map, sum}
use Rattle.hex.specs.Hex.{encode_lower}

-- what stands in no body as it is: # $ * }
abbrev pub is_mark : ℕ → Bool
is_mark b = (b == 35) || (b == 36) || (b == 42) || (b == 125)

-- a byte of a payload, as a body has it: a mark is } and the byte with bit 5 turned
abbrev pub escaped : ℕ → List ℕ
escaped b = if is_mark b then 125 ∷ bit_xor b 32 ∷ [] else b ∷ []

-- THE BODY that stands for a payload
abbrev pub body_of : List ℕ → List ℕ
body_of payload = flat_map escaped payload

-- THE CHECKSUM: the sum of a body's bytes, modulo 256
abbrev pub checksum : List ℕ → ℕ
checksum body = sum body % 256

-- A PACKET: $, the body, #, two digits
unfoldable pub packet : List ℕ → List ℕ
packet payload = 36 ∷ body_of payload ++ 35 ∷ encode_lower (checksum (body_of payload) ∷ [])

-- what the bytes of a body stand for, after a } or not; a } at the end stands for nothing
abbrev pub payload_after : Bool → List ℕ → List ℕ
payload_after escape [] = []
payload_after true (b ∷ bs) = bit_xor b 32 ∷ payload_after false bs
payload_after false (b ∷ bs) = if b == 125 then payload_after true bs else b ∷ payload_after false bs

-- THE PAYLOAD that a body stands for
abbrev pub payload_of : List ℕ → List ℕ
payload_of body = payload_after false body
