-- What a packet says to who hears it, and what one wrong byte does to it.
use Rattle.std.specs.Prelude.{◌≡◌, ◌≢◌, ◌<◌, ◌≤◌, ℕ, List, [], ◌∷◌, ◌++◌, length, Some}
use Rattle.hex.specs.Hex.{encode_lower}
use Rattle.mx_text.specs.NumberFields.{number_up_to}
use Rattle.mx_rsp.specs.declared.hearing.Heard.TheVariants.{Packet, Wrong}
use Rattle.mx_rsp.specs.Packets.{body_of, checksum}
use Rattle.mx_rsp.specs.Hearing.{all_heard, most_bytes}

-- one byte is another, which is no # and no $
abbrev pub IsOneOff : List ℕ → List ℕ → Type 0
IsOneOff xs ys =
    (front : List ℕ) × (back : List ℕ) × (a : ℕ) × (b : ℕ) × (xs ≡ front ++ a ∷ back) × (ys ≡ front ++ b ∷ back)
    × (a < 256) × (b < 256) × (a ≢ b) × (b ≢ 35) × (b ≢ 36)

-- A DAMAGED PACKET: one byte of its body is another; or its two digits aren't those of its checksum
pub data IsDamaged (payload : List ℕ) : List ℕ → Type 0 where
  in_body : (body : List ℕ) → IsOneOff (body_of payload) body
      → IsDamaged payload (36 ∷ body ++ 35 ∷ encode_lower (checksum (body_of payload) ∷ []))
  in_digits : (high low : ℕ) → high ≢ 36 → low ≢ 36 → number_up_to 255 16 (high ∷ low ∷ []) ≢ Some (checksum (body_of payload))
      → IsDamaged payload (36 ∷ body_of payload ++ 35 ∷ high ∷ low ∷ [])

-- the packet of a payload says that payload
abbrev pub IsHeard : List ℕ → List ℕ → Type 0
IsHeard payload whole = length (body_of payload) ≤ most_bytes → all_heard [] whole ≡ Packet payload ∷ []

-- a damaged one says that it is wrong
abbrev pub IsRefusedDamaged : List ℕ → Type 0
IsRefusedDamaged payload =
    length (body_of payload) ≤ most_bytes → (text : List ℕ) → IsDamaged payload text → all_heard [] text ≡ Wrong ∷ []
