-- What an image's text needs, before anything is written to it.
use Rattle.std.specs.Prelude.{◌≡◌, ℕ, Bool, true, false, List, Option, Some, None, length, replicate}
use Rattle.mx_entries.specs.Validated.{IsCacheOf}
use Rattle.mx_load.specs.declared.loading.TextRoom.{TextRoom}

-- zeros for a text of its own, and a cache that is one of any code; nothing for another text
abbrev pub IsRoomForText : Bool → List ℕ → Option TextRoom → Type 0
IsRoomForText sep text (Some room) =
    (sep ≡ true) × (room.segment ≡ replicate (length text) 0) × ((code : List ℕ) → IsCacheOf code room.cache.value)
IsRoomForText sep text None = sep ≡ false
