-- Bytes that are watched (our own).
use Rattle.std.specs.Prelude.{ℕ, ◌==◌, ◌^◌, ◌&&◌, nat_le, nat_lt, not, Bool, if◌then◌else◌, List, [], ◌∷◌, ◌++◌, filter, length, Option, Some, None, Result, Ok, Err}
use Rattle.std.specs.List.{flat_map, list_any, range_with_len}
use Rattle.mx_debug.specs.declared.error.DebugError.{DebugError}
use Rattle.mx_debug.specs.declared.error.DebugError.TheVariants.{NotHere, TooMany}
use Rattle.mx_walk.specs.declared.watching.BytePlace.{BytePlace}
use Rattle.mx_app_look.specs.declared.watches.Watch.{Watch}

-- the place at an address, which has 32 bits
abbrev pub place_at : ℕ → ℕ → List BytePlace
place_at slot at = if nat_lt at (2 ^ 32) then record { slot = slot; address = at } ∷ [] else []

-- THE PLACES of a watch's bytes: addresses are added as whole numbers, and after the last one is none
abbrev pub places_of : Watch → List BytePlace
places_of x = flat_map (place_at x.slot) (range_with_len x.address x.count)

-- it is of the same bytes
abbrev pub is_watch : Watch → Watch → Bool
is_watch x y = (y.slot == x.slot) && (y.address == x.address) && (y.count == x.count)

-- with one more, eight at most over all slots; one that is there already isn't added again
abbrev pub with_watch : List Watch → Watch → Option (List Watch)
with_watch xs x =
    if list_any (is_watch x) xs then Some xs else if nat_lt (length xs) 8 then Some (xs ++ x ∷ []) else None

-- without one
abbrev pub without_watch : List Watch → Watch → List Watch
without_watch xs x = filter (λ y. not (is_watch x y)) xs

abbrev pub watch_added : List Watch → Option (List Watch) → Result (Unit {0}) DebugError × List Watch
watch_added xs None = (Err TooMany, xs)
watch_added xs (Some more) = (Ok tt, more)

-- its 1 to 16 bytes begin in a memory of this many bytes
abbrev pub is_within : ℕ → Watch → Bool
is_within limit x = nat_le 1 x.count && nat_le x.count 16 && nat_lt x.address limit

-- A WATCH IS SET: the answer or refusal, and the watches after. A refusal changes nothing
abbrev pub watch_set : List Watch → ℕ → Watch → Result (Unit {0}) DebugError × List Watch
watch_set xs limit x = if is_within limit x then watch_added xs (with_watch xs x) else (Err NotHere, xs)
