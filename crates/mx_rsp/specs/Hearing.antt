-- What is heard of bytes that come one after the other.
use Rattle.std.specs.Prelude.{ℕ, ◌+◌, ◌-◌, ◌==◌, ◌&&◌, nat_lt, nat_le, if◌then◌else◌, Bool, false, List, [], ◌∷◌, ◌++◌, length, slice_index, slice_range, Option, Some, None}
use Rattle.std.specs.List.{remove}
use Rattle.mx_text.specs.NumberFields.{number_up_to}
use Rattle.mx_rsp.specs.Packets.{checksum, payload_of}
use Rattle.mx_rsp.specs.declared.hearing.Heard.{Heard}
use Rattle.mx_rsp.specs.declared.hearing.Heard.TheVariants.{Nothing, Again, Wrong, TooLong, Packet}

-- how many bytes a body may have
abbrev pub most_bytes : ℕ
most_bytes = 16384

-- the digits are those of this sum
abbrev pub is_sum : Option ℕ → ℕ → Bool
is_sum None s = false
is_sum (Some n) s = n == s

-- WHAT A PACKET SAYS, by its body and its digits
abbrev pub said : List ℕ → List ℕ → Heard
said body digits =
    if nat_lt most_bytes (length body) then TooLong
    else if is_sum (number_up_to 255 16 digits) (checksum body) then Packet (payload_of body)
    else Wrong

-- ---- a packet as it comes: its bytes from the $ on, and none outside of packets

-- its third byte from the end is the #
abbrev pub is_whole : List ℕ → Bool
is_whole front = nat_le 4 (length front) && (slice_index front (length front - 3) == 35)

abbrev pub body_in : List ℕ → List ℕ
body_in whole = slice_range whole 1 (length whole - 3)

abbrev pub digits_in : List ℕ → List ℕ
digits_in whole = slice_range whole (length whole - 2) (length whole)

-- a body that is too long loses a byte behind its 16,384th, so that not all of it has to be kept
abbrev pub within_room : List ℕ → List ℕ
within_room front = if nat_le (length front) (most_bytes + 4) then front else remove front (most_bytes + 1)

-- a byte more
abbrev pub further : List ℕ → ℕ → List ℕ
further front b = within_room front ++ b ∷ []

-- ---- a byte comes: a $ begins a packet wherever it comes; outside of packets all else is passed over

abbrev pub reading_within : List ℕ → ℕ → List ℕ
reading_within front b = if is_whole (further front b) then [] else further front b

-- WHAT IS KEPT after it
abbrev pub reading_after : List ℕ → ℕ → List ℕ
reading_after front b = if b == 36 then 36 ∷ [] else if length front == 0 then [] else reading_within front b

abbrev pub heard_within : List ℕ → ℕ → Heard
heard_within front b =
    if is_whole (further front b) then said (body_in (further front b)) (digits_in (further front b)) else Nothing

-- outside of packets a - asks for the last one again
abbrev pub outside : ℕ → Heard
outside b = if b == 45 then Again else Nothing

-- WHAT IT SAYS
abbrev pub heard_of : List ℕ → ℕ → Heard
heard_of front b = if b == 36 then Nothing else if length front == 0 then outside b else heard_within front b

-- ---- all that comes

abbrev pub also : Heard → List Heard → List Heard
also Nothing hs = hs
also h hs = h ∷ hs

-- what bytes say that come after these of a packet
abbrev pub all_heard : List ℕ → List ℕ → List Heard
all_heard front [] = []
all_heard front (b ∷ bs) = also (heard_of front b) (all_heard (reading_after front b) bs)
