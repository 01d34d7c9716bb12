-- The last deliveries, with their words (our own). A kernel records no words, so they are those that the receiver has
-- at its buffer now, if sender and type there are those of the delivery.
use Rattle.std.specs.Prelude.{ℕ, ◌-◌, ◌==◌, ◌&&◌, if◌then◌else◌, Bool, List, [], ◌++◌, codes, drop, length, slice_index, take, Option, Some, None}
use Rattle.std.specs.Fmt.{decimal}
use Rattle.std.specs.List.{flat_map}
use Rattle.mx_look.specs.declared.glance.Glance.{Glance}
use Rattle.mx_look.specs.declared.slot_glances.SlotGlance.{SlotGlance}
use Rattle.mx_look.specs.Glances.{glance_of}
use Rattle.mx_look.specs.Transition.{slot_in}
use Rattle.mx_machine.specs.World.{World}
use Rattle.mx_print_answers.specs.Messages.{delivery_text}
use Rattle.mx_proc.specs.EndpointNumbers.{slot_of}
use Rattle.mx_proc.specs.declared.deliveries.Delivery.{Delivery}

-- sender and type of a message are a delivery's
abbrev pub is_of : List ℕ → Delivery → Bool
is_of words d = (slice_index words 0 == d.from) && (slice_index words 1 == d.message_type)

abbrev pub if_of : Delivery → Option (List ℕ) → Option (List ℕ)
if_of d None = None
if_of d (Some words) = if is_of words d then Some words else None

-- the message at the receiver's buffer, if it is the delivery's: none while the receiver is on a processor
abbrev pub words_seen : Delivery → Option SlotGlance → Option (List ℕ)
words_seen d None = None
words_seen d (Some seen) = if_of d seen.image.words

-- ` 7 0 1`
abbrev pub spaced : List ℕ → List ℕ
spaced numbers = flat_map (λ n. codes " " ++ decimal n) numbers

-- p0 to p6: the words after sender and type
abbrev pub kept_words : Option (List ℕ) → List ℕ
kept_words None = []
kept_words (Some words) = codes " words" ++ spaced (drop 2 words)

-- a delivery with its words, as a glance has them
abbrev pub kept_line : Glance → Delivery → List ℕ
kept_line g d = delivery_text d ++ kept_words (words_seen d (slot_in g (slot_of d.to))) ++ codes "\n"

-- a kernel's table has at most 1,024
abbrev pub recorded : List Delivery → List Delivery
recorded ds = take 1024 ds

-- THE LAST DELIVERIES, at most n of them
abbrev pub last_of : Glance → List Delivery → ℕ → List ℕ
last_of g ds n = flat_map (kept_line g) (drop (length (recorded ds) - n) (recorded ds))

abbrev pub last_lines : World → ℕ → List ℕ
last_lines w n = last_of (glance_of w) w.table.deliveries n
