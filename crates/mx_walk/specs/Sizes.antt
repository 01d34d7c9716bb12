-- What checkpoints take of memory, and how many there may be (our own).
use Rattle.std.specs.Prelude.{ℕ, ◌+◌, ◌*◌, ◌/◌, length, map, min}
use Rattle.std.specs.List.{range_with_len, sum_by}
use Rattle.mx_exec.specs.declared.image.Code.{Code}
use Rattle.mx_exec.specs.declared.image.Code.TheVariants.{Separate, Shared}
use Rattle.mx_exec.specs.declared.image.Image.{Image}
use Rattle.mx_machine.specs.Proc.TableState.{process_at}
use Rattle.mx_machine.specs.World.{World}

-- a segment of n bytes: its pages of 4,096, each with 32 for its place in the list of pages and for its allocation
abbrev pub segment_bytes : ℕ → ℕ
segment_bytes n = (n / 4096 + 1) * 4128

abbrev pub text_bytes : Code → ℕ
text_bytes (Separate text) = segment_bytes (length text)
text_bytes Shared = 0

abbrev pub image_bytes : Image → ℕ
image_bytes m = segment_bytes (length m.memory) + text_bytes m.code

-- a slot, with the image of its process
abbrev pub slot_bytes : Image → ℕ
slot_bytes m = 4096 + image_bytes m

abbrev pub image_at : World → ℕ → Image
image_at w s = (process_at w.table s).image

-- WHAT A CHECKPOINT TAKES, in bytes: the table, and each slot
abbrev pub checkpoint_bytes : World → ℕ
checkpoint_bytes w = 65536 + sum_by slot_bytes (map (image_at w) (range_with_len 0 (length w.table.slots)))

-- as many checkpoints of n bytes as 256 MiB hold, and at most 63
abbrev pub most_of : ℕ → ℕ
most_of n = min 63 (268435456 / n)

-- HOW MANY CHECKPOINTS there may be
abbrev pub most_checkpoints : World → ℕ
most_checkpoints w = most_of (checkpoint_bytes w)
