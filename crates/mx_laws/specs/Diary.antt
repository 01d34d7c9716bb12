-- A diary: what happens to an image, written down as items, and played again.
use Rattle.std.specs.Prelude.{ℕ, ◌==◌, List, [], ◌∷◌, map, slice_set, slice_index_or, if◌then◌else◌}
use Rattle.mx_exec.specs.declared.image.Image.{Image}
use Rattle.mx_exec.specs.Image.{blank}
use Rattle.mx_exec.specs.Step.{one_step}
use Rattle.mx_mem.specs.Segment.{with_bytes_at}
use Rattle.mx_proc.specs.declared.process.Process.{Process}
use Rattle.mx_proc.specs.TableState.{TableState}

-- An item of a diary.
pub data Item : Type 0 where
  -- one step
  Ran : Item
  -- a result in EAX
  Result : (r : ℕ) → Item
  -- bytes at the place that EBX names
  Message : (bytes : List ℕ) → Item
  -- bytes of a copy at a place
  Copy : (place : ℕ) → (bytes : List ℕ) → Item

-- WHAT AN ITEM DOES to an image
abbrev pub image_after_item : Item → Image → Image
image_after_item Ran m = (one_step m).1
image_after_item (Result r) m = record m { regs = record m.regs { eax = r } }
image_after_item (Message bytes) m = record m { memory = with_bytes_at m.memory m.regs.ebx bytes }
image_after_item (Copy place bytes) m = record m { memory = with_bytes_at m.memory place bytes }

-- PLAY: the items of a diary in order, from an image on
abbrev pub play : List Item → Image → Image
play [] m = m
play (x ∷ xs) m = play xs (image_after_item x m)

-- items of several slots, played on the images of a table
abbrev pub play_all : List (ℕ × Item) → List Image → List Image
play_all [] ms = ms
play_all (x ∷ xs) ms = play_all xs (slice_set ms x.0 (image_after_item x.1 (slice_index_or ms x.0 blank)))

-- the items of one slot
abbrev pub items_for : ℕ → List (ℕ × Item) → List Item
items_for s [] = []
items_for s (x ∷ xs) = if x.0 == s then x.1 ∷ items_for s xs else items_for s xs

-- the images of a table
abbrev pub image_of : Process → Image
image_of p = p.image

abbrev pub images : TableState → List Image
images w = map image_of w.slots
