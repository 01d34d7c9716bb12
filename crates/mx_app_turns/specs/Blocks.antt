-- What a sweep prints of positions (our own).
use Rattle.std.specs.Prelude.{ℕ, zero, suc, ◌+◌, ◌==◌, if◌then◌else◌, Bool, List, [], ◌∷◌, ◌++◌, Option, Some, None, codes, length}
use Rattle.std.specs.Fmt.{decimal}
use Rattle.std.specs.Option.{option_or}
use Rattle.std.specs.List.{flat_map}
use Rattle.std.specs.Str.{bytes_eq}
use Rattle.mx_app_turns.specs.declared.blocks.Block.{Block as Kept}

-- Positions in a row whose trials are printed alike, and the first of them that differs from the run without the
-- fault, if there is one.
pub record Positions : Type 0 where
  pub first : ℕ
  pub last : ℕ
  pub text : List ℕ
  pub differs : Option ℕ

abbrev pub head_text : ℕ → ℕ → List ℕ
head_text first last =
    if first == last then codes "position " ++ decimal first ++ codes "\n"
    else codes "positions " ++ decimal first ++ codes " to " ++ decimal last ++ codes "\n"

-- the mark of a block, by its first position that differs
abbrev pub mark_text : Option ℕ → List ℕ
mark_text None = []
mark_text (Some k) = codes "  not as without the fault, first at position " ++ decimal k ++ codes "\n"

abbrev pub block_text : Positions → List ℕ
block_text b = head_text b.first b.last ++ b.text ++ mark_text b.differs

-- the block of position k, whose text f has; `is` says whether a position is alike without the fault
abbrev pub block_at : (ℕ → List ℕ) → (ℕ → Bool) → ℕ → Positions
block_at f is k = record { first = k; last = k; text = f k; differs = if is k then None else Some k }

-- a block that goes on with another
abbrev pub longer : Positions → Positions → Positions
longer b next = record b { last = next.last; differs = option_or b.differs next.differs }

-- BLOCKS: the first, which is open at its end, and those of n more positions from k on
abbrev pub blocks_from : (ℕ → List ℕ) → (ℕ → Bool) → ℕ → ℕ → Positions → List Positions
blocks_from f is zero k b = b ∷ []
blocks_from f is (suc n) k b =
    if bytes_eq (f k) b.text then blocks_from f is n (k + 1) (longer b (block_at f is k))
    else b ∷ blocks_from f is n (k + 1) (block_at f is k)

-- those of n positions from k on
abbrev pub blocks : (ℕ → List ℕ) → (ℕ → Bool) → ℕ → ℕ → List Positions
blocks f is zero k = []
blocks f is (suc n) k = blocks_from f is n (k + 1) (block_at f is k)

-- how many of n positions from k on are so
abbrev pub count_of : (ℕ → Bool) → ℕ → ℕ → ℕ
count_of is zero k = 0
count_of is (suc n) k = (if is k then 1 else 0) + count_of is n (k + 1)

abbrev pub total_text : ℕ → ℕ → ℕ → List ℕ
total_text positions blocks alike =
    decimal positions ++ codes " positions, " ++ decimal blocks ++ codes " blocks, " ++ decimal alike
    ++ codes " as without the fault\n"

-- a block as the code has it
abbrev pub positions_of : Kept → Positions
positions_of b = record { first = b.first; last = b.last; text = b.text.items; differs = b.differs }

-- WHAT A SWEEP PRINTS of n positions from k on: the blocks, and how many positions, blocks and positions with no change
abbrev pub swept_text : (ℕ → List ℕ) → (ℕ → Bool) → ℕ → ℕ → List ℕ
swept_text f is n k = let bs = blocks f is n k in flat_map block_text bs ++ total_text n (length bs) (count_of is n k)
