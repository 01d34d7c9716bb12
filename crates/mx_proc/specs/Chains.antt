-- Lists of slots that are linked by index. No slot has the number 255.
use Rattle.std.specs.Prelude.{ℕ, zero, suc, ◌≡◌, ◌<◌, ◌≤◌, ◌==◌, List, [], ◌∷◌, ◌++◌, length, map, slice_index}
use Rattle.std.specs.Prelude.{slice_set, slice_index_or, take, drop, if◌then◌else◌}
use Rattle.mx_proc.specs.Queues.{list_at, times}

-- from a place on, the links lead along these slots, and then to none
abbrev pub IsChain : List ℕ → ℕ → List ℕ → Type 0
IsChain nexts at [] = at ≡ 255
IsChain nexts at (x ∷ xs) = (at ≡ x) × (x < 32) × IsChain nexts (slice_index nexts x) xs

-- the slots along the links, at most n of them
abbrev pub chain : ℕ → List ℕ → ℕ → List ℕ
chain zero nexts at = []
chain (suc n) nexts at = if at == 255 then [] else at ∷ chain n nexts (slice_index nexts at)

-- the list that begins with each first slot
abbrev pub chains : List ℕ → List ℕ → List (List ℕ)
chains nexts firsts = map (λ at. chain (length nexts) nexts at) firsts

-- a list the other way round
abbrev pub turned : List ℕ → List ℕ
turned [] = []
turned (x ∷ xs) = turned xs ++ x ∷ []

-- One way through lists, as it is seen: the slot that each list begins with, and the next of each slot.
pub record WayState : Type 0 where
  pub firsts : List ℕ
  pub nexts : List ℕ

-- in cells: at most 32 for the lists, and from the 32nd on one for each slot
abbrev pub way_of : ℕ → List ℕ → WayState
way_of count cells = record { firsts = take count cells; nexts = drop 32 cells }

-- A number of lists: the first of each with the links forward, and the last of each with the links backward,
-- are those of these lists, and no slot is in them twice.
pub record Linked (count : ℕ) (nexts prevs firsts lasts : List ℕ) (lists : List (List ℕ)) : Type 0 where
  pub nexts_long : length nexts ≡ 32
  pub prevs_long : length prevs ≡ 32
  pub firsts_long : length firsts ≡ count
  pub lasts_long : length lasts ≡ count
  pub lists_long : length lists ≡ count
  pub forward : (l : ℕ) → IsChain nexts (slice_index_or firsts l 255) (list_at lists l)
  pub backward : (l : ℕ) → IsChain prevs (slice_index_or lasts l 255) (turned (list_at lists l))
  pub once : (s l : ℕ) → times s (list_at lists l) ≤ 1
  pub apart : (s l k : ℕ) → 1 ≤ times s (list_at lists l) → 1 ≤ times s (list_at lists k) → l ≡ k

-- the firsts and the links if the slot `after` comes after `before`, or begins a list
abbrev pub firsts_with : List ℕ → ℕ → ℕ → ℕ → List ℕ
firsts_with firsts list before after = if before == 255 then slice_set firsts list after else firsts

abbrev pub nexts_with : List ℕ → ℕ → ℕ → List ℕ
nexts_with nexts before after = if before == 255 then nexts else slice_set nexts before after
