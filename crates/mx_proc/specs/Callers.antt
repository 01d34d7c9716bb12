-- The blocked sends: who sends, in order, to whom, and the caller queue of each slot.
use Rattle.std.specs.Prelude.{ℕ, ◌≡◌, ◌<◌, ◌≤◌, ◌==◌, nat_lt, List, filter, length, map, slice_index, slice_index_or}
use Rattle.mx_proc.specs.Queues.{list_at, tally, times}

-- each slot with the one that it sends to
abbrev pub pairs_of : List ℕ → List ℕ → List (ℕ × ℕ)
pairs_of to slots = map (λ s. (s, slice_index to s)) slots

-- those that send to d
abbrev pub senders_to : List ℕ → ℕ → List ℕ → List ℕ
senders_to to d slots = filter (λ s. slice_index to s == d) slots

-- The first list of `order` has all that send, once each, and each list of `callers` those that send to
-- that slot. Who sends to nobody has 255.
pub record AreCallers (to : List ℕ) (order callers : List (List ℕ)) (count : ℕ) : Type 0 where
  pub to_long : length to ≡ 32
  pub order_long : length order ≡ 1
  pub callers_long : length callers ≡ 32
  pub counted : count ≡ length (list_at order 0)
  pub each : (d : ℕ) → d < 32 → list_at callers d ≡ senders_to to d (list_at order 0)
  pub stands : (s : ℕ) → times s (list_at order 0) ≡ tally (nat_lt (slice_index_or to s 255) 32)
  pub nobody : (s : ℕ) → 32 ≤ slice_index_or to s 255 → slice_index_or to s 255 ≡ 255
