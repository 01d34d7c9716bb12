-- Where requests lead (our own).
use Rattle.std.specs.Prelude.{ℕ, zero, suc, ◌+◌, ◌-◌, ◌==◌, ◌&&◌, Bool, if◌then◌else◌}
use Rattle.mx_walk.specs.declared.destinations.PositionWord.{PositionWord}
use Rattle.mx_walk.specs.declared.destinations.PositionWord.TheVariants.{After, End}
use Rattle.mx_walk.specs.declared.positions.Position.{Position}
use Rattle.mx_walk.specs.Positions.{is_position, is_up_to, next_position, position_before}
use Rattle.mx_walk.specs.Walks.{Walk}

-- ---- by records

abbrev pub up_to_last : Walk → Position → Position
up_to_last k p = if is_up_to p k.last then p else k.last

-- the start of the nth record after here, at most the last position
abbrev pub forward_from : Walk → ℕ → Position
forward_from k n = if n == 0 then k.here else up_to_last k (record { records = k.here.records + n; steps = 0 })

-- the start of the record that one is in, or of the one before; n times
abbrev pub back_from : Walk → ℕ → Position
back_from k n =
    if n == 0 then k.here else record { records = k.here.records - (if k.here.steps == 0 then n else n - 1); steps = 0 }

-- ---- by events

-- n events on, at most to the last position
abbrev pub steps_on : ℕ → Walk → Position → Position
steps_on zero k p = p
steps_on (suc n) k p = if is_up_to k.last p then p else steps_on n k (next_position k.records p)

-- n events back, at most to the first position
abbrev pub steps_back : ℕ → Walk → Position → Position
steps_back zero k p = p
steps_back (suc n) k p = if (p.records == 0) && (p.steps == 0) then p else steps_back n k (position_before k.records p)

-- ---- to a position

abbrev pub position_asked : Walk → PositionWord → Position
position_asked k (After i j) = record { records = i; steps = j }
position_asked k End = k.last

-- the history has it, and the machine comes there
abbrev pub can_go : Walk → Position → Bool
can_go k p = is_position k.records p && is_up_to p k.last

-- where a walker is that was asked to go there
abbrev pub gone_to : Walk → PositionWord → Position
gone_to k p = if can_go k (position_asked k p) then position_asked k p else k.here
