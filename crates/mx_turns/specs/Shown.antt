-- How far turns are, as it is shown (our own).
use Rattle.std.specs.Prelude.{ℕ, ◌+◌, Bool, true, false, List, filter, map}
use Rattle.std.specs.List.{range_with_len}
use Rattle.mx_machine.specs.History.{world_after_events}
use Rattle.mx_machine.specs.World.{World}
use Rattle.mx_walk.specs.declared.progress.Part.{Part}
use Rattle.mx_turns.specs.declared.outside.OutsideLine.{OutsideLine}
use Rattle.mx_turns.specs.declared.turns.Ending.{Ending}
use Rattle.mx_turns.specs.declared.turns.Ending.TheVariants.{Rest, Turns, Full}
use Rattle.mx_turns.specs.Turns.{turns}

-- how many records the history of a world has, of so many that it may have
abbrev pub part_of : ℕ → World → Part
part_of log w = record { done = w.records; all = log }

-- turns ended since all are made, so a turn more can be made
abbrev pub goes_on : Ending → Bool
goes_on Rest = false
goes_on Turns = true
goes_on Full = false

-- whether a turn is made after the first k
abbrev pub goes_on_after : World → List OutsideLine → ℕ → Bool
goes_on_after w xs k = goes_on (turns k w xs).ending

-- what is shown after the turn that comes after the first k
abbrev pub part_after : ℕ → World → List OutsideLine → ℕ → Part
part_after log w xs k = part_of log (world_after_events w (turns (k + 1) w xs).made)

-- WHAT IS SHOWN of at most n turns: after each that is made, how many records the history has
abbrev pub turns_shown : ℕ → ℕ → World → List OutsideLine → List Part
turns_shown log n w xs = map (part_after log w xs) (filter (goes_on_after w xs) (range_with_len 0 n))
