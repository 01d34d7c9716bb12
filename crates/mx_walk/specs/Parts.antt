-- How far a work is, as it is shown (our own).
use Rattle.std.specs.Prelude.{◌≡◌, ℕ, ◌+◌, ◌-◌, List, ◌++◌, length, map}
use Rattle.std.specs.List.{range_with_len}
use Rattle.mx_machine.specs.declared.history.Record.{Record}
use Rattle.mx_walk.specs.declared.positions.Position.{Position}
use Rattle.mx_walk.specs.declared.progress.Part.{Part}

-- one part more than i is done
abbrev pub part_after : ℕ → ℕ → Part
part_after all i = record { done = i + 1; all = all }

-- WHAT IS SHOWN of the first n parts of a work: after each, how many of all are done
abbrev pub parts_shown : ℕ → ℕ → List Part
parts_shown all n = map (part_after all) (range_with_len 0 n)

-- and of those after the first m
abbrev pub parts_between : ℕ → ℕ → ℕ → List Part
parts_between all m n = map (part_after all) (range_with_len m (n - m))

-- WHAT A WALK SHOWS from one position of a history to a later one: each record that it passes
abbrev pub walk_between : List Record → Position → Position → List Part
walk_between records p q = parts_between (length records) p.records q.records

-- and from the first position
abbrev pub walk_shown : List Record → Position → List Part
walk_shown records p = parts_shown (length records) p.records

-- what was shown, and perhaps more after it
abbrev pub HasGrown : List Part → List Part → Type 0
HasGrown before after = (more : List Part) × (after ≡ before ++ more)
