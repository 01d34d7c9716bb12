use Rattle.std.proofs.Common.{◌≡◌, ◌++◌, take}
use Rattle.std.specs.List.{flat_map}
use Rattle.mx_why.specs.Endings.{death_text}
use Rattle.mx_why.proofs.ends.push_each.Given as goal

-- the lines so far
abbrev pub invariant-loop-death : goal.invariant-loop-death
invariant-loop-death l = l.out.items ≡ l.initial.out.items ++ flat_map (death_text l.end l.notes) (take l.death-index l.deaths)
