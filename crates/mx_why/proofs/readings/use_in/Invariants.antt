use Rattle.std.proofs.Common.{◌≡◌, ◌-◌}
use Rattle.mx_why.specs.Readings.{use_in}
use Rattle.mx_why.proofs.readings.use_in.Given as goal

-- what the other steps do from here is what all of them do
abbrev pub invariant-loop : goal.invariant-loop
invariant-loop l = use_in l.cell (l.steps - l.counter) l.image ≡ use_in l.cell l.steps l.initial.image
