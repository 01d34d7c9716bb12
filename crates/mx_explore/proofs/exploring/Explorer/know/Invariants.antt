use Rattle.std.proofs.Common.{◌≡◌}
use Rattle.mx_explore.specs.Exploring.{IsSame}
use Rattle.mx_explore.proofs.exploring.Explorer.know.Given as goal

-- only what is known changes
abbrev pub invariant-loop-at : goal.invariant-loop-at
invariant-loop-at l = record { same : IsSame l.fn.self l.self; tally : l.self.tally ≡ l.fn.self.tally }
