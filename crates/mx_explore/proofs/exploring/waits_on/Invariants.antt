use Rattle.std.proofs.Common.{◌≡◌, drop}
use Rattle.mx_explore.specs.Tree.{waits_on}
use Rattle.mx_explore.proofs.exploring.waits_on.Given as goal

abbrev pub invariant-loop-met : goal.invariant-loop-met
invariant-loop-met l = waits_on (drop l.met-index l.offers) ≡ waits_on l.offers
