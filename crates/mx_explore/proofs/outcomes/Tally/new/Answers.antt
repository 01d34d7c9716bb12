use Rattle.std.proofs.Common.{refl}
use Rattle.mx_explore.proofs.TallyLemmas.{nothing_counted}
use Rattle.mx_explore.proofs.outcomes.Tally.new.Goals as goal

pub returns : goal.returns
returns c = nothing_counted _ refl c.new.ensures.items
