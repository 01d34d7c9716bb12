use Rattle.std.proofs.Common.{List, Option, length, ap}
use Rattle.mx_machine.specs.declared.holding.Out.{Out}
use Rattle.mx_machine.specs.World.{out_count}
use Rattle.mx_machine.proofs.DoneLemmas.{new-running, new-world}
use Rattle.mx_machine.proofs.machine.Machine.new.Goals as goal

pub invariant_of-result : goal.invariant_of-result
invariant_of-result c =
    let outs = c.no_outs-outs.ensures in
    new-running _ _ c.facts.ensures.few c.requires (ap (λ (os : List (Option Out)). out_count os) outs) (ap (λ (os : List (Option Out)). length os) outs)

pub returns-clause-world : goal.returns-clause-world
returns-clause-world c = new-world _ _ c.requires
