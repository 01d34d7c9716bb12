use Rattle.std.proofs.Common.{◌∙◌}
use Rattle.mx_machine.proofs.ReplayLemmas.{rest_same}
use Rattle.mx_machine.proofs.kernel.Kernel.at_rest.Goals as goal

pub returns : goal.returns
returns c = c.at_rest.ensures ∙ rest_same _ _ _ _ c.self.view_is c.self.invariant
