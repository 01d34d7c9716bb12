use Rattle.std.proofs.Common.{◌∙◌, ◌+◌, Option, None, refl, ap}
use Rattle.std.proofs.lemmas.List.{length-replicate}
use Rattle.mx_machine.specs.World.{HeldProcess}
use Rattle.mx_machine.proofs.ReplayLemmas.{actors-is}
use Rattle.mx_machine.proofs.kernel.Kernel.actors.Goals as goal

pub returns : goal.returns
returns c =
    let p = c.self.inside.processors in
    ap (λ n. p + n) c.others.ensures ∙ actors-is _ _ p _ _ c.self.view_is c.self.invariant refl (length-replicate {A = Option HeldProcess} p None)
