use Rattle.std.proofs.Common.{◌∙◌, [], ap, sym}
use Rattle.mx_machine.specs.World.{World}
use Rattle.mx_walk.proofs.AtBoot.{nothing_out, replay_booted}
use Rattle.mx_walk.proofs.booting.boot.Goals as goal

pub new-requires-2 : goal.new-requires-2
new-requires-2 c = nothing_out c.in_ok-kernel.kernel c.args.config.now c.args.services.items c.in_ok-kernel.ensures.booted

pub returns-clause-world : goal.returns-clause-world
returns-clause-world c = c.new-2.ensures.world ∙ replay_booted c.in_ok-kernel.kernel c.args.config.now c.args.services.items c.in_ok-kernel.ensures.booted

pub returns-clause-kernel : goal.returns-clause-kernel
returns-clause-kernel c =
    c.new-2.ensures.kernel ∙ c.in_ok-kernel.ensures.booted
    ∙ ap (λ (w : World). record { boot = w; history = [] }) (sym (c.new-2.ensures.world ∙ replay_booted c.in_ok-kernel.kernel c.args.config.now c.args.services.items c.in_ok-kernel.ensures.booted))
