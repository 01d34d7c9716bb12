use Rattle.std.proofs.Common.{◌∙◌, ap}
use Rattle.mx_machine.specs.World.{World}
use Rattle.mx_print_answers.specs.Slots.{image_in}
use Rattle.mx_app_look.proofs.showing.image_here.Goals as goal

pub returns : goal.returns
returns c = c.image_in.ensures ∙ ap (λ (w : World). image_in w c.args.slot) c.machine.ensures.world
