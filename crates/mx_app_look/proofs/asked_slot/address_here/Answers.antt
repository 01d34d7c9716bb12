use Rattle.std.proofs.Common.{◌∙◌, ap}
use Rattle.mx_machine.specs.World.{World}
use Rattle.mx_print_answers.specs.Slots.{address_asked}
use Rattle.mx_app_look.proofs.asked_slot.address_here.Goals as goal

pub returns : goal.returns
returns c = c.address_asked.ensures ∙ ap (λ (w : World). address_asked w c.args.slot c.args.asked.now) c.machine.ensures.world
