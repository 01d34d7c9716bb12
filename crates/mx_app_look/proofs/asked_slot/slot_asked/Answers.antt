use Rattle.std.proofs.Common.{◌∙◌, Option, ℕ, ap, sym}
use Rattle.mx_machine.specs.World.{World}
use Rattle.mx_print_answers.specs.Slots.{slot_named}
use Rattle.mx_app_look.specs.Slots.{slot_asked}
use Rattle.mx_app_look.proofs.asked_slot.slot_asked.Goals as goal

pub returns-in-Some : goal.returns-in-Some
returns-in-Some c =
    c.slot_named.ensures ∙ ap (λ (w : World). slot_named w c.in-Some.slot) c.machine.ensures.world
    ∙ ap (λ (o : Option ℕ). slot_asked c.args.walker.now o) (sym c.in-Some.is)
