use Rattle.std.proofs.Common.{◌∙◌, ℕ, Option, ap, sym}
use Rattle.mx_machine.specs.declared.events.Event.{Event}
use Rattle.mx_machine.specs.Machine.{world_of}
use Rattle.mx_walk.specs.Halting.{is_left_next}
use Rattle.mx_walk.proofs.halting.is_left_next.Goals as goal

pub returns-in-Some : goal.returns-in-Some
returns-in-Some c =
    let w = world_of c.args.machine.now in
    c.leaves_any.ensures w ∙ ap (λ (o : Option (ℕ × Event)). is_left_next c.args.places.now w o) (sym c.in-Some.ensures.0)
