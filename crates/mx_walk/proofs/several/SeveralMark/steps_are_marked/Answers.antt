use Rattle.mx_machine.specs.declared.events.Event.TheVariants.{Step}
use Rattle.mx_machine.specs.Move.{with_held}
use Rattle.std.proofs.Common.{Some}
use Rattle.mx_walk.specs.Running.{with_out}
use Rattle.mx_walk.proofs.Many.{steps_as}
use Rattle.mx_walk.proofs.several.SeveralMark.steps_are_marked.Goals as goal

pub returns : goal.returns
returns g c = λ mark w a l o h.
    steps_as g.M.Mark.marks_step l o g.M.Mark.marks w (a, Step) (with_held w a (Some (with_out l o))) (λ m. c.steps_are_marked.ensures m w a l o h) mark.marks.items
