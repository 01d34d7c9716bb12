use Rattle.mx_walk.proofs.Changed.{changed_by_step}
use Rattle.mx_walk.proofs.watching.ByteChangeMark.steps_are_marked.Goals as goal

pub returns : goal.returns
returns c = λ mark w a l o h. changed_by_step mark.place w a l o h
