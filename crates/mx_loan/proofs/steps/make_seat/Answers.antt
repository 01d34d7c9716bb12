use Rattle.mx_loan.proofs.Moves.{births}
use Rattle.mx_loan.proofs.steps.make_seat.Goals as goal

pub split_seat-requires : goal.split_seat-requires
split_seat-requires c = (c.requires.table, c.requires.word, births _ _ c.requires.founding.0 c.requires.room)
