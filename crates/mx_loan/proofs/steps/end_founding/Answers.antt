use Rattle.mx_loan.proofs.Moves.{founded}
use Rattle.mx_loan.proofs.steps.end_founding.Goals as goal

pub split_seat-spent-requires : goal.split_seat-spent-requires
split_seat-spent-requires c = (c.requires.table, c.requires.word, founded _ _ c.requires.founding.0)
