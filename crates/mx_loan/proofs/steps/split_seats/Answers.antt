use Rattle.std.proofs.Common.{arith}
use Rattle.mx_loan.proofs.Moves.{splits}
use Rattle.mx_loan.proofs.steps.split_seats.Goals as goal

pub split_seat-requires : goal.split_seat-requires
split_seat-requires c = (c.requires.table, omega arith, splits _ _ c.requires.joined.0 c.requires.rest)
