use Rattle.std.proofs.Common.{ap, arith}
use Rattle.mx_loan.proofs.Moves.{joins}
use Rattle.mx_loan.proofs.steps.join_seats.Goals as goal

pub join_seat-requires : goal.join_seat-requires
join_seat-requires c =
    let k = ap (λ m. m.0) c.requires.kernel in
    let a = ap (λ m. m.0) c.requires.actor in
    (c.requires.table, c.requires.actor_table, ap (λ m. m.1) c.requires.actor, omega arith, joins _ _ _ _ (ap (λ v. v.knows) k) (ap (λ v. v.sits) k) (ap (λ v. v.knows) a) (ap (λ v. v.sits) a))
