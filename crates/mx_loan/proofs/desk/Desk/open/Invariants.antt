use Rattle.std.proofs.Common.{◌≡◌, [], true, replicate, None}
use Rattle.mx_loan.specs.Seats.{new_seats}
use Rattle.mx_loan.proofs.desk.Desk.open.Given as goal

abbrev pub invariant-loop-actor : goal.invariant-loop-actor
invariant-loop-actor l = (l.seat.table_id ≡ l.table.shared.table_id) × (l.seat.me.1 ≡ []) × (l.seat.me.0.founding ≡ true) × (l.seat.me.0.made ≡ l.actor) × (l.seat.me.0.actors ≡ l.actors)
    × (l.seat.me.0.lent ≡ replicate l.cpus None) × (l.seat.me.0.history ≡ []) × (l.seats.items ≡ new_seats l.table.shared.table_id l.actor)
