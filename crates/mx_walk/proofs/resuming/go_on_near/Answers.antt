use Rattle.std.proofs.Common.{◌<◌, arith}
use Rattle.mx_walk.proofs.Next.{up_to_of}
use Rattle.mx_walk.proofs.Walking.{at_most_one}
use Rattle.mx_walk.proofs.resuming.go_on_near.Goals as goal

pub go_on_by-near-requires-clause-later : goal.go_on_by-near-requires-clause-later
go_on_by-near-requires-clause-later g c = up_to_of c.args.way.from c.near_before-by.result (c.is_up_to.ensures.no c.if-is_up_to.false)

pub returns-clause-stock : goal.returns-clause-stock
returns-clause-stock g c =
    let s = c.requires.stock in
    let spare = s.spare in
    let some : 0 < c.args.stock.most = omega (arith, c.if-stock-eq0.false) in
    let one = at_most_one c.go_on_by-near.result.1 in
    record {
      along = s.along;
      near = c.go_on_by-near.ensures.stored;
      most = s.most;
      few = omega (arith, spare, some, one);
      spare = spare;
    }
