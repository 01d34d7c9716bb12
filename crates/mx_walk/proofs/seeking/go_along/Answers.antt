use Rattle.mx_walk.proofs.Inside.{by_event}
use Rattle.mx_walk.proofs.seeking.go_along.Goals as goal

pub returns-else-at-most-clause-gone : goal.returns-else-at-most-clause-gone
returns-else-at-most-clause-gone g c =
    let m = c.args.machine.now in
    by_event (g.M.Mark.marks c.args.mark.now) m.kernel.boot c.args.records.now c.args.at c.args.to c.go_past.new.machine c.go_past.result c.requires.there.position c.requires.to c.requires.earlier c.go_past.ensures.gone
