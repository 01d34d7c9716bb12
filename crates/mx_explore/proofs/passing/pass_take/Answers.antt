use Rattle.std.proofs.Common.{false, sym}
use Rattle.mx_explore.specs.Passages.{standing}
use Rattle.mx_explore.specs.Passing.{TakeBy}
use Rattle.mx_explore.proofs.PassageLemmas.{stays_at, takes_at}
use Rattle.mx_explore.proofs.RunLemmas.{cpus_kept}
use Rattle.mx_explore.proofs.passing.pass_take.Goals as goal

pub returns-then-to_make-clause-passed : goal.returns-then-to_make-clause-passed
returns-then-to_make-clause-passed c coming =
    sym (takes_at c.args.machine.now coming c.args.start (standing c.args.schedule.now) (standing c.is_made.new.schedule) c.args.cpu c.open_take-opened.result c.in_ok-to_make.to_make c.offer.result c.offer.new.machine
    c.open_take-opened.ensures c.in_ok-to_make.ensures c.if-to_make.true c.offer.ensures.offered)

pub returns-else-to_make-clause-passed : goal.returns-else-to_make-clause-passed
returns-else-to_make-clause-passed c coming =
    sym (stays_at c.args.machine.now coming c.args.start (standing c.args.schedule.now) (standing c.is_made.new.schedule) false (TakeBy c.args.cpu) c.open_take-opened.result c.in_ok-to_make.to_make
    c.open_take-opened.ensures c.in_ok-to_make.ensures c.if-to_make.false)

pub returns-then-to_make-clause-cpus : goal.returns-then-to_make-clause-cpus
returns-then-to_make-clause-cpus c = cpus_kept c.args.machine.now c.offer.new.machine _ _ c.offer.ensures.offered
