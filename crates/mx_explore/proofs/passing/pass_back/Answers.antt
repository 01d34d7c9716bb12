use Rattle.std.proofs.Common.{sym}
use Rattle.mx_explore.specs.Passages.{standing}
use Rattle.mx_explore.specs.Passing.{BackBy}
use Rattle.mx_explore.proofs.PassageLemmas.{backs_at, stays_at}
use Rattle.mx_explore.proofs.RunLemmas.{cpus_kept}
use Rattle.mx_explore.proofs.passing.pass_back.Goals as goal

pub returns-then-to_make-clause-passed : goal.returns-then-to_make-clause-passed
returns-then-to_make-clause-passed c coming is_full =
    sym (backs_at c.args.machine.now coming c.args.start (standing c.args.schedule.now) (standing c.is_made.new.schedule) c.args.cpu c.open_back-opened.result c.in_ok-to_make.to_make is_full c.offer_run.new.machine
    c.open_back-opened.ensures c.in_ok-to_make.ensures c.if-to_make.true c.offer_run.ensures.offered)

pub returns-clause-passed : goal.returns-clause-passed
returns-clause-passed c coming is_full =
    sym (stays_at c.args.machine.now coming c.args.start (standing c.args.schedule.now) (standing c.is_made.new.schedule) is_full (BackBy c.args.cpu) c.open_back-opened.result c.in_ok-to_make.to_make
    c.open_back-opened.ensures c.in_ok-to_make.ensures c.if-to_make.false)

pub returns-then-to_make-clause-cpus : goal.returns-then-to_make-clause-cpus
returns-then-to_make-clause-cpus c = cpus_kept c.args.machine.now c.offer_run.new.machine _ _ c.offer_run.ensures.offered
