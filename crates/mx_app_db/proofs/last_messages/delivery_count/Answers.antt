use Rattle.std.proofs.Common.{◌∙◌, sym, arith}
use Rattle.mx_machine.specs.History.{replay}
use Rattle.mx_app_db.proofs.LastOnes.{all_counted, few_counted, one_more}
use Rattle.mx_app_db.proofs.last_messages.delivery_count.Goals as goal

pub loop-count-preserved : goal.loop-count-preserved
loop-count-preserved c = one_more (replay c.args.kernel.now).table.deliveries c.loop-count.count _ (sym c.message.ensures ∙ c.in-Some.is)

pub returns-in-None-clause-count : goal.returns-in-None-clause-count
returns-in-None-clause-count c = few_counted 1024 c.loop-count.count (replay c.args.kernel.now).table.deliveries c.loop-count-test.true c.loop-count.invariant (sym c.message.ensures ∙ c.in-None.is)

pub returns-clause-count : goal.returns-clause-count
returns-clause-count c =
    all_counted 1024 1024 (replay c.args.kernel.now).table.deliveries (omega arith) (omega arith) (omega (arith, c.loop-count.invariant, c.loop-count-test.false))
