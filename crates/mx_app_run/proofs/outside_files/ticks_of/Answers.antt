use Rattle.std.proofs.Common.{arith}
use Rattle.mx_app_run.proofs.RunLemmas.{ticks_more}
use Rattle.mx_app_run.proofs.outside_files.ticks_of.Goals as goal

pub loop-call-preserved : goal.loop-call-preserved
loop-call-preserved c = record {
  made = ticks_more c.args.calls.now c.loop-call.call-index _ c.loop-call.ticks c.tick_of-ticks.result c.loop-call-test.true c.loop-call.invariant.made c.tick_of-ticks.ensures.value;
  few = omega (arith, c.loop-call.invariant.few, c.tick_of-ticks.ensures.few);
}
