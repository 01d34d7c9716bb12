use Rattle.std.proofs.Common.{refl}
use Rattle.mx_proc.proofs.TableLemmas.{alarm_set}
use Rattle.mx_proc.proofs.FrameLemmas.{framed}
use Rattle.mx_proc.proofs.table.Table.set_alarm.Goals as goal

pub invariant_of-self : goal.invariant_of-self
invariant_of-self c = alarm_set _ _ c.args.slot c.index_mut-process.result.now _ c.self.view_is c.self.invariant c.requires.slot c.index_mut-process.ensures.value c.requires.due

pub returns-clause-frame : goal.returns-clause-frame
returns-clause-frame c = framed _ _ c.args.slot c.index_mut-process.result.now _ _ _ _ _ c.self.view_is c.index_mut-process.ensures.value refl refl
