use Rattle.std.proofs.Common.{refl}
use Rattle.mx_proc.proofs.TableLemmas.{unwaiting, sending_waits, sending_home}
use Rattle.mx_proc.proofs.FrameLemmas.{framed_home}
use Rattle.mx_proc.proofs.table.Table.unblock.Goals as goal

pub remove-requires : goal.remove-requires
remove-requires c = sending_waits _ _ c.args.from c.self.view_is c.self.invariant c.requires.sends

pub invariant_of-self : goal.invariant_of-self
invariant_of-self c = unwaiting _ _ _ c.args.from _ c.self.view_is c.self.invariant c.requires.slot c.index_mut-process.ensures.value c.requires.sends refl refl c.remove.ensures refl refl

pub returns-clause-frame : goal.returns-clause-frame
returns-clause-frame c = framed_home _ _ c.args.from c.index_mut-process.result.now _ _ _ _ _ c.self.view_is c.requires.slot c.index_mut-process.ensures.value refl refl (sending_home _ c.requires.sends)
