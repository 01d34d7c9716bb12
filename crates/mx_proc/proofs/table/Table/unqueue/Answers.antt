use Rattle.std.proofs.Common.{refl}
use Rattle.mx_proc.proofs.TableLemmas.{unlisted, ready_listed, ready_home}
use Rattle.mx_proc.proofs.FrameLemmas.{framed_home}
use Rattle.mx_proc.proofs.table.Table.unqueue.Goals as goal

pub remove-requires-clause-there : goal.remove-requires-clause-there
remove-requires-clause-there c = ready_listed _ _ c.args.slot _ c.self.view_is c.self.invariant c.requires.slot c.index_mut-process.ensures.value c.requires.ready

pub invariant_of-self : goal.invariant_of-self
invariant_of-self c = unlisted _ _ _ c.args.slot _ c.self.view_is c.self.invariant c.requires.slot c.index_mut-process.ensures.value c.requires.ready refl c.remove.ensures refl refl refl

pub returns-clause-frame : goal.returns-clause-frame
returns-clause-frame c = framed_home _ _ c.args.slot c.index_mut-process.result.now _ _ _ _ _ c.self.view_is c.requires.slot c.index_mut-process.ensures.value refl refl (ready_home _ c.requires.ready)
