use Rattle.std.proofs.Common.{refl}
use Rattle.mx_proc.proofs.TableLemmas.{alone_changed}
use Rattle.mx_proc.proofs.FrameLemmas.{put}
use Rattle.mx_proc.proofs.table.Table.lend_into.Goals as goal

pub invariant_of-self : goal.invariant_of-self
invariant_of-self c = alone_changed _ _ c.args.slot c.index_mut-process.result.now _ c.self.view_is c.self.invariant c.requires.slot c.index_mut-process.ensures.value (rw c.requires.home (refl, refl)) (refl, refl) (λ k. record { generation = k.generation; pending = k.pending; windows = k.windows; alarm = k.alarm; buffer = λ m. cc })

pub returns-clause-frame : goal.returns-clause-frame
returns-clause-frame c = put _ _ c.args.slot _ _ c.self.view_is c.requires.slot
