use Rattle.std.proofs.Common.{refl}
use Rattle.mx_proc.proofs.TableLemmas.{state_set}
use Rattle.mx_proc.proofs.FrameLemmas.{framed_home}
use Rattle.mx_proc.proofs.table.Table.set_state.Goals as goal

pub invariant_of-self : goal.invariant_of-self
invariant_of-self c = state_set _ _ c.args.slot _ c.args.state c.self.view_is c.self.invariant c.requires.slot c.index_mut-process.ensures.value c.requires.alone c.requires.still c.requires.inside

pub returns-clause-frame : goal.returns-clause-frame
returns-clause-frame c = framed_home _ _ c.args.slot c.index_mut-process.result.now _ _ _ _ _ c.self.view_is c.requires.slot c.index_mut-process.ensures.value refl c.requires.stays c.requires.home
