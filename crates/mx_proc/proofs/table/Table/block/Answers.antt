use Rattle.std.proofs.Common.{◌≡◌, false, refl, sym, subst}
use Rattle.mx_proc.specs.TableState.{TableState, process_at}
use Rattle.mx_proc.specs.States.{is_sending}
use Rattle.mx_proc.proofs.SoundLemmas.{alone_waiting}
use Rattle.mx_proc.proofs.TableLemmas.{waiting, sending_home}
use Rattle.mx_proc.proofs.FrameLemmas.{framed_home}
use Rattle.mx_proc.proofs.table.Table.block.Goals as goal

pub push-requires-clause-absent : goal.push-requires-clause-absent
push-requires-clause-absent c = alone_waiting _ c.args.from c.self.invariant (subst (λ (w : TableState). is_sending (process_at w c.args.from).state ≡ false) (sym c.self.view_is) c.requires.alone.1)

pub invariant_of-self : goal.invariant_of-self
invariant_of-self c = waiting _ _ _ c.args.from c.args.to _ c.args.state c.self.view_is c.self.invariant c.requires.slot c.index_mut-process.ensures.value c.requires.to c.requires.apart c.requires.free c.requires.alone c.requires.still c.requires.sends c.requires.inside refl refl c.push.ensures refl refl

pub returns-clause-frame : goal.returns-clause-frame
returns-clause-frame c = framed_home _ _ c.args.from c.index_mut-process.result.now _ _ _ _ _ c.self.view_is c.requires.slot c.index_mut-process.ensures.value refl (sending_home c.args.state c.requires.sends) c.requires.home
