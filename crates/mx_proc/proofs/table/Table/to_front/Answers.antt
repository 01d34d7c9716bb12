use Rattle.std.proofs.Common.{◌≡◌, false, sym, subst, refl}
use Rattle.mx_proc.proofs.TableLemmas.{listed}
use Rattle.mx_proc.specs.States.{is_ready}
use Rattle.mx_proc.specs.TableState.{TableState, process_at}
use Rattle.mx_proc.proofs.SoundLemmas.{alone_listed}
use Rattle.mx_proc.proofs.FrameLemmas.{framed_home}
use Rattle.mx_proc.proofs.table.Table.to_front.Goals as goal

pub push_front-requires-clause-absent : goal.push_front-requires-clause-absent
push_front-requires-clause-absent c = alone_listed _ c.args.slot c.self.invariant (subst (λ (x : TableState). is_ready (process_at x c.args.slot).state ≡ false) (sym c.self.view_is) c.requires.alone.0)

pub invariant_of-self : goal.invariant_of-self
invariant_of-self c =
    listed _ _ _ c.args.slot _ _ c.index_mut-process.result.now _ c.self.view_is c.self.invariant c.requires.slot c.index_mut-process.ensures.value c.requires.alone refl refl refl refl refl refl refl c.push_front.ensures refl refl refl (λ t. refl)

pub returns-clause-frame : goal.returns-clause-frame
returns-clause-frame c = framed_home _ _ c.args.slot c.index_mut-process.result.now _ _ _ _ _ c.self.view_is c.requires.slot c.index_mut-process.ensures.value refl refl c.requires.home
