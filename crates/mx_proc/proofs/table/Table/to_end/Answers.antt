use Rattle.std.proofs.Common.{◌≡◌, false, sym, subst, refl, ap, arith}
use Rattle.mx_proc.proofs.TableLemmas.{listed}
use Rattle.mx_proc.proofs.ListLemmas.{times-push}
use Rattle.mx_proc.specs.States.{is_ready}
use Rattle.mx_proc.specs.TableState.{TableState, process_at}
use Rattle.mx_proc.proofs.SoundLemmas.{alone_listed}
use Rattle.mx_proc.specs.Frame.{fixed_of}
use Rattle.mx_proc.specs.declared.process.Process.{Process}
use Rattle.mx_proc.specs.declared.process.Schedule.{Schedule}
use Rattle.mx_proc.specs.declared.process.State.TheVariants.{Ready}
use Rattle.mx_proc.proofs.FrameLemmas.{framed_home}
use Rattle.mx_proc.proofs.table.Table.to_end.Goals as goal

-- a process that is ready with this schedule
abbrev renewed_as : Process → Schedule → Process
renewed_as q x = record q { state = Ready; schedule = x }

pub push_back-requires-clause-absent : goal.push_back-requires-clause-absent
push_back-requires-clause-absent c = alone_listed _ c.args.slot c.self.invariant (subst (λ (x : TableState). is_ready (process_at x c.args.slot).state ≡ false) (sym c.self.view_is) c.requires.alone.0)

pub invariant_of-self : goal.invariant_of-self
invariant_of-self c =
    listed _ _ _ c.args.slot _ _ c.index_mut-process.result.now _ c.self.view_is c.self.invariant c.requires.slot c.index_mut-process.ensures.value c.requires.alone refl refl refl refl refl refl refl c.push_back.ensures refl refl refl (λ t. times-push t c.args.slot _)

pub returns-clause-frame : goal.returns-clause-frame
returns-clause-frame c =
    let q = c.index_mut-process.result.now in
    framed_home _ _ c.args.slot q _ _ _ _ _ c.self.view_is c.requires.slot c.index_mut-process.ensures.value
    (ap (λ x. fixed_of (renewed_as q x)) c.renew.ensures) refl c.requires.home
