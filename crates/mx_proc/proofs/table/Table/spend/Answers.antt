use Rattle.std.proofs.Common.{refl, sym, subst, arith}
use Rattle.mx_proc.specs.declared.process.Process.{Process}
use Rattle.mx_proc.specs.States.{IsAlone}
use Rattle.mx_proc.proofs.TableLemmas.{the_process, alone_changed}
use Rattle.mx_proc.proofs.FrameLemmas.{put}
use Rattle.mx_proc.proofs.table.Table.spend.Goals as goal

pub invariant_of-self : goal.invariant_of-self
invariant_of-self c =
    let q = c.index_mut-process.result.now in
    let home : IsAlone q.state = subst (λ (p : Process). IsAlone p.state) (sym (the_process _ _ c.args.slot q c.self.view_is c.requires.slot c.index_mut-process.ensures.value)) (rw c.requires.home (refl, refl)) in
    alone_changed _ _ c.args.slot q _ c.self.view_is c.self.invariant c.requires.slot c.index_mut-process.ensures.value (rw c.requires.home (refl, refl)) home
    (λ k. record { generation = k.generation; pending = k.pending; windows = k.windows; alarm = k.alarm; buffer = k.buffer })

pub returns-clause-frame : goal.returns-clause-frame
returns-clause-frame c = put _ _ c.args.slot _ _ c.self.view_is c.requires.slot
