use Rattle.std.proofs.Common.{◌≡◌, ◌∙◌, false, true, ap}
use Rattle.mx_proc.specs.declared.process.Process.{Process}
use Rattle.mx_proc.specs.States.{is_down}
use Rattle.mx_proc.proofs.TableLemmas.{alone_changed, down_alone, down_idle, the_process}
use Rattle.mx_proc.proofs.FrameLemmas.{put}
use Rattle.mx_proc.proofs.table.Table.take_image.Goals as goal

pub invariant_of-self : goal.invariant_of-self
invariant_of-self c =
    let q : Process = c.index_mut-process.result.now in
    let is = the_process _ _ c.args.slot q c.self.view_is c.requires.slot c.index_mut-process.ensures.value in
    let down : is_down q.state ≡ true = ap (λ (p : Process). is_down p.state) is ∙ c.requires.down in
    alone_changed _ _ c.args.slot q _ c.self.view_is c.self.invariant c.requires.slot c.index_mut-process.ensures.value (down_alone _ c.requires.down) (down_alone q.state down)
    (λ k. record { generation = k.generation; pending = k.pending; windows = k.windows; alarm = k.alarm; buffer = λ m. let f : false ≡ true = down_idle q.state down m in cc })

pub returns-clause-frame : goal.returns-clause-frame
returns-clause-frame c = put _ _ c.args.slot _ _ c.self.view_is c.requires.slot
