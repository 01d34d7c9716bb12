use Rattle.std.proofs.Common.{◌≡◌, ◌∙◌, ap, sym, subst}
use Rattle.mx_load.specs.Load.{IsLoadedFrom}
use Rattle.mx_ipc.specs.Proc.declared.process.Process.{Process}
use Rattle.mx_ipc.specs.Proc.Frame.{frame, frame_with_process}
use Rattle.mx_ipc.specs.Proc.TableState.{process_at, process_after}
use Rattle.mx_respawn.specs.Respawn.{next_process}
use Rattle.mx_respawn.proofs.RespawnLemmas.{next_is, respawned_is, reframed_twice, stands}
use Rattle.mx_respawn.proofs.respawning.respawn.Goals as goal

-- what is put into the slot
abbrev made : goal.After-revive → Process
made c = process_after (process_at c.take_image-image.new.self c.args.slot) c.refill.new.image c.args.service.now.terms

the_next : (c : goal.After-revive) → made c ≡ next_process (process_at c.args.table.now c.args.slot) c.args.service.now
the_next c = next_is c.args.table.now c.take_image-image.new.self c.args.slot c.refill.new.image c.args.service.now c.requires.slot c.take_image-image.ensures.value c.refill.ensures.image

pub returns-clause-value : goal.returns-clause-value
returns-clause-value c = respawned_is c.args.table.now c.take_image-image.new.self c.revive.new.self c.args.slot (made c) c.args.service.now
    c.take_image-image.ensures.value c.revive.ensures.value (the_next c)

pub returns-clause-frame : goal.returns-clause-frame
returns-clause-frame c = c.revive.ensures.frame ∙ ap (λ f. frame_with_process f c.args.slot (made c)) c.take_image-image.ensures.frame
    ∙ reframed_twice (frame c.args.table.now) c.args.slot (process_at c.take_image-image.new.self c.args.slot) (made c) ∙ ap (frame_with_process (frame c.args.table.now) c.args.slot) (the_next c)

pub returns-clause-from : goal.returns-clause-from
returns-clause-from c = subst (λ (p : Process). IsLoadedFrom p.image c.args.service.now.program)
    (sym (stands c.args.table.now c.take_image-image.new.self c.revive.new.self c.args.slot (made c) c.requires.slot c.take_image-image.ensures.value c.revive.ensures.value))
    c.refill.ensures.from
