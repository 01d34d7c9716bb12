use Rattle.std.proofs.Common.{◌<◌, refl, sym, ap, ◌∙◌, subst, length, length-set}
use Rattle.mx_proc.specs.TableState.{TableState}
use Rattle.mx_proc.proofs.SoundLemmas.{process-other}
use Rattle.mx_proc.proofs.TableLemmas.{kept_states}
use Rattle.mx_proc.proofs.table.Table.notice.Goals as goal

pub returns-clause-frame : goal.returns-clause-frame
returns-clause-frame c = c.log.ensures.frame ∙ c.receive.ensures.frame ∙ c.clear_pending-lines.ensures.frame

pub returns-clause-others : goal.returns-clause-others
returns-clause-others c = λ s n.
    process-other c.clear_pending-lines.new.self c.log.new.self c.args.slot s _ n (ap (λ (w : TableState). w.slots) c.log.ensures.value ∙ ap (λ (w : TableState). w.slots) c.receive.ensures.value)
    ∙ process-other c.args.self.now c.clear_pending-lines.new.self c.args.slot s _ n (ap (λ (w : TableState). w.slots) c.clear_pending-lines.ensures.value)

pub returns-clause-states : goal.returns-clause-states
returns-clause-states c = λ s.
    let cleared = ap (λ (w : TableState). w.slots) c.clear_pending-lines.ensures.value in
    let used : c.args.slot < length c.clear_pending-lines.new.self.slots = subst (λ k. c.args.slot < k) (sym (ap length cleared ∙ length-set c.args.self.now.slots _ _)) c.requires.slot in
    kept_states c.clear_pending-lines.new.self c.log.new.self c.args.slot _ used (ap (λ (w : TableState). w.slots) c.log.ensures.value ∙ ap (λ (w : TableState). w.slots) c.receive.ensures.value) refl s
    ∙ kept_states c.args.self.now c.clear_pending-lines.new.self c.args.slot _ c.requires.slot cleared refl s

pub returns-clause-used : goal.returns-clause-used
returns-clause-used c =
    ap (λ (w : TableState). length w.slots) c.log.ensures.value ∙ ap (λ (w : TableState). length w.slots) c.receive.ensures.value ∙ length-set c.clear_pending-lines.new.self.slots _ _
    ∙ ap (λ (w : TableState). length w.slots) c.clear_pending-lines.ensures.value ∙ length-set c.args.self.now.slots _ _

pub returns-clause-waits : goal.returns-clause-waits
returns-clause-waits c = ap (λ (w : TableState). w.waits) c.log.ensures.value ∙ ap (λ (w : TableState). w.waits) c.receive.ensures.value ∙ ap (λ (w : TableState). w.waits) c.clear_pending-lines.ensures.value
