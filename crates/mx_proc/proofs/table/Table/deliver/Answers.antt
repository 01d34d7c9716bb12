use Rattle.std.proofs.Common.{refl, ap, ◌∙◌, length, length-set}
use Rattle.mx_proc.specs.TableState.{TableState}
use Rattle.mx_proc.proofs.SoundLemmas.{process-other}
use Rattle.mx_proc.proofs.TableLemmas.{kept_states}
use Rattle.mx_proc.proofs.table.Table.deliver.Goals as goal

pub returns-clause-frame : goal.returns-clause-frame
returns-clause-frame c = c.log.ensures.frame ∙ c.receive.ensures.frame

pub returns-clause-others : goal.returns-clause-others
returns-clause-others c = λ s n. process-other c.args.self.now c.log.new.self c.args.to s _ n (ap (λ (w : TableState). w.slots) c.log.ensures.value ∙ ap (λ (w : TableState). w.slots) c.receive.ensures.value)

pub returns-clause-states : goal.returns-clause-states
returns-clause-states c = kept_states c.args.self.now c.log.new.self c.args.to _ c.requires.to (ap (λ (w : TableState). w.slots) c.log.ensures.value ∙ ap (λ (w : TableState). w.slots) c.receive.ensures.value) refl

pub returns-clause-used : goal.returns-clause-used
returns-clause-used c = ap (λ (w : TableState). length w.slots) c.log.ensures.value ∙ ap (λ (w : TableState). length w.slots) c.receive.ensures.value ∙ length-set c.args.self.now.slots _ _

pub returns-clause-waits : goal.returns-clause-waits
returns-clause-waits c = ap (λ (w : TableState). w.waits) c.log.ensures.value ∙ ap (λ (w : TableState). w.waits) c.receive.ensures.value
