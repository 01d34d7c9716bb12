use Rattle.std.proofs.Common.{◌∙◌, ap, sym, subst}
use Rattle.mx_ipc.specs.Proc.declared.process.Process.{Process}
use Rattle.mx_ipc.specs.Proc.States.{IsAlone}
use Rattle.mx_respawn.specs.Death.{receives_from_alone}
use Rattle.mx_respawn.proofs.DeathLemmas.{woken_goes}
use Rattle.mx_respawn.proofs.death.wake.Goals as goal

pub returns-then-names-clause-value : goal.returns-then-names-clause-value
returns-then-names-clause-value c = woken_goes c.args.table.now c.go_on.new.table c.args.slot c.args.other c.bits.result c.if-other-slot.true
    (ap (λ (p : Process). receives_from_alone p.state c.args.slot) (sym c.process.ensures.value) ∙ sym c.names.ensures.value ∙ c.if-names.true)
    (subst (λ (p : Process). IsAlone p.state) c.process.ensures.value (c.names.ensures.alone c.if-names.true)) c.go_on.ensures.value c.bits.ensures
