use Rattle.std.proofs.Common.{◌∙◌, ap, length, sym}
use Rattle.mx_machine.specs.History.{BootAndHistory, replay}
use Rattle.mx_machine.specs.Proc.TableState.{TableState}
use Rattle.mx_turns.proofs.TurnLemmas.{slots_now}
use Rattle.mx_explore.proofs.passing.slots_of.Goals as goal

pub returns : goal.returns
returns c =
    c.slot_count.ensures.value ∙ ap (λ (t : TableState). length t.slots) (c.table.ensures ∙ ap (λ (k : BootAndHistory). (replay k).table) c.kernel.ensures)
    ∙ sym (slots_now c.args.machine.now) ∙ sym c.sound.ensures.holds.served
