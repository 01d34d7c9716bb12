use Rattle.std.proofs.Common.{◌∙◌, ap, sym}
use Rattle.std.specs.Prelude.{option_map}
use Rattle.mx_machine.specs.History.{BootAndHistory, replay}
use Rattle.mx_machine.specs.Proc.Queues.{first_ready}
use Rattle.mx_machine.specs.Proc.TableState.{TableState}
use Rattle.mx_explore.specs.declared.offers.Offer.TheVariants.{Take}
use Rattle.mx_explore.proofs.PassageLemmas.{take_now}
use Rattle.mx_explore.proofs.offers.open_take.Goals as goal

pub returns-in_err-slot : goal.returns-in_err-slot
returns-in_err-slot c =
    let first = c.pick.ensures.value ∙ ap (λ (t : TableState). first_ready t.ready) (c.table.ensures ∙ ap (λ (k : BootAndHistory). (replay k).table) c.kernel.ensures) in
    c.from_residual.ensures ∙ ap (option_map (λ s. Take c.args.cpu s)) (sym c.in_err-slot.was) ∙ take_now c.args.machine.now c.args.cpu c.slot_on.result c.pick.result c.slot_on.ensures (sym c.is_some.ensures ∙ c.if-is_some.false) first

pub returns : goal.returns
returns c =
    let first = c.pick.ensures.value ∙ ap (λ (t : TableState). first_ready t.ready) (c.table.ensures ∙ ap (λ (k : BootAndHistory). (replay k).table) c.kernel.ensures) in
    ap (option_map (λ s. Take c.args.cpu s)) (sym c.in_ok-slot.was) ∙ take_now c.args.machine.now c.args.cpu c.slot_on.result c.pick.result c.slot_on.ensures (sym c.is_some.ensures ∙ c.if-is_some.false) first
