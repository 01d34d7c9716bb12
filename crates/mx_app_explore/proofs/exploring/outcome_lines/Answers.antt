use Rattle.std.proofs.Common.{◌∙◌, None, ap}
use Rattle.mx_machine.specs.History.{BootAndHistory, replay}
use Rattle.mx_app_explore.proofs.FoundLemmas.{lines_made}
use Rattle.mx_app_explore.proofs.exploring.outcome_lines.Goals as goal

pub returns : goal.returns
returns c = λ t ran.
    lines_made t c.args.outcome.now c.args.ran.now ran None c.args.number c.services.result.now c.as_slice-2.result.now c.as_slice.result.now c.as_slice-3.result.now _ c.push_head.new.text.items c.push_departures.new.text.items _
    c.new-text.ensures.items (c.services.ensures ∙ ap (λ (k : BootAndHistory). (replay k).services) c.kernel.ensures) c.as_slice-2.ensures.value c.as_slice.ensures.value c.as_slice-3.ensures.value c.in_ok-push_head.ensures
    c.in_ok-push_departures.ensures c.in_ok-extend_from_slice.ensures.items
