use Rattle.std.proofs.Common.{◌∙◌, ap, sym}
use Rattle.mx_machine.specs.History.{BootAndHistory, replay}
use Rattle.mx_machine.specs.Rest.{at_rest}
use Rattle.mx_turns.proofs.TurnLemmas.{rest_now}
use Rattle.mx_app_live.proofs.session.is_at_rest.Goals as goal

pub returns : goal.returns
returns c = c.at_rest.ensures ∙ ap (λ (k : BootAndHistory). at_rest (replay k)) c.kernel.ensures ∙ sym (rest_now c.args.machine.now)
