use Rattle.std.proofs.Common.{◌∙◌, ap, length, sym}
use Rattle.mx_machine.specs.History.{BootAndHistory, replay}
use Rattle.mx_turns.proofs.TurnLemmas.{cpus_now}
use Rattle.mx_explore.proofs.passing.cpus_of.Goals as goal

pub returns : goal.returns
returns c = c.cpus.ensures ∙ ap (λ (k : BootAndHistory). length (replay k).cpus) c.kernel.ensures ∙ sym (cpus_now c.args.machine.now)
