use Rattle.std.proofs.Common.{◌≡◌, ◌∙◌, ◌&&◌, ◌==◌, ap, is_none, sym}
use Rattle.mx_machine.specs.History.{BootAndHistory, replay}
use Rattle.mx_machine.specs.Machine.{MachineState, world_of}
use Rattle.mx_machine.specs.Proc.Queues.{first_ready}
use Rattle.mx_machine.specs.Rest.{at_rest, down_are_worn}
use Rattle.mx_machine.proofs.MachineLemmas.{held_now-count}
use Rattle.mx_why.proofs.seeing.is_at_rest.Goals as goal

rest_now : (m : MachineState) → at_rest (world_of m) ≡ at_rest (replay m.kernel)
unfolding world_of at_rest
rest_now m =
    let w = replay m.kernel in
    ap (λ n. is_none (first_ready w.table.ready) && (n == 0) && down_are_worn w.table.slots w.services) (held_now-count w.cpus m.outs)

pub returns : goal.returns
returns c = c.at_rest.ensures ∙ ap (λ (k : BootAndHistory). at_rest (replay k)) c.kernel.ensures ∙ sym (rest_now c.args.machine.now)
