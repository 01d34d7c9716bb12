use Rattle.mx_why.proofs.KernelStaying.{kernel_stays_waiting}
use Rattle.mx_why.proofs.never.kernels_keep_waiting.Goals as goal

pub returns : goal.returns
returns c =
    let k = c.args.kernel.now in
    let h = c.facts.ensures in
    kernel_stays_waiting k (record { booted = h.booted; sound = h.history; accepted = h.accepted; replays = c.histories_replay.ensures })
