use Rattle.mx_laws.proofs.RunLemmas.{kernel_law}
use Rattle.mx_laws.proofs.diary_laws.kernels_tell_images.Goals as goal

pub returns : goal.returns
returns c =
    let k = c.args.kernel.now in
    let h = c.facts.ensures in
    λ s v e. kernel_law k s v (record { booted = h.booted; sound = h.history; leads = (c.histories_replay.ensures k h.accepted).world }) e
