use Rattle.mx_laws.proofs.RunLemmas.{kernels_agree}
use Rattle.mx_laws.proofs.diary_laws.kernels_agree.Goals as goal

pub returns : goal.returns
returns c =
    let k = c.args.first.now in
    let n = c.args.second.now in
    let h = c.facts.ensures in
    let g = c.facts-2.ensures in
    λ s t v u e f p d. kernels_agree k n s t v u
    (record { booted = h.booted; sound = h.history; leads = (c.histories_replay.ensures k h.accepted).world })
    (record { booted = g.booted; sound = g.history; leads = (c.histories_replay.ensures n g.accepted).world })
    e f p d
