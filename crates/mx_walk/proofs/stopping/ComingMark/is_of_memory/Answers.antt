use Rattle.std.proofs.Common.{◌∙◌, ap, sym}
use Rattle.mx_walk.specs.Running.{with_out}
use Rattle.mx_walk.proofs.Elsewhere.{has_slot_of, not_true, stands_elsewhere}
use Rattle.mx_walk.proofs.stopping.ComingMark.is_of_memory.Goals as goal

pub returns : goal.returns
returns c = λ yes l o same kept.
    let ps = c.args.self.now.places.items in
    (stands_elsewhere ps c.args.slot (with_out l o) same (ap (has_slot_of c.args.slot) (sym c.as_slice.ensures.value) ∙ sym c.has_slot.ensures ∙ not_true c.has_slot.result yes), λ seen. seen)
