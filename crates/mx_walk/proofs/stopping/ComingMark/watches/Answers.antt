use Rattle.std.proofs.Common.{◌∙◌, ap, sym}
use Rattle.mx_walk.specs.Running.{with_out}
use Rattle.mx_walk.proofs.Elsewhere.{has_slot_of, stands_elsewhere}
use Rattle.mx_walk.proofs.stopping.ComingMark.watches.Goals as goal

pub returns : goal.returns
returns c = λ no l o same.
    let ps = c.args.self.now.places.items in
    stands_elsewhere ps c.args.slot (with_out l o) same (ap (has_slot_of c.args.slot) (sym c.as_slice.ensures.value) ∙ sym c.has_slot.ensures ∙ no)
