use Rattle.std.proofs.Common.{◌≡◌, List, ap, arith}
use Rattle.mx_machine.specs.declared.config.ServiceLine.{ServiceLine}
use Rattle.mx_why.specs.Unfit.{unfit_at, unfit_masks}
use Rattle.mx_why.proofs.Rows.{next_row, all_rows}
use Rattle.mx_why.proofs.unfit.push_unfit_masks.Goals as goal

pub loop-slot-preserved : goal.loop-slot-preserved
loop-slot-preserved c =
    next_row (unfit_at c.args.config.now.rules c.args.config.now.lines) c.loop-slot.slot c.args.found.now.items c.loop-slot.found.items c.push_unfit_at.new.found.items _ c.loop-slot.invariant c.in_ok-push_unfit_at.ensures (ap (λ (ls : List ServiceLine). unfit_at c.args.config.now.rules ls c.loop-slot.slot) c.as_slice-lines.ensures)

pub returns : goal.returns
unfolding unfit_masks
returns c =
    let all : c.loop-slot.slot ≡ 32 = omega arith in
    all_rows (unfit_at c.args.config.now.rules c.args.config.now.lines) c.loop-slot.slot 32 c.args.found.now.items c.loop-slot.found.items all c.loop-slot.invariant
