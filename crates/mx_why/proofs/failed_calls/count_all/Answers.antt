use Rattle.std.proofs.Common.{◌≡◌, ℕ, arith, subst}
use Rattle.std.specs.Prelude.{fold}
use Rattle.std.specs.List.{range_with_len}
use Rattle.mx_machine.specs.Machine.{world_of}
use Rattle.mx_why.specs.FailedCalls.{counted_in, counted_of}
use Rattle.mx_why.proofs.Rows.{next_folded}
use Rattle.mx_why.proofs.failed_calls.count_all.Goals as goal

pub loop-slot-preserved : goal.loop-slot-preserved
loop-slot-preserved c =
    next_folded (counted_of (world_of c.args.machine.now) c.args.transition.now) c.loop-slot.slot c.args.calls.now.items c.loop-slot.calls.items c.count_failed.new.calls.items
    c.loop-slot.invariant c.in_ok-count_failed.ensures

pub returns : goal.returns
unfolding counted_in
returns c =
    let all : c.loop-slot.slot ≡ 32 = omega arith in
    subst (λ (n : ℕ). c.loop-slot.calls.items ≡ fold (counted_of (world_of c.args.machine.now) c.args.transition.now) c.args.calls.now.items (range_with_len 0 n)) all c.loop-slot.invariant
