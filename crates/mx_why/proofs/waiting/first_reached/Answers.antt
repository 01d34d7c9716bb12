use Rattle.std.proofs.Common.{◌≡◌, ◌∙◌, ◌<◌, length, false, arith}
use Rattle.std.proofs.Math.ListN.{length-set}
use Rattle.std.proofs.lemmas.List.FromFn.{fill_by_all}
use Rattle.mx_why.specs.Waiting.{first_reached, wakes_from_outside}
use Rattle.mx_look.proofs.Filled.{filled_more}
use Rattle.mx_why.proofs.waiting.first_reached.Goals as goal

pub loop-slot-preserved : goal.loop-slot-preserved
loop-slot-preserved c =
    let inv = c.loop-slot.invariant in
    let within : c.loop-slot.slot < length c.loop-slot.reached = omega (arith, inv.long) in
    record {
      long = length-set c.loop-slot.reached c.loop-slot.slot c.wakes_from_outside.result ∙ inv.long;
      filled = filled_more (wakes_from_outside c.args.end.now) c.loop-slot.reached c.loop-slot.slot c.wakes_from_outside.result false within c.wakes_from_outside.ensures inv.filled;
    }

pub returns : goal.returns
unfolding first_reached
returns c =
    let inv = c.loop-slot.invariant in
    let all : c.loop-slot.slot ≡ 32 = omega arith in
    fill_by_all (wakes_from_outside c.args.end.now) c.loop-slot.reached 32 false inv.long (λ k b. inv.filled k (omega arith))
