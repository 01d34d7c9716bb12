use Rattle.std.proofs.Common.{◌≡◌, ◌∙◌, ◌<◌, length, false, arith}
use Rattle.std.proofs.Math.ListN.{length-set}
use Rattle.std.proofs.lemmas.List.FromFn.{fill_by_all}
use Rattle.mx_why.specs.Waiting.{is_reached, next_reached}
use Rattle.mx_look.proofs.Filled.{filled_more}
use Rattle.mx_why.proofs.waiting.next_reached.Goals as goal

pub loop-slot-preserved : goal.loop-slot-preserved
loop-slot-preserved c =
    let inv = c.loop-slot.invariant in
    let within : c.loop-slot.slot < length c.loop-slot.next = omega (arith, inv.long) in
    record {
      long = length-set c.loop-slot.next c.loop-slot.slot c.is_reached.result ∙ inv.long;
      filled = filled_more (is_reached c.args.end.now c.args.reached.now) c.loop-slot.next c.loop-slot.slot c.is_reached.result false within c.is_reached.ensures inv.filled;
    }

pub returns : goal.returns
unfolding next_reached
returns c =
    let inv = c.loop-slot.invariant in
    let all : c.loop-slot.slot ≡ 32 = omega arith in
    fill_by_all (is_reached c.args.end.now c.args.reached.now) c.loop-slot.next 32 false inv.long (λ k b. inv.filled k (omega arith))
