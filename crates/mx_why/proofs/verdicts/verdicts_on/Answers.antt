use Rattle.std.proofs.Common.{◌≡◌, ◌∙◌, ◌<◌, length, None, arith}
use Rattle.std.proofs.Math.ListN.{length-set}
use Rattle.std.proofs.lemmas.List.FromFn.{fill_by_all}
use Rattle.mx_why.specs.Verdicts.{verdict, verdicts}
use Rattle.mx_look.proofs.Filled.{filled_more}
use Rattle.mx_why.proofs.verdicts.verdicts_on.Goals as goal

pub loop-slot-preserved : goal.loop-slot-preserved
loop-slot-preserved c =
    let inv = c.loop-slot.invariant in
    let within : c.loop-slot.slot < length c.loop-slot.said = omega (arith, inv.long) in
    record {
      long = length-set c.loop-slot.said c.loop-slot.slot c.in_ok-said.field-0 ∙ inv.long;
      filled = filled_more (verdict c.args.end.now) c.loop-slot.said c.loop-slot.slot c.in_ok-said.field-0 None within c.in_ok-said.ensures inv.filled;
    }

pub returns : goal.returns
unfolding verdicts
returns c =
    let inv = c.loop-slot.invariant in
    let all : c.loop-slot.slot ≡ 32 = omega arith in
    fill_by_all (verdict c.args.end.now) c.loop-slot.said 32 None inv.long (λ k b. inv.filled k (omega arith))
