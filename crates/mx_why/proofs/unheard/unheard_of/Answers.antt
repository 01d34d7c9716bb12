use Rattle.std.proofs.Common.{◌≡◌, ◌∙◌, ◌<◌, length, None, arith}
use Rattle.std.proofs.Math.ListN.{length-set}
use Rattle.std.proofs.lemmas.List.FromFn.{fill_by_all}
use Rattle.mx_why.specs.Unheard.{unheard, unheard_at}
use Rattle.mx_look.proofs.Filled.{filled_more}
use Rattle.mx_why.proofs.unheard.unheard_of.Goals as goal

pub loop-slot-preserved : goal.loop-slot-preserved
loop-slot-preserved c =
    let inv = c.loop-slot.invariant in
    let within : c.loop-slot.slot < length c.loop-slot.found = omega (arith, inv.long) in
    record {
      long = length-set c.loop-slot.found c.loop-slot.slot c.unheard_at.result ∙ inv.long;
      filled = filled_more (unheard_at c.args.end.now c.args.notes.now) c.loop-slot.found c.loop-slot.slot c.unheard_at.result None within c.unheard_at.ensures inv.filled;
    }

pub returns : goal.returns
unfolding unheard
returns c =
    let inv = c.loop-slot.invariant in
    let all : c.loop-slot.slot ≡ 32 = omega arith in
    fill_by_all (unheard_at c.args.end.now c.args.notes.now) c.loop-slot.found 32 None inv.long (λ k b. inv.filled k (omega arith))
