use Rattle.std.proofs.Common.{◌≡◌, ◌∙◌, ◌<◌, length, None, arith}
use Rattle.std.proofs.Math.ListN.{length-set}
use Rattle.std.proofs.lemmas.List.FromFn.{fill_by_all}
use Rattle.mx_why.specs.Seeing.{seat_at, seats_of}
use Rattle.mx_look.proofs.Filled.{filled_more}
use Rattle.mx_why.proofs.seeing.seats_of.Goals as goal

pub loop-slot-preserved : goal.loop-slot-preserved
loop-slot-preserved c =
    let inv = c.loop-slot.invariant in
    let within : c.loop-slot.slot < length c.loop-slot.seats = omega (arith, inv.long) in
    record {
      long = length-set c.loop-slot.seats c.loop-slot.slot c.seat_at.result ∙ inv.long;
      filled = filled_more (seat_at c.args.table.now c.args.services.now) c.loop-slot.seats c.loop-slot.slot c.seat_at.result None within c.seat_at.ensures inv.filled;
    }

pub returns : goal.returns
unfolding seats_of
returns c =
    let inv = c.loop-slot.invariant in
    let all : c.loop-slot.slot ≡ 32 = omega arith in
    fill_by_all (seat_at c.args.table.now c.args.services.now) c.loop-slot.seats 32 None inv.long (λ k b. inv.filled k (omega arith))
