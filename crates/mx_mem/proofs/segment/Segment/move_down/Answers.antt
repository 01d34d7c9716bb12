use Rattle.std.proofs.Common.{◌≡◌, ◌≤◌, ◌+◌, ◌∙◌, ap, length, arith}
use Rattle.mx_mem.specs.Segment.{with_bytes_at, part}
use Rattle.mx_mem.proofs.Paged.{down_more, overwritten_long, part_long}
use Rattle.mx_mem.proofs.segment.Segment.move_down.Goals as goal

pub loop-done-preserved : goal.loop-done-preserved
loop-done-preserved c =
    let old = c.args.self.now in
    let from = c.args.from in
    let to = c.args.to in
    let done = c.loop-done.done in
    let count = c.piece-both.result in
    let within : done + count ≤ c.args.count = omega (arith, c.piece-both.ensures.most, c.piece-there.ensures.most, c.loop-done.invariant.within, c.loop-done-test.true) in
    let inside : from + done + count ≤ length old = omega (arith, within, c.requires.inside) in
    let value : c.move_piece.new.self ≡ with_bytes_at old to (part old from (done + count)) =
    down_more old c.loop-done.self c.move_piece.new.self from to done count c.loop-done.invariant.value c.requires.order inside c.move_piece.ensures.value in
    record {
      value = value;
      within = within;
      long = ap length value ∙ overwritten_long old to (part old from (done + count)) (omega (arith, c.requires.order, inside, part_long old from (done + count) (omega (arith, inside))));
      buffer = c.move_piece.ensures.buffer ∙ c.loop-done.invariant.buffer;
    }
