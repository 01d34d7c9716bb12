use Rattle.std.proofs.Common.{◌≡◌, ◌≤◌, ◌+◌, ◌∙◌, ap, length, List, ℕ, arith}
use Rattle.mx_mem.specs.Segment.{with_bytes_at, part}
use Rattle.mx_mem.proofs.Paged.{moved_more, overwritten_long, part_long}
use Rattle.mx_mem.proofs.segment.Segment.copy_from.Goals as goal

pub loop-done-preserved : goal.loop-done-preserved
loop-done-preserved c =
    let old = c.args.self.now in
    let source = c.args.source.now in
    let from = c.args.from in
    let to = c.args.to in
    let done = c.loop-done.done in
    let count = c.piece-both.result in
    let within : done + count ≤ c.args.count = omega (arith, c.piece-both.ensures.most, c.piece-mine.ensures.most, c.loop-done.invariant.within, c.loop-done-test.true) in
    let value : c.put_in_page.new.self ≡ with_bytes_at old to (part source from (done + count)) =
    c.put_in_page.ensures
    ∙ ap (with_bytes_at c.loop-done.self (to + done)) c.part_of_page.ensures
    ∙ ap (λ (l : List ℕ). with_bytes_at l (to + done) (part source (from + done) count)) c.loop-done.invariant.value
    ∙ moved_more old source from to done count (omega (arith, c.requires.to, within)) (omega (arith, c.requires.from, within)) in
    record {
      value = value;
      within = within;
      long = ap length value ∙ overwritten_long old to (part source from (done + count)) (omega (arith, c.requires.to, within, part_long source from (done + count) (omega (arith, c.requires.from, within))));
    }
