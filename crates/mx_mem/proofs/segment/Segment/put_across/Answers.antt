use Rattle.std.proofs.Common.{◌≡◌, ◌≤◌, ◌+◌, ◌-◌, ◌∙◌, ap, length, take, drop, List, ℕ, arith}
use Rattle.std.proofs.lemmas.List.{length-take-le}
use Rattle.mx_mem.specs.Segment.{with_bytes_at, part}
use Rattle.mx_mem.proofs.Paged.{overwritten_more, overwritten_long}
use Rattle.mx_mem.proofs.segment.Segment.put_across.Goals as goal

pub loop-done-preserved : goal.loop-done-preserved
loop-done-preserved c =
    let old = c.args.self.now in
    let bytes = c.args.bytes.now in
    let at = c.args.at in
    let done = c.loop-done.done in
    let count = c.piece-count.result in
    let whole : done + count - done ≡ count = omega arith in
    let within : done + count ≤ length bytes = omega (arith, c.piece-count.ensures.most, c.loop-done.invariant.within, c.loop-done-test.true) in
    let value : c.put_in_page.new.self ≡ with_bytes_at old at (take (done + count) bytes) =
    c.put_in_page.ensures
    ∙ ap (λ (n : ℕ). with_bytes_at c.loop-done.self (at + done) (take n (drop done bytes))) whole
    ∙ ap (λ (l : List ℕ). with_bytes_at l (at + done) (part bytes done count)) c.loop-done.invariant.value
    ∙ overwritten_more old bytes at done count (omega (arith, c.requires, within)) within in
    record {
      value = value;
      within = within;
      long = ap length value ∙ overwritten_long old at (take (done + count) bytes) (omega (arith, c.requires, within, length-take-le (done + count) bytes within));
    }
