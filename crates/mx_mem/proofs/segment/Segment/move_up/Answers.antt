use Rattle.std.proofs.Common.{◌≡◌, ◌≤◌, ◌+◌, ◌-◌, ◌∙◌, ap, length, ℕ, arith}
use Rattle.mx_mem.specs.Segment.{with_bytes_at, part}
use Rattle.mx_mem.proofs.Paged.{up_more, overwritten_long, part_long}
use Rattle.mx_mem.proofs.segment.Segment.move_up.Goals as goal

pub loop-left-preserved : goal.loop-left-preserved
loop-left-preserved c =
    let old = c.args.self.now in
    let from = c.args.from in
    let to = c.args.to in
    let count = c.args.count in
    let left = c.loop-left.left in
    let n = c.piece_before-both.result in
    let rest = left - n in
    let most : n ≤ left = omega (arith, c.piece_before-both.ensures.most, c.piece_before-there.ensures.most) in
    let above : (at : ℕ) → at + left ≡ at + rest + n = λ at. omega (arith, most) in
    let more : n + (count - left) ≡ count - rest = omega (arith, most, c.loop-left.invariant.within) in
    let was : c.loop-left.self ≡ with_bytes_at old (to + rest + n) (part old (from + rest + n) (count - left)) =
    c.loop-left.invariant.value
    ∙ ap (λ (at : ℕ). with_bytes_at old at (part old (from + left) (count - left))) (above to)
    ∙ ap (λ (at : ℕ). with_bytes_at old (to + rest + n) (part old at (count - left))) (above from) in
    let inside : to + rest + n + (count - left) ≤ length old = omega (arith, most, c.loop-left.invariant.within, c.requires.inside) in
    let order : from ≤ to = omega (arith, c.requires.order) in
    let now : c.move_piece.new.self ≡ with_bytes_at old (to + rest) (part old (from + rest) (n + (count - left))) =
    up_more old c.loop-left.self c.move_piece.new.self from to rest n (count - left) was order inside c.move_piece.ensures.value in
    let value : c.move_piece.new.self ≡ with_bytes_at old (to + rest) (part old (from + rest) (count - rest)) =
    now ∙ ap (λ (k : ℕ). with_bytes_at old (to + rest) (part old (from + rest) k)) more in
    let long : length (part old (from + rest) (count - rest)) ≡ count - rest = part_long old (from + rest) (count - rest) (omega (arith, inside, order, more)) in
    record {
      value = value;
      within = omega (arith, c.loop-left.invariant.within);
      long = ap length value ∙ overwritten_long old (to + rest) (part old (from + rest) (count - rest)) (omega (arith, inside, more, long));
      buffer = c.move_piece.ensures.buffer ∙ c.loop-left.invariant.buffer;
    }
