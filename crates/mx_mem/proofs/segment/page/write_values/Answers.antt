use Rattle.std.proofs.Common.{◌≡◌, ◌+◌, ◌*◌, ◌≤◌, suc, ap, length, List, ℕ, ◌∙◌, arith}
use Rattle.mx_word.specs.Word.{bytes_in}
use Rattle.mx_mem.specs.Segment.{repeated, with_bytes_at, with_value}
use Rattle.mx_mem.proofs.Filled.{filled_more, fits, one_more, repeated_long}
use Rattle.mx_mem.proofs.Paged.{overwritten_long}
use Rattle.mx_mem.proofs.segment.page.write_values.Goals as goal

pub loop-k-preserved : goal.loop-k-preserved
loop-k-preserved c =
    let old = c.args.bytes.now in
    let at = c.args.at in
    let n = c.loop-k._k in
    let k = bytes_in c.args.size in
    let v = c.args.value in
    let inv = c.loop-k.invariant in
    let less : n * k + k ≤ c.args.count * k = fits c.args.size n c.args.count (omega arith) in
    let step : n * k + k ≡ (n + 1) * k = one_more c.args.size n in
    let next : suc n ≡ n + 1 = omega arith in
    let value : c.write_value.new.bytes ≡ with_bytes_at old at (repeated (n + 1) k v) =
    c.write_value.ensures
    ∙ ap (λ (place : ℕ). with_value c.loop-k.bytes place k v) inv.place
    ∙ ap (λ (l : List ℕ). with_value l (at + n * k) k v) inv.bytes
    ∙ filled_more old at n k v (omega (arith, c.requires.inside, less))
    ∙ ap (λ (many : ℕ). with_bytes_at old at (repeated many k v)) next in
    record {
      bytes = value;
      place = omega (arith, inv.place, c.bytes.ensures, step);
      long = ap length value ∙ overwritten_long old at (repeated (n + 1) k v) (omega (arith, c.requires.inside, repeated_long (n + 1) k v, step, less));
    }
