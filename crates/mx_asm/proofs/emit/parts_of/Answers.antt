use Rattle.std.proofs.Common.{arith, ◌+◌, ◌≤◌, length, map, refl}
use Rattle.std.proofs.lemmas.List.{length-map}
use Rattle.mx_asm.specs.View.{above_of}
use Rattle.mx_asm.proofs.Standing.{sizes_more}
use Rattle.mx_asm.proofs.Emitting.{completes_put, completed}
use Rattle.mx_asm.proofs.Kept.{clean_here, clean_on, line_in, next_kept, next_line}
use Rattle.mx_asm.proofs.emit.parts_of.Goals as goal

pub put_line-requires : goal.put_line-requires
put_line-requires c =
    let i = c.loop-kept.kept-index in
    clean_here (above_of c.args.layout.now) c.loop-kept.sizes i c.args.lines.now c.kept-item.result (next_kept i c.args.lines.now c.kept-item.result c.loop-kept-test.true c.kept-item.is) c.loop-kept.invariant.clean

pub loop-kept-preserved : goal.loop-kept-preserved
loop-kept-preserved c =
    let i = c.loop-kept.kept-index in
    let a = above_of c.args.layout.now in
    let s = c.loop-kept.sizes in
    let k = c.kept-item.result in
    let next = next_kept i c.args.lines.now k c.loop-kept-test.true c.kept-item.is in
    record {
      clean = clean_on a s c.after-sizes.result i c.args.lines.now k next c.loop-kept.invariant.clean c.after-sizes.ensures.sizes;
      sizes = sizes_more s c.after-sizes.result i (i + 1) c.loop-kept.invariant.sizes c.after-sizes.ensures.small refl;
      completes = completes_put a (map line_in c.args.lines.now) i s c.after-sizes.result c.loop-kept.parts.text.items c.loop-kept.parts.init.items c.put_line.new.parts.text.items c.put_line.new.parts.init.items k.line (next_line i c.args.lines.now k next)
          c.loop-kept.invariant.completes c.in_ok-put_line.ensures c.after-sizes.ensures.sizes;
    }

pub returns : goal.returns
returns c =
    let over : length (map line_in c.args.lines.now) ≤ c.loop-kept.kept-index = omega (arith, length-map c.args.lines.now line_in, c.loop-kept-test.false) in
    completed _ (map line_in c.args.lines.now) c.loop-kept.kept-index c.loop-kept.sizes c.loop-kept.parts.text.items c.loop-kept.parts.init.items over c.loop-kept.invariant.completes
