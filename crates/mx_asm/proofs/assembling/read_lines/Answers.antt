use Rattle.std.proofs.Common.{arith, ap, ◌≡◌, ◌+◌, ◌<◌, ◌∷◌, length}
use Rattle.mx_text.specs.Lines.{lines}
use Rattle.mx_asm.specs.Layout.{LinesAbove}
use Rattle.mx_asm.specs.View.{above_of}
use Rattle.mx_asm.proofs.Kept.{sizes_kept}
use Rattle.mx_asm.proofs.Reading.{read_all, read_more, sizes_few}
use Rattle.mx_asm.proofs.assembling.read_lines.Goals as goal

pub take-requires-clause-room : goal.take-requires-clause-room
take-requires-clause-room c = sizes_few c.loop-line.read.layout.sizes (length c.loop-line.read.lines.items) c.loop-line.invariant.sizes c.loop-line.invariant.few

pub loop-line-preserved : goal.loop-line-preserved
loop-line-preserved c =
    let inv = c.loop-line.invariant in
    let a = above_of c.loop-line.read.layout in
    let b = above_of c.take.new.self.layout in
    let step = c.in_ok-take.ensures.taken in
    let old = c.loop-line.read.lines.items in
    let now = c.take.new.self.lines.items in
    let next : lines c.loop-line.rest.now ≡ c.in-Some.line.now ∷ lines c.in-Some.more.now = rw (c.in-Some.line-is, c.in-Some.more-is) at c.in-Some.ensures.line in
    let shorter : length c.in-Some.more.now < length c.loop-line.rest.now = rw c.in-Some.more-is at c.in-Some.ensures.shorter in
    record {
      number = omega (arith, c.count-number.ensures.count);
      few = c.count-number.ensures.few;
      room = omega (arith, c.in_ok-take.ensures.counted, inv.room, shorter);
      found = read_more a b c.loop-line.number (c.count-number.result + 1) (length old + c.loop-line.read.blanks) (length now + c.take.new.self.blanks) c.in-Some.line.now (lines c.loop-line.rest.now) (lines c.in-Some.more.now) (lines c.args.text.now) old now
          inv.found next step inv.number (omega (arith, c.count-number.ensures.count, c.in_ok-take.ensures.counted, inv.number)) c.in_ok-take.ensures.counted;
      sizes = sizes_kept c.loop-line.read.layout.sizes c.take.new.self.layout.sizes c.loop-line.number step.line old now inv.sizes (ap (λ (x : LinesAbove). x.sizes) step.following_is) c.in_ok-take.ensures.small step.lines_are;
    }

pub returns-clause-taken : goal.returns-clause-taken
returns-clause-taken c = read_all (above_of c.loop-line.read.layout) c.loop-line.number (lines c.loop-line.rest.now) (lines c.args.text.now) c.loop-line.read.lines.items _ c.loop-line.invariant.found c.in_default.ensures.line
