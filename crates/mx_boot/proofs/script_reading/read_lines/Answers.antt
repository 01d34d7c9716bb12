use Rattle.std.proofs.Common.{rules, arith, ◌≡◌, ◌<◌, ◌∙◌, [], ◌∷◌, length, refl, sym}
use Rattle.mx_text.specs.Lines.{lines}
use Rattle.mx_boot.proofs.ReadSoFar.{more}
use Rattle.mx_boot.proofs.script_reading.read_lines.Goals as goal

pub loop-line-init : goal.loop-line-init
loop-line-init g c = record {
  above = [];
  said = [];
  whole = refl;
  read = refl;
  kept = λ e. search rules;
  counted = refl;
  few = omega arith;
}

pub loop-line-preserved : goal.loop-line-preserved
loop-line-preserved g c =
    let next : lines c.loop-line.rest.now ≡ c.in-Some.line.now ∷ lines c.in-Some.below.now = rw (c.in-Some.line-is, c.in-Some.below-is) at c.in-Some.ensures.line in
    let shorter : length c.in-Some.below.now < length c.loop-line.rest.now = rw c.in-Some.below-is at c.in-Some.ensures.shorter in
    more (g.R.ReadsLine.says c.args.reader.now) c.args.text.now c.loop-line.rest.now c.in-Some.below.now c.in-Some.line.now
    c.loop-line.found.items c.is_lost-is_lost.new.found.items c.in-Some-read.said c.loop-line.is_wanting c.is_lost-is_lost.result c.loop-line.number
    c.loop-line.invariant next (sym c.read.ensures ∙ c.in-Some-read.is) c.is_lost-is_lost.ensures shorter
