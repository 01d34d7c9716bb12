use Rattle.std.proofs.Common.{◌≡◌, refl, arith}
use Rattle.mx_why.specs.Lines.{line_text, owned_text}
use Rattle.mx_why.proofs.Rows.{next_row, all_rows}
use Rattle.mx_why.proofs.lines.push_owned.Goals as goal

pub loop-line-preserved : goal.loop-line-preserved
loop-line-preserved c =
    next_row (line_text c.args.end.now c.args.slot) c.loop-line.line c.args.out.now.items c.loop-line.out.items c.push_owned_line.new.out.items _ c.loop-line.invariant c.in_ok-push_owned_line.ensures refl

pub returns : goal.returns
unfolding owned_text
returns c =
    let all : c.loop-line.line ≡ 16 = omega arith in
    all_rows (line_text c.args.end.now c.args.slot) c.loop-line.line 16 c.args.out.now.items c.loop-line.out.items all c.loop-line.invariant
