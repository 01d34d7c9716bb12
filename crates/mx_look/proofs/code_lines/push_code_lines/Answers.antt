use Rattle.std.proofs.Common.{◌∙◌, ◌-◌, ◌+◌, string_bytes, sym}
use Rattle.mx_exec.specs.Image.{dword_sum}
use Rattle.mx_look.specs.Code.{code_line}
use Rattle.mx_look.specs.Lines.{code_lines}
use Rattle.mx_look.proofs.Rows.{counts_down, one_less, one_line}
use Rattle.mx_look.proofs.code_lines.push_code_lines.Goals as goal

pub loop-preserved : goal.loop-preserved
loop-preserved c =
    let s = c.args.symbols.now in
    let m = c.args.image.now in
    let n = c.args.count - (c.loop.counter + 1) in
    one_less (string_bytes c.loop.out) (string_bytes c.push_code_line.new.out) (code_line s m c.loop.at) (code_lines n s m (dword_sum c.loop.at c.from-at.result))
    (code_lines (c.args.count - c.loop.counter) s m c.loop.at) (string_bytes c.args.out.now) (code_lines c.args.count s m c.args.from) c.loop.invariant
    (one_line s m n (c.args.count - c.loop.counter) c.loop.at c.from-at.result c.in-Some.part (counts_down c.args.count c.loop.counter c.loop-test.true) (sym c.code_part.ensures ∙ c.in-Some.is) (c.from-at.ensures ∙ c.size.ensures))
    c.in_ok-push_code_line.ensures
