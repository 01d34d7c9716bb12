use Rattle.std.proofs.Common.{◌∙◌, ◌-◌, ◌+◌, string_bytes, sym}
use Rattle.mx_exec.specs.Image.{dword_sum}
use Rattle.mx_look.specs.Stack.{stack_row, stack_rows}
use Rattle.mx_look.proofs.Rows.{counts_down, no_row, none_left, one_less, one_row}
use Rattle.mx_look.proofs.stack.push_rows.Goals as goal

pub loop-preserved : goal.loop-preserved
loop-preserved c =
    let s = c.args.symbols.now in
    let m = c.args.image.now in
    let n = c.args.count - (c.loop.counter + 1) in
    one_less (string_bytes c.loop.out) (string_bytes c.push_row.new.out) (stack_row s m c.loop.at c.in-Ok.value) (stack_rows n s m (dword_sum c.loop.at 4))
    (stack_rows (c.args.count - c.loop.counter) s m c.loop.at) (string_bytes c.args.out.now) (stack_rows c.args.count s m c.args.from) c.loop.invariant
    (one_row s m n (c.args.count - c.loop.counter) c.loop.at c.in-Ok.value (counts_down c.args.count c.loop.counter c.loop-test.true) (sym c.read.ensures.value ∙ c.in-Ok.is))
    c.in_ok-push_row.ensures
