use Rattle.std.proofs.Common.{◌≡◌, length, refl, arith}
use Rattle.mx_kcall.specs.Rows.{calls}
use Rattle.mx_app_explain.specs.ServiceWords.{call_if}
use Rattle.mx_look.proofs.TraceRows.{next_row, all_rows}
use Rattle.mx_app_explain.proofs.allowed.push_calls.Goals as goal

pub loop-bit-preserved : goal.loop-bit-preserved
loop-bit-preserved c =
    next_row (call_if c.args.rules c.args.calls) c.loop-bit.bit c.args.out.now.items c.loop-bit.out.items c.push_call_if.new.out.items _ c.loop-bit.invariant c.in_ok-push_call_if.ensures refl

pub returns : goal.returns
returns c =
    let all : c.loop-bit.bit ≡ length calls = omega arith in
    all_rows (call_if c.args.rules c.args.calls) c.loop-bit.bit (length calls) c.args.out.now.items c.loop-bit.out.items all c.loop-bit.invariant
