use Rattle.std.proofs.Common.{◌≡◌, ◌+◌, refl, arith}
use Rattle.mx_app_explain.specs.ServiceWords.{trap_if}
use Rattle.mx_look.proofs.TraceRows.{next_row, all_rows}
use Rattle.mx_app_explain.proofs.allowed.push_traps.Goals as goal

pub loop-index-preserved : goal.loop-index-preserved
loop-index-preserved c =
    next_row (λ n. trap_if c.args.traps (n + 1)) c.loop-index.index c.args.out.now.items c.loop-index.out.items c.push_trap_if.new.out.items _ c.loop-index.invariant c.in_ok-push_trap_if.ensures refl

pub returns : goal.returns
returns c =
    let all : c.loop-index.index ≡ 4 = omega arith in
    all_rows (λ n. trap_if c.args.traps (n + 1)) c.loop-index.index 4 c.args.out.now.items c.loop-index.out.items all c.loop-index.invariant
