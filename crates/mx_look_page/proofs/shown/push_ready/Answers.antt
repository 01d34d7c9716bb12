use Rattle.std.proofs.Common.{◌≡◌, refl, arith}
use Rattle.mx_proc.specs.Queues.{list_at}
use Rattle.mx_look_page.specs.Shown.{ready_order}
use Rattle.mx_look.proofs.TraceRows.{next_row, all_rows}
use Rattle.mx_look_page.proofs.shown.push_ready.Goals as goal

pub loop-level-preserved : goal.loop-level-preserved
loop-level-preserved c =
    next_row (list_at c.args.table.now.ready) c.loop-level.level c.args.out.now.items c.loop-level.out.items c.push_level.new.out.items _ c.loop-level.invariant c.in_ok-push_level.ensures refl

pub returns : goal.returns
unfolding ready_order
returns c =
    let all : c.loop-level.level ≡ 16 = omega arith in
    all_rows (list_at c.args.table.now.ready) c.loop-level.level 16 c.args.out.now.items c.loop-level.out.items all c.loop-level.invariant
