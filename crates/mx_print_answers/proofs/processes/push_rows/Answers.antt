use Rattle.std.proofs.Common.{◌≤◌, ◌*◌, arith}
use Rattle.std.specs.Prelude.{string_bytes}
use Rattle.mx_print_answers.proofs.Rows.{next_row}
use Rattle.mx_print_answers.proofs.processes.push_rows.Goals as goal

pub loop-row-preserved : goal.loop-row-preserved
loop-row-preserved c =
    let within : 16 * c.loop-row.row ≤ c.args.count = omega arith in
    next_row c.args.memory.now c.args.from c.args.count c.loop-row.row c.min.result (string_bytes c.args.out.now) (string_bytes c.loop-row.out) (string_bytes c.push_row.new.out) within c.min.ensures c.loop-row.invariant c.in_ok-push_row.ensures
