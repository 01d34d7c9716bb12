use Rattle.std.proofs.Common.{◌≡◌, ◌+◌, arith}
use Rattle.std.specs.Prelude.{string_bytes}
use Rattle.mx_print_answers.proofs.Lines.{on_pushed}
use Rattle.mx_print_answers.proofs.Rows.{next_byte, row_done}
use Rattle.mx_print_answers.proofs.processes.push_row.Goals as goal

pub loop-at-preserved : goal.loop-at-preserved
loop-at-preserved c =
    next_byte c.args.memory.now c.args.from c.loop-at.at (string_bytes c.push_eight_digits.new.out) (string_bytes c.loop-at.out) (string_bytes c.push_byte_at.new.out) c.loop-at.auto.at c.loop-at.invariant c.in_ok-push_byte_at.ensures

pub returns : goal.returns
returns c =
    let there : c.loop-at.at ≡ c.args.from + c.args.count = omega arith in
    on_pushed _ c.push_str.result _ _ _ (row_done c.args.memory.now c.args.from c.args.count c.loop-at.at (string_bytes c.args.out.now) (string_bytes c.push_eight_digits.new.out) (string_bytes c.loop-at.out) (string_bytes c.push_str.new.self) there c.in_ok-push_eight_digits.ensures c.loop-at.invariant) c.push_str.ensures.bytes
