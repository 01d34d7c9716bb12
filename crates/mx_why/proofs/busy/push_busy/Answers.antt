use Rattle.std.proofs.Common.{◌≡◌, ◌++◌, List, ℕ, codes, ap}
use Rattle.std.specs.List.{flat_map, range_with_len}
use Rattle.std.specs.Prelude.{count_by}
use Rattle.mx_why.specs.Busy.{busy_line_at, busy_lines, is_busy}
use Rattle.mx_why.specs.Lines.{left_out_text}
use Rattle.mx_why.proofs.Pieces.{last_joined_is}
use Rattle.mx_why.proofs.busy.push_busy.Goals as goal

pub returns : goal.returns
unfolding busy_lines
returns c =
    let a0 : List ℕ = flat_map (busy_line_at c.args.end.now c.args.found.now) (range_with_len 0 32) in
    let h0 : c.push_each_busy.new.out.items ≡ c.args.out.now.items ++ a0 = c.in_ok-push_each_busy.ensures in
    last_joined_is c.push_left_out.result c.args.out.now.items a0 (left_out_text (codes "busy: ") c.count_busy.result) (left_out_text (codes "busy: ") (count_by (is_busy c.args.found.now) (range_with_len 0 32))) c.push_each_busy.new.out.items c.push_left_out.new.out.items h0 (ap (λ n. left_out_text (codes "busy: ") n) c.count_busy.ensures) c.push_left_out.ensures
