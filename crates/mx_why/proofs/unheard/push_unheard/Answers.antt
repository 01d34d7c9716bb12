use Rattle.std.proofs.Common.{◌≡◌, ◌++◌, List, ℕ, codes, ap}
use Rattle.std.specs.List.{flat_map, range_with_len}
use Rattle.std.specs.Prelude.{count_by}
use Rattle.mx_why.specs.Unheard.{is_unheard, unheard_line_at, unheard_lines}
use Rattle.mx_why.specs.Lines.{left_out_text}
use Rattle.mx_why.proofs.Pieces.{last_joined_is}
use Rattle.mx_why.proofs.unheard.push_unheard.Goals as goal

pub returns : goal.returns
unfolding unheard_lines
returns c =
    let a0 : List ℕ = flat_map (unheard_line_at c.args.end.now c.args.notes.now c.args.found.now) (range_with_len 0 32) in
    let h0 : c.push_each_unheard.new.out.items ≡ c.args.out.now.items ++ a0 = c.in_ok-push_each_unheard.ensures in
    last_joined_is c.push_left_out.result c.args.out.now.items a0 (left_out_text (codes "waits: ") c.count_unheard.result) (left_out_text (codes "waits: ") (count_by (is_unheard c.args.found.now) (range_with_len 0 32))) c.push_each_unheard.new.out.items c.push_left_out.new.out.items h0 (ap (λ n. left_out_text (codes "waits: ") n) c.count_unheard.ensures) c.push_left_out.ensures
