use Rattle.std.proofs.Common.{◌≡◌, ◌++◌, List, ℕ, codes, ap}
use Rattle.std.specs.List.{flat_map, range_with_len}
use Rattle.std.specs.Prelude.{count_by}
use Rattle.mx_why.specs.Lines.{idle_text, idle_at, is_idle, left_out_text}
use Rattle.mx_why.proofs.Pieces.{last_joined_is}
use Rattle.mx_why.proofs.lines.push_idle.Goals as goal

pub returns : goal.returns
unfolding idle_text
returns c =
    let a0 : List ℕ = flat_map (idle_at c.args.end.now c.args.notes.now) (range_with_len 0 32) in
    let h0 : c.push_each_idle.new.out.items ≡ c.args.out.now.items ++ a0 = c.in_ok-push_each_idle.ensures in
    last_joined_is c.push_left_out.result c.args.out.now.items a0 (left_out_text (codes "idle: ") c.count_idle.result) (left_out_text (codes "idle: ") (count_by (is_idle c.args.end.now c.args.notes.now) (range_with_len 0 32))) c.push_each_idle.new.out.items c.push_left_out.new.out.items h0 (ap (λ n. left_out_text (codes "idle: ") n) c.count_idle.ensures) c.push_left_out.ensures
