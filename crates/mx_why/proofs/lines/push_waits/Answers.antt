use Rattle.std.proofs.Common.{◌≡◌, ◌++◌, List, ℕ, ap, ◌∙◌}
use Rattle.std.specs.List.{flat_map, range_with_len}
use Rattle.std.specs.Prelude.{count_by}
use Rattle.mx_why.specs.Lines.{waits_text, is_said, kind_of, left_out_text, wait_at}
use Rattle.mx_why.proofs.Pieces.{last_joined_is}
use Rattle.mx_why.proofs.lines.push_waits.Goals as goal

pub returns : goal.returns
unfolding waits_text
returns c =
    let a0 : List ℕ = flat_map (wait_at c.args.end.now c.args.notes.now c.args.said.now c.args.is_never) (range_with_len 0 32) in
    let h0 : c.push_each_wait.new.out.items ≡ c.args.out.now.items ++ a0 = c.in_ok-push_each_wait.ensures in
    last_joined_is c.push_left_out.result c.args.out.now.items a0 (left_out_text c.kind_of.result.now c.count_said.result) (left_out_text (kind_of c.args.is_never) (count_by (is_said c.args.said.now c.args.is_never) (range_with_len 0 32))) c.push_each_wait.new.out.items c.push_left_out.new.out.items h0 (ap (λ (k : List ℕ). left_out_text k c.count_said.result) c.kind_of.ensures ∙ ap (λ n. left_out_text (kind_of c.args.is_never) n) c.count_said.ensures) c.push_left_out.ensures
