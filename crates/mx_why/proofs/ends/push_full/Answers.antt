use Rattle.std.proofs.Common.{◌≡◌, ◌++◌, List, ℕ, codes}
use Rattle.std.specs.Fmt.{decimal}
use Rattle.mx_why.specs.Endings.{full_text, after_text, unfinished_text}
use Rattle.mx_why.proofs.Pieces.{joined, last_joined}
use Rattle.mx_why.proofs.ends.push_full.Goals as goal

pub returns : goal.returns
unfolding full_text
returns c =
    let a0 : List ℕ = after_text (codes "full") c.args.records in
    let h0 : c.push_after.new.out.items ≡ c.args.out.now.items ++ a0 = c.in_ok-push_after.ensures in
    let a1 : List ℕ = a0 ++ (codes ", since CONFIG has log ") in
    let h1 : c.extend_from_slice.new.self.items ≡ c.args.out.now.items ++ a1 = joined c.args.out.now.items a0 (codes ", since CONFIG has log ") h0 c.in_ok-extend_from_slice.ensures.items in
    let a2 : List ℕ = a1 ++ (decimal c.args.log) in
    let h2 : c.push_decimal.new.out.items ≡ c.args.out.now.items ++ a2 = joined c.args.out.now.items a1 (decimal c.args.log) h1 c.in_ok-push_decimal.ensures in
    last_joined c.push_unfinished.result c.args.out.now.items a2 (unfinished_text c.args.end.now) c.push_decimal.new.out.items c.push_unfinished.new.out.items h2 c.push_unfinished.ensures
