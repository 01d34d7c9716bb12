use Rattle.std.proofs.Common.{◌≡◌, ◌++◌, List, ℕ, codes}
use Rattle.std.specs.Fmt.{decimal}
use Rattle.mx_why.specs.Endings.{several_text}
use Rattle.mx_why.proofs.Pieces.{extended, joined, last_joined}
use Rattle.mx_why.proofs.ends.push_several.Goals as goal

pub returns : goal.returns
unfolding several_text
returns c =
    let a0 : List ℕ = codes ", " in
    let h0 : c.extend_from_slice.new.self.items ≡ c.args.out.now.items ++ a0 = c.in_ok-extend_from_slice.ensures.items in
    let a1 : List ℕ = a0 ++ (decimal c.args.times) in
    let h1 : c.push_long.new.out.items ≡ c.args.out.now.items ++ a1 = joined c.args.out.now.items a0 (decimal c.args.times) h0 c.in_ok-push_long.ensures in
    last_joined c.extend_from_slice-2.result c.args.out.now.items a1 (codes " times, first") c.push_long.new.out.items c.extend_from_slice-2.new.self.items h1 (extended c.extend_from_slice-2.result c.extend_from_slice-2.new.self.items (c.push_long.new.out.items ++ (codes " times, first")) c.push_long.new.out.items c.extend_from_slice-2.ensures.items)
