use Rattle.std.proofs.Common.{◌≡◌, ◌++◌, List, ℕ, codes}
use Rattle.mx_why.specs.UnfitLines.{asks_text, name_of}
use Rattle.mx_why.proofs.Pieces.{joined, last_joined}
use Rattle.mx_why.proofs.unfit_lines.push_asks.Goals as goal

pub returns : goal.returns
unfolding asks_text
returns c =
    let a0 : List ℕ = name_of c.args.line.now in
    let h0 : c.push_name.new.out.items ≡ c.args.out.now.items ++ a0 = c.in_ok-push_name.ensures in
    let a1 : List ℕ = a0 ++ (codes ": may only ask ") in
    let h1 : c.extend_from_slice.new.self.items ≡ c.args.out.now.items ++ a1 = joined c.args.out.now.items a0 (codes ": may only ask ") h0 c.in_ok-extend_from_slice.ensures.items in
    let a2 : List ℕ = a1 ++ (name_of c.args.other.now) in
    let h2 : c.push_name-2.new.out.items ≡ c.args.out.now.items ++ a2 = joined c.args.out.now.items a1 (name_of c.args.other.now) h1 c.in_ok-push_name-2.ensures in
    let a3 : List ℕ = a2 ++ (codes " by SENDREC, and ") in
    let h3 : c.extend_from_slice-2.new.self.items ≡ c.args.out.now.items ++ a3 = joined c.args.out.now.items a2 (codes " by SENDREC, and ") h2 c.in_ok-extend_from_slice-2.ensures.items in
    last_joined c.push_name-3.result c.args.out.now.items a3 (name_of c.args.other.now) c.extend_from_slice-2.new.self.items c.push_name-3.new.out.items h3 c.push_name-3.ensures
