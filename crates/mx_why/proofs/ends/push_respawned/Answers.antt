use Rattle.std.proofs.Common.{◌≡◌, ◌++◌, List, ℕ, codes}
use Rattle.std.specs.Fmt.{decimal}
use Rattle.mx_why.specs.Endings.{respawned_text}
use Rattle.mx_why.proofs.Pieces.{extended, joined, last_joined}
use Rattle.mx_why.proofs.ends.push_respawned.Goals as goal

pub returns : goal.returns
unfolding respawned_text
returns c =
    let a0 : List ℕ = codes "; respawned at record " in
    let h0 : c.extend_from_slice.new.self.items ≡ c.args.out.now.items ++ a0 = c.in_ok-extend_from_slice.ensures.items in
    let a1 : List ℕ = a0 ++ (decimal c.args.number) in
    let h1 : c.push_decimal.new.out.items ≡ c.args.out.now.items ++ a1 = joined c.args.out.now.items a0 (decimal c.args.number) h0 c.in_ok-push_decimal.ensures in
    let a2 : List ℕ = a1 ++ (codes ", ") in
    let h2 : c.extend_from_slice-2.new.self.items ≡ c.args.out.now.items ++ a2 = joined c.args.out.now.items a1 (codes ", ") h1 c.in_ok-extend_from_slice-2.ensures.items in
    let a3 : List ℕ = a2 ++ (decimal c.args.restarts) in
    let h3 : c.push_decimal-2.new.out.items ≡ c.args.out.now.items ++ a3 = joined c.args.out.now.items a2 (decimal c.args.restarts) h2 c.in_ok-push_decimal-2.ensures in
    last_joined c.extend_from_slice-3.result c.args.out.now.items a3 (codes " restarts left") c.push_decimal-2.new.out.items c.extend_from_slice-3.new.self.items h3 (extended c.extend_from_slice-3.result c.extend_from_slice-3.new.self.items (c.push_decimal-2.new.out.items ++ (codes " restarts left")) c.push_decimal-2.new.out.items c.extend_from_slice-3.ensures.items)
