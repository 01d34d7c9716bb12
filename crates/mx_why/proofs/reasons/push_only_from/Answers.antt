use Rattle.std.proofs.Common.{◌≡◌, ◌++◌, List, ℕ, codes}
use Rattle.mx_why.specs.Reasons.{only_from_text, awaited_text, since_text}
use Rattle.mx_why.proofs.Pieces.{joined, last_joined}
use Rattle.mx_why.proofs.reasons.push_only_from.Goals as goal

pub returns : goal.returns
unfolding only_from_text
returns c =
    let a0 : List ℕ = codes " receives only from " in
    let h0 : c.extend_from_slice.new.self.items ≡ c.args.out.now.items ++ a0 = c.in_ok-extend_from_slice.ensures.items in
    let a1 : List ℕ = a0 ++ (awaited_text c.args.end.now c.args.awaited) in
    let h1 : c.push_awaited.new.out.items ≡ c.args.out.now.items ++ a1 = joined c.args.out.now.items a0 (awaited_text c.args.end.now c.args.awaited) h0 c.in_ok-push_awaited.ensures in
    let a2 : List ℕ = a1 ++ (codes ",") in
    let h2 : c.extend_from_slice-2.new.self.items ≡ c.args.out.now.items ++ a2 = joined c.args.out.now.items a1 (codes ",") h1 c.in_ok-extend_from_slice-2.ensures.items in
    last_joined c.push_since.result c.args.out.now.items a2 (since_text c.args.notes.now c.args.slot) c.extend_from_slice-2.new.self.items c.push_since.new.out.items h2 c.push_since.ensures
