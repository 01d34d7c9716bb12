use Rattle.std.proofs.Common.{◌≡◌, ◌++◌, List, ℕ, codes}
use Rattle.mx_why.specs.Reasons.{meanwhile_from_text, awaited_text, since_text}
use Rattle.mx_why.proofs.Pieces.{joined, last_joined}
use Rattle.mx_why.proofs.reasons.push_meanwhile_from.Goals as goal

pub returns : goal.returns
unfolding meanwhile_from_text
returns c =
    let a0 : List ℕ = codes ", and receives from " in
    let h0 : c.extend_from_slice.new.self.items ≡ c.args.out.now.items ++ a0 = c.in_ok-extend_from_slice.ensures.items in
    let a1 : List ℕ = a0 ++ (awaited_text c.args.end.now c.args.awaited) in
    let h1 : c.push_awaited.new.out.items ≡ c.args.out.now.items ++ a1 = joined c.args.out.now.items a0 (awaited_text c.args.end.now c.args.awaited) h0 c.in_ok-push_awaited.ensures in
    last_joined c.push_since.result c.args.out.now.items a1 (since_text c.args.notes.now c.args.slot) c.push_awaited.new.out.items c.push_since.new.out.items h1 c.push_since.ensures
