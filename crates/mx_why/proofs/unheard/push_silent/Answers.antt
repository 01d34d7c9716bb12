use Rattle.std.proofs.Common.{◌≡◌, ◌++◌, List, ℕ, codes}
use Rattle.std.specs.Fmt.{decimal}
use Rattle.mx_why.specs.Reasons.{slot_text}
use Rattle.mx_why.specs.Unheard.{why_unheard}
use Rattle.mx_why.proofs.Pieces.{extended, joined, last_joined}
use Rattle.mx_why.proofs.unheard.push_silent.Goals as goal

pub returns : goal.returns
unfolding why_unheard
returns c =
    let a0 : List ℕ = slot_text c.args.end.now c.args.slot in
    let h0 : c.push_slot.new.out.items ≡ c.args.out.now.items ++ a0 = c.in_ok-push_slot.ensures in
    let a1 : List ℕ = a0 ++ (codes " has made ") in
    let h1 : c.extend_from_slice.new.self.items ≡ c.args.out.now.items ++ a1 = joined c.args.out.now.items a0 (codes " has made ") h0 c.in_ok-extend_from_slice.ensures.items in
    let a2 : List ℕ = a1 ++ (decimal c.args.calls) in
    let h2 : c.push_long.new.out.items ≡ c.args.out.now.items ++ a2 = joined c.args.out.now.items a1 (decimal c.args.calls) h1 c.in_ok-push_long.ensures in
    last_joined c.extend_from_slice-2.result c.args.out.now.items a2 (codes " calls since, none of them RECEIVE") c.push_long.new.out.items c.extend_from_slice-2.new.self.items h2 (extended c.extend_from_slice-2.result c.extend_from_slice-2.new.self.items (c.push_long.new.out.items ++ (codes " calls since, none of them RECEIVE")) c.push_long.new.out.items c.extend_from_slice-2.ensures.items)
