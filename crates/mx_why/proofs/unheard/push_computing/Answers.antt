use Rattle.std.proofs.Common.{◌≡◌, ◌++◌, List, ℕ, codes}
use Rattle.mx_why.specs.Busy.{computes_text}
use Rattle.mx_why.specs.Reasons.{slot_text}
use Rattle.mx_why.specs.Unheard.{why_unheard}
use Rattle.mx_why.proofs.Pieces.{extended, joined, last_joined}
use Rattle.mx_why.proofs.unheard.push_computing.Goals as goal

pub returns : goal.returns
unfolding why_unheard
returns c =
    let a0 : List ℕ = slot_text c.args.end.now c.args.slot in
    let h0 : c.push_slot.new.out.items ≡ c.args.out.now.items ++ a0 = c.in_ok-push_slot.ensures in
    let a1 : List ℕ = a0 ++ (computes_text c.args.since) in
    let h1 : c.push_counted.new.out.items ≡ c.args.out.now.items ++ a1 = joined c.args.out.now.items a0 (computes_text c.args.since) h0 c.in_ok-push_counted.ensures in
    last_joined c.extend_from_slice.result c.args.out.now.items a1 (codes ", without a call") c.push_counted.new.out.items c.extend_from_slice.new.self.items h1 (extended c.extend_from_slice.result c.extend_from_slice.new.self.items (c.push_counted.new.out.items ++ (codes ", without a call")) c.push_counted.new.out.items c.extend_from_slice.ensures.items)
