use Rattle.std.proofs.Common.{◌≡◌, ◌++◌, List, ℕ, codes}
use Rattle.mx_why.specs.Reasons.{unanswered_text, meanwhile_text, since_text}
use Rattle.mx_why.proofs.Pieces.{extended, joined, last_joined}
use Rattle.mx_why.proofs.reasons.push_unanswered.Goals as goal

pub returns : goal.returns
unfolding unanswered_text
returns c =
    let a0 : List ℕ = codes " has its message" in
    let h0 : c.extend_from_slice.new.self.items ≡ c.args.out.now.items ++ a0 = c.in_ok-extend_from_slice.ensures.items in
    let a1 : List ℕ = a0 ++ (since_text c.args.notes.now c.args.slot) in
    let h1 : c.push_since.new.out.items ≡ c.args.out.now.items ++ a1 = joined c.args.out.now.items a0 (since_text c.args.notes.now c.args.slot) h0 c.in_ok-push_since.ensures in
    let a2 : List ℕ = a1 ++ (meanwhile_text c.args.end.now c.args.notes.now c.args.from c.args.doing) in
    let h2 : c.push_meanwhile.new.out.items ≡ c.args.out.now.items ++ a2 = joined c.args.out.now.items a1 (meanwhile_text c.args.end.now c.args.notes.now c.args.from c.args.doing) h1 c.in_ok-push_meanwhile.ensures in
    last_joined c.extend_from_slice-2.result c.args.out.now.items a2 (codes " without an answer") c.push_meanwhile.new.out.items c.extend_from_slice-2.new.self.items h2 (extended c.extend_from_slice-2.result c.extend_from_slice-2.new.self.items (c.push_meanwhile.new.out.items ++ (codes " without an answer")) c.push_meanwhile.new.out.items c.extend_from_slice-2.ensures.items)
