use Rattle.std.proofs.Common.{◌≡◌, ◌++◌, List, ℕ, codes}
use Rattle.mx_why.specs.Reasons.{since_text, waiting_text}
use Rattle.mx_why.specs.Unheard.{receiver, unheard_line, why_unheard_by}
use Rattle.mx_why.proofs.Pieces.{extended, joined, last_joined}
use Rattle.mx_why.proofs.unheard.push_unheard_line.Goals as goal

pub returns : goal.returns
unfolding unheard_line
returns c =
    let a0 : List ℕ = codes "waits: " in
    let h0 : c.extend_from_slice.new.self.items ≡ c.args.out.now.items ++ a0 = c.in_ok-extend_from_slice.ensures.items in
    let a1 : List ℕ = a0 ++ (waiting_text c.args.end.now c.args.slot) in
    let h1 : c.push_waiting.new.out.items ≡ c.args.out.now.items ++ a1 = joined c.args.out.now.items a0 (waiting_text c.args.end.now c.args.slot) h0 c.in_ok-push_waiting.ensures in
    let a2 : List ℕ = a1 ++ (since_text c.args.notes.now c.args.slot) in
    let h2 : c.push_since.new.out.items ≡ c.args.out.now.items ++ a2 = joined c.args.out.now.items a1 (since_text c.args.notes.now c.args.slot) h1 c.in_ok-push_since.ensures in
    let a3 : List ℕ = a2 ++ (codes ": ") in
    let h3 : c.extend_from_slice-2.new.self.items ≡ c.args.out.now.items ++ a3 = joined c.args.out.now.items a2 (codes ": ") h2 c.in_ok-extend_from_slice-2.ensures.items in
    let a4 : List ℕ = a3 ++ (why_unheard_by c.args.end.now (receiver c.args.end.now c.args.slot) c.args.why) in
    let h4 : c.push_why_of.new.out.items ≡ c.args.out.now.items ++ a4 = joined c.args.out.now.items a3 (why_unheard_by c.args.end.now (receiver c.args.end.now c.args.slot) c.args.why) h3 c.in_ok-push_why_of.ensures in
    last_joined c.extend_from_slice-3.result c.args.out.now.items a4 (codes "\n") c.push_why_of.new.out.items c.extend_from_slice-3.new.self.items h4 (extended c.extend_from_slice-3.result c.extend_from_slice-3.new.self.items (c.push_why_of.new.out.items ++ (codes "\n")) c.push_why_of.new.out.items c.extend_from_slice-3.ensures.items)
