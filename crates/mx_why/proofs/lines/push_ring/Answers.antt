use Rattle.std.proofs.Common.{◌≡◌, ◌++◌, List, ℕ, codes, ap, ◌∙◌}
use Rattle.mx_why.specs.Reasons.{waiting_text}
use Rattle.mx_why.specs.Waiting.{chain}
use Rattle.mx_why.specs.Lines.{ring_text, ring_rest}
use Rattle.mx_why.proofs.Pieces.{joined, last_joined_is}
use Rattle.mx_why.proofs.lines.push_ring.Goals as goal

pub returns : goal.returns
unfolding ring_text
returns c =
    let a0 : List ℕ = codes ": they wait for each other: " in
    let h0 : c.extend_from_slice.new.self.items ≡ c.args.out.now.items ++ a0 = c.in_ok-extend_from_slice.ensures.items in
    let a1 : List ℕ = a0 ++ (waiting_text c.args.end.now c.args.slot) in
    let h1 : c.push_waiting.new.out.items ≡ c.args.out.now.items ++ a1 = joined c.args.out.now.items a0 (waiting_text c.args.end.now c.args.slot) h0 c.in_ok-push_waiting.ensures in
    last_joined_is c.push_ring_rest.result c.args.out.now.items a1 (ring_rest c.args.end.now c.args.slot c.as_slice.result.now) (ring_rest c.args.end.now c.args.slot (chain c.args.end.now c.args.slot)) c.push_waiting.new.out.items c.push_ring_rest.new.out.items h1 (ap (λ (ps : List ℕ). ring_rest c.args.end.now c.args.slot ps) (c.as_slice.ensures.value ∙ c.in_ok-chain.ensures)) c.push_ring_rest.ensures
