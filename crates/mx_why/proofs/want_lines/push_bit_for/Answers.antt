use Rattle.std.proofs.Common.{◌≡◌, ◌++◌, List, ℕ, codes}
use Rattle.mx_why.specs.Reasons.{bit_text}
use Rattle.mx_why.specs.WantLines.{bit_for_text}
use Rattle.mx_why.proofs.Pieces.{joined, last_joined}
use Rattle.mx_why.proofs.want_lines.push_bit_for.Goals as goal

pub returns : goal.returns
unfolding bit_for_text
returns c =
    let a0 : List ℕ = codes " has no bit for " in
    let h0 : c.extend_from_slice.new.self.items ≡ c.args.out.now.items ++ a0 = c.in_ok-extend_from_slice.ensures.items in
    let a1 : List ℕ = a0 ++ c.args.what.now in
    let h1 : c.extend_from_slice-2.new.self.items ≡ c.args.out.now.items ++ a1 = joined c.args.out.now.items a0 c.args.what.now h0 c.in_ok-extend_from_slice-2.ensures.items in
    last_joined c.push_bit.result c.args.out.now.items a1 (bit_text c.args.bit) c.extend_from_slice-2.new.self.items c.push_bit.new.out.items h1 c.push_bit.ensures
