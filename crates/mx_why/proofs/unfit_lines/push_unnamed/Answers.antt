use Rattle.std.proofs.Common.{◌≡◌, ◌++◌, List, ℕ, codes}
use Rattle.std.specs.Fmt.{decimal}
use Rattle.mx_insn_words.specs.Numbers.{hexadecimal}
use Rattle.mx_why.specs.Reasons.{bit_text}
use Rattle.mx_why.specs.UnfitLines.{asks_text, unnamed_text}
use Rattle.mx_why.proofs.Pieces.{extended, joined, last_joined}
use Rattle.mx_why.proofs.unfit_lines.push_unnamed.Goals as goal

pub returns : goal.returns
unfolding unnamed_text
returns c =
    let a0 : List ℕ = asks_text c.args.line.now c.args.other.now in
    let h0 : c.push_asks.new.out.items ≡ c.args.out.now.items ++ a0 = c.in_ok-push_asks.ensures in
    let a1 : List ℕ = a0 ++ (codes "'s send ") in
    let h1 : c.extend_from_slice.new.self.items ≡ c.args.out.now.items ++ a1 = joined c.args.out.now.items a0 (codes "'s send ") h0 c.in_ok-extend_from_slice.ensures.items in
    let a2 : List ℕ = a1 ++ (hexadecimal c.args.other.now.terms.masks.sends) in
    let h2 : c.push_mask.new.out.items ≡ c.args.out.now.items ++ a2 = joined c.args.out.now.items a1 (hexadecimal c.args.other.now.terms.masks.sends) h1 c.in_ok-push_mask.ensures in
    let a3 : List ℕ = a2 ++ (codes " has no bit for slot ") in
    let h3 : c.extend_from_slice-2.new.self.items ≡ c.args.out.now.items ++ a3 = joined c.args.out.now.items a2 (codes " has no bit for slot ") h2 c.in_ok-extend_from_slice-2.ensures.items in
    let a4 : List ℕ = a3 ++ (decimal c.args.slot) in
    let h4 : c.push_decimal.new.out.items ≡ c.args.out.now.items ++ a4 = joined c.args.out.now.items a3 (decimal c.args.slot) h3 c.in_ok-push_decimal.ensures in
    let a5 : List ℕ = a4 ++ (bit_text c.args.slot) in
    let h5 : c.push_bit.new.out.items ≡ c.args.out.now.items ++ a5 = joined c.args.out.now.items a4 (bit_text c.args.slot) h4 c.in_ok-push_bit.ensures in
    last_joined c.extend_from_slice-3.result c.args.out.now.items a5 (codes ": no answer can come") c.push_bit.new.out.items c.extend_from_slice-3.new.self.items h5 (extended c.extend_from_slice-3.result c.extend_from_slice-3.new.self.items (c.push_bit.new.out.items ++ (codes ": no answer can come")) c.push_bit.new.out.items c.extend_from_slice-3.ensures.items)
