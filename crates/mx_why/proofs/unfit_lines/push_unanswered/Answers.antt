use Rattle.std.proofs.Common.{◌≡◌, ◌++◌, List, ℕ, codes}
use Rattle.mx_insn_words.specs.Numbers.{hexadecimal}
use Rattle.mx_why.specs.UnfitLines.{asks_text, unanswered_text}
use Rattle.mx_why.proofs.Pieces.{extended, joined, last_joined}
use Rattle.mx_why.proofs.unfit_lines.push_unanswered.Goals as goal

pub returns : goal.returns
unfolding unanswered_text
returns c =
    let a0 : List ℕ = asks_text c.args.line.now c.args.other.now in
    let h0 : c.push_asks.new.out.items ≡ c.args.out.now.items ++ a0 = c.in_ok-push_asks.ensures in
    let a1 : List ℕ = a0 ++ (codes "'s traps ") in
    let h1 : c.extend_from_slice.new.self.items ≡ c.args.out.now.items ++ a1 = joined c.args.out.now.items a0 (codes "'s traps ") h0 c.in_ok-extend_from_slice.ensures.items in
    let a2 : List ℕ = a1 ++ (hexadecimal c.args.other.now.terms.masks.traps) in
    let h2 : c.push_mask.new.out.items ≡ c.args.out.now.items ++ a2 = joined c.args.out.now.items a1 (hexadecimal c.args.other.now.terms.masks.traps) h1 c.in_ok-push_mask.ensures in
    last_joined c.extend_from_slice-2.result c.args.out.now.items a2 (codes " have no SEND: no answer can come") c.push_mask.new.out.items c.extend_from_slice-2.new.self.items h2 (extended c.extend_from_slice-2.result c.extend_from_slice-2.new.self.items (c.push_mask.new.out.items ++ (codes " have no SEND: no answer can come")) c.push_mask.new.out.items c.extend_from_slice-2.ensures.items)
