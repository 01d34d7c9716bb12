use Rattle.std.proofs.Common.{◌≡◌, ◌++◌, List, ℕ, codes}
use Rattle.mx_insn_words.specs.Numbers.{hexadecimal}
use Rattle.mx_why.specs.UnfitLines.{name_of, unheard_text}
use Rattle.mx_why.proofs.Pieces.{extended, joined, last_joined}
use Rattle.mx_why.proofs.unfit_lines.push_unheard.Goals as goal

pub returns : goal.returns
unfolding unheard_text
returns c =
    let a0 : List ℕ = name_of c.args.line.now in
    let h0 : c.push_name.new.out.items ≡ c.args.out.now.items ++ a0 = c.in_ok-push_name.ensures in
    let a1 : List ℕ = a0 ++ (codes ": may send to ") in
    let h1 : c.extend_from_slice.new.self.items ≡ c.args.out.now.items ++ a1 = joined c.args.out.now.items a0 (codes ": may send to ") h0 c.in_ok-extend_from_slice.ensures.items in
    let a2 : List ℕ = a1 ++ (name_of c.args.other.now) in
    let h2 : c.push_name-2.new.out.items ≡ c.args.out.now.items ++ a2 = joined c.args.out.now.items a1 (name_of c.args.other.now) h1 c.in_ok-push_name-2.ensures in
    let a3 : List ℕ = a2 ++ (codes ", whose traps ") in
    let h3 : c.extend_from_slice-2.new.self.items ≡ c.args.out.now.items ++ a3 = joined c.args.out.now.items a2 (codes ", whose traps ") h2 c.in_ok-extend_from_slice-2.ensures.items in
    let a4 : List ℕ = a3 ++ (hexadecimal c.args.other.now.terms.masks.traps) in
    let h4 : c.push_mask.new.out.items ≡ c.args.out.now.items ++ a4 = joined c.args.out.now.items a3 (hexadecimal c.args.other.now.terms.masks.traps) h3 c.in_ok-push_mask.ensures in
    last_joined c.extend_from_slice-3.result c.args.out.now.items a4 (codes " have no RECEIVE") c.push_mask.new.out.items c.extend_from_slice-3.new.self.items h4 (extended c.extend_from_slice-3.result c.extend_from_slice-3.new.self.items (c.push_mask.new.out.items ++ (codes " have no RECEIVE")) c.push_mask.new.out.items c.extend_from_slice-3.ensures.items)
