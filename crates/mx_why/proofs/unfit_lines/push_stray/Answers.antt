use Rattle.std.proofs.Common.{◌≡◌, ◌++◌, List, ℕ, codes}
use Rattle.mx_insn_words.specs.Numbers.{hexadecimal}
use Rattle.mx_why.specs.UnfitLines.{name_of, stray_text}
use Rattle.mx_why.proofs.Pieces.{joined, last_joined}
use Rattle.mx_why.proofs.unfit_lines.push_stray.Goals as goal

pub returns : goal.returns
unfolding stray_text
returns c =
    let a0 : List ℕ = name_of c.args.line.now in
    let h0 : c.push_name.new.out.items ≡ c.args.out.now.items ++ a0 = c.in_ok-push_name.ensures in
    let a1 : List ℕ = a0 ++ (c.args.field.now) in
    let h1 : c.extend_from_slice.new.self.items ≡ c.args.out.now.items ++ a1 = joined c.args.out.now.items a0 (c.args.field.now) h0 c.in_ok-extend_from_slice.ensures.items in
    let a2 : List ℕ = a1 ++ (hexadecimal c.args.mask) in
    let h2 : c.push_mask.new.out.items ≡ c.args.out.now.items ++ a2 = joined c.args.out.now.items a1 (hexadecimal c.args.mask) h1 c.in_ok-push_mask.ensures in
    let a3 : List ℕ = a2 ++ (codes " has a bit that means nothing: ") in
    let h3 : c.extend_from_slice-2.new.self.items ≡ c.args.out.now.items ++ a3 = joined c.args.out.now.items a2 (codes " has a bit that means nothing: ") h2 c.in_ok-extend_from_slice-2.ensures.items in
    last_joined c.push_mask-2.result c.args.out.now.items a3 (hexadecimal c.args.bits) c.extend_from_slice-2.new.self.items c.push_mask-2.new.out.items h3 c.push_mask-2.ensures
