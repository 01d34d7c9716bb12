use Rattle.std.proofs.Common.{◌≡◌, ◌++◌, List, ℕ}
use Rattle.mx_insn_words.specs.Numbers.{hexadecimal}
use Rattle.mx_why.specs.UnfitLines.{alone_text, name_of}
use Rattle.mx_why.proofs.Pieces.{extended, joined, last_joined}
use Rattle.mx_why.proofs.unfit_lines.push_alone.Goals as goal

pub returns : goal.returns
unfolding alone_text
returns c =
    let a0 : List ℕ = name_of c.args.line.now in
    let h0 : c.push_name.new.out.items ≡ c.args.out.now.items ++ a0 = c.in_ok-push_name.ensures in
    let a1 : List ℕ = a0 ++ (c.args.field.now) in
    let h1 : c.extend_from_slice.new.self.items ≡ c.args.out.now.items ++ a1 = joined c.args.out.now.items a0 (c.args.field.now) h0 c.in_ok-extend_from_slice.ensures.items in
    let a2 : List ℕ = a1 ++ (hexadecimal c.args.mask) in
    let h2 : c.push_mask.new.out.items ≡ c.args.out.now.items ++ a2 = joined c.args.out.now.items a1 (hexadecimal c.args.mask) h1 c.in_ok-push_mask.ensures in
    last_joined c.extend_from_slice-2.result c.args.out.now.items a2 (c.args.lacking.now) c.push_mask.new.out.items c.extend_from_slice-2.new.self.items h2 (extended c.extend_from_slice-2.result c.extend_from_slice-2.new.self.items (c.push_mask.new.out.items ++ (c.args.lacking.now)) c.push_mask.new.out.items c.extend_from_slice-2.ensures.items)
