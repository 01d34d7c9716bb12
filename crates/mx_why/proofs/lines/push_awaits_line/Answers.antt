use Rattle.std.proofs.Common.{◌≡◌, ◌++◌, List, ℕ, codes}
use Rattle.mx_why.specs.Lines.{awaits_line_text, owned_text}
use Rattle.mx_why.proofs.Pieces.{last_joined}
use Rattle.mx_why.proofs.lines.push_awaits_line.Goals as goal

pub returns : goal.returns
unfolding awaits_line_text
returns c =
    let a0 : List ℕ = codes ": nobody raises its line" in
    let h0 : c.extend_from_slice.new.self.items ≡ c.args.out.now.items ++ a0 = c.in_ok-extend_from_slice.ensures.items in
    last_joined c.push_owned.result c.args.out.now.items a0 (owned_text c.args.end.now c.args.slot) c.extend_from_slice.new.self.items c.push_owned.new.out.items h0 c.push_owned.ensures
