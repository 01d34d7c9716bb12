use Rattle.std.proofs.Common.{◌≡◌, ◌++◌, List, ℕ, codes}
use Rattle.std.specs.Fmt.{decimal}
use Rattle.mx_why.specs.Lines.{due_text}
use Rattle.mx_why.proofs.Pieces.{joined, last_joined}
use Rattle.mx_why.proofs.lines.push_due.Goals as goal

pub returns : goal.returns
unfolding due_text
returns c =
    let a0 : List ℕ = codes ": its alarm is due at uptime " in
    let h0 : c.extend_from_slice.new.self.items ≡ c.args.out.now.items ++ a0 = c.in_ok-extend_from_slice.ensures.items in
    let a1 : List ℕ = a0 ++ (decimal c.args.due) in
    let h1 : c.push_long.new.out.items ≡ c.args.out.now.items ++ a1 = joined c.args.out.now.items a0 (decimal c.args.due) h0 c.in_ok-push_long.ensures in
    let a2 : List ℕ = a1 ++ (codes ", which is ") in
    let h2 : c.extend_from_slice-2.new.self.items ≡ c.args.out.now.items ++ a2 = joined c.args.out.now.items a1 (codes ", which is ") h1 c.in_ok-extend_from_slice-2.ensures.items in
    last_joined c.push_decimal.result c.args.out.now.items a2 (decimal c.args.end.now.uptime) c.extend_from_slice-2.new.self.items c.push_decimal.new.out.items h2 c.push_decimal.ensures
