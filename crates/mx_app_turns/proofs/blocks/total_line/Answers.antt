use Rattle.std.proofs.Common.{◌≡◌, ◌∙◌, ◌++◌, ℕ, List, append_assoc, codes, sym}
use Rattle.std.specs.Fmt.{decimal}
use Rattle.mx_app_turns.proofs.blocks.total_line.Goals as goal

six : (a b c d e f : List ℕ) → a ++ b ++ c ++ d ++ e ++ f ≡ a ++ (b ++ (c ++ (d ++ (e ++ f))))
six a b c d e f =
    append_assoc (a ++ b ++ c ++ d) e f ∙ append_assoc (a ++ b ++ c) d (e ++ f) ∙ append_assoc (a ++ b) c (d ++ (e ++ f)) ∙ append_assoc a b (c ++ (d ++ (e ++ f)))

pub returns : goal.returns
returns c =
    let t = c.args.total in
    c.in_ok-line.ensures.ok ∙ sym (six (decimal t.positions) (codes " positions, ") (decimal t.blocks) (codes " blocks, ") (decimal t.alike) (codes " as without the fault\n"))
