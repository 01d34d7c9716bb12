use Rattle.std.proofs.Common.{◌∙◌, ◌-◌, ◌+◌, ◌≤◌, ℕ, List, Option, Some, ap, drop, length, sym, take, arith}
use Rattle.std.proofs.lemmas.List.{take_all, length-drop}
use Rattle.mx_text.specs.Fields.{◌>>=◌}
use Rattle.mx_rsp.proofs.fields.cut.Goals as goal

pub returns : goal.returns
returns c =
    let text = c.args.text.now in
    let i = c.in_ok-at.at in
    let n : length (drop (i + 1) text) ≤ length text - (i + 1) = omega (arith, length-drop (i + 1) text) in
    ap (λ (o : Option ℕ). o >>= (λ (k : ℕ). Some (take k text, drop (k + 1) text))) (sym c.in_ok-at.ensures)
    ∙ ap (λ (rest : List ℕ). Some (take i text, rest)) (sym (take_all (length text - (i + 1)) (drop (i + 1) text) n))
