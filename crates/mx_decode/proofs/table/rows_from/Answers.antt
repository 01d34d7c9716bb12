use Rattle.std.proofs.Common.{◌≡◌, ◌+◌, ◌-◌, ◌∙◌, ℕ, List, ap, arith, drop, take}
use Rattle.mx_insn.specs.declared.row.Row.{Row}
use Rattle.mx_decode.specs.declared.table.TheConstants.{ROWS}
use Rattle.mx_decode.proofs.Map.{all_rows}
use Rattle.mx_decode.proofs.table.rows_from.Goals as goal

pub returns : goal.returns
returns c =
    let count : c.args.first + c.args.count - c.args.first ≡ c.args.count = omega arith in
    ap (λ (n : ℕ). take n (drop c.args.first ROWS)) count
    ∙ ap (λ (z : List Row). take c.args.count (drop c.args.first z)) all_rows
