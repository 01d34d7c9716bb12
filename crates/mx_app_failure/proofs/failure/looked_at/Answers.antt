use Rattle.std.proofs.Common.{rules, sym, arith, length-take-le}
use Rattle.mx_app_failure.proofs.Texts.{all_taken}
use Rattle.mx_app_failure.proofs.failure.looked_at.Goals as goal

pub slice_bounds-result-end : goal.slice_bounds-result-end
slice_bounds-result-end c = sym (length-take-le 64 c.args.bytes.now (search (rules, arith)))

pub returns-else-bytes-gt-LOOKED_AT : goal.returns-else-bytes-gt-LOOKED_AT
returns-else-bytes-gt-LOOKED_AT c = all_taken 64 c.args.bytes.now (search (rules, arith))
