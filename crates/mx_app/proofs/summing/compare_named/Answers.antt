use Rattle.std.proofs.lemmas.Result.{err_from_is_err_and}
use Rattle.mx_app.proofs.Summed.{compared_so, compared_other}
use Rattle.mx_app.proofs.summing.compare_named.Goals as goal

pub returns-in_err-sums : goal.returns-in_err-sums
returns-in_err-sums g c =
    let p = err_from_is_err_and c.from_residual.result c.from_residual.ensures.1 in
    rw (p.1, p.2) c.in_err-sums.ensures.fault

pub returns-in_err-compare_sums : goal.returns-in_err-compare_sums
returns-in_err-compare_sums g c =
    let p = err_from_is_err_and c.from_residual-in_err-compare_sums.result c.from_residual-in_err-compare_sums.ensures.1 in
    let s = c.in_ok-sums.ensures.summed in
    let h = c.in_err-compare_sums.ensures in
    rw (p.1, p.2) (compared_other (g.R.Reader.asked c.args.reader.now) (g.R.Reader.asked c.sums_named.new.reader) (g.R.Reader.asked c.compare_sums.new.reader) c.args.config.now c.args.name.now c.as_slice.result.now c.in_ok-sums.sums.items c.as_slice.ensures.value s c.in_err-compare_sums.field-0.0 h)

pub returns : goal.returns
returns g c =
    let s = c.in_ok-sums.ensures.summed in
    let h = c.in_ok-compare_sums.ensures in
    compared_so (g.R.Reader.asked c.args.reader.now) (g.R.Reader.asked c.sums_named.new.reader) (g.R.Reader.asked c.compare_sums.new.reader) c.args.config.now c.args.name.now c.as_slice.result.now c.in_ok-sums.sums.items c.as_slice.ensures.value s h
