use Rattle.std.proofs.Common.{◌∙◌, refl, sym}
use Rattle.mx_app.proofs.Summed.{with_compared, with_summed, with_taken}
use Rattle.mx_app.proofs.summing.perform_with_sums.Goals as goal

pub returns-then-names_file-clause-done : goal.returns-then-names_file-clause-done
returns-then-names_file-clause-done g c =
    with_taken (g.P.SharedProgress.was_shown c.args.io.now.progress) c.args.io.now.asks c.args.force c.args.request _ _ _ _ _ _ _ _ c.args.name.now (sym c.names_file.ensures ∙ c.if-names_file.true) refl

pub returns-then-writes_sums-clause-done : goal.returns-then-writes_sums-clause-done
returns-then-writes_sums-clause-done g c =
    with_summed (g.P.SharedProgress.was_shown c.args.io.now.progress) c.args.io.now.asks c.args.force c.args.request _ _ _ _ _ _ _ _ _ _ _ _ _ _ c.args.name.now (sym c.names_file.ensures ∙ c.if-names_file.false) (sym c.writes_sums.ensures ∙ c.if-writes_sums.true) c.perform_sparing.ensures.done

pub returns-else-writes_sums-clause-done : goal.returns-else-writes_sums-clause-done
returns-else-writes_sums-clause-done g c =
    with_compared (g.P.SharedProgress.was_shown c.args.io.now.progress) c.args.io.now.asks c.args.force c.args.request _ _ _ _ _ _ _ _ _ _ _ _ _ _ c.args.name.now (sym c.names_file.ensures ∙ c.if-names_file.false) (sym c.writes_sums.ensures ∙ c.if-writes_sums.false) c.perform_compared.ensures.done
