use Rattle.std.proofs.Common.{ap}
use Rattle.std.specs.Prelude.{option_map}
use Rattle.mx_app.proofs.Summed.{with_sums}
use Rattle.mx_app.proofs.summing.perform_line.Goals as goal

pub returns-in-Some-clause-done : goal.returns-in-Some-clause-done
returns-in-Some-clause-done g c =
    with_sums (g.P.SharedProgress.was_shown c.args.io.now.progress) c.args.io.now.asks c.args.line.force c.args.line.request _ _ _ _ _ _ _ _ _ _ _ _ _ _ c.in-Some.name.now c.perform_with_sums.ensures.done _ (ap (option_map (λ s. s.now)) c.in-Some.is)
