use Rattle.std.proofs.Common.{◌++◌}
use Rattle.mx_boot.specs.Text.{history_text}
use Rattle.mx_boot.proofs.Fronts.{on_err, on_err_more, rules_front, records_front}
use Rattle.mx_boot.proofs.saving.save_history.Goals as goal

pub returns-in_err-put_all-clause-front : goal.returns-in_err-put_all-clause-front
returns-in_err-put_all-clause-front g c =
    let front = c.in_err-put_all.ensures.front in
    on_err c.from_residual.result _ (
      front.0 ++ history_text c.args.records.now,
      rules_front _ _ c.rules_text.result.now c.args.rules front.0 c.args.records.now c.rules_text.ensures front.1,
    )

pub returns-clause-front : goal.returns-clause-front
returns-clause-front g c = on_err_more c.save_records.result _ _ (λ front. (
  front.0,
  records_front _ _ _ c.rules_text.result.now c.args.rules front.0 c.args.records.now c.in_ok-put_all.ensures.taken c.rules_text.ensures front.1,
)) c.save_records.ensures.front
