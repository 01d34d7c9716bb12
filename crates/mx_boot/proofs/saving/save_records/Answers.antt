use Rattle.std.proofs.Common.{◌∙◌, ◌+◌, ◌++◌, take, drop}
use Rattle.std.proofs.lemmas.List.{take_more}
use Rattle.mx_boot.specs.Text.{history_text}
use Rattle.mx_boot.proofs.Fronts.{lines_taken, on_err, parted_text}
use Rattle.mx_boot.proofs.saving.save_records.Goals as goal

pub returns-in_err-put_all-clause-front : goal.returns-in_err-put_all-clause-front
returns-in_err-put_all-clause-front g c =
    let xs = c.args.records.now in
    let i = c.loop-entry.entry-index in
    let below = history_text (drop (i + 1) xs) in
    let front = c.in_err-put_all.ensures.front in
    let parts = parted_text xs i _ c.as_slice.result.now (take_more xs i _ c.loop-entry-test.true) (c.as_slice.ensures.value ∙ c.push_record.ensures) in
    on_err c.from_residual.result _ (
      front.0 ++ below,
      lines_taken _ _ _ c.as_slice.result.now front.0 (history_text (take i xs)) below (history_text xs) c.loop-entry.invariant.taken parts front.1,
    )
