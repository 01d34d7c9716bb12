use Rattle.mx_app_page.proofs.ReadingLemmas.{rows_tell}
use Rattle.mx_app_page.proofs.reading.rows_tell_enough.Goals as goal

pub returns : goal.returns
returns c = rows_tell
