use Rattle.mx_laws.proofs.ByteLemmas.{copy_whole}
use Rattle.mx_laws.proofs.EventEntries.{event_entries}
use Rattle.mx_laws.proofs.diary_laws.diaries_have_entries.Goals as goal

pub returns-clause-entries : goal.returns-clause-entries
returns-clause-entries c = λ w a e s h. event_entries w a e s h.sound

pub returns-clause-copies : goal.returns-clause-copies
returns-clause-copies c = λ w a e copy g. copy_whole w a e copy g
